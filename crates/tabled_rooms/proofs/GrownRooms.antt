-- Sizes that grew have the room that was asked for over several of them.
use Rattle.std.proofs.Common.{◌≡◌, ℕ, zero, suc, ◌+◌, ◌-◌, ◌*◌, ◌/◌, ◌%◌, ◌<◌, ◌≤◌, ◌==◌, ◌&&◌, Bool, true, false, nat_lt, nat_le, if◌then◌else◌, List, [], ◌∷◌, ◌++◌, map, fold, filter, length, slice_index, refl, sym, ap, subst, ◌∙◌, arith, add-one}
use Rattle.std.specs.List.{sum_by, flat_map, range_with_len, All}
use Rattle.std.proofs.Math.Nat.{suc-mul, mod-add-div}
use Rattle.std.proofs.lemmas.Bool.Decides.{nat_tests}
use Rattle.std.proofs.lemmas.List.Elements.{All-nil, All-cons, All-head, All-tail}
use Rattle.std.proofs.lemmas.List.FromFn.{get_or-map-range_with_len, length-map-range_with_len}
use Rattle.tabled_rooms.specs.declared.growing.Ask.{Ask}
use Rattle.tabled_rooms.specs.Growing.{is_over, size_part, room_over, share, grown_for, grown, over_count, by_count}
use Rattle.tabled_rooms.proofs.RoomLemmas.{sum_more}
use Rattle.tabled_rooms.proofs.SizeLemmas.{flat_map_below}

-- ---- sums over numbers in a row

sum_next : (f : ℕ → ℕ) (a n : ℕ) → sum_by f (range_with_len a (suc n)) ≡ sum_by f (range_with_len a n) + f (a + n)
sum_next f a n = ap (λ m. sum_by f (range_with_len a m)) (sym (add-one n)) ∙ sum_more f a n

pub sum_less : (f g : ℕ → ℕ) (a n : ℕ) → ((k : ℕ) → a ≤ k → k < a + n → f k ≤ g k) → sum_by f (range_with_len a n) ≤ sum_by g (range_with_len a n)
sum_less f g a zero less = omega arith
sum_less f g a (suc n) less =
    let first = sum_next f a n in
    let second = sum_next g a n in
    let before = sum_less f g a n (λ k least most. less k least (omega (arith, most))) in
    let last = less (a + n) (omega arith) (omega arith) in
    omega (arith, first, second, before, last)

sum_of_both : (f g h : ℕ → ℕ) (a n : ℕ) → ((k : ℕ) → a ≤ k → k < a + n → h k ≡ f k + g k) → sum_by h (range_with_len a n) ≡ sum_by f (range_with_len a n) + sum_by g (range_with_len a n)
sum_of_both f g h a zero both = refl
sum_of_both f g h a (suc n) both =
    let all = sum_next h a n in
    let first = sum_next f a n in
    let second = sum_next g a n in
    let before = sum_of_both f g h a n (λ k least most. both k least (omega (arith, most))) in
    let last = both (a + n) (omega arith) (omega arith) in
    omega (arith, all, first, second, before, last)

-- ---- what each size gets of what is missing is all of it

share_first : (q rest a : ℕ) → q + (if a == a then rest else 0) ≡ q + rest
share_first q rest a = grind (arith, nat_tests)

share_other : (q rest a n : ℕ) → q + (if a + suc n == a then rest else 0) ≡ q
share_other q rest a n = grind (arith, nat_tests)

equal_shares : (q rest a n : ℕ) → sum_by (λ k. q + (if k == a then rest else 0)) (range_with_len a (suc n)) ≡ suc n * q + rest
equal_shares q rest a zero =
    let all = sum_next (λ k. q + (if k == a then rest else 0)) a zero in
    let first : q + (if a + zero == a then rest else 0) ≡ q + rest = grind (arith, nat_tests) in
    let times = suc-mul zero q in
    omega (arith, all, first, times)
equal_shares q rest a (suc n) =
    let all = sum_next (λ k. q + (if k == a then rest else 0)) a (suc n) in
    let before = equal_shares q rest a n in
    let last = share_other q rest a n in
    let times = suc-mul (suc n) q in
    omega (arith, all, before, last, times)

shares_sum : (ask : Ask) (missing : ℕ) → 0 < ask.count → sum_by (share ask missing) (range_with_len ask.first ask.count) ≡ missing
shares_sum ask missing some = by ask.count refl
  where
    within : (k : ℕ) → ask.first ≤ k → k < ask.first + ask.count → share ask missing k ≡ missing / ask.count + (if k == ask.first then missing % ask.count else 0) + 0
    within k least most =
        let there : (nat_le ask.first k && nat_lt k (ask.first + ask.count)) ≡ true = grind (arith, nat_tests) in
        ap (λ b. if b then missing / ask.count + (if k == ask.first then missing % ask.count else 0) else 0) there ∙ (let e : missing / ask.count + (if k == ask.first then missing % ask.count else 0) ≡ missing / ask.count + (if k == ask.first then missing % ask.count else 0) + 0 = omega arith in e)

    nothing : (a n : ℕ) → sum_by (λ k. 0) (range_with_len a n) ≡ 0
    nothing a zero = refl
    nothing a (suc n) = let all = sum_next (λ k. 0) a n in let before = nothing a n in omega (arith, all, before)

    by : (count : ℕ) → ask.count ≡ count → sum_by (share ask missing) (range_with_len ask.first ask.count) ≡ missing
    by zero is = absurd (omega (arith, some, is))
    by (suc n) is =
        let parts = sum_of_both (λ k. missing / ask.count + (if k == ask.first then missing % ask.count else 0)) (λ k. 0) (share ask missing) ask.first ask.count within in
        let none = nothing ask.first ask.count in
        let equal = ap (λ m. sum_by (λ k. missing / ask.count + (if k == ask.first then missing % ask.count else 0)) (range_with_len ask.first m)) is ∙ equal_shares (missing / ask.count) (missing % ask.count) ask.first n in
        let times = ap (λ m. m * (missing / ask.count)) is in
        let whole = mod-add-div missing ask.count in
        omega (arith, parts, none, equal, times, whole)

-- ---- parts of lists

all_first : {A : Type 0} (P : A → Type 0) (xs ys : List A) → All P (xs ++ ys) → All P xs
all_first P [] ys all = All-nil P
all_first P (x ∷ xs) ys all = All-cons P x xs (All-head P x (xs ++ ys) all) (all_first P xs ys (All-tail P x (xs ++ ys) all))

all_second : {A : Type 0} (P : A → Type 0) (xs ys : List A) → All P (xs ++ ys) → All P ys
all_second P [] ys all = all
all_second P (x ∷ xs) ys all = all_second P xs ys (All-tail P x (xs ++ ys) all)

pub all_of_one : {A : Type 0} (P : A → Type 0) (f : ℕ → List A) (n k : ℕ) → k < n → All P (flat_map f (range_with_len 0 n)) → All P (f k)
all_of_one P f zero k within all = absurd (omega (arith, within))
all_of_one P f (suc n) k within all =
    let parts : All P (flat_map f (range_with_len 0 n) ++ f n) = subst (All P) (ap (λ m. flat_map f (range_with_len 0 m)) (sym (add-one n)) ∙ flat_map_below f n) all in
    by (k == n) refl parts (λ less. all_of_one P f n k less (all_first P (flat_map f (range_with_len 0 n)) (f n) parts))
  where
    by : (last : Bool) → (k == n) ≡ last → All P (flat_map f (range_with_len 0 n) ++ f n) → (k < n → All P (f k)) → All P (f k)
    by true e parts before =
        let same : n ≡ k = grind (arith, nat_tests) in
        subst (λ m. All P (f m)) same (all_second P (flat_map f (range_with_len 0 n)) (f n) parts)
    by false e parts before = before (grind (arith, nat_tests))

kept_or_not : {A : Type 0} (P : A → Type 0) (test : A → Bool) (xs : List A) → All P (filter test xs) → All (λ x. test x ≡ true → P x) xs
kept_or_not P test [] all = All-nil (λ x. test x ≡ true → P x)
kept_or_not P test (x ∷ xs) all = by (test x) refl all (kept_or_not P test xs)
  where
    by : (kept : Bool) → test x ≡ kept → All P (if kept then x ∷ filter test xs else filter test xs) → (All P (filter test xs) → All (λ x. test x ≡ true → P x) xs) → All (λ x. test x ≡ true → P x) (x ∷ xs)
    by true e here rest =
        All-cons (λ x. test x ≡ true → P x) x xs (λ is. All-head P x (filter test xs) here) (rest (All-tail P x (filter test xs) here))
    by false e here rest =
        All-cons (λ x. test x ≡ true → P x) x xs (λ is. absurd (let no : true ≡ false = sym is ∙ e in cc)) (rest here)

-- ---- sizes at least as large

pub record Larger (sizes larger : List ℕ) : Type 0 where
  pub long : length larger ≡ length sizes
  pub more : (n : ℕ) → n < length sizes → slice_index sizes n ≤ slice_index larger n

pub larger_same : (sizes : List ℕ) → Larger sizes sizes
larger_same sizes = record { long = refl; more = λ n within. omega arith }

pub larger_still : (a b c : List ℕ) → Larger a b → Larger b c → Larger a c
larger_still a b c first second = record {
  long = second.long ∙ first.long;
  more = λ n within. let one = first.more n within in let two = second.more n (let long = first.long in omega (arith, within, long)) in omega (arith, one, two);
}

module _ (drawn : ℕ → Bool) where
  abbrev stretched : List ℕ → Ask → List ℕ
  stretched sizes ask = map (λ n. slice_index sizes n + share ask (ask.size - room_over sizes drawn ask) n) (range_with_len 0 (length sizes))

  stretched_at : (sizes : List ℕ) (ask : Ask) (n : ℕ) → n < length sizes → slice_index (stretched sizes ask) n ≡ slice_index sizes n + share ask (ask.size - room_over sizes drawn ask) n
  stretched_at sizes ask n within = get_or-map-range_with_len (λ n. slice_index sizes n + share ask (ask.size - room_over sizes drawn ask) n) 0 (length sizes) n n 0 within (omega arith)

  stretched_larger : (sizes : List ℕ) (ask : Ask) → Larger sizes (stretched sizes ask)
  stretched_larger sizes ask = record {
    long = length-map-range_with_len (λ n. slice_index sizes n + share ask (ask.size - room_over sizes drawn ask) n) 0 (length sizes);
    more = λ n within. let is = stretched_at sizes ask n within in omega (arith, is);
  }

  grown_is : (sizes : List ℕ) (ask : Ask) (over : Bool) → is_over (length sizes) ask ≡ over → grown_for drawn sizes ask ≡ (if over then stretched sizes ask else sizes)
  unfolding grown_for
  grown_is sizes ask over is = ap (λ b. if b then stretched sizes ask else sizes) is

  -- sizes only grow
  pub grew : (sizes : List ℕ) (ask : Ask) → Larger sizes (grown_for drawn sizes ask)
  grew sizes ask = by (is_over (length sizes) ask) refl
    where
      by : (over : Bool) → is_over (length sizes) ask ≡ over → Larger sizes (grown_for drawn sizes ask)
      by true is = subst (Larger sizes) (sym (grown_is sizes ask true is)) (stretched_larger sizes ask)
      by false is = subst (Larger sizes) (sym (grown_is sizes ask false is)) (larger_same sizes)

  pub all_grew : (asks : List Ask) (sizes : List ℕ) → Larger sizes (fold (grown_for drawn) sizes asks)
  all_grew [] sizes = larger_same sizes
  all_grew (ask ∷ asks) sizes =
      larger_still sizes (grown_for drawn sizes ask) (fold (grown_for drawn) (grown_for drawn sizes ask) asks) (grew sizes ask) (all_grew asks (grown_for drawn sizes ask))

  -- ---- room for what asks

  abbrev pub HasRoom : List ℕ → Ask → Type 0
  HasRoom sizes ask = is_over (length sizes) ask ≡ true → ask.size ≤ room_over sizes drawn ask

  over_inside : (count : ℕ) (ask : Ask) → is_over count ask ≡ true → ask.first + ask.count ≤ count
  over_inside count ask over = grind (arith, nat_tests)

  over_some : (count : ℕ) (ask : Ask) → is_over count ask ≡ true → 0 < ask.count
  over_some count ask over = grind (arith, nat_tests)

  room_larger : (sizes larger : List ℕ) (ask : Ask) → Larger sizes larger → is_over (length sizes) ask ≡ true → room_over sizes drawn ask ≤ room_over larger drawn ask
  unfolding room_over
  room_larger sizes larger ask are over =
      let inside = over_inside (length sizes) ask over in
      sum_less (size_part sizes drawn ask.first) (size_part larger drawn ask.first) ask.first ask.count
      (λ k least most. let more = are.more k (omega (arith, most, inside)) in omega (arith, more))

  room_stretched : (sizes : List ℕ) (ask : Ask) → is_over (length sizes) ask ≡ true
      → room_over (stretched sizes ask) drawn ask ≡ room_over sizes drawn ask + (ask.size - room_over sizes drawn ask)
  unfolding room_over
  room_stretched sizes ask over =
      let inside = over_inside (length sizes) ask over in
      sum_of_both (size_part sizes drawn ask.first) (share ask (ask.size - room_over sizes drawn ask)) (size_part (stretched sizes ask) drawn ask.first) ask.first ask.count
      (λ k least most. let is = stretched_at sizes ask k (omega (arith, most, inside)) in omega (arith, is))
      ∙ ap (λ m. room_over sizes drawn ask + m) (shares_sum ask (ask.size - room_over sizes drawn ask) (over_some (length sizes) ask over))

  made_room : (sizes : List ℕ) (ask : Ask) → HasRoom (grown_for drawn sizes ask) ask
  made_room sizes ask over =
      let was : is_over (length sizes) ask ≡ true = ap (λ n. is_over n ask) (sym (grew sizes ask).long) ∙ over in
      let is = room_stretched sizes ask was in
      subst (λ grown. ask.size ≤ room_over grown drawn ask) (sym (grown_is sizes ask true was)) (omega (arith, is))

  keeps_room : (sizes larger : List ℕ) (ask : Ask) → Larger sizes larger → HasRoom sizes ask → HasRoom larger ask
  keeps_room sizes larger ask are has over =
      let was : is_over (length sizes) ask ≡ true = ap (λ n. is_over n ask) (sym are.long) ∙ over in
      let before = has was in
      let now = room_larger sizes larger ask are was in
      omega (arith, before, now)

  -- each of a list has room in the end
  all_room : (asks : List Ask) (sizes : List ℕ) → All (HasRoom (fold (grown_for drawn) sizes asks)) asks
  all_room [] sizes = All-nil (HasRoom sizes)
  all_room (ask ∷ asks) sizes =
      let next : List ℕ = grown_for drawn sizes ask in
      All-cons (HasRoom (fold (grown_for drawn) next asks)) ask asks
      (keeps_room next (fold (grown_for drawn) next asks) ask (all_grew asks next) (made_room sizes ask)) (all_room asks next)

  pub grown_larger : (sizes : List ℕ) (asks : List Ask) → Larger sizes (grown drawn sizes asks)
  unfolding grown
  grown_larger sizes asks = all_grew (by_count (length sizes + 1) asks) sizes

  -- whatever asks over some of the sizes has that room once all of them grew
  pub grown_room : (sizes : List ℕ) (asks : List Ask) (count : ℕ) → count ≤ length sizes → All (λ ask. (ask.count == count) ≡ true → HasRoom (grown drawn sizes asks) ask) asks
  unfolding grown
  grown_room sizes asks count within =
      let all = all_room (by_count (length sizes + 1) asks) sizes in
      let limit = length sizes + 1 in
      kept_or_not (HasRoom (fold (grown_for drawn) sizes (by_count limit asks))) (λ ask. ask.count == count) asks
      (all_of_one (HasRoom (fold (grown_for drawn) sizes (by_count limit asks))) (over_count asks) limit count (omega (arith, within)) all)
