-- Lists of what asks, and sizes that grow, one step more.
use Rattle.std.proofs.Common.{◌≡◌, ℕ, ◌+◌, ◌-◌, ◌<◌, ◌==◌, Bool, true, false, Result, Ok, Err, OnOk, nat_lt, if◌then◌else◌, List, [], ◌∷◌, ◌++◌, map, fold, take, length, get_or, set, slice_index, inl, inr, refl, sym, ap, subst, ◌∙◌, arith, add-one}
use Rattle.std.specs.List.{flat_map, range_with_len, sum_by}
use Rattle.std.proofs.lemmas.Bool.{cases_eq}
use Rattle.std.proofs.lemmas.Bool.Decides.{nat_tests}
use Rattle.std.proofs.lemmas.List.{get_or-set_same, get_or-set_other, length-set, length-map, get_or-map, append-nil, take_more}
use Rattle.std.proofs.lemmas.List.Concat.{flat_map-append}
use Rattle.std.proofs.lemmas.List.Elements.{filter-append}
use Rattle.std.proofs.lemmas.List.FromFn.{length-map-range_with_len, get_or-map-range_with_len, fill_by_all}
use Rattle.std.proofs.lemmas.List.Sums.{fold-append}
use Rattle.tabled_rooms.specs.declared.growing.Ask.{Ask}
use Rattle.tabled_rooms.specs.Growing.{is_over, size_part, room_over, share, grown_for, grown, over_count, by_count}
use Rattle.tabled_rooms.proofs.RoomLemmas.{sum_more, range_more}

-- something is put behind the others that ask over as many sizes
pub put_there : {V : Type 0} (items : V → List Ask) (lists : List V) (at : ℕ) (old new : V) (ask : Ask) → at < length lists → items new ≡ items (get_or lists at old) ++ ask ∷ []
    → (n : ℕ) → n < length lists → get_or (map items (set lists at new)) n [] ≡ get_or (map items lists) n [] ++ (if at == n then ask ∷ [] else [])
put_there items lists at old new ask there pushed n within =
    let in_new : n < length (set lists at new) = omega (arith, length-set lists at new) in
    get_or-map items (set lists at new) n old [] in_new
    ∙ elim (cases_eq n at) [
      | inl same ↦
          let test : (at == n) ≡ true = grind (arith, nat_tests) in
          ap (λ k. items (get_or (set lists at new) k old)) same ∙ ap items (get_or-set_same lists at new old there) ∙ pushed
          ∙ (λ i. items (get_or lists (sym same i) old) ++ (if sym test i then ask ∷ [] else []))
          ∙ ap (λ xs. xs ++ (if at == n then ask ∷ [] else [])) (sym (get_or-map items lists n old [] within))
      | inr other ↦
          let test : (at == n) ≡ false = grind (arith, nat_tests) in
          ap items (get_or-set_other lists at n new old other) ∙ sym (get_or-map items lists n old [] within)
          ∙ sym (append-nil (get_or (map items lists) n []))
          ∙ ap (λ b. get_or (map items lists) n [] ++ (if b then ask ∷ [] else [])) (sym test)
    ]

-- those that ask over so many sizes, of one more
pub one_more : (asks : List Ask) (i : ℕ) (ask : Ask) (n : ℕ) → i < length asks → ask ≡ get_or asks i ask → over_count (take i asks) n ++ (if ask.count == n then ask ∷ [] else []) ≡ over_count (take (i + 1) asks) n
one_more asks i ask n within read =
    ap (λ xs. over_count (take i asks) n ++ xs) (alone (ask.count == n) refl)
    ∙ sym (filter-append (λ a. a.count == n) (take i asks) (ask ∷ []))
    ∙ ap (λ a. over_count (take i asks ++ a ∷ []) n) read
    ∙ ap (λ xs. over_count xs n) (sym (take_more asks i ask within))
  where
    alone : (b : Bool) → (ask.count == n) ≡ b → (if ask.count == n then ask ∷ [] else []) ≡ over_count (ask ∷ []) n
    alone b is = refl

-- the room so far, with one size more
pub room_more : (sizes : List ℕ) (drawn : ℕ → Bool) (first k room part : ℕ) → room ≡ sum_by (size_part sizes drawn first) (range_with_len first k) → part ≡ size_part sizes drawn first (first + k)
    → room + part ≡ sum_by (size_part sizes drawn first) (range_with_len first (k + 1))
room_more sizes drawn first k room part so_far is = (λ i. so_far i + is i) ∙ sym (sum_more (size_part sizes drawn first) first k)

pub whole_room : (sizes : List ℕ) (drawn : ℕ → Bool) (ask : Ask) (k room : ℕ) → k ≡ ask.count → room ≡ sum_by (size_part sizes drawn ask.first) (range_with_len ask.first k) → room ≡ room_over sizes drawn ask
unfolding room_over
whole_room sizes drawn ask k room all is = is ∙ ap (λ n. sum_by (size_part sizes drawn ask.first) (range_with_len ask.first n)) all

-- what a size gets where only the first k of those that get something got it
abbrev pub share_so_far : Ask → ℕ → ℕ → ℕ → ℕ
share_so_far ask missing k n = if nat_lt n (ask.first + k) then share ask missing n else 0

pub all_shares : (sizes old : List ℕ) (ask : Ask) (missing k : ℕ) → length sizes ≡ length old → k ≡ ask.count
    → ((n : ℕ) → n < length old → get_or sizes n 0 ≡ get_or old n 0 + share_so_far ask missing k n)
    → sizes ≡ map (λ n. slice_index old n + share ask missing n) (range_with_len 0 (length old))
all_shares sizes old ask missing k same all so_far =
    fill_by_all (λ n. slice_index old n + share ask missing n) sizes (length old) 0 same
    (λ n before. so_far n before ∙ ap (λ s. get_or old n 0 + s) (ap (λ m. share_so_far ask missing m n) all ∙ whole n))
  where
    whole : (n : ℕ) → share_so_far ask missing ask.count n ≡ share ask missing n
    whole n = grind (arith, nat_tests)

-- sizes that grew, and those that did not
pub did_grow : (drawn : ℕ → Bool) (sizes new : List ℕ) (ask : Ask) (room missing : ℕ) → is_over (length sizes) ask ≡ true → room ≡ room_over sizes drawn ask → missing ≡ ask.size - room
    → new ≡ map (λ n. slice_index sizes n + share ask missing n) (range_with_len 0 (length sizes)) → new ≡ grown_for drawn sizes ask
unfolding grown_for
did_grow drawn sizes new ask room missing over found rest made =
    made ∙ (λ i. map (λ n. slice_index sizes n + share ask ((rest ∙ ap (λ k. ask.size - k) found) i) n) (range_with_len 0 (length sizes)))
    ∙ ap (λ b. if b then map (λ n. slice_index sizes n + share ask (ask.size - room_over sizes drawn ask) n) (range_with_len 0 (length sizes)) else sizes) (sym over)

pub not_grown : (drawn : ℕ → Bool) (sizes : List ℕ) (ask : Ask) → is_over (length sizes) ask ≡ false → sizes ≡ grown_for drawn sizes ask
unfolding grown_for
not_grown drawn sizes ask over = ap (λ b. if b then map (λ n. slice_index sizes n + share ask (ask.size - room_over sizes drawn ask) n) (range_with_len 0 (length sizes)) else sizes) (sym over)

-- something is over some sizes
pub over_several : (count : ℕ) (ask : Ask) → is_over count ask ≡ true → 0 < ask.count
over_several count ask over = grind (arith, nat_tests)

-- the sizes after the asks over one count more
pub grown_more : (drawn : ℕ → Bool) (sizes now new : List ℕ) (asks list : List Ask) (n : ℕ) → now ≡ fold (grown_for drawn) sizes (by_count n asks) → list ≡ over_count asks n
    → new ≡ fold (grown_for drawn) now list → new ≡ fold (grown_for drawn) sizes (by_count (n + 1) asks)
grown_more drawn sizes now new asks list n so_far is made =
    made ∙ (λ i. fold (grown_for drawn) (so_far i) (is i)) ∙ sym (fold-append (grown_for drawn) sizes (by_count n asks) (over_count asks n))
    ∙ ap (fold (grown_for drawn) sizes) (sym (ap (λ xs. flat_map (over_count asks) xs) (ap (range_with_len 0) (add-one n) ∙ range_more 0 n)
    ∙ flat_map-append (over_count asks) (range_with_len 0 n) ((0 + n) ∷ [])
    ∙ (let same : 0 + n ≡ n = omega arith in ap (λ m. by_count n asks ++ (over_count asks m ++ [])) same) ∙ ap (λ xs. by_count n asks ++ xs) (append-nil (over_count asks n))))

pub all_grown : (drawn : ℕ → Bool) (sizes new : List ℕ) (asks : List Ask) (n : ℕ) → n ≡ length sizes + 1 → new ≡ fold (grown_for drawn) sizes (by_count n asks) → new ≡ grown drawn sizes asks
unfolding grown
all_grown drawn sizes new asks n all is = is ∙ ap (λ m. fold (grown_for drawn) sizes (by_count m asks)) all

-- what follows where a call succeeded
pub on_ok : {T E : Type 0} (r : Result T E) (P Q : Type 0) → (P → Q) → OnOk r P → OnOk r Q
on_ok (Ok x) P Q f p = f p
on_ok (Err e) P Q f p = tt

-- the list of a number among all of them
pub list_at : {V : Type 0} (items : V → List Ask) (lists found : List V) (asks list : List Ask) (n limit : ℕ) (v : V) → map items lists ≡ map (over_count asks) (range_with_len 0 limit) → found ≡ lists → n < length found
    → v ≡ get_or found n v → list ≡ items v → list ≡ over_count asks n
list_at items lists found asks list n limit v are same within read is =
    let inside : n < length lists = subst (λ xs. n < length xs) same within in
    let below_limit : n < limit = omega (arith, sym (length-map lists items) ∙ ap length are ∙ length-map-range_with_len (over_count asks) 0 limit) in
    is ∙ ap items (read ∙ ap (λ xs. get_or xs n v) same) ∙ sym (get_or-map items lists n v [] inside) ∙ ap (λ xs. get_or xs n []) are
    ∙ get_or-map-range_with_len (over_count asks) 0 limit n n [] below_limit (omega arith)
