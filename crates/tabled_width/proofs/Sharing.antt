-- How much capped columns take.
use Rattle.std.proofs.Common.{◌≡◌, ◌⊎◌, inr, ⊎_elim, ℕ, ◌+◌, ◌-◌, ◌<◌, ◌≤◌, min, nat_le, sum, true, if◌then◌else◌, Option, Some, None, is_some, List, [], ◌∷◌, ◌++◌, length, take, get_or, zero, suc, refl, sym, ap, ◌∙◌, arith}
use Rattle.std.proofs.lemmas.List.{take_more}
use Rattle.std.proofs.lemmas.Bool.{cases_lt, le-leb, lt-leb}
use Rattle.std.proofs.lemmas.List.Sums.{sum_by-cons}
use Rattle.tabled_width.specs.Shares.{used, IsCap, shared}

pub used-append : (cap : ℕ) (xs ys : List ℕ) → used cap (xs ++ ys) ≡ used cap xs + used cap ys
used-append cap [] ys = omega arith
used-append cap (x ∷ xs) ys = let rest = used-append cap xs ys in omega arith

pub used-more : (cap : ℕ) (xs : List ℕ) (i : ℕ) (d : ℕ) → i < length xs → used cap (take (i + 1) xs) ≡ used cap (take i xs) + min cap (get_or xs i d)
used-more cap xs i d within = ap (used cap) (take_more xs i d within) ∙ used-append cap (take i xs) (get_or xs i d ∷ []) ∙ omega arith

pub used-take : (cap : ℕ) (xs : List ℕ) (i : ℕ) → used cap (take i xs) ≤ used cap xs
used-take cap [] zero = omega arith
used-take cap [] (suc i) = omega arith
used-take cap (x ∷ xs) zero = omega arith
used-take cap (x ∷ xs) (suc i) = let rest = used-take cap xs i in omega arith

-- a greater cap takes no less
pub used-grows : (low high : ℕ) (xs : List ℕ) → low ≤ high → used low xs ≤ used high xs
used-grows low high [] le = omega arith
used-grows low high (x ∷ xs) le = let rest = used-grows low high xs le in omega arith

-- a cap above all that is asked for takes what is asked for
pub used-all : (low high : ℕ) (xs : List ℕ) → ((i : ℕ) → i < length xs → get_or xs i 0 ≤ low) → low ≤ high → used high xs ≡ used low xs
used-all low high [] each le = refl
used-all low high (x ∷ xs) each le =
    let rest : used high xs ≡ used low xs = used-all low high xs (λ i within. each (suc i) (omega (arith, within))) le in
    let here : x ≤ low = each 0 (omega arith) in
    omega arith

-- ---- the sum of shares

pub step_small : (cap left n : ℕ) (ns : List ℕ) → n ≤ cap → shared cap left (n ∷ ns) ≡ n ∷ shared cap left ns
step_small cap left n ns le = ap (λ b. if b then n ∷ shared cap left ns else (cap + min left 1) ∷ shared cap (left - 1) ns) (le-leb n cap le)

pub step_great : (cap left n : ℕ) (ns : List ℕ) → cap < n → shared cap left (n ∷ ns) ≡ (cap + min left 1) ∷ shared cap (left - 1) ns
step_great cap left n ns lt = ap (λ b. if b then n ∷ shared cap left ns else (cap + min left 1) ∷ shared cap (left - 1) ns) (lt-leb n cap lt)

pub sum_shared : (cap left : ℕ) (ns : List ℕ) → sum (shared cap left ns) ≤ used cap ns + left
sum_shared cap left [] = omega arith
sum_shared cap left (n ∷ ns) =
    let few = sum_shared cap left ns in
    let one = sum_shared cap (left - 1) ns in
    ⊎_elim
    (λ (lt : cap < n). let e = ap sum (step_great cap left n ns lt) ∙ sum_by-cons (λ x. x) (cap + min left 1) (shared cap (left - 1) ns) in omega (arith, e, one))
    (λ (le : n ≤ cap). let e = ap sum (step_small cap left n ns le) ∙ sum_by-cons (λ x. x) n (shared cap left ns) in omega (arith, e, few))
    (cases_lt cap n)

-- where there is room for the least share of each, the shares fit
pub shares_fit : (least room cap : ℕ) (ns : List ℕ) → IsCap least room ns cap → used least ns ≤ room → sum (shared cap (room - used cap ns) ns) ≤ room
shares_fit least room cap ns is few =
    let most = sum_shared cap (room - used cap ns) ns in
    let fit : used cap ns ≤ room = ⊎_elim (λ (one : cap ≡ least). omega (arith, ap (λ c. used c ns) one, few)) (λ (le : used cap ns ≤ room). le) is.fits in
    omega (arith, most, fit)

-- ---- what is left

pub room_over : (cap room left taken i : ℕ) (xs : List ℕ) → left + used cap (take i xs) ≡ room → i < length xs → taken ≡ min cap (get_or xs i 0) → left < taken
    → None ≡ (if nat_le (used cap xs) room then Some (room - used cap xs) else None)
room_over cap room left taken i xs so_far within is over =
    let most : used cap (take (i + 1) xs) ≤ used cap xs = used-take cap xs (i + 1) in
    let here : used cap (take (i + 1) xs) ≡ used cap (take i xs) + min cap (get_or xs i 0) = used-more cap xs i 0 within in
    sym (ap (λ b. if b then Some (room - used cap xs) else None) (lt-leb (used cap xs) room (omega (arith, most, here))))

pub room_more : (cap room left taken i : ℕ) (xs : List ℕ) → left + used cap (take i xs) ≡ room → i < length xs → taken ≡ min cap (get_or xs i 0) → taken ≤ left
    → (left - taken) + used cap (take (i + 1) xs) ≡ room
room_more cap room left taken i xs so_far within is fit =
    let here : used cap (take (i + 1) xs) ≡ used cap (take i xs) + min cap (get_or xs i 0) = used-more cap xs i 0 within in
    omega (arith, here)

pub some_fits : (n room : ℕ) (r : Option ℕ) → r ≡ (if nat_le n room then Some (room - n) else None) → is_some r ≡ true → n ≤ room
some_fits n room r is some =
    ⊎_elim (λ (lt : room < n). absurd (let no = sym some ∙ ap is_some (is ∙ ap (λ b. if b then Some (room - n) else None) (lt-leb n room lt)) in cc)) (λ (le : n ≤ room). le) (cases_lt room n)

-- a cap at which the next does not fit
pub cap_below : (least room cap next : ℕ) (xs : List ℕ) → least ≤ cap → (cap ≡ least) ⊎ (used cap xs ≤ room) → next ≤ cap + 1 → room < used next xs → IsCap least room xs cap
cap_below least room cap next xs some fit close over = record {
  some = some;
  fits = fit;
  most = λ more lt le. absurd (let grows = used-grows next more xs (omega (arith, lt, close)) in omega (arith, grows, le, over));
}

-- a cap above all that is asked for
pub cap_above : (least room cap : ℕ) (xs : List ℕ) → least ≤ cap → used cap xs ≤ room → ((i : ℕ) → i < length xs → get_or xs i 0 ≤ cap) → IsCap least room xs cap
cap_above least room cap xs some fit each = record {
  some = some;
  fits = inr fit;
  most = λ more lt le. used-all cap more xs each (omega (arith, lt));
}

-- ---- a share for each, and none greater than what is asked for

pub length_shared : (cap left : ℕ) (ns : List ℕ) → length (shared cap left ns) ≡ length ns
length_shared cap left [] = refl
length_shared cap left (n ∷ ns) =
    ⊎_elim
    (λ (lt : cap < n). ap length (step_great cap left n ns lt) ∙ ap suc (length_shared cap (left - 1) ns))
    (λ (le : n ≤ cap). ap length (step_small cap left n ns le) ∙ ap suc (length_shared cap left ns))
    (cases_lt cap n)

pub shared_asked : (cap left : ℕ) (ns : List ℕ) → sum (shared cap left ns) ≤ sum ns
shared_asked cap left [] = omega arith
shared_asked cap left (n ∷ ns) =
    let few = shared_asked cap left ns in
    let one = shared_asked cap (left - 1) ns in
    let all = sum_by-cons (λ x. x) n ns in
    ⊎_elim
    (λ (lt : cap < n). let e = ap sum (step_great cap left n ns lt) ∙ sum_by-cons (λ x. x) (cap + min left 1) (shared cap (left - 1) ns) in omega (arith, e, one, all))
    (λ (le : n ≤ cap). let e = ap sum (step_small cap left n ns le) ∙ sum_by-cons (λ x. x) n (shared cap left ns) in omega (arith, e, few, all))
    (cases_lt cap n)

-- and none less than the least, where it asks for that
pub least_shared : (least cap left : ℕ) (ns : List ℕ) (i : ℕ) → least ≤ cap → min least (get_or ns i 0) ≤ get_or (shared cap left ns) i 0
least_shared least cap left [] zero some = omega arith
least_shared least cap left [] (suc i) some = omega arith
least_shared least cap left (n ∷ ns) zero some =
    ⊎_elim
    (λ (lt : cap < n). let e = ap (λ xs. get_or xs 0 0) (step_great cap left n ns lt) in omega (arith, e, some))
    (λ (le : n ≤ cap). let e = ap (λ xs. get_or xs 0 0) (step_small cap left n ns le) in omega (arith, e))
    (cases_lt cap n)
least_shared least cap left (n ∷ ns) (suc i) some =
    let great = least_shared least cap (left - 1) ns i some in
    let small = least_shared least cap left ns i some in
    ⊎_elim
    (λ (lt : cap < n). let e = ap (λ xs. get_or xs (suc i) 0) (step_great cap left n ns lt) in omega (arith, e, great))
    (λ (le : n ≤ cap). let e = ap (λ xs. get_or xs (suc i) 0) (step_small cap left n ns le) in omega (arith, e, small))
    (cases_lt cap n)
