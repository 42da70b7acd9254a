-- Texts of which something is known, with one more at their end.
use Rattle.std.proofs.Common.{ap, map, ℕ, ◌+◌, Option, Some, List, [], ◌∷◌, ◌++◌, sym, subst, arith, ◌<◌, length, take, get_or, ◌∙◌}
use Rattle.std.specs.List.{AllZip}
use Rattle.std.specs.Fmt.{decimal}
use Rattle.std.proofs.lemmas.List.{take_more, map-append}
use Rattle.std.proofs.lemmas.List.FromFn.{map-range_with_len_more}
use Rattle.tabled_rows.specs.Spelled.{IsRow, IsSpelled, AreSpelled, numbers}

-- one more at the end of both
pub push-zip : {A B : Type 0} (R : A → B → Type 0) (xs : List A) (ys : List B) (x : A) (y : B) → AllZip R xs ys → R x y → AllZip R (xs ++ x ∷ []) (ys ++ y ∷ [])
push-zip R [] [] x y all holds = (holds, tt)
push-zip R [] (z ∷ ys) x y all holds = absurd all
push-zip R (z ∷ xs) [] x y all holds = absurd all
push-zip R (z ∷ xs) (w ∷ ys) x y all holds = (all.0, push-zip R xs ys x y all.1 holds)

pub spelled-push : (known : List (Option (List ℕ))) (one : Option (List ℕ)) (texts : List (List ℕ)) (text : List ℕ) → AreSpelled known texts → IsSpelled one text → AreSpelled (known ++ one ∷ []) (texts ++ text ∷ [])
unfolding AreSpelled
spelled-push known one texts text all holds = push-zip IsSpelled known texts one text all holds

pub spelled-nothing : AreSpelled [] []
unfolding AreSpelled
spelled-nothing = tt

-- one number more
pub spelled-number : (count : ℕ) (texts : List (List ℕ)) → AreSpelled (numbers count ++ Some (decimal count) ∷ []) texts → AreSpelled (numbers (count + 1)) texts
spelled-number count texts all =
    let P : List (Option (List ℕ)) → Type 0 = λ known. AreSpelled known texts in
    subst P (sym (map-range_with_len_more (λ number. Some (decimal number)) 0 count count (omega arith))) all

-- the rows of one value more
pub one-row-more : {T : Type 0} (header : Option (List (Option (List ℕ)))) (known : T → Option (List (Option (List ℕ)))) (values : List T) (i : ℕ) (none : T) (rows : List (List (List ℕ))) (row : List (List ℕ)) → i < length values
    → AllZip IsRow (header ∷ map known (take i values)) rows → IsRow (known (get_or values i none)) row → AllZip IsRow (header ∷ map known (take (i + 1) values)) (rows ++ row ∷ [])
one-row-more header known values i none rows row inside all holds =
    subst (λ (knowns : List (Option (List (Option (List ℕ))))). AllZip IsRow (header ∷ knowns) (rows ++ row ∷ []))
    (sym (ap (map known) (take_more values i none inside) ∙ map-append known (take i values) (get_or values i none ∷ [])))
    (push-zip IsRow (header ∷ map known (take i values)) rows (known (get_or values i none)) row all holds)
