-- The rows are gone through, each by its texts.
use Rattle.std.proofs.Common.{rules, tests, ◌≡◌, ◌||◌, [], ◌∷◌, Bool, List, ℕ, map, ap, refl, sym, ◌∙◌}
use Rattle.std.specs.List.{list_any}
use Rattle.std.proofs.lemmas.Iterator.{YieldsList-from_slice}
use Rattle.std.proofs.lemmas.Iterator.Search.{any_from_yields_List}
use Rattle.tabled_numbers.specs.Numbers.{is_number}
use Rattle.tabled_numbers.specs.Columns.{cell}
use Rattle.tabled_numbers.proofs.columns.has_number.Goals as goal

any_map : {A B : Type 0} (p : B → Bool) (f : A → B) (xs : List A) → list_any p (map f xs) ≡ list_any (λ x. p (f x)) xs
any_map p f [] = refl
any_map p f (x ∷ xs) = ap (λ b. p (f x) || b) (any_map p f xs)

pub returns : goal.returns
returns g c =
    let passes : List (List ℕ) → Bool = λ row. is_number (cell row c.args.col) in
    any_from_yields_List (λ row. passes (map g.T.AsStr.text row.items)) _ _ _ c.any.ensures.ran (YieldsList-from_slice c.args.rows.now cc) (λ x b q k. search (rules, tests))
    ∙ sym (any_map passes (λ row. map g.T.AsStr.text row.items) c.args.rows.now)
