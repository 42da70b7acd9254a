-- The text is put at the end of those that are there.
use Rattle.std.proofs.Common.{[], ◌∷◌, ◌++◌, List, ℕ, map, string_bytes, sym, ap, subst, ◌∙◌}
use Rattle.std.proofs.lemmas.List.{map-append}
use Rattle.tabled_rows.specs.Spelled.{AreSpelled}
use Rattle.tabled_rows.proofs.SpelledLemmas.{spelled-push}
use Rattle.tabled_rows.proofs.spelled.push_text.Goals as goal

pub returns-clause-texts : goal.returns-clause-texts
returns-clause-texts g c = λ known spelled.
    let one = g.D.Display.output c.args.value.now in
    let P : List (List ℕ) → Type 0 = λ texts. AreSpelled (known ++ one ∷ []) texts in
    subst P (sym (ap (map string_bytes) c.in_ok-push.ensures.items ∙ map-append string_bytes c.args.texts.now.items (c.in_ok-text.text ∷ [])))
    (spelled-push known one (map string_bytes c.args.texts.now.items) (string_bytes c.in_ok-text.text) spelled c.in_ok-text.ensures.ok)
