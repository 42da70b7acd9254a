-- The first line that has words, if there is one.
use Rattle.std.proofs.Common.{◌≡◌, ℕ, Bool, Bor, IfOk, List, [], Some, not, rules, tests, subst, sym, ap, ◌∙◌}
use Rattle.std.specs.List.{find, list_all}
use Rattle.std.specs.Option.{option_map, unwrap_or}
use Rattle.std.specs.Str.Lines.{lines}
use Rattle.std.proofs.lemmas.Iterator.Search.{find_from_yields_List}
use Rattle.std.proofs.lemmas.Iterator.Splits.{YieldsList-from_lines}
use Rattle.tabled_input.specs.Spaced.{is_blank, wide_places}
use Rattle.tabled_input.proofs.WideCells.{first_of}
use Rattle.tabled_input.proofs.wide.first_places.Goals as goal

abbrev has_words : List ℕ → Bool
has_words line = not (list_all is_blank line)

pub returns-in-Some : goal.returns-in-Some
returns-in-Some c =
    let first : option_map (λ (line : Bor (List ℕ)). line.now) c.find.result ≡ find has_words (lines c.args.text.now) =
    find_from_yields_List _ _ _ c.find.result c.find.ensures.ran (YieldsList-from_lines c.args.text.now (cc)) (λ x b q k. search (rules, tests)) in
    let found : Some c.in-Some.line.now ≡ find has_words (lines c.args.text.now) = ap (option_map (λ (line : Bor (List ℕ)). line.now)) (sym c.in-Some.is) ∙ first in
    let places = ap (λ o. unwrap_or (option_map wide_places o) []) found ∙ sym (first_of has_words (lines c.args.text.now)) in
    subst (λ all. IfOk c.wide_places.result (λ places. places.items ≡ all)) places c.wide_places.ensures

pub returns-in-None : goal.returns-in-None
returns-in-None c =
    let first : option_map (λ (line : Bor (List ℕ)). line.now) c.find.result ≡ find has_words (lines c.args.text.now) =
    find_from_yields_List _ _ _ c.find.result c.find.ensures.ran (YieldsList-from_lines c.args.text.now (cc)) (λ x b q k. search (rules, tests)) in
    let found = ap (option_map (λ (line : Bor (List ℕ)). line.now)) (sym c.in-None.is) ∙ first in
    c.new.ensures.items ∙ ap (λ o. unwrap_or (option_map wide_places o) []) found ∙ sym (first_of has_words (lines c.args.text.now))
