-- The part of that number, if there is one.
use Rattle.std.proofs.Common.{[], unwrap_or, option_map, lit<, sym, ap, ◌∙◌}
use Rattle.std.specs.List.{slice_split}
use Rattle.std.proofs.lemmas.Iterator.Consumers.{nth_from_yields_List}
use Rattle.std.proofs.lemmas.Iterator.Splits.{YieldsList-from_str_split}
use Rattle.std.proofs.lemmas.Option.{unwrap_or-slice_get}
use Rattle.tabled_request.specs.Columns.{is_comma}
use Rattle.tabled_viewing.proofs.saying.part.Goals as goal

pub returns-in-Some : goal.returns-in-Some
returns-in-Some c =
    ap (λ found. unwrap_or (option_map (λ part. part.now) found) []) (sym c.in-Some.is)
    ∙ ap (λ found. unwrap_or found []) (nth_from_yields_List c.nth.result _ _ c.nth.ensures.ran (YieldsList-from_str_split 44 c.args.word.now (lit< tt) (cc) (cc) (cc)))
    ∙ unwrap_or-slice_get (slice_split is_comma c.args.word.now) c.args.number []

pub returns-in-None : goal.returns-in-None
returns-in-None c =
    ap (λ found. unwrap_or (option_map (λ part. part.now) found) []) (sym c.in-None.is)
    ∙ ap (λ found. unwrap_or found []) (nth_from_yields_List c.nth.result _ _ c.nth.ensures.ran (YieldsList-from_str_split 44 c.args.word.now (lit< tt) (cc) (cc) (cc)))
    ∙ unwrap_or-slice_get (slice_split is_comma c.args.word.now) c.args.number []
