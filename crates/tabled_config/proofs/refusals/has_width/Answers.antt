-- The pieces that the walk gives are those of the text.
use Rattle.std.proofs.Common.{rules, tests, ◌==◌, lit<}
use Rattle.std.proofs.lemmas.Iterator.Splits.{YieldsList-from_str_split}
use Rattle.std.proofs.lemmas.Iterator.Search.{all_from_yields_List}
use Rattle.tabled_width.specs.Texts.{width_of_text}
use Rattle.tabled_config.proofs.refusals.has_width.Goals as goal

pub returns : goal.returns
returns c =
    all_from_yields_List (λ piece. width_of_text piece == c.args.width) _ _ _ c.all.ensures.ran
    (YieldsList-from_str_split 10 c.args.text.now (lit< tt) c.split.ensures.text c.split.ensures.has_more c.split.ensures.pattern)
    (λ x b q k. search (rules, tests))
