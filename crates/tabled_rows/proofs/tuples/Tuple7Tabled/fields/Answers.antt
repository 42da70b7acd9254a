-- Text by text.
use Rattle.std.proofs.Common.{[]}
use Rattle.tabled_rows.proofs.tuples.Tuple7Tabled.fields.Goals as goal

pub returns : goal.returns
returns g c = c.in_ok-push_text-7.ensures.texts _ (c.in_ok-push_text-6.ensures.texts _ (c.in_ok-push_text-5.ensures.texts _ (c.in_ok-push_text-4.ensures.texts _ (c.in_ok-push_text-3.ensures.texts _ (c.in_ok-push_text-2.ensures.texts _ (c.in_ok-push_text.ensures.texts [] c.no_texts-texts.ensures.texts))))))
