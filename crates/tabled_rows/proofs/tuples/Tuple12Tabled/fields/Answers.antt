-- Text by text.
use Rattle.std.proofs.Common.{[]}
use Rattle.tabled_rows.proofs.tuples.Tuple12Tabled.fields.Goals as goal

pub returns : goal.returns
returns g c = c.in_ok-push_text-12.ensures.texts _ (c.in_ok-push_text-11.ensures.texts _ (c.in_ok-push_text-10.ensures.texts _ (c.in_ok-push_text-9.ensures.texts _ (c.in_ok-push_text-8.ensures.texts _ (c.in_ok-push_text-7.ensures.texts _ (c.in_ok-push_text-6.ensures.texts _ (c.in_ok-push_text-5.ensures.texts _ (c.in_ok-push_text-4.ensures.texts _ (c.in_ok-push_text-3.ensures.texts _ (c.in_ok-push_text-2.ensures.texts _ (c.in_ok-push_text.ensures.texts [] c.no_texts-texts.ensures.texts)))))))))))
