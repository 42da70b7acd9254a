-- Nothing is known of no texts.
use Rattle.std.proofs.Common.{[], map, string_bytes, sym, ap, subst}
use Rattle.tabled_rows.specs.Spelled.{AreSpelled}
use Rattle.tabled_rows.proofs.SpelledLemmas.{spelled-nothing}
use Rattle.tabled_rows.proofs.spelled.no_texts.Goals as goal

pub returns-clause-texts : goal.returns-clause-texts
returns-clause-texts c = subst (λ texts. AreSpelled [] texts) (sym (ap (map string_bytes) c.new.ensures.items)) spelled-nothing
