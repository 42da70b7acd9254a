-- Texts are cut off, or go on in further lines.
use Rattle.std.proofs.Common.{refl}
use Rattle.tabled_viewing.proofs.Results.{if_ok}
use Rattle.tabled_viewing.proofs.drawing.keep_within.Goals as goal

pub returns-then-cuts_off-clause-texts : goal.returns-then-cuts_off-clause-texts
returns-then-cuts_off-clause-texts g c = λ events shows. if_ok c.fit_by.result (λ new fitted. (_, (c.if-cuts_off.true, refl), fitted)) (c.fit_by.ensures.texts events shows)

pub returns-clause-texts : goal.returns-clause-texts
returns-clause-texts g c = λ events shows. if_ok c.fit_by-2.result (λ new fitted. (_, c.if-cuts_off.false, fitted)) (c.fit_by-2.ensures.texts events shows)
