use Rattle.tabled_printing.specs.Picture.{look}
use Rattle.tabled_printing.proofs.NarrowLemmas.{borders_narrow}
use Rattle.tabled_border_claims.proofs.PlainEven.{plain_even, plain_straight, plain_cut}
use Rattle.tabled_border_claims.proofs.printing.plain_text_is_a_rectangle.Goals as goal

pub returns-clause-rectangle : goal.returns-clause-rectangle
returns-clause-rectangle c = λ es shape widths heights cells some all fits utf8 apart.
    plain_even (look es shape widths heights) cells fits utf8 apart (borders_narrow es shape widths heights all) some

pub returns-clause-straight : goal.returns-clause-straight
returns-clause-straight c = λ es shape widths heights cells some all fits utf8 apart col inside drawn.
    plain_straight (look es shape widths heights) cells fits utf8 apart (borders_narrow es shape widths heights all) some col inside drawn

pub returns-clause-lines : goal.returns-clause-lines
returns-clause-lines c = λ es shape widths heights cells some all fits utf8 apart there.
    plain_cut (look es shape widths heights) cells fits utf8 apart (borders_narrow es shape widths heights all) some there
