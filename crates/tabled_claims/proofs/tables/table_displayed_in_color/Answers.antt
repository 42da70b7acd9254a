-- What is lent is the table.
use Rattle.std.proofs.Common.{List, ap, subst}
use Rattle.std.specs.Fmt.{WritesOnOk}
use Rattle.tabled_configuration.specs.Colored.{Shows}
use Rattle.tabled_configuration.specs.Configuration.{ConfigEvent}
use Rattle.tabled_painting.specs.PaintedTable.{colored_text}
use Rattle.tabled_text.specs.TextTable.{painted}
use Rattle.tabled_claims.proofs.tables.table_displayed_in_color.Goals as goal

pub returns : goal.returns
returns g c =
    subst (λ table. (es : List ConfigEvent) → Shows es table.config → WritesOnOk g.W.Write.write_str_gives c.args.out.now c.fmt.result (colored_text (painted es table.texts)) c.fmt.new.f)
    (ap (λ lent. lent.now) c.in_color-shown.ensures) c.fmt.ensures.text
