-- First the span, and then the correction of what it leaves.
use Rattle.tabled_grid.proofs.Seen.{on_ok}
use Rattle.tabled_text.proofs.text_table.panels.set_spanned.Goals as goal

pub returns : goal.returns
returns c =
    on_ok c.change.result (λ changes. record { spanned = c.set_span.new.config; by_span = c.in_ok-set_span.ensures; by_correction = changes }) c.change.ensures.ok
