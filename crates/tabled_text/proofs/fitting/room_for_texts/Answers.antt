-- What is left after one part and another is what is left after all.
use Rattle.std.proofs.Common.{◌≡◌, ◌+◌, ◌-◌, ◌<◌, ℕ, ap, sym, ◌∙◌, arith}
use Rattle.std.specs.List.{sum_by}
use Rattle.std.proofs.lemmas.Bool.Decides.{nat_tests}
use Rattle.tabled_object.specs.Entities.{below}
use Rattle.tabled_text.proofs.Frames.{line_kept, frame_kept, frame_none}
use Rattle.tabled_text.specs.Fitted.{frame_width, padding_across}
use Rattle.tabled_measure.specs.Sizes.{column_count}
use Rattle.tabled_text.proofs.fitting.room_for_texts.Goals as goal

pub returns-then-rows-eq0 : goal.returns-then-rows-eq0
returns-then-rows-eq0 c es table shows is =
    let rows = ap (λ shape. shape.rows) is in
    let nothing = frame_none es table (grind (arith, nat_tests, rows, c.if-rows-eq0.true)) in omega (arith, nothing)

pub returns-then-cols-eq0 : goal.returns-then-cols-eq0
returns-then-cols-eq0 c es table shows is =
    let cols = ap (λ shape. shape.cols) is in
    let nothing = frame_none es table (grind (arith, nat_tests, cols, c.if-cols-eq0.true)) in omega (arith, nothing)

pub returns : goal.returns
returns c es table shows is =
    let cfg = c.args.cfg.now in
    let left = cfg.settings.margin.size.left.size in
    let right = cfg.settings.margin.size.right.size in
    let rows = ap (λ shape. shape.rows) is in
    let cols = ap (λ shape. shape.cols) is in
    let some : 0 < column_count table = grind (arith, nat_tests, cols, c.if-cols-eq0.false) in
    let of_columns : ℕ → ℕ → ℕ = λ m n. sum_by (λ col. line_kept cfg n col + padding_across cfg.settings.cells m col) (below n) + line_kept cfg n n in
    let frame : frame_width es table ≡ left + of_columns c.args.shape.rows c.args.shape.cols + right = frame_kept cfg es table shows some ∙ (λ i. left + of_columns (sym rows i) (sym cols i) + right) in
    let beside : c.beside_columns.result ≡ c.saturating_sub-between.result - sum_by (λ col. line_kept cfg c.args.shape.cols col + padding_across cfg.settings.cells c.args.shape.rows col) (below c.args.shape.cols) = c.beside_columns.ensures in
    let last : c.line_width.result ≡ line_kept cfg c.args.shape.cols c.args.shape.cols = c.line_width.ensures in
    let sizes = c.get_margin-margin.ensures in
    let on_left = ap (λ s. s.left.size) sizes in
    let on_right = ap (λ s. s.right.size) sizes in
    omega (arith, frame, beside, last, on_left, on_right, c.saturating_sub.ensures, c.saturating_sub-between.ensures, c.saturating_sub-2.ensures)
