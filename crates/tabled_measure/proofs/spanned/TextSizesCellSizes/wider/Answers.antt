-- The text asks for no more with a column on each side, nor with less.
use Rattle.std.proofs.Common.{◌≡◌, ◌≤◌, [], List, ℕ, max, slice_index_or, sym, subst, arith}
use Rattle.std.proofs.Math.Nat.{max-eq_left}
use Rattle.tabled_settings.specs.declared.indent.Indent.{Indent}
use Rattle.tabled_settings.specs.declared.sides.Sides.{Sides}
use Rattle.tabled_cells.specs.TextsBy.{texts_by}
use Rattle.tabled_measure.specs.Sizes.{cell, padded_width, width_asked}
use Rattle.tabled_measure.proofs.spanned.TextSizesCellSizes.wider.Goals as goal

pub returns-then-is_wide_enough : goal.returns-then-is_wide_enough
unfolding padded_width width_asked
returns-then-is_wide_enough g c =
    let sizes = c.args.self.now in
    let text : List ℕ = cell (slice_index_or (texts_by g.T.AsStr.text sizes.rows.now) c.args.row []) c.args.col in
    let asked = c.is_wide_enough.ensures c.if-is_wide_enough.true c.args.row in
    let room : padded_width c.get_padding-padding.result.now text ≤ c.args.width = omega (arith, asked) in
    subst (λ (padding : Sides Indent). c.args.width ≡ max c.args.width (padded_width padding text)) c.get_padding-padding.ensures (sym (max-eq_left room))
