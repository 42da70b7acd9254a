-- The sizes that its texts alone ask for.
use Rattle.std.proofs.Common.{◌≡◌, ℕ, not, Bool, true, false, if◌then◌else◌, length, refl, sym, ap, ◌∙◌}
use Rattle.std.proofs.lemmas.List.{length-map}
use Rattle.tabled_configuration.specs.Configuration.{Configuration, all_writes, is_sized_by_texts}
use Rattle.tabled_measure.specs.Sizes.{column_widths, row_height, row_heights}
use Rattle.tabled_text.specs.TableViews.{texts_viewed}
use Rattle.tabled_text.specs.TextTable.{heights_with_spans, widths_with_spans}
use Rattle.tabled_measure.proofs.Widths.{count_widths}
use Rattle.tabled_text.proofs.table_view.TableView.other_sizes.Goals as goal

none_set : (b : Bool) → not b ≡ false → b ≡ true
none_set true e = refl
none_set false e = sym e

pub returns-then-not-has_spans_or_padding-clause-sizes : goal.returns-then-not-has_spans_or_padding-clause-sizes
returns-then-not-has_spans_or_padding-clause-sizes g c =
    let view = c.args.self.now in
    let cfg = view.config.now.spanned in
    let table = texts_viewed g.T.AsStr.text view in
    let sized : is_sized_by_texts cfg ≡ true =
    none_set (is_sized_by_texts cfg) (ap (λ (kept : Configuration). not (is_sized_by_texts kept)) (sym c.config.ensures) ∙ sym c.has_spans_or_padding.ensures ∙ c.if-not-has_spans_or_padding.true) in
    record {
      widths = c.requires.sized.widths ∙ sym (ap (λ b. if b then column_widths table else widths_with_spans cfg.settings (all_writes cfg) table) sized);
      heights = c.requires.sized.heights ∙ sym (ap (λ b. if b then row_heights table else heights_with_spans cfg.settings (all_writes cfg) table) sized);
      columns = ap length c.requires.sized.widths ∙ count_widths table ∙ ap (λ (shape : ℕ × ℕ). shape.1) (sym c.requires.shape);
      rows = ap length c.requires.sized.heights ∙ length-map table row_height ∙ ap (λ (shape : ℕ × ℕ). shape.0) (sym c.requires.shape);
    }
