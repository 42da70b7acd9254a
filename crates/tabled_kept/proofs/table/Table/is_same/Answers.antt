use Rattle.std.proofs.Common.{sym, ap, ◌∙◌, arith, inl, inr, ◌≡◌, slice_index_or}
use Rattle.std.specs.Option.{option_eq}
use Rattle.std.specs.FinMap as map
use Rattle.std.proofs.lemmas.Bool.{cases_lt}
use Rattle.tabled_keys.specs.Slots.{slot}
use Rattle.tabled_kept.specs.Same.{same_map}
use Rattle.tabled_kept.proofs.SameRows.{row_alike, rows_alike, rows_differ}
use Rattle.tabled_kept.proofs.table.Table.is_same.Goals as goal

pub returns-then-not-is_same_row : goal.returns-then-not-is_same_row
returns-then-not-is_same_row g c =
    let at = c.loop-row.row in
    let first = c.get.ensures.lookup.4 (omega arith) map.empty ∙ ap (λ rows. slice_index_or rows at map.empty) c.deref.ensures.value in
    let second = c.get-in-loop-row.ensures.lookup.4 (omega arith) map.empty ∙ ap (λ rows. slice_index_or rows at map.empty) c.deref-in-loop-row.ensures.value in
    rows_differ g.V.PartialEq.eq c.self.inside.rows.items c.other.inside.rows.items c.args.self.now c.args.other.now c.self.view_is c.other.view_is at
    (sym c.if-not-is_same_row.true ∙ c.is_same_row.ensures ∙ (λ i. same_map g.V.PartialEq.eq (first i) (second i)))

pub loop-row-preserved : goal.loop-row-preserved
loop-row-preserved g c k col h =
    let at = c.loop-row.row in
    let first = c.get.ensures.lookup.4 (omega arith) map.empty ∙ ap (λ rows. slice_index_or rows at map.empty) c.deref.ensures.value in
    let second = c.get-in-loop-row.ensures.lookup.4 (omega arith) map.empty ∙ ap (λ rows. slice_index_or rows at map.empty) c.deref-in-loop-row.ensures.value in
    let here = row_alike g.V.PartialEq.eq c.self.inside.rows.items c.other.inside.rows.items c.args.self.now c.args.other.now c.self.view_is c.other.view_is at col
    (sym c.if-not-is_same_row.false ∙ c.is_same_row.ensures ∙ (λ i. same_map g.V.PartialEq.eq (first i) (second i))) in
    elim (cases_lt k at) [
      | inl less ↦ c.loop-row.invariant k col less
      | inr more ↦
          let same : k ≡ at = omega (arith, more, h) in
          ap (λ n. option_eq g.V.PartialEq.eq (map.get c.args.self.now (slot n col)) (map.get c.args.other.now (slot n col))) same ∙ here
    ]

pub returns : goal.returns
returns g c =
    rows_alike g.V.PartialEq.eq c.self.inside.rows.items c.other.inside.rows.items c.args.self.now c.args.other.now c.self.view_is c.other.view_is c.loop-row.row
    c.loop-row.invariant
    (omega (arith, c.loop-row-test.false, c.max-most.ensures, c.len.ensures, c.self.inside.rows.ok.0))
    (omega (arith, c.loop-row-test.false, c.max-most.ensures, c.len-2.ensures, c.other.inside.rows.ok.0))
