-- One cluster more, as long as there is room, or as many bytes as there are columns left.
use Rattle.std.proofs.Common.{rules, ◌-◌, min, length, ◌++◌, if◌then◌else◌, sym, ap, ◌∙◌, string_bytes}
use Rattle.tabled_width.proofs.Filling.{begin_more, begin_full, begin_end}
use Rattle.tabled_width.proofs.PrintableRows.{begin_printable}
use Rattle.tabled_width.proofs.cut_off.begin.Goals as goal

pub returns-then-not-branch : goal.returns-then-not-branch
returns-then-not-branch c =
    c.in_ok-take.ensures.row ∙ ap (λ took. if took then string_bytes c.loop-cluster.row ++ c.in-Some.cluster.now else string_bytes c.loop-cluster.row) c.if-not-branch.true
    ∙ begin_full c.args.width c.args.suffix.now (string_bytes c.loop-cluster.row) c.in-Some.cluster.now _ _ _
    c.loop-cluster.invariant.taken c.in-Some.ensures.clusters (sym c.in_ok-take.ensures.fits ∙ c.if-not-branch.true)

pub loop-cluster-preserved : goal.loop-cluster-preserved
loop-cluster-preserved c = record {
  text = search rules;
  taken = begin_more c.args.width c.args.suffix.now (string_bytes c.loop-cluster.row) (string_bytes c.take.new.row) c.in-Some.cluster.now _ _ _
      c.loop-cluster.invariant.taken c.in-Some.ensures.clusters (sym c.in_ok-take.ensures.fits ∙ c.if-not-branch.false)
      (c.in_ok-take.ensures.row ∙ ap (λ took. if took then string_bytes c.loop-cluster.row ++ c.in-Some.cluster.now else string_bytes c.loop-cluster.row) c.if-not-branch.false);
}

pub returns : goal.returns
returns c = begin_end c.args.width c.args.suffix.now (string_bytes c.loop-cluster.row) _ _ c.loop-cluster.invariant.taken c.in_default.ensures.clusters

pub returns-then-not-starts_with_selector : goal.returns-then-not-starts_with_selector
returns-then-not-starts_with_selector c =
    let count = c.min-count.ensures ∙ ap (min (length c.args.line.now)) (c.saturating_sub.ensures ∙ ap (λ n. c.args.width - n) c.width_of.ensures) in
    c.in_ok-push_str.ensures.bytes ∙ ap (λ bs. bs ++ c.range.result.now) c.clear.ensures.bytes
    ∙ begin_printable c.args.width c.min-count.result c.args.suffix.now c.args.line.now c.range.result.now
    (sym c.starts_with_selector.ensures ∙ c.if-not-starts_with_selector.true) (sym c.is_printable.ensures ∙ c.if-is_printable.true) count c.range.ensures.value
