-- One column more.
use Rattle.std.proofs.Common.{◌≡◌, ℕ, ◌+◌, ◌<◌, ◌==◌, if◌then◌else◌, length, slice_index_or, sym, ap, ◌∙◌, arith}
use Rattle.std.proofs.lemmas.List.{get_or_default}
use Rattle.tabled_rooms.specs.declared.host.Host.{Host}
use Rattle.tabled_rooms.specs.Hosts.{Cell}
use Rattle.tabled_rooms.specs.Holding.{cell_of}
use Rattle.tabled_rooms.specs.Sizes.{columns_taken}
use Rattle.tabled_rooms.proofs.SizeLemmas.{taken_more}
use Rattle.tabled_rooms.proofs.sizes.count_columns.Goals as goal

pub loop-host-preserved : goal.loop-host-preserved
loop-host-preserved c = λ col none within.
    let hosts : ℕ → Cell = λ k. cell_of (slice_index_or c.args.hosts.now k none) in
    let n = c.loop-host.host-index in
    let kept : Host = record { row = 0; col = 0; bottom = 0; right = 0 } in
    let same : (slice_index_or c.args.hosts.now n kept).col ≡ (hosts n).1 = ap (λ (h : Host). h.col) (get_or_default c.args.hosts.now n kept none (omega arith)) in
    let inside : col < length c.loop-host.counts = omega (arith, c.in_ok-add_at.ensures.count, within) in
    c.in_ok-add_at.ensures.added col inside
    ∙ (λ i. c.loop-host.invariant col none inside i + (if same i == col then 1 else 0))
    ∙ sym (taken_more hosts n col)

pub returns-clause-counted : goal.returns-clause-counted
returns-clause-counted c = λ col none within.
    let hosts : ℕ → Cell = λ k. cell_of (slice_index_or c.args.hosts.now k none) in
    let all : c.loop-host.host-index ≡ length c.args.hosts.now = omega arith in
    c.loop-host.invariant col none (omega arith) ∙ ap (λ n. columns_taken hosts n col) all
