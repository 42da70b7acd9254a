-- One column more.
use Rattle.std.proofs.Common.{◌≢◌, ◌<◌, length, refl, sym, ◌∙◌, arith, subst}
use Rattle.std.proofs.lemmas.List.{length-set, get_or-set_other}
use Rattle.tabled_rooms.specs.declared.host.Host.{Host}
use Rattle.tabled_rooms.specs.Hosts.{shown_above, shown_left, host}
use Rattle.tabled_rooms.specs.Holding.{held, Holds}
use Rattle.tabled_rooms.proofs.HostLemmas.{host_kept, none_left, placed_more}
use Rattle.tabled_rooms.proofs.host.next_hosts.Goals as goal

pub loop-col-init : goal.loop-col-init
loop-col-init g c = record {
  length_kept = refl;
  at_left = none_left _ _ c.args.shape c.args.row _ _ refl refl;
  placed = λ k none within. absurd (omega arith);
  ahead = λ k none from within. c.requires.above k none within;
}

pub loop-col-preserved : goal.loop-col-preserved
loop-col-preserved g c =
    let columns = g.S.CellSpans.columns_at c.args.spans.now in
    let rows = g.S.CellSpans.rows_at c.args.spans.now in
    let none : Host = record { row = 0; col = 0; bottom = 0; right = 0 } in
    let r = c.args.row in
    let n = c.loop-col.col in
    let within : n < length c.loop-col.hosts = omega arith in
    let is = c.host_at-left.ensures (shown_above columns rows r n) (shown_left columns rows (shown_above columns rows r) r n)
    (c.loop-col.invariant.ahead n none (omega arith) within) c.loop-col.invariant.at_left in
    let kept = host_kept columns rows c.args.shape c.host_at-left.result r n is in
    record {
      length_kept = length-set c.loop-col.hosts n c.host_at-left.result ∙ c.loop-col.invariant.length_kept;
      at_left = kept.1;
      placed = placed_more (λ k. held columns rows c.args.shape (host columns rows r k)) c.loop-col.hosts n c.host_at-left.result within kept.0 c.loop-col.invariant.placed;
      ahead = λ k other from before.
          let apart : k ≢ n = omega arith in
          let inside : k < length c.loop-col.hosts = omega (arith, length-set c.loop-col.hosts n c.host_at-left.result, before) in
          subst (λ h. Holds columns rows c.args.shape (shown_above columns rows r k) h) (sym (get_or-set_other c.loop-col.hosts n k c.host_at-left.result other apart))
          (c.loop-col.invariant.ahead k other (omega arith) inside);
    }
