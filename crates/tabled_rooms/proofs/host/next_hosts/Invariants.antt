-- The hosts of the columns so far, and those above the others.
use Rattle.std.proofs.Common.{◌≡◌, ℕ, ◌<◌, ◌≤◌, length, get_or}
use Rattle.tabled_rooms.specs.declared.host.Host.{Host}
use Rattle.tabled_rooms.specs.Hosts.{shown_above, shown_left, host}
use Rattle.tabled_rooms.specs.Holding.{held, Holds}
use Rattle.tabled_rooms.proofs.host.next_hosts.Given as goal

abbrev pub invariant-loop-col : goal.invariant-loop-col
invariant-loop-col g l =
    let columns = g.S.CellSpans.columns_at l.spans in
    let rows = g.S.CellSpans.rows_at l.spans in
    record {
      length_kept : length l.hosts ≡ length l.initial.hosts;
      at_left : Holds columns rows l.shape (shown_left columns rows (shown_above columns rows l.row) l.row l.col) l.left;
      placed : (c : ℕ) (none : Host) → c < l.col → get_or l.hosts c none ≡ held columns rows l.shape (host columns rows l.row c);
      ahead : (c : ℕ) (none : Host) → l.col ≤ c → c < length l.hosts → Holds columns rows l.shape (shown_above columns rows l.row c) (get_or l.hosts c none);
    }
