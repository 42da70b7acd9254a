-- Above the first row nothing is shown.
use Rattle.std.proofs.Common.{List, length, refl, sym, subst, ◌∙◌}
use Rattle.tabled_rooms.specs.Holding.{AreAbove}
use Rattle.tabled_rooms.specs.declared.host.Host.{Host}
use Rattle.tabled_rooms.proofs.HostLemmas.{none_above}
use Rattle.tabled_painting.specs.RoomLines.{columns_of, nobody, rows_of}
use Rattle.tabled_painting.proofs.table_page.TablePage.paint.Goals as goal

pub paint-requires-clause-above : goal.paint-requires-clause-above
paint-requires-clause-above g c =
    let lines = c.args.self.lines in
    let hosts = c.args.self.spans.hosts.items in
    subst (λ (hosts : List Host). AreAbove (columns_of lines) (rows_of lines) lines.frame.shape 0 hosts) (sym (c.deref_mut.ensures.value ∙ c.args.self.are_spans.hosts))
    (none_above (columns_of lines) (rows_of lines) lines.frame.shape (length hosts) nobody refl refl)
