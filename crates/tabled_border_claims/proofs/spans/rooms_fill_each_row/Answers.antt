use Rattle.std.proofs.Common.{true, refl}
use Rattle.tabled_rooms.specs.Hosts.{host}
use Rattle.tabled_rooms.proofs.FirstColumns.{first_column, not_after}
use Rattle.tabled_rooms.proofs.RowWidths.{pieces_fill}
use Rattle.tabled_border_claims.proofs.spans.rooms_fill_each_row.Goals as goal

pub returns : goal.returns
returns c = λ columns rows some_columns some_rows widths vertical count r.
    pieces_fill (host columns rows r) (λ c. true) widths vertical count (not_after columns rows some_columns some_rows r) (first_column columns rows some_columns some_rows r) (λ c. refl)
