-- The lines at which rows begin, the sides that are drawn, and no host.
use Rattle.std.proofs.Common.{◌+◌, ◌≤◌, length, replicate, sym, ap, subst, ◌∙◌, arith}
use Rattle.std.specs.Prelude.{false, slice_index, slice_index_or}
use Rattle.std.specs.List.{range_with_len, sum_by}
use Rattle.std.proofs.lemmas.List.{length-replicate}
use Rattle.std.proofs.lemmas.List.FromFn.{length-map-range_with_len}
use Rattle.tabled_rooms.specs.Rooms.{first_line, one_if}
use Rattle.tabled_painting.specs.RoomLines.{AreSpans, nobody}
use Rattle.tabled_painting.specs.Pages.{most}
use Rattle.tabled_painting.specs.Viewed.{viewed}
use Rattle.tabled_painting.proofs.FrameLemmas.{some_cols}
use Rattle.tabled_painting.proofs.DrawnLemmas.{first_of, firsts_are}
use Rattle.tabled_painting.proofs.spans.Spans.of_rooms.Goals as goal

pub first_lines-requires : goal.first_lines-requires
first_lines-requires c =
    ap length c.deref.ensures.value ∙ c.in_ok-drawn.ensures.count ∙ ap (λ n. n + 1) (sym c.requires.heights ∙ ap length (sym c.as_slice.ensures.value))

pub check_width-requires : goal.check_width-requires
check_width-requires c =
    let sides = ap length c.deref-2.ensures.value ∙ c.in_ok-sides.ensures.count in
    let widths = ap length c.as_slice-2.ensures.value ∙ c.requires.widths in
    omega (arith, sides, widths)

pub returns : goal.returns
returns c =
    let frame = c.args.lines.now.frame in
    let view = viewed frame in
    let are =
    firsts_are frame.dims.now.heights.items c.as_slice.result.now c.in_ok-firsts.firsts.items c.in_ok-drawn.drawn.items c.deref.result.now view.horizontal frame.shape.0
    c.as_slice.ensures.value c.deref.ensures.value c.in_ok-drawn.ensures.drawn c.requires.heights c.in_ok-firsts.ensures.lines in
    let fits : sum_by (λ k. one_if (slice_index_or c.in_ok-sides.sides.items k false) + slice_index frame.dims.now.widths.items k) (range_with_len 0 frame.shape.1) ≤ most =
    subst (λ n. sum_by (λ k. one_if (slice_index_or c.in_ok-sides.sides.items k false) + slice_index frame.dims.now.widths.items k) (range_with_len 0 n) ≤ most) c.requires.widths
    (let given = c.in_ok-check_width.ensures in subst (λ xs. sum_by (λ k. one_if (slice_index_or c.in_ok-sides.sides.items k false) + slice_index xs k) (range_with_len 0 (length xs)) ≤ most) c.as_slice-2.ensures.value
    (subst (λ xs. sum_by (λ k. one_if (slice_index_or xs k false) + slice_index c.as_slice-2.result.now k) (range_with_len 0 (length c.as_slice-2.result.now)) ≤ most) c.deref-2.ensures.value given)) in
    let line = first_line (slice_index frame.dims.now.heights.items) view.horizontal in
    let spans : AreSpans c.args.lines.now c.in_ok-firsts.firsts.items c.in_ok-sides.sides.items =
    record {
      rows_counted = ap length are ∙ length-map-range_with_len line 0 (frame.shape.0 + 1);
      are_firsts = λ r within. first_of line frame.shape.0 r c.in_ok-firsts.firsts.items are within;
      high_within = subst (λ n. slice_index c.in_ok-firsts.firsts.items n ≤ most) (ap length c.as_slice.ensures.value ∙ c.requires.heights) c.in_ok-firsts.ensures.within;
      sides_counted = c.in_ok-sides.ensures.count;
      are_sides = c.in_ok-sides.ensures.drawn;
      widths_counted = c.requires.widths;
      wide_within = fits;
    } in
    record {
      keeps = record { none = λ none. absurd (let some = some_cols frame.shape.0 frame.shape.1 frame.has_places in let count = c.in_ok-hosts.ensures.count in omega (arith, none, some, count)); some = λ some. spans; each = λ some. c.in_ok-hosts.ensures.count };
      hosts = c.in_ok-hosts.ensures.none ∙ ap (λ n. replicate n nobody) (sym c.in_ok-hosts.ensures.count);
      wides = ap length (c.in_ok-wides.ensures.items_if_clones_equal (λ y e. e)) ∙ length-replicate frame.shape.1 0 ∙ sym c.in_ok-hosts.ensures.count;
    }
