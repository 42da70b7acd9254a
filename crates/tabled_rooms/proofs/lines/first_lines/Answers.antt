-- The first line, and one line more.
use Rattle.std.proofs.Common.{◌≡◌, ℕ, ◌+◌, ◌≤◌, Bool, false, [], ◌∷◌, ◌++◌, length, slice_index, slice_index_or, sym, ap, subst, ◌∙◌, arith}
use Rattle.std.proofs.lemmas.List.FromFn.{get_or-map-range_with_len}
use Rattle.tabled_rooms.specs.Rooms.{first_line}
use Rattle.tabled_rooms.proofs.RoomLemmas.{first_line_none, first_line_more, lines_more}
use Rattle.tabled_rooms.proofs.lines.first_lines.Goals as goal

pub loop-row-init : goal.loop-row-init
loop-row-init c =
    let heights = slice_index c.args.heights.now in
    let drawn : ℕ → Bool = λ r. slice_index_or c.args.drawn.now r false in
    record {
      so_far = c.in_ok-push.ensures.items ∙ (λ i. c.new-lines.ensures.items i ++ sym (first_line_none heights drawn) i ∷ []);
      last = sym (first_line_none heights drawn);
      within = omega arith;
    }

pub loop-row-preserved : goal.loop-row-preserved
loop-row-preserved c =
    let heights = slice_index c.args.heights.now in
    let drawn : ℕ → Bool = λ r. slice_index_or c.args.drawn.now r false in
    let is : c.in_ok-next.next ≡ first_line heights drawn (c.loop-row.row + 1) =
    c.in_ok-next.ensures ∙ (λ i. c.loop-row.invariant.last i + (c.in_ok-high.ensures ∙ ap (λ n. heights c.loop-row.row + n) c.one_if.ensures) i) ∙ sym (first_line_more heights drawn c.loop-row.row) in
    record {
      so_far = c.in_ok-push-2.ensures.items ∙ lines_more _ (first_line heights drawn) c.loop-row.row c.in_ok-next.next c.loop-row.invariant.so_far is;
      last = is;
      within = omega arith;
    }

pub returns-clause-within : goal.returns-clause-within
returns-clause-within c =
    let line : ℕ → ℕ = first_line (slice_index c.args.heights.now) (λ r. slice_index_or c.args.drawn.now r false) in
    let n = c.loop-row.row in
    let all : n ≡ length c.args.heights.now = omega (arith, c.loop-row-test.false, c.loop-row.auto.row-end) in
    let last : slice_index c.loop-row.lines.items n ≡ c.loop-row.next =
    ap (λ xs. slice_index xs n) c.loop-row.invariant.so_far ∙ get_or-map-range_with_len line 0 (n + 1) n n 0 (omega arith) (omega arith) ∙ sym c.loop-row.invariant.last in
    let fits : slice_index c.loop-row.lines.items n ≤ 18446744073709551615 = omega (arith, last, c.loop-row.invariant.within) in
    subst (λ k. slice_index c.loop-row.lines.items k ≤ 18446744073709551615) all fits
