-- One column more.
use Rattle.std.proofs.Common.{◌≡◌, ℕ, ◌<◌, Bool, true, false, if◌then◌else◌, List, Option, Some, None, unwrap_or, length, get_or, map, string_bytes, ap, ◌∙◌, arith}
use Rattle.std.specs.List.{range_with_len}
use Rattle.std.proofs.lemmas.List.FromFn.{get_or-map-range_with_len, length-map-range_with_len}
use Rattle.tabled_request.specs.Sides.{side_of}
use Rattle.tabled_request.specs.declared.sides.ColumnSide.{ColumnSide}
use Rattle.tabled_request.specs.declared.sides.ColumnSide.TheVariants.{Left, Center, Right}
use Rattle.tabled_request.proofs.ByColumn.{one_more_of}
use Rattle.tabled_request.proofs.sides.all_sides.Goals as goal

module _ (f : ℕ → Bool) (flags items : List Bool) (col size count : ℕ) (same : flags ≡ items) (e : items ≡ map f (range_with_len 0 count)) (s : size ≡ count) (below : col < size) where
  inside : col < length flags
  inside = omega (arith, ap length (same ∙ e), length-map-range_with_len f 0 count, s, below)

  flag_at : get_or flags col false ≡ f col
  flag_at = ap (λ all. get_or all col false) (same ∙ e) ∙ get_or-map-range_with_len f 0 count col col false (omega (arith, s, below)) (omega arith)

abbrev chosen : Bool → Bool → Bool → Bool → ColumnSide
chosen left center right found = if left then Left else if center then Center else if right then Right else if found then Right else Left

said_is : (left center right found : Bool) (said : Option ColumnSide) → said ≡ (if left then Some Left else if center then Some Center else if right then Some Right else None)
    → unwrap_or said (if found then Right else Left) ≡ chosen left center right found
said_is true center right found said e = ap (λ side. unwrap_or side (if found then Right else Left)) e
said_is false true right found said e = ap (λ side. unwrap_or side (if found then Right else Left)) e
said_is false false true found said e = ap (λ side. unwrap_or side (if found then Right else Left)) e
said_is false false false found said e = ap (λ side. unwrap_or side (if found then Right else Left)) e

chosen_same : (a b c found x y z : Bool) → a ≡ x → b ≡ y → c ≡ z → chosen a b c found ≡ chosen x y z found
chosen_same a b c found x y z e f g = ap (λ it. chosen it b c found) e ∙ ap (λ it. chosen x it c found) f ∙ ap (λ it. chosen x y it found) g

pub bounds-left-col : goal.bounds-left-col
bounds-left-col g c = inside _ _ _ c.loop-col.col _ _ c.as_slice-left.ensures.value c.in_ok-left.ensures c.column_count-col-end.ensures c.loop-col-test.true

pub bounds-center-col : goal.bounds-center-col
bounds-center-col g c = inside _ _ _ c.loop-col.col _ _ c.as_slice-center.ensures.value c.in_ok-center.ensures c.column_count-col-end.ensures c.loop-col-test.true

pub bounds-right-col : goal.bounds-right-col
bounds-right-col g c = inside _ _ _ c.loop-col.col _ _ c.as_slice-right.ensures.value c.in_ok-right.ensures c.column_count-col-end.ensures c.loop-col-test.true

pub loop-col-preserved : goal.loop-col-preserved
loop-col-preserved g c =
    c.in_ok-push.ensures.items
    ∙ one_more_of (side_of c.args.request (map string_bytes c.args.words.now) (map (λ row. map g.T.AsStr.text row.items) c.args.rows.now)) _ _ c.loop-col.col c.loop-col.invariant
    (c.side_of.ensures ∙ said_is _ _ _ _ _ c.side_said-said.ensures
    ∙ chosen_same _ _ _ _ _ _ _
    (flag_at _ _ _ c.loop-col.col _ _ c.as_slice-left.ensures.value c.in_ok-left.ensures c.column_count-col-end.ensures c.loop-col-test.true)
    (flag_at _ _ _ c.loop-col.col _ _ c.as_slice-center.ensures.value c.in_ok-center.ensures c.column_count-col-end.ensures c.loop-col-test.true)
    (flag_at _ _ _ c.loop-col.col _ _ c.as_slice-right.ensures.value c.in_ok-right.ensures c.column_count-col-end.ensures c.loop-col-test.true))
