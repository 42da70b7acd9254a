-- The equality of stores has the laws of the equality of values.
use Rattle.std.specs.Prelude.{◌≡◌, Bool, true, ◌&&◌, Option, Some, None, List, [], ◌∷◌, refl}
use Rattle.std.specs.Option.{option_eq}
use Rattle.std.specs.Ordering.{eq_by_cmp}
use Rattle.std.specs.Cmp.{IsTotalOrder, IsPartialEquivalence, IsEquivalence, on_per, and_per, equiv, partial_equiv_from_equiv, eq_by_cmp_equiv, nat_cmp_total}
use Rattle.std.specs.Cmp.Lexicographic.{pointwise, lists_per, options_equiv}
use Rattle.std.specs.declared.cmp.Ordering.{Ordering}
use Rattle.std.specs.FinMap.{FinMap, entries}
use Rattle.tabled_places.specs.declared.borders.Borders.{Borders}
use Rattle.tabled_places.specs.declared.lines.HorizontalLine.{HorizontalLine}
use Rattle.tabled_places.specs.declared.lines.VerticalLine.{VerticalLine}
use Rattle.tabled_places.specs.Keys.{edge_place_cmp, spots_total, edge_places_total}
use Rattle.tabled_grid.specs.Same.{same_horizontal, same_vertical, same_borders, same_below, same_lines, same_cells, same_state}
use Rattle.tabled_kept.specs.Same.{same_map}

module _ {T : Type 0} {E : T → T → Bool} (p : IsPartialEquivalence E) where
  option_symm : (a b : Option T) → option_eq E a b ≡ option_eq E b a
  option_symm None None = refl
  option_symm (Some x) (Some y) = p.symm x y
  option_symm a b = refl

  option_trans : (a b c : Option T) → option_eq E a b ≡ true → option_eq E b c ≡ true → option_eq E a c ≡ true
  option_trans None None c h k = k
  option_trans (Some x) (Some y) None h k = k
  option_trans (Some x) (Some y) (Some z) h k = p.trans x y z h k
  option_trans a b c h k = absurd cc

  option_per : IsPartialEquivalence (option_eq E)
  option_per = record { symm = option_symm; trans = option_trans }

  map_per : {K : Type 0} {R : K → K → Ordering} → IsTotalOrder R → IsPartialEquivalence (same_map {R = R} E)
  map_per o = on_per entries (lists_per (and_per (on_per (λ e. e.0) (partial_equiv_from_equiv (eq_by_cmp_equiv o))) (on_per (λ e. e.1) p)))

module _ {T : Type 0} {E : T → T → Bool} (p : IsPartialEquivalence E) where
  vertical_per : IsPartialEquivalence (same_vertical E)
  vertical_per =
      let o = option_per p in
      and_per (on_per (λ l. l.main) o) (and_per (on_per (λ l. l.intersection) o) (and_per (on_per (λ l. l.top) o) (on_per (λ l. l.bottom) o)))

  horizontal_per : IsPartialEquivalence (same_horizontal E)
  horizontal_per =
      let o = option_per p in
      and_per (on_per (λ l. l.main) o) (and_per (on_per (λ l. l.intersection) o) (and_per (on_per (λ l. l.left) o) (on_per (λ l. l.right) o)))

  borders_per : IsPartialEquivalence (same_borders E)
  borders_per =
      let o = option_per p in
      and_per (on_per (λ b. b.top) o) (and_per (on_per (λ b. b.bottom) o) (and_per (on_per (λ b. b.left) o) (and_per (on_per (λ b. b.right) o)
      (and_per (on_per (λ b. b.top_left) o) (and_per (on_per (λ b. b.top_right) o) (and_per (on_per (λ b. b.bottom_left) o) (and_per (on_per (λ b. b.bottom_right) o)
      (and_per (on_per (λ b. b.top_intersection) o) (and_per (on_per (λ b. b.bottom_intersection) o)
      (and_per (on_per (λ b. b.left_intersection) o) (and_per (on_per (λ b. b.right_intersection) o)
      (and_per (on_per (λ b. b.horizontal) o) (and_per (on_per (λ b. b.vertical) o) (on_per (λ b. b.intersection) o))))))))))))))

  -- two stores
  pub state_per : IsPartialEquivalence (same_state E)
  unfolding same_below same_lines same_cells same_state
  state_per =
      let offsets : IsPartialEquivalence (same_map {R = edge_place_cmp} E) = map_per p edge_places_total in
      and_per (and_per
      (and_per (on_per (λ k. k.default_value) (option_per p)) (on_per (λ k. k.class_record) borders_per))
      (and_per (on_per (λ k. k.vertical_lines) (map_per vertical_per nat_cmp_total)) (on_per (λ k. k.horizontal_lines) (map_per horizontal_per nat_cmp_total))))
      (and_per (and_per (on_per (λ k. k.cells) (map_per p spots_total)) (on_per (λ k. k.horizontal_offsets) offsets)) (on_per (λ k. k.vertical_offsets) offsets))

module _ {T : Type 0} {E : T → T → Bool} (e : IsEquivalence E) where
  vertical_itself : (l : VerticalLine T) → same_vertical E l l ≡ true
  vertical_itself l = let o = options_equiv e in λ i. o.refl l.main i && (o.refl l.intersection i && (o.refl l.top i && o.refl l.bottom i))

  horizontal_itself : (l : HorizontalLine T) → same_horizontal E l l ≡ true
  horizontal_itself l = let o = options_equiv e in λ i. o.refl l.main i && (o.refl l.intersection i && (o.refl l.left i && o.refl l.right i))

  borders_itself : (b : Borders T) → same_borders E b b ≡ true
  borders_itself b =
      let o = options_equiv e in
      λ i. o.refl b.top i && (o.refl b.bottom i && (o.refl b.left i && (o.refl b.right i
      && (o.refl b.top_left i && (o.refl b.top_right i && (o.refl b.bottom_left i && (o.refl b.bottom_right i
      && (o.refl b.top_intersection i && (o.refl b.bottom_intersection i && (o.refl b.left_intersection i && (o.refl b.right_intersection i
      && (o.refl b.horizontal i && (o.refl b.vertical i && o.refl b.intersection i)))))))))))))

map_itself : {K X : Type 0} {R : K → K → Ordering} → IsTotalOrder R → (E : X → X → Bool) → ((x : X) → E x x ≡ true) → (m : FinMap R X) → same_map E m m ≡ true
map_itself {K = K} {X = X} {R = R} o E itself m = all_themselves (entries m)
  where
    all_themselves : (es : List (K × X)) → pointwise (λ a b. eq_by_cmp R a.0 b.0 && E a.1 b.1) es es ≡ true
    all_themselves [] = refl
    all_themselves (x ∷ xs) = λ i. ((eq_by_cmp_equiv o).refl x.0 i && itself x.1 i) && all_themselves xs i

pub state_equiv : {T : Type 0} {E : T → T → Bool} → IsEquivalence E → IsEquivalence (same_state E)
unfolding same_below same_lines same_cells same_state
state_equiv {E = E} e =
    equiv (state_per (partial_equiv_from_equiv e)) (λ k i.
    ((options_equiv e).refl k.default_value i && borders_itself e k.class_record i)
    && (map_itself nat_cmp_total (same_vertical E) (vertical_itself e) k.vertical_lines i && map_itself nat_cmp_total (same_horizontal E) (horizontal_itself e) k.horizontal_lines i)
    && (map_itself spots_total E e.refl k.cells i && map_itself edge_places_total E e.refl k.horizontal_offsets i && map_itself edge_places_total E e.refl k.vertical_offsets i))
