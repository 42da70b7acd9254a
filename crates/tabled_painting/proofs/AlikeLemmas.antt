-- Horizontal lines that look alike, since nothing is kept for one of them alone.
use Rattle.std.proofs.Common.{◌≡◌, ℕ, ◌≤◌, ◌<◌, Bool, true, false, ◌&&◌, ◌||◌, is_some, nat_le, nat_lt, if◌then◌else◌, Option, Some, None, option_map, option_and_then, List, [], ◌∷◌, ◌++◌, map, refl, sym, ap, subst, unwrap_or, ◌∙◌, arith}
use Rattle.std.specs.Prelude.{slice_index}
use Rattle.std.specs.List.{flat_map}
use Rattle.std.specs.FinMap.{get}
use Rattle.std.proofs.lemmas.Bool.{le-leb}
use Rattle.std.proofs.lemmas.List.{map-append}
use Rattle.std.proofs.lemmas.Simd.{map-map}
use Rattle.tabled_places.specs.declared.place.Place.{Place}
use Rattle.tabled_places.specs.declared.place.LineOf.{LineOf}
use Rattle.tabled_places.specs.declared.event.Written.TheVariants.{Sign as sign}
use Rattle.tabled_places.specs.declared.site.Direction.TheVariants.{Horizontal}
use Rattle.tabled_places.specs.declared.site.Spot.TheVariants.{Edge, Crossing}
use Rattle.tabled_places.specs.declared.site.Class.{Class}
use Rattle.tabled_places.specs.declared.site.Class.TheVariants.{Edges as edges, Crossings as crossings}
use Rattle.tabled_places.specs.declared.site.Part.TheVariants.{Edges as main_edges, Crossings as meeting}
use Rattle.tabled_places.specs.declared.site.Site.TheVariants.{Default as the_default, Class as of_class}
use Rattle.tabled_places.specs.Site.{rank}
use Rattle.tabled_places.specs.Value.{sign_or, plain_value}
use Rattle.tabled_places.specs.State.{State, state_at, horizontal_part, vertical_part, HasNoCellsOn}
use Rattle.tabled_object.specs.declared.dimension.FixedDimension.{FixedDimension}
use Rattle.tabled_object.specs.Entities.{below}
use Rattle.tabled_configuration.specs.Configuration.{Configuration, all_writes}
use Rattle.tabled_printing.specs.declared.frame.Frame.{Frame}
use Rattle.tabled_printing.specs.Along.{is_empty}
use Rattle.tabled_printing.specs.Alike.{IsBareLine}
use Rattle.tabled_printing.specs.LinePieces.{edge_of, crossing_places, edge_places, piece_places, places_before, all_places}
use Rattle.tabled_printing.specs.Beside.{plain_mark}
use Rattle.tabled_printing.specs.Picture.{Look, look, mark_at, marks_along}
use Rattle.tabled_printing.specs.Viewed.{with_colors_if}
use Rattle.tabled_printing.proofs.AlikeLemmas.{between, crossing_shows, edge_shows, if_same, itself}
use Rattle.tabled_printing.proofs.LineLemmas.{along_pieces, horizontal_there, piece_marks}
use Rattle.tabled_printing.proofs.MarkLemmas.{mark_by}
use Rattle.tabled_rooms.proofs.SizeLemmas.{flat_map_same, map_same}
use Rattle.tabled_painting.specs.Between.{IsPlainLine, IsBetweenRows}
use Rattle.tabled_painting.specs.Pages.{line_text}
use Rattle.tabled_painting.specs.PaintedTable.{painted_marks}
use Rattle.tabled_painting.specs.Viewed.{viewed}
use Rattle.tabled_painting.proofs.Plain.{map_flat}

-- a line that is no custom one, neither of characters nor of colors
nothing : {A : Type 0} (o : Option A) → is_some o ≡ false → o ≡ None
nothing None none = refl
nothing (Some x) none = absurd cc

or_false : (a b : Bool) → a || b ≡ false → (a ≡ false) × (b ≡ false)
or_false false false e = (refl, refl)
or_false false true e = absurd cc
or_false true b e = absurd cc

pub plain_line : (cfg : Configuration) (wanted : Bool) (r : ℕ) (custom : Bool) → custom ≡ (is_some (get cfg.characters.horizontal_lines r) || is_some (get cfg.colors.horizontal_lines r)) → custom ≡ false → IsBareLine cfg wanted r → IsPlainLine cfg wanted r
plain_line cfg wanted r custom is not_custom bare =
    let both = or_false (is_some (get cfg.characters.horizontal_lines r)) (is_some (get cfg.colors.horizontal_lines r)) (sym is ∙ not_custom) in
    record { no_characters = nothing (get cfg.characters.horizontal_lines r) both.0; no_colors = nothing (get cfg.colors.horizontal_lines r) both.1; bare = bare }

-- ---- what a store has for a place of two horizontal lines of one rank, where it has nothing for either of them alone

module _ {T : Type 0} (state : State T) (shape : ℕ × ℕ) (r s : ℕ) (in_r : r ≤ shape.0) (in_s : s ≤ shape.0) (ranked : rank shape.0 r ≡ rank shape.0 s) (cells_r : HasNoCellsOn (LineOf.Horizontal r) state) (cells_s : HasNoCellsOn (LineOf.Horizontal s) state)
    (line_r : get state.horizontal_lines r ≡ None) (line_s : get state.horizontal_lines s ≡ None) where
  abbrev by_class : Class → Option T
  by_class class = sign_or (state_at state (of_class class)) (sign_or (state_at state the_default) None)

  within : nat_le r shape.0 ≡ nat_le s shape.0
  within = le-leb r shape.0 in_r ∙ sym (le-leb s shape.0 in_s)

  edges_alike : (c : ℕ) → plain_value (state_at state) shape (Place.Horizontal r c 0) ≡ plain_value (state_at state) shape (Place.Horizontal s c 0)
  unfolding plain_value
  edges_alike c = λ i.
      if nat_lt 0 shape.0 && within i && nat_lt c shape.1 then
      sign_or (option_map sign ((cells_r (Edge Horizontal r c) (itself r) ∙ sym (cells_s (Edge Horizontal s c) (itself s))) i))
      (sign_or (option_and_then (horizontal_part main_edges) ((line_r ∙ sym line_s) i)) (by_class (edges Horizontal (ranked i))))
      else None

  crossings_alike : (c : ℕ) → plain_value (state_at state) shape (Place.Cross r c) ≡ plain_value (state_at state) shape (Place.Cross s c)
  unfolding plain_value
  crossings_alike c = λ i.
      if nat_lt 0 shape.0 && nat_lt 0 shape.1 && within i && nat_le c shape.1 then
      sign_or (option_map sign ((cells_r (Crossing r c) (itself r) ∙ sym (cells_s (Crossing s c) (itself s))) i))
      (sign_or (option_and_then (horizontal_part (meeting (rank shape.1 c))) ((line_r ∙ sym line_s) i))
      (sign_or (option_and_then (vertical_part (meeting (ranked i))) (get state.vertical_lines c)) (by_class (crossings (ranked i) (rank shape.1 c)))))
      else None

-- ---- how a table looks, with colors or without them

module _ (cfg : Configuration) (wanted : Bool) (shape : ℕ × ℕ) (widths heights : ℕ → ℕ) where
  abbrev view : Look
  view = with_colors_if wanted (look (all_writes cfg) shape widths heights)

  -- each place of an edge of such a line shows what is kept for the edge
  edge_kept : (r c k : ℕ) → IsPlainLine cfg wanted r → k < widths c → plain_mark cfg wanted shape (Place.Horizontal r c 0) ≡ mark_at view (Place.Horizontal r c k)
  edge_kept r c k plain inside =
      edge_shows cfg wanted shape widths heights (LineOf.Horizontal r) c k (plain.bare.offsets.characters c) (λ yes. plain.bare.offsets.colors yes c) inside

  -- two horizontal lines of one rank
  module _ (r s : ℕ) (in_r : r ≤ shape.0) (in_s : s ≤ shape.0) (ranked : rank shape.0 r ≡ rank shape.0 s) (plain_r : IsPlainLine cfg wanted r) (plain_s : IsPlainLine cfg wanted s) where
    edge_mark : (c k : ℕ) → k < widths c → mark_at view (Place.Horizontal r c k) ≡ mark_at view (Place.Horizontal s c k)
    edge_mark c k inside =
        sym (edge_kept r c k plain_r inside)
        ∙ mark_by _ _ _ _
        (edges_alike cfg.characters shape r s in_r in_s ranked plain_r.bare.cells.characters plain_s.bare.cells.characters plain_r.no_characters plain_s.no_characters c)
        (if_same wanted _ _ (λ yes. edges_alike cfg.colors shape r s in_r in_s ranked (plain_r.bare.cells.colors yes) (plain_s.bare.cells.colors yes) plain_r.no_colors plain_s.no_colors c))
        ∙ edge_kept s c k plain_s inside

    crossing_mark : (c : ℕ) → mark_at view (Place.Cross r c) ≡ mark_at view (Place.Cross s c)
    crossing_mark c =
        sym (crossing_shows cfg wanted shape widths heights (LineOf.Horizontal r) c)
        ∙ mark_by _ _ _ _
        (crossings_alike cfg.characters shape r s in_r in_s ranked plain_r.bare.cells.characters plain_s.bare.cells.characters plain_r.no_characters plain_s.no_characters c)
        (if_same wanted _ _ (λ yes. crossings_alike cfg.colors shape r s in_r in_s ranked (plain_r.bare.cells.colors yes) (plain_s.bare.cells.colors yes) plain_r.no_colors plain_s.no_colors c))
        ∙ crossing_shows cfg wanted shape widths heights (LineOf.Horizontal s) c

    crossing_part : (b : Bool) (c : ℕ) → map (mark_at view) (if b then Place.Cross r c ∷ [] else []) ≡ map (mark_at view) (if b then Place.Cross s c ∷ [] else [])
    crossing_part true c = ap (λ mark. mark ∷ []) (crossing_mark c)
    crossing_part false c = refl

    edge_part : (c : ℕ) → map (mark_at view) (edge_places view (LineOf.Horizontal r) c) ≡ map (mark_at view) (edge_places view (LineOf.Horizontal s) c)
    edge_part c =
        map-map (mark_at view) (edge_of (LineOf.Horizontal r) c) (below (widths c))
        ∙ map_same (λ k. mark_at view (Place.Horizontal r c k)) (λ k. mark_at view (Place.Horizontal s c k)) (widths c) (edge_mark c)
        ∙ sym (map-map (mark_at view) (edge_of (LineOf.Horizontal s) c) (below (widths c)))

    piece_part : (c : ℕ) → map (mark_at view) (piece_places view (LineOf.Horizontal r) c) ≡ map (mark_at view) (piece_places view (LineOf.Horizontal s) c)
    piece_part c = piece_marks view (LineOf.Horizontal r) c ∙ (λ i. crossing_part (view.vertical c) c i ++ edge_part c i) ∙ sym (piece_marks view (LineOf.Horizontal s) c)

    pieces_alike : map (mark_at view) (all_places view (LineOf.Horizontal r)) ≡ map (mark_at view) (all_places view (LineOf.Horizontal s))
    unfolding all_places places_before
    pieces_alike =
        map-append (mark_at view) (flat_map (piece_places view (LineOf.Horizontal r)) (below shape.1)) (crossing_places view (LineOf.Horizontal r) shape.1)
        ∙ (λ i. (map_flat (mark_at view) (piece_places view (LineOf.Horizontal r)) (below shape.1)
        ∙ flat_map_same (λ c. map (mark_at view) (piece_places view (LineOf.Horizontal r) c)) (λ c. map (mark_at view) (piece_places view (LineOf.Horizontal s) c)) shape.1 (λ c within. piece_part c)
        ∙ sym (map_flat (mark_at view) (piece_places view (LineOf.Horizontal s)) (below shape.1))) i ++ crossing_part (view.vertical shape.1) shape.1 i)
        ∙ sym (map-append (mark_at view) (flat_map (piece_places view (LineOf.Horizontal s)) (below shape.1)) (crossing_places view (LineOf.Horizontal s) shape.1))

    pub marks_alike : is_empty shape ≡ false → marks_along view (LineOf.Horizontal r) ≡ marks_along view (LineOf.Horizontal s)
    marks_alike any =
        ap (map (mark_at view)) (along_pieces view (LineOf.Horizontal r) (horizontal_there shape r any in_r))
        ∙ pieces_alike
        ∙ sym (ap (map (mark_at view)) (along_pieces view (LineOf.Horizontal s) (horizontal_there shape s any in_s)))

-- one line between two rows is written as all are
pub all_between : {M : Type 0} (frame : Frame FixedDimension M) (s : ℕ) (text : List ℕ) → 0 < s → s < frame.shape.0 → IsPlainLine frame.cfg.now frame.with_colors s
    → text ≡ line_text frame.with_colors (painted_marks (marks_along (viewed frame) (LineOf.Horizontal s))) → IsBetweenRows frame text
all_between frame s text some within plain_s is r above below plain_r =
    let shape = frame.shape in
    is ∙ ap (λ marks. line_text frame.with_colors (painted_marks marks))
    (marks_alike frame.cfg.now frame.with_colors shape (slice_index frame.dims.now.widths.items) (slice_index frame.dims.now.heights.items) s r (omega arith) (omega arith)
    (between shape.0 s some within ∙ sym (between shape.0 r above below)) plain_s plain_r frame.has_places)

-- what holds of what is there
pub of_that : {A : Type 0} (P : A → Type 0) (x y : A) → Some x ≡ Some y → P x → P y
of_that P x y same = subst P (ap (λ o. unwrap_or o x) same)
