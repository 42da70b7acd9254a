-- What stands when crossings were written, and that each step of the correction reads it.
use Rattle.std.proofs.Common.{◌≡◌, ◌==◌, ◌||◌, ◌&&◌, ◌+◌, ℕ, Bool, true, false, cond, Option, Some, None, is_some, List, [], ◌∷◌, ◌++◌, map, refl, sym, ap, subst, ◌∙◌, filter, option_map, option_and_then, ◌-◌, min, nat_lt, if◌then◌else◌}
use Rattle.std.specs.List.{last_or, flat_map}
use Rattle.std.specs.Option.{option_or}
use Rattle.std.specs.FinMap.{entries}
use Rattle.std.proofs.lemmas.Bool.{eqb-true, and_parts}
use Rattle.std.proofs.lemmas.List.{map-append}
use Rattle.std.proofs.lemmas.List.Elements.{filter-append}
use Rattle.tabled_object.specs.declared.position.Position.{Position}
use Rattle.tabled_object.specs.Entities.{position, below}
use Rattle.tabled_places.specs.declared.place.LineOf.{LineOf}
use Rattle.tabled_places.specs.declared.place.Place.{Place}
use Rattle.tabled_places.specs.declared.site.Direction.TheVariants.{Horizontal, Vertical}
use Rattle.tabled_places.specs.declared.site.Part.TheVariants.{Edges as main_edges, Crossings as meeting}
use Rattle.tabled_places.specs.declared.site.Spot.TheVariants.{Edge, Crossing}
use Rattle.tabled_places.specs.declared.site.Site.{Site}
use Rattle.tabled_places.specs.declared.site.Site.TheVariants.{Default as the_default, Class as of_class, Line as of_line, Cell as at_spot, Offset as at_offset}
use Rattle.tabled_places.specs.Site.{rank, same_site}
use Rattle.tabled_places.specs.declared.event.Event.{Event}
use Rattle.tabled_places.specs.declared.event.Written.{Written}
use Rattle.tabled_places.specs.declared.event.Written.TheVariants.{Sign as sign}
use Rattle.tabled_places.specs.Event.{covers, covered, left_by, replay}
use Rattle.tabled_places.specs.Event as grid
use Rattle.tabled_places.specs.State.{state_at}
use Rattle.tabled_places.specs.Value.{has_spot, class_at, plain_sites, sign_or, first_sign, plain_value}
use Rattle.tabled_places.proofs.Replay.{replay-append}
use Rattle.tabled_places.proofs.PuttingBack.{same_state}
use Rattle.tabled_layout.specs.Spans.{SpanEvent, same_position}
use Rattle.tabled_layout.specs.TableSettings.{settings_after}
use Rattle.tabled_configuration.specs.Configuration.{Configuration, Changes, of_characters, setting_event, by_characters}
use Rattle.tabled_configuration.proofs.ConfigurationLemmas.{passed_over, characters_of-by_characters}
use Rattle.tabled_correction.specs.Correction.{Write, last_at, written_over, Spanned, written_at, where_so, column_step, column_span_step, at_edge, border_crossing, left_above, left_below, top_at_left, top_at_right, row_step, row_span_step, columns_corrected, rows_corrected, inner_corrected, after_writes, spanned, crossing_written, crossings_written, correction_events}

-- ---- the sites of written crossings

abbrev pub own : ℕ → ℕ → Write → Bool
own r c entry = same_position (position r c) entry.0

last_written : (r c : ℕ) (before : Option Write) (writes : List Write) → last_or (option_map crossing_written before) (filter (covers (at_spot (Crossing r c))) (map crossing_written writes)) ≡ option_map crossing_written (last_or before (filter (own r c) writes))
last_written r c before [] = refl
last_written r c before (entry ∷ writes) =
    elim (own r c entry) as (λ b. last_or (option_map crossing_written before) (cond b (crossing_written entry ∷ filter (covers (at_spot (Crossing r c))) (map crossing_written writes)) (filter (covers (at_spot (Crossing r c))) (map crossing_written writes)))
    ≡ option_map crossing_written (last_or before (cond b (entry ∷ filter (own r c) writes) (filter (own r c) writes)))) [
      | true ↦ last_written r c (Some entry) writes
      | false ↦ last_written r c before writes
    ]

-- what the writes leave at a crossing
left_at : (r c : ℕ) (writes : List Write) → replay (map crossing_written writes) (at_spot (Crossing r c)) ≡ option_map sign (last_at writes (position r c))
unfolding replay
left_at r c writes = ap (option_and_then left_by) (last_written r c None writes) ∙ by (last_or None (filter (own r c) writes))
  where
    by : (o : Option Write) → option_and_then left_by (option_map crossing_written o) ≡ option_map sign (option_map (λ entry. entry.1) o)
    by None = refl
    by (Some entry) = refl

some_last : {A : Type 0} (x : A) (xs : List A) → is_some (last_or (Some x) xs) ≡ true
some_last x [] = refl
some_last x (y ∷ ys) = some_last y ys

some_mapped : {A B : Type 0} (f : A → B) (o : Option A) → is_some (option_map f o) ≡ is_some o
some_mapped f None = refl
some_mapped f (Some x) = refl

-- the writes cover a crossing where one of them is there
covered_at : (r c : ℕ) (writes : List Write) → covered (map crossing_written writes) (at_spot (Crossing r c)) ≡ is_some (last_at writes (position r c))
covered_at r c [] = refl
covered_at r c (entry ∷ writes) =
    elim (own r c entry) as (λ b. (b || covered (map crossing_written writes) (at_spot (Crossing r c))) ≡ is_some (option_map (λ (e : Write). e.1) (last_or None (cond b (entry ∷ filter (own r c) writes) (filter (own r c) writes))))) [
      | true ↦ sym (some_mapped (λ (e : Write). e.1) (last_or (Some entry) (filter (own r c) writes)) ∙ some_last entry (filter (own r c) writes))
      | false ↦ covered_at r c writes
    ]

-- a site that is no crossing is covered by none
abbrev IsElsewhere : Site → Type 0
IsElsewhere site = (r c : ℕ) → same_site site (at_spot (Crossing r c)) ≡ false

covered_by_none : (site : Site) → IsElsewhere site → (writes : List Write) → covered (map crossing_written writes) site ≡ false
covered_by_none site elsewhere [] = refl
covered_by_none site elsewhere (entry ∷ writes) = λ i. elsewhere entry.0.row entry.0.col i || covered_by_none site elsewhere writes i

-- ---- two states, before and after the writes

module _ (writes : List Write) (old new : Site → Option (Written ℕ)) (changes : grid.Changes (map crossing_written writes) old new) where
  pub kept : (site : Site) → IsElsewhere site → new site ≡ old site
  unfolding grid.Changes
  kept site elsewhere = changes site ∙ ap (λ b. cond b (replay (map crossing_written writes) site) (old site)) (covered_by_none site elsewhere writes)

  pub stands : (r c : ℕ) → new (at_spot (Crossing r c)) ≡ option_or (option_map sign (last_at writes (position r c))) (old (at_spot (Crossing r c)))
  unfolding grid.Changes
  stands r c = changes (at_spot (Crossing r c)) ∙ (λ i. cond (covered_at r c writes i) (left_at r c writes i) (old (at_spot (Crossing r c)))) ∙ by (last_at writes (position r c)) (old (at_spot (Crossing r c)))
    where
      by : (o : Option ℕ) (before : Option (Written ℕ)) → cond (is_some o) (option_map sign o) before ≡ option_or (option_map sign o) before
      by None before = refl
      by (Some x) before = refl

  signs : (o : Option ℕ) (before : Option (Written ℕ)) (beneath : Option ℕ) → sign_or (option_or (option_map sign o) before) beneath ≡ option_or o (sign_or before beneath)
  signs None before beneath = refl
  signs (Some x) before beneath = refl

  pub standing_after : (shape : ℕ × ℕ) (place : Place) → has_spot shape place ≡ true → plain_value new shape place ≡ written_over writes (plain_value old shape) place
  unfolding plain_value
  standing_after (rows, cols) (Place.Horizontal r c k) there = λ i. cond (has_spot (rows, cols) (Place.Horizontal r c k))
      (sign_or (kept (at_spot (Edge Horizontal r c)) (λ s d. refl) i)
      (sign_or (kept (of_line (LineOf.Horizontal r) main_edges) (λ s d. refl) i)
      (sign_or (kept (of_class (class_at (rows, cols) (Place.Horizontal r c k))) (λ s d. refl) i)
      (sign_or (kept the_default (λ s d. refl) i) None)))) None
  standing_after (rows, cols) (Place.Vertical r c k) there = λ i. cond (has_spot (rows, cols) (Place.Vertical r c k))
      (sign_or (kept (at_spot (Edge Vertical r c)) (λ s d. refl) i)
      (sign_or (kept (of_line (LineOf.Vertical c) main_edges) (λ s d. refl) i)
      (sign_or (kept (of_class (class_at (rows, cols) (Place.Vertical r c k))) (λ s d. refl) i)
      (sign_or (kept the_default (λ s d. refl) i) None)))) None
  standing_after (rows, cols) (Place.Cross r c) there =
      ap (λ b. cond b (first_sign new (plain_sites (rows, cols) (Place.Cross r c))) None) there
      ∙ (λ i. sign_or (stands r c i)
      (sign_or (kept (of_line (LineOf.Horizontal r) (meeting (rank cols c))) (λ s d. refl) i)
      (sign_or (kept (of_line (LineOf.Vertical c) (meeting (rank rows r))) (λ s d. refl) i)
      (sign_or (kept (of_class (class_at (rows, cols) (Place.Cross r c))) (λ s d. refl) i)
      (sign_or (kept the_default (λ s d. refl) i) None)))))
      ∙ signs (last_at writes (position r c)) (old (at_spot (Crossing r c)))
      (sign_or (old (of_line (LineOf.Horizontal r) (meeting (rank cols c))))
      (sign_or (old (of_line (LineOf.Vertical c) (meeting (rank rows r))))
      (sign_or (old (of_class (class_at (rows, cols) (Place.Cross r c))))
      (sign_or (old the_default) None))))
      ∙ sym (ap (λ b. option_or (last_at writes (position r c)) (cond b (first_sign old (plain_sites (rows, cols) (Place.Cross r c))) None)) there)

-- the same of what lists of events leave
pub replayed_after : (events : List (Event ℕ)) (writes : List Write) (shape : ℕ × ℕ) (place : Place) → has_spot shape place ≡ true → plain_value (replay (events ++ map crossing_written writes)) shape place ≡ written_over writes (plain_value (replay events) shape) place
unfolding grid.Changes
replayed_after events writes shape place there = standing_after writes (replay events) (replay (events ++ map crossing_written writes)) (λ site. replay-append site events (map crossing_written writes)) shape place there

-- ---- crossings outside the table are not written

abbrev pub IsMissing : ℕ → ℕ → List Write → Type 0
IsMissing r c writes = filter (λ entry. same_position (position r c) entry.0) writes ≡ []

missing_both : (r c : ℕ) (xs ys : List Write) → IsMissing r c xs → IsMissing r c ys → IsMissing r c (xs ++ ys)
missing_both r c xs ys no_x no_y = filter-append (own r c) xs ys ∙ (λ i. no_x i ++ no_y i)

pub missing_all : {A : Type 0} (r c : ℕ) (f : A → List Write) (xs : List A) → ((x : A) → IsMissing r c (f x)) → IsMissing r c (flat_map f xs)
missing_all r c f [] none = refl
missing_all r c f (x ∷ xs) none = missing_both r c (f x) (flat_map f xs) (none x) (missing_all r c f xs none)

pub missing_where : (r c : ℕ) (holds : Bool) (writes : List Write) → (holds ≡ true → IsMissing r c writes) → IsMissing r c (where_so holds writes)
missing_where r c true writes none = none refl
missing_where r c false writes none = refl

pub missing_at : (r c row col : ℕ) (o : Option ℕ) → own r c (position row col, 0) ≡ false → IsMissing r c (written_at row col o)
missing_at r c row col None apart = refl
missing_at r c row col (Some x) apart = ap (λ b. cond b ((position row col, x) ∷ []) []) apart

pub missing_last : (r c : ℕ) (writes : List Write) → IsMissing r c writes → last_at writes (position r c) ≡ None
missing_last r c writes none = ap (λ mine. option_map (λ (e : Write). e.1) (last_or None mine)) none

module _ (table : Spanned) (r c : ℕ) (nothing : table.shown (Place.Cross r c) ≡ None) where
  -- where something is shown is another crossing
  another : (row col : ℕ) → is_some (table.shown (Place.Cross row col)) ≡ true → own r c (position row col, 0) ≡ false
  another row col shows = by (own r c (position row col, 0)) refl
    where
      by : (b : Bool) → own r c (position row col, 0) ≡ b → b ≡ false
      by false same = refl
      by true same =
          let parts = and_parts (r == row) (c == col) same in
          let none : is_some {T = ℕ} None ≡ true = subst (λ o. is_some o ≡ true) ((λ i. table.shown (Place.Cross (sym (eqb-true r row parts.0) i) (sym (eqb-true c col parts.1) i))) ∙ nothing) shows in
          absurd cc

  none_at_edge : (row col : ℕ) (becomes : Option ℕ) → IsMissing r c (at_edge table row col becomes)
  unfolding at_edge
  none_at_edge row col becomes = missing_where r c (crossing row col && edge row col) (written_at row col becomes) (λ holds.
      missing_at r c row col becomes (another row col (and_parts (crossing row col) (edge row col) holds).0))
    where
      crossing : ℕ → ℕ → Bool
      crossing row col = is_some (table.shown (Place.Cross row col))

      edge : ℕ → ℕ → Bool
      edge row col = is_some (table.shown (Place.Horizontal row col 0))

  above : Bool → Position → Option ℕ
  above is_first cell = border_crossing (left_above table cell) is_first table.class.intersection table.class.bottom_intersection table.class.top_intersection (table.shown (Place.Horizontal cell.row cell.col 0))

  beneath : Bool → Position → Option ℕ
  beneath is_first cell = border_crossing (left_below table cell) is_first table.class.intersection table.class.top_intersection table.class.bottom_intersection (table.shown (Place.Horizontal (cell.row + 1) cell.col 0))

  none_by_column : (is_first : Bool) (cell : Position) → IsMissing r c (column_step table is_first cell)
  unfolding column_step above beneath
  none_by_column is_first cell =
      missing_where r c (nat_lt 0 cell.col) (at_edge table cell.row cell.col (above is_first cell) ++ at_edge table (cell.row + 1) cell.col (beneath is_first cell)) (λ holds.
      missing_both r c (at_edge table cell.row cell.col (above is_first cell)) (at_edge table (cell.row + 1) cell.col (beneath is_first cell))
      (none_at_edge cell.row cell.col (above is_first cell)) (none_at_edge (cell.row + 1) cell.col (beneath is_first cell)))

  none_by_column_span : (span : SpanEvent) → IsMissing r c (column_span_step table span)
  unfolding column_span_step
  none_by_column_span (cell, count) =
      let columns : ℕ → List Write = λ k. column_step table (k == 0) (position cell.row (cell.col + k)) in
      let inside : List ℕ = below (min count (table.shape.1 - cell.col)) in
      missing_where r c (nat_lt cell.row table.shape.0) (flat_map columns inside) (λ holds.
      missing_all r c columns inside (λ k. none_by_column (k == 0) (position cell.row (cell.col + k))))

  pub none_by_columns : IsMissing r c (columns_corrected table)
  none_by_columns = missing_all r c (column_span_step table) (entries table.columns) none_by_column_span

  none_by_row : (cell : Position) → IsMissing r c (row_step table cell)
  unfolding row_step
  none_by_row cell =
      let at_left : Option ℕ = if top_at_left table cell then table.class.right_intersection else table.class.vertical in
      let at_right : Option ℕ = if top_at_right table cell then table.class.left_intersection else table.class.vertical in
      let left : Bool = is_some (table.shown (Place.Cross cell.row cell.col)) in
      let right : Bool = is_some (table.shown (Place.Cross cell.row (cell.col + 1))) in
      missing_both r c (where_so left (written_at cell.row cell.col at_left)) (where_so right (written_at cell.row (cell.col + 1) at_right))
      (missing_where r c left (written_at cell.row cell.col at_left) (λ holds. missing_at r c cell.row cell.col at_left (another cell.row cell.col holds)))
      (missing_where r c right (written_at cell.row (cell.col + 1) at_right) (λ holds. missing_at r c cell.row (cell.col + 1) at_right (another cell.row (cell.col + 1) holds)))

  none_by_row_span : (span : SpanEvent) → IsMissing r c (row_span_step table span)
  unfolding row_span_step
  none_by_row_span (cell, count) =
      let rows : ℕ → List Write = λ k. row_step table (position (cell.row + 1 + k) cell.col) in
      let inside : List ℕ = below (min (count - 1) (table.shape.0 - (cell.row + 1))) in
      missing_where r c (nat_lt cell.col table.shape.1) (flat_map rows inside) (λ holds.
      missing_all r c rows inside (λ k. none_by_row (position (cell.row + 1 + k) cell.col)))

  pub none_by_rows : IsMissing r c (rows_corrected table)
  none_by_rows = missing_all r c (row_span_step table) (entries table.rows) none_by_row_span

-- ---- the table of a step is that of the configuration

pub outside : (state : Site → Option (Written ℕ)) (shape : ℕ × ℕ) (place : Place) → has_spot shape place ≡ false → plain_value state shape place ≡ None
unfolding plain_value
outside state shape place not_there = ap (λ b. cond b (first_sign state (plain_sites shape place)) None) not_there

module _ (shape : ℕ × ℕ) (writes : List Write) (old new : Configuration) (changes : Changes (crossings_written writes) old new)
    (none : (r c : ℕ) → has_spot shape (Place.Cross r c) ≡ false → IsMissing r c writes) where
  pub at_sites : grid.Changes (map crossing_written writes) (state_at old.characters) (state_at new.characters)
  at_sites = subst (λ es. grid.Changes es (state_at old.characters) (state_at new.characters)) (characters_of-by_characters (map crossing_written writes)) changes.characters_changed

  same_settings : new.settings ≡ old.settings
  same_settings = changes.settings_changed ∙ ap (settings_after old.settings) (passed_over of_characters setting_event (λ e. refl) (map crossing_written writes))

  -- but for the cells the store is as it was
  same_but_cells : new.characters ≡ record old.characters { cells = new.characters.cells }
  same_but_cells = same_state new.characters (record old.characters { cells = new.characters.cells }) by
    where
      by : (site : Site) → state_at new.characters site ≡ state_at (record old.characters { cells = new.characters.cells }) site
      by the_default = kept writes (state_at old.characters) (state_at new.characters) at_sites the_default (λ s d. refl)
      by (of_class class) = kept writes (state_at old.characters) (state_at new.characters) at_sites (of_class class) (λ s d. refl)
      by (of_line (LineOf.Horizontal n) part) = kept writes (state_at old.characters) (state_at new.characters) at_sites (of_line (LineOf.Horizontal n) part) (λ s d. refl)
      by (of_line (LineOf.Vertical n) part) = kept writes (state_at old.characters) (state_at new.characters) at_sites (of_line (LineOf.Vertical n) part) (λ s d. refl)
      by (at_spot spot) = refl
      by (at_offset Horizontal r c offset) = kept writes (state_at old.characters) (state_at new.characters) at_sites (at_offset Horizontal r c offset) (λ s d. refl)
      by (at_offset Vertical r c offset) = kept writes (state_at old.characters) (state_at new.characters) at_sites (at_offset Vertical r c offset) (λ s d. refl)

  same_shown : (place : Place) (there : Bool) → has_spot shape place ≡ there → written_over writes (plain_value (state_at old.characters) shape) place ≡ plain_value (state_at new.characters) shape place
  same_shown place true there = sym (standing_after writes (state_at old.characters) (state_at new.characters) at_sites shape place there)
  same_shown (Place.Horizontal r c k) false there = outside (state_at old.characters) shape (Place.Horizontal r c k) there ∙ sym (outside (state_at new.characters) shape (Place.Horizontal r c k) there)
  same_shown (Place.Vertical r c k) false there = outside (state_at old.characters) shape (Place.Vertical r c k) there ∙ sym (outside (state_at new.characters) shape (Place.Vertical r c k) there)
  same_shown (Place.Cross r c) false there =
      let before = outside (state_at old.characters) shape (Place.Cross r c) there in
      (λ i. option_or (missing_last r c writes (none r c there) i) (before i)) ∙ sym (outside (state_at new.characters) shape (Place.Cross r c) there)

  pub table_after : after_writes (spanned shape old) writes ≡ spanned shape new
  table_after = λ i. record {
    shape = shape;
    columns = (sym same_settings i).column_spans;
    rows = (sym same_settings i).row_spans;
    class = (sym same_but_cells i).class_record;
    shown = λ place. same_shown place (has_spot shape place) refl i;
  }

written_both : (xs ys : List Write) → crossings_written (xs ++ ys) ≡ crossings_written xs ++ crossings_written ys
written_both xs ys = ap by_characters (map-append crossing_written xs ys) ∙ map-append of_characters (map crossing_written xs) (map crossing_written ys)

pub three_changes : (shape : ℕ × ℕ) (old between after : Configuration) → Changes (crossings_written (columns_corrected (spanned shape old))) old between → Changes (crossings_written (rows_corrected (spanned shape between))) between after
    → correction_events shape old ≡ crossings_written (columns_corrected (spanned shape old)) ++ (crossings_written (rows_corrected (spanned shape between)) ++ crossings_written (inner_corrected (spanned shape after)))
unfolding correction_events
three_changes shape old between after by_columns by_rows =
    let first : Spanned = spanned shape old in
    let columns : List Write = columns_corrected first in
    let second : after_writes first columns ≡ spanned shape between = table_after shape columns old between by_columns (λ r c there. none_by_columns first r c (outside (state_at old.characters) shape (Place.Cross r c) there)) in
    let rows : List Write = rows_corrected (spanned shape between) in
    let third : after_writes (spanned shape between) rows ≡ spanned shape after = table_after shape rows between after by_rows (λ r c there. none_by_rows (spanned shape between) r c (outside (state_at between.characters) shape (Place.Cross r c) there)) in
    (λ i. crossings_written (columns ++ (rows_corrected (second i) ++ inner_corrected (after_writes (second i) (rows_corrected (second i))))))
    ∙ (λ i. crossings_written (columns ++ (rows ++ inner_corrected (third i))))
    ∙ written_both columns (rows ++ inner_corrected (spanned shape after))
    ∙ ap (λ rest. crossings_written columns ++ rest) (written_both rows (inner_corrected (spanned shape after)))
