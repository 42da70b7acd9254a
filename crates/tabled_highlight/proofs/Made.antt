-- The writes around the cells of a set make the change that the outline makes.
use Rattle.std.proofs.Common.{◌≡◌, ℕ, ◌+◌, ◌^◌, ◌<◌, true, nat_lt, Option, Some, None, option_map, List, [], ◌++◌, refl, sym, ap, subst, ◌∙◌, arith}
use Rattle.std.proofs.lemmas.Bool.Decides.{nat_tests}
use Rattle.std.proofs.lemmas.Bool.{and_parts}
use Rattle.tabled_border.specs.declared.border.Border.{Border}
use Rattle.tabled_border.specs.Texts.{Texts}
use Rattle.tabled_object.specs.declared.entity.Entity.{Entity}
use Rattle.tabled_object.specs.declared.position.Position.{Position}
use Rattle.tabled_object.specs.Entities.{is_inside}
use Rattle.tabled_object.specs.Listing.{covered, listed}
use Rattle.tabled_places.specs.declared.site.Site.{Site}
use Rattle.tabled_places.specs.declared.event.Written.{Written}
use Rattle.tabled_places.specs.declared.writes.Write.{Write}
use Rattle.tabled_places.specs.Event as grid
use Rattle.tabled_places.specs.State.{state_at}
use Rattle.tabled_places.specs.Writes.{writes_made}
use Rattle.tabled_places.proofs.Leaving.{on_spots, same_change}
use Rattle.tabled_layout.specs.TableSettings.{settings_after}
use Rattle.tabled_configuration.specs.Configuration.{Configuration, Changes, of_characters, of_colors, setting_event, cell_colors_of, by_characters, by_colors, writes_applied}
use Rattle.tabled_configuration.proofs.ConfigurationLemmas.{passed_over, both_passed_over, characters_of-both, colors_of-both, Changes_by_both}
use Rattle.tabled_changes.proofs.ColoredLemmas.{none_by_both}
use Rattle.tabled_color.specs.Shade.{Shade}
use Rattle.tabled_color.specs.BorderColors.{border_texts}
use Rattle.tabled_highlight.specs.Outline.{Outlining, CellSet, outline_value, outline}
use Rattle.tabled_highlight.specs.Around.{has, written_around_each, written_around}
use Rattle.tabled_highlight.specs.Highlighting.{drawn_with, outline_if, highlight_events}
use Rattle.tabled_highlight.proofs.Walk.{Fits, walk_leaves}
use Rattle.tabled_highlight.proofs.Spots.{outline_leaves}

-- cells that are listed lie inside
pub listed_inside : (entities : List Entity) (rows cols : ℕ) (pos : Position) → listed entities rows cols pos ≡ true → is_inside rows cols pos ≡ true
listed_inside entities rows cols pos h = (and_parts (is_inside rows cols pos) (covered entities pos) h).0

inside_fits : (rows cols : ℕ) (pos : Position) → rows < 2 ^ 64 → cols < 2 ^ 64 → is_inside rows cols pos ≡ true → Fits pos
inside_fits rows cols pos row_bound col_bound h =
    let bits = and_parts (nat_lt pos.row rows) (nat_lt pos.col cols) h in
    record { row_fits = after pos.row rows row_bound bits.0; col_fits = after pos.col cols col_bound bits.1 }
  where
    after : (n m : ℕ) → m < 2 ^ 64 → nat_lt n m ≡ true → n + 1 < 2 ^ 64
    after n m bound less = grind (arith, nat_tests)

set_inside : (rows cols : ℕ) (list : List Position) (cells : CellSet) → ((pos : Position) → has list pos ≡ cells pos) → ((pos : Position) → cells pos ≡ true → is_inside rows cols pos ≡ true) → (pos : Position) → has list pos ≡ true → is_inside rows cols pos ≡ true
set_inside rows cols list cells same inside pos h = inside pos (sym (same pos) ∙ h)

module _ {T : Type 0} (rows cols : ℕ) (row_bound : rows < 2 ^ 64) (col_bound : cols < 2 ^ 64) (list : List Position) (cells : CellSet) (same : (pos : Position) → has list pos ≡ cells pos)
    (inside : (pos : Position) → cells pos ≡ true → is_inside rows cols pos ≡ true) where
  each_makes : (given : Outlining T) (old new : Site → Option (Written T)) → grid.Changes (written_around_each given (has list) list) old new → grid.Changes (outline (rows, cols) cells given) old new
  each_makes given old new changes =
      subst (λ (set : CellSet). grid.Changes (outline (rows, cols) set given) old new) (λ i. λ pos. same pos i)
      (same_change (on_spots (outline_value (has list) given)) (written_around_each given (has list) list) (outline (rows, cols) (has list) given) old new
      (walk_leaves given list (λ pos h. inside_fits rows cols pos row_bound col_bound (set_inside rows cols list cells same inside pos h)))
      (outline_leaves rows cols (has list) given (set_inside rows cols list cells same inside)) changes)

  pub makes_outline : (given : Option (Outlining T)) (old new : Site → Option (Written T)) → grid.Changes (written_around list given) old new → grid.Changes (outline_if (rows, cols) cells given) old new
  makes_outline None old new changes = changes
  makes_outline (Some given) old new changes = each_makes given old new changes

-- characters and colors
pub outline_made : (shape : ℕ × ℕ) (entities : List Entity) (list : List Position) (border : Option (Border ℕ)) (diagonal : Option ℕ) (color : Option (Border Shade)) (characters : List (Write ℕ)) (colors : List (Write Texts)) (old new : Configuration)
    → shape.0 < 2 ^ 64 → shape.1 < 2 ^ 64 → ((pos : Position) → has list pos ≡ listed entities shape.0 shape.1 pos)
    → writes_made characters ≡ written_around list (drawn_with border diagonal) → writes_made colors ≡ written_around list (drawn_with (option_map border_texts color) None)
    → Changes (writes_applied characters colors) old new → Changes (highlight_events shape entities border diagonal color) old new
unfolding highlight_events writes_applied
outline_made (rows, cols) entities list border diagonal color characters colors old new row_bound col_bound same made colored changes =
    let cells : CellSet = listed entities rows cols in
    let of_border : grid.Changes (written_around list (drawn_with border diagonal)) (state_at old.characters) (state_at new.characters) =
    subst (λ es. grid.Changes es (state_at old.characters) (state_at new.characters)) (characters_of-both (writes_made characters) (writes_made colors) ∙ made) changes.characters_changed in
    let of_color : grid.Changes (written_around list (drawn_with (option_map border_texts color) None)) (state_at old.colors) (state_at new.colors) =
    subst (λ es. grid.Changes es (state_at old.colors) (state_at new.colors)) (colors_of-both (writes_made characters) (writes_made colors) ∙ colored) changes.colors_changed in
    let no_settings = both_passed_over setting_event (by_characters (writes_made characters)) (by_colors (writes_made colors)) (passed_over of_characters setting_event (λ e. refl) (writes_made characters)) (passed_over of_colors setting_event (λ e. refl) (writes_made colors)) in
    Changes_by_both (outline_if (rows, cols) cells (drawn_with border diagonal)) (outline_if (rows, cols) cells (drawn_with (option_map border_texts color) None)) old new
    (makes_outline rows cols row_bound col_bound list cells same (listed_inside entities rows cols) (drawn_with border diagonal) (state_at old.characters) (state_at new.characters) of_border)
    (makes_outline rows cols row_bound col_bound list cells same (listed_inside entities rows cols) (drawn_with (option_map border_texts color) None) (state_at old.colors) (state_at new.colors) of_color)
    (changes.settings_changed ∙ ap (settings_after old.settings) no_settings)

-- listings that cover the same cells make the same events
pub same_events : (these those : List Entity) (rows cols : ℕ) (border : Option (Border ℕ)) (diagonal : Option ℕ) (color : Option (Border Shade)) → ((pos : Position) → listed these rows cols pos ≡ listed those rows cols pos)
    → highlight_events (rows, cols) these border diagonal color ≡ highlight_events (rows, cols) those border diagonal color
unfolding highlight_events
same_events these those rows cols border diagonal color same =
    λ i. by_characters (outline_if (rows, cols) (λ pos. same pos i) (drawn_with border diagonal)) ++ by_colors (outline_if (rows, cols) (λ pos. same pos i) (drawn_with (option_map border_texts color) None))

-- none of them is one of the colors of cells
pub none_in_outline : (rows cols : ℕ) (entities : List Entity) (border : Option (Border ℕ)) (diagonal : Option ℕ) (color : Option (Border Shade)) → cell_colors_of (highlight_events (rows, cols) entities border diagonal color) ≡ []
unfolding highlight_events
none_in_outline rows cols entities border diagonal color =
    none_by_both (outline_if (rows, cols) (listed entities rows cols) (drawn_with border diagonal)) (outline_if (rows, cols) (listed entities rows cols) (drawn_with (option_map border_texts color) None))
