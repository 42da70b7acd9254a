-- What an outline writes: narrow characters alone, and no setting.
use Rattle.std.proofs.Common.{◌≡◌, ℕ, Bool, true, false, if◌then◌else◌, Option, Some, None, option_map, List, [], ◌∷◌, ◌++◌, length, refl, sym, ap, subst, ◌∙◌}
use Rattle.std.specs.Option.{option_or}
use Rattle.std.specs.List.{list_all, filter_map, cons_option}
use Rattle.std.proofs.lemmas.Bool.{and_from}
use Rattle.std.proofs.lemmas.List.Elements.{filter_map-append}
use Rattle.std.proofs.lemmas.List.Folds.{list_all-append}
use Rattle.std.specs.declared.vec.Vec.{Vec}
use Rattle.unicode_width.proofs.Computing.{unicode_width}
use Rattle.tabled_object.specs.declared.entity.Entity.{Entity}
use Rattle.tabled_object.specs.Listing.{listed}
use Rattle.tabled_places.specs.declared.event.Event.{Event}
use Rattle.tabled_places.specs.declared.event.Event.TheVariants.{Write as write}
use Rattle.tabled_places.specs.declared.event.Written.TheVariants.{Sign as sign}
use Rattle.tabled_places.specs.declared.site.Direction.TheVariants.{Horizontal, Vertical}
use Rattle.tabled_places.specs.declared.site.Site.TheVariants.{Cell as at_spot}
use Rattle.tabled_places.specs.declared.site.Spot.{Spot}
use Rattle.tabled_places.specs.declared.site.Spot.TheVariants.{Edge, Crossing}
use Rattle.tabled_configuration.specs.ChangeLaws.{none_change}
use Rattle.tabled_configuration.specs.Colored.{Changes, Colored}
use Rattle.tabled_configuration.specs.Configuration.{ConfigEvent, character_event, characters_of, setting_event, settings_of}
use Rattle.tabled_highlight.specs.Highlighting.{Highlighting, highlight_events}
use Rattle.tabled_highlight.specs.Outline.{CellSet, Outlining, across_value, crossing_value, down_value, every_spot, lower_left, lower_right, outline, outline_value, upper_left, upper_right}
use Rattle.tabled_width.specs.Narrow.{is_narrow}
use Rattle.tabled_printing.specs.Columns.{WritesNarrow, is_narrow_write}
use Rattle.tabled_width.specs.Texts.{Table}
use Rattle.tabled_style.specs.Border.{full_border}
use Rattle.tabled_style.specs.declared.ready_style.ReadyStyle.{ReadyStyle}
use Rattle.tabled_measure.specs.Sizes.{column_count}
use Rattle.tabled_request.specs.declared.request.Request.{Request}
use Rattle.tabled_request.specs.Words.{word_at}
use Rattle.tabled_viewing.specs.Outlines.{draws_boxes, line_of, marked, named, outlined, outlines, touch_of}
use Rattle.tabled_viewing.specs.View.{drawn, framed}
use Rattle.tabled_viewing.proofs.Narrow.{characters_written, drawn_narrow}
use Rattle.tabled_viewing.proofs.OnLines.{nothing_by_both, nothing_drawn}

-- ---- what is written is narrow, where what is given is

abbrev narrow_value : Option ℕ → Bool
narrow_value None = true
narrow_value (Some character) = is_narrow character

record GivesNarrow (given : Outlining ℕ) : Type 0 where
  top : narrow_value given.border.top ≡ true
  bottom : narrow_value given.border.bottom ≡ true
  left : narrow_value given.border.left ≡ true
  right : narrow_value given.border.right ≡ true
  left_top : narrow_value given.border.left_top_corner ≡ true
  right_top : narrow_value given.border.right_top_corner ≡ true
  left_bottom : narrow_value given.border.left_bottom_corner ≡ true
  right_bottom : narrow_value given.border.right_bottom_corner ≡ true
  touch : narrow_value given.diagonal ≡ true

either_narrow : (a b : Option ℕ) → narrow_value a ≡ true → narrow_value b ≡ true → narrow_value (option_or a b) ≡ true
either_narrow None b first second = second
either_narrow (Some character) b first second = first

module _ (given : Outlining ℕ) (narrow : GivesNarrow given) (cells : CellSet) where
  across_narrow : (above below : Bool) → narrow_value (across_value given.border above below) ≡ true
  across_narrow false true = narrow.top
  across_narrow true false = narrow.bottom
  across_narrow false false = refl
  across_narrow true true = refl

  down_narrow : (left right : Bool) → narrow_value (down_value given.border left right) ≡ true
  down_narrow false true = narrow.left
  down_narrow true false = narrow.right
  down_narrow false false = refl
  down_narrow true true = refl

  crossing_narrow : (upper lower : Bool × Bool) → narrow_value (crossing_value given upper lower) ≡ true
  crossing_narrow (false, false) (false, true) = narrow.left_top
  crossing_narrow (false, false) (true, false) = narrow.right_top
  crossing_narrow (false, true) (false, false) = narrow.left_bottom
  crossing_narrow (true, false) (false, false) = narrow.right_bottom
  crossing_narrow (false, false) (true, true) = narrow.top
  crossing_narrow (true, true) (false, false) = narrow.bottom
  crossing_narrow (false, true) (false, true) = narrow.left
  crossing_narrow (true, false) (true, false) = narrow.right
  crossing_narrow (true, false) (false, true) =
      either_narrow given.diagonal (option_or given.border.left_top_corner given.border.right_bottom_corner) narrow.touch
      (either_narrow given.border.left_top_corner given.border.right_bottom_corner narrow.left_top narrow.right_bottom)
  crossing_narrow (false, true) (true, false) =
      either_narrow given.diagonal (option_or given.border.right_top_corner given.border.left_bottom_corner) narrow.touch
      (either_narrow given.border.right_top_corner given.border.left_bottom_corner narrow.right_top narrow.left_bottom)
  crossing_narrow (false, true) (true, true) = narrow.right_bottom
  crossing_narrow (true, false) (true, true) = narrow.left_bottom
  crossing_narrow (true, true) (false, true) = narrow.right_top
  crossing_narrow (true, true) (true, false) = narrow.left_top
  crossing_narrow (false, false) (false, false) = refl
  crossing_narrow (true, true) (true, true) = refl

  value_narrow : (spot : Spot) → narrow_value (outline_value cells given spot) ≡ true
  value_narrow (Edge Horizontal r c) = across_narrow (upper_right cells r c) (lower_right cells r c)
  value_narrow (Edge Vertical r c) = down_narrow (lower_left cells r c) (lower_right cells r c)
  value_narrow (Crossing r c) = crossing_narrow (upper_left cells r c, upper_right cells r c) (lower_left cells r c, lower_right cells r c)

  abbrev written_at : Spot → Option (Event ℕ)
  written_at spot = option_map (λ value. write (at_spot spot) (sign value)) (outline_value cells given spot)

  one_narrow : (spot : Spot) (value : Option ℕ) (rest : List (Event ℕ)) → narrow_value value ≡ true → list_all is_narrow_write rest ≡ true
      → list_all is_narrow_write (cons_option (option_map (λ value. write (at_spot spot) (sign value)) value) rest) ≡ true
  one_narrow spot None rest here more = more
  one_narrow spot (Some value) rest here more = and_from (is_narrow value) (list_all is_narrow_write rest) here more

  each_narrow : (spots : List Spot) → list_all is_narrow_write (filter_map written_at spots) ≡ true
  each_narrow [] = refl
  each_narrow (spot ∷ spots) = one_narrow spot (outline_value cells given spot) (filter_map written_at spots) (value_narrow spot) (each_narrow spots)

  outline_narrow : (shape : ℕ × ℕ) → list_all is_narrow_write (outline shape cells given) ≡ true
  unfolding outline
  outline_narrow shape = each_narrow (every_spot shape)

-- what an outline is drawn with
abbrev given_by : Bool → Outlining ℕ
given_by boxes = record {
  border = if boxes then full_border 0x2501 0x2501 0x2503 0x2503 0x250F 0x2513 0x2517 0x251B else full_border 35 35 35 35 35 35 35 35;
  diagonal = Some (if boxes then 0x254B else 35);
}

gives_narrow : (boxes : Bool) → GivesNarrow (given_by boxes)
unfolding unicode_width
gives_narrow true = record {
  top = refl;
  bottom = refl;
  left = refl;
  right = refl;
  left_top = refl;
  right_top = refl;
  left_bottom = refl;
  right_bottom = refl;
  touch = refl;
}
gives_narrow false = record {
  top = refl;
  bottom = refl;
  left = refl;
  right = refl;
  left_top = refl;
  right_top = refl;
  left_bottom = refl;
  right_bottom = refl;
  touch = refl;
}

-- ---- the outlines that are asked for

module _ (style : ReadyStyle) (table : Table) where
  abbrev around : List Entity → List (Event ℕ)
  around cells = outline (length table, column_count table) (listed cells (length table) (column_count table)) (given_by (draws_boxes style))

  outlined_narrow : (cells : Option (List Entity)) → WritesNarrow (outlined style cells table)
  unfolding outlined highlight_events
  outlined_narrow None = refl
  outlined_narrow (Some cells) =
      ap (list_all is_narrow_write) (characters_written (around cells) [])
      ∙ outline_narrow (given_by (draws_boxes style)) (gives_narrow (draws_boxes style)) (listed cells (length table) (column_count table)) (length table, column_count table)

  nothing_outlined : (cells : Option (List Entity)) → settings_of (outlined style cells table) ≡ []
  unfolding outlined highlight_events
  nothing_outlined None = refl
  nothing_outlined (Some cells) = nothing_by_both (around cells) []

-- events one after the other
both_narrow : (first second : List ConfigEvent) → WritesNarrow first → WritesNarrow second → WritesNarrow (first ++ second)
both_narrow first second one other =
    ap (list_all is_narrow_write) (filter_map-append character_event first second) ∙ list_all-append is_narrow_write (characters_of first) (characters_of second)
    ∙ and_from (list_all is_narrow_write (characters_of first)) (list_all is_narrow_write (characters_of second)) one other

both_nothing : (first second : List ConfigEvent) → settings_of first ≡ [] → settings_of second ≡ [] → settings_of (first ++ second) ≡ []
both_nothing first second one other = filter_map-append setting_event first second ∙ (λ i. one i ++ other i)

module _ (request : Request) (style : ReadyStyle) (words : List (List ℕ)) (rows texts : Table) where
  abbrev places : Option (List Entity)
  places = option_map named (word_at words request.outline)

  abbrev marks : Option (List Entity)
  marks = option_map (marked rows) (word_at words request.mark)

  pub framed_narrow : WritesNarrow (framed request style words rows texts)
  framed_narrow =
      both_narrow (drawn request style (length texts)) (outlines request style words rows texts) (drawn_narrow request style (length texts))
      (both_narrow (outlined style places texts) (outlined style marks texts) (outlined_narrow style texts places) (outlined_narrow style texts marks))

  pub nothing_framed : settings_of (framed request style words rows texts) ≡ []
  nothing_framed =
      both_nothing (drawn request style (length texts)) (outlines request style words rows texts) (nothing_drawn request style (length texts))
      (both_nothing (outlined style places texts) (outlined style marks texts) (nothing_outlined style texts places) (nothing_outlined style texts marks))

-- ---- what putting an outline changes

module _ (style : ReadyStyle) (table : Table) where
  -- nothing, where there are no cells for it
  pub put_none : (old : Colored) (given : Option (List Entity)) → given ≡ None → Changes (outlined style given table) old old
  unfolding outlined
  put_none old given is = subst (λ given. Changes (outlined style given table) old old) (sym is) (none_change old)

  pub put : {W : Type 0} (old new : Colored) (given : Option (List Entity)) (cells : Vec Entity W) (around : Highlighting (Vec Entity W)) → given ≡ Some cells.items
      → around ≡ record { target = cells; border = Some (line_of style); diagonal = Some (touch_of style); color = None }
      → Changes (highlight_events (length table, column_count table) around.target.items around.border around.diagonal around.color) old new
      → Changes (outlined style given table) old new
  unfolding outlined
  put {W} old new given cells around is drawn_by changes =
      subst (λ given. Changes (outlined style given table) old new) (sym is)
      (subst (λ (around : Highlighting (Vec Entity W)). Changes (highlight_events (length table, column_count table) around.target.items around.border around.diagonal around.color) old new) drawn_by changes)
