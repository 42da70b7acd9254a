-- Changes of entities in a row, and borders as options.
use Rattle.std.proofs.Common.{◌≡◌, ◌==◌, ◌||◌, true, false, cond, ℕ, List, [], ◌∷◌, ◌++◌, map, refl, sym, ap, subst, ◌∙◌, append_assoc, Result, Ok, Err, IsOk, OnOk, OnErr, append-nil, flat_map}
use Rattle.tabled_object.specs.declared.entity.Entity.{Entity}
use Rattle.tabled_border.specs.declared.border.Border.{Border}
use Rattle.tabled_places.specs.declared.borders.Borders.{Borders}
use Rattle.tabled_places.specs.Calls.{entity_border_set, entity_border_erased, frame_erased}
use Rattle.tabled_places.specs.Event as grid
use Rattle.tabled_places.specs.State.{State, state_at, class_record_set}
use Rattle.tabled_places.proofs.Replay.{Changes-append}
use Rattle.tabled_border.specs.Texts.{Texts}
use Rattle.tabled_configuration.specs.Configuration.{Configuration, Changes, by_characters}
use Rattle.tabled_configuration.specs.Options.{MakesInTurn, entity_bordered, entity_unbordered, inner_of, table_unbordered}
use Rattle.tabled_layout.specs.declared.table_settings.TableSettings.{TableSettings}
use Rattle.tabled_configuration.specs.ChangeLaws.{none_change_borders}
use Rattle.tabled_configuration.proofs.ConfigurationLemmas.{Changes_by_characters}

module _ {C E : Type 0} (changes : List E → C → C → Type 0) where
  -- one more step at the end
  pub one_more : (steps : List (C → List E)) (step : C → List E) (made : List E) (old between new : C) → MakesInTurn changes steps made old between → changes (step between) between new → MakesInTurn changes (steps ++ step ∷ []) (made ++ step between) old new
  unfolding MakesInTurn
  one_more [] step made old between new by one = (
    new,
    [],
    subst (λ cfg. changes (step cfg) cfg new) by.0 one,
    (refl, refl),
    ap (λ start. start ++ step between) by.1 ∙ ap step by.0 ∙ sym (append-nil (step old)),
  )
  one_more (first ∷ rest) step made old between new by one = (
    by.0,
    by.1 ++ step between,
    by.2,
    one_more rest step by.1 by.0 between new by.3 one,
    ap (λ start. start ++ step between) by.4 ∙ append_assoc (first old) by.1 (step between),
  )

  -- no step was made
  pub none_made : (cfg : C) → MakesInTurn changes [] [] cfg cfg
  unfolding MakesInTurn
  none_made cfg = (refl, refl)

  -- all of them are the change by their events
  pub by_all_events : ((cfg : C) → changes [] cfg cfg) → ((es fs : List E) (old between new : C) → changes es old between → changes fs between new → changes (es ++ fs) old new) → (steps : List (C → List E)) (made : List E) (old new : C) → MakesInTurn changes steps made old new → changes made old new
  unfolding MakesInTurn
  by_all_events none both [] made old new by =
      subst (λ es. changes es old new) (sym by.1) (subst (λ cfg. changes [] old cfg) (sym by.0) (none old))
  by_all_events none both (step ∷ steps) made old new by =
      subst (λ es. changes es old new) (sym by.4) (both (step old) by.1 old by.0 new by.2 (by_all_events none both steps by.1 by.0 new by.3))

-- where no step reads what stands before it, what was made are their events
pub all_unread : {A C E : Type 0} (changes : List E → C → C → Type 0) (events : A → List E) (members : List A) (made : List E) (old new : C) → MakesInTurn changes (map (λ member _. events member) members) made old new → made ≡ flat_map events members
unfolding MakesInTurn
all_unread changes events [] made old new by = by.1
all_unread changes events (member ∷ members) made old new by = by.4 ∙ ap (λ rest. events member ++ rest) (all_unread changes events members by.1 by.0 new by.3)

-- what holds of any result holds of a refusal
pub where_refused : {A E P : Type 0} (result : Result A E) → P → OnErr result P
where_refused (Ok x) p = tt
where_refused (Err e) p = p

-- what holds of a result that is no refusal holds
pub where_sure : {A E P : Type 0} (result : Result A E) → IsOk result → OnOk result P → P
where_sure (Ok x) sure p = p
where_sure (Err e) sure p = absurd cc

-- a border around the cells of an entity
pub Changes-entity_bordered : (border : Border ℕ) (shape : ℕ × ℕ) (entity : Entity) (before after : State ℕ) (colors : State Texts) (settings : TableSettings) (old : Configuration) → record { characters = before; colors = colors; settings = settings } ≡ old → grid.Changes (entity_border_set entity shape border) (state_at before) (state_at after) → Changes (entity_bordered border shape entity) old (record { characters = after; colors = colors; settings = settings })
unfolding entity_bordered
Changes-entity_bordered border shape entity before after colors settings old is changes = Changes_by_characters (entity_border_set entity shape border) before after colors settings old is changes

-- the borders of the cells of an entity removed
pub Changes-entity_unbordered : (shape : ℕ × ℕ) (entity : Entity) (before after : State ℕ) (colors : State Texts) (settings : TableSettings) (old : Configuration) → record { characters = before; colors = colors; settings = settings } ≡ old → grid.Changes (entity_border_erased entity shape) (state_at before) (state_at after) → Changes (entity_unbordered shape entity) old (record { characters = after; colors = colors; settings = settings })
unfolding entity_unbordered
Changes-entity_unbordered shape entity before after colors settings old is changes = Changes_by_characters (entity_border_erased entity shape) before after colors settings old is changes

-- a table without rows or columns has no frame
pub no_frame : (rows cols : ℕ) (class : Borders ℕ) (cfg : Configuration) → ((rows == 0) || (cols == 0)) ≡ true → Changes (table_unbordered (rows, cols) class) cfg cfg
unfolding table_unbordered
no_frame rows cols class cfg none =
    subst (λ b. Changes (cond b [] (by_characters (class_record_set (inner_of class) ++ frame_erased (rows, cols)))) cfg cfg) (sym none)
    (none_change_borders cfg)

-- the frame of a table removed
pub Changes-table_unbordered : (rows cols : ℕ) (class result : Borders ℕ) (before between after : State ℕ) (colors : State Texts) (settings : TableSettings) (old : Configuration) → ((rows == 0) || (cols == 0)) ≡ false → record { characters = before; colors = colors; settings = settings } ≡ old → result ≡ inner_of class → grid.Changes (class_record_set result) (state_at before) (state_at between) → grid.Changes (frame_erased (rows, cols)) (state_at between) (state_at after) → Changes (table_unbordered (rows, cols) class) old (record { characters = after; colors = colors; settings = settings })
unfolding table_unbordered
Changes-table_unbordered rows cols class result before between after colors settings old some is inner sets erases =
    subst (λ b. Changes (cond b [] (by_characters (class_record_set (inner_of class) ++ frame_erased (rows, cols)))) old (record { characters = after; colors = colors; settings = settings })) (sym some)
    (Changes_by_characters (class_record_set (inner_of class) ++ frame_erased (rows, cols)) before after colors settings old is
    (Changes-append (class_record_set (inner_of class)) (frame_erased (rows, cols)) (state_at before) (state_at between) (state_at after)
    (subst (λ borders. grid.Changes (class_record_set borders) (state_at before) (state_at between)) inner sets) erases))
