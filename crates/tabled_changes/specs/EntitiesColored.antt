-- Entities colored: the texts of their cells, what fills the cells beside these, and the padding.
use Rattle.std.specs.Prelude.{Option, Some, List, [], ◌∷◌, map, flat_map}
use Rattle.tabled_border.specs.Texts.{Texts}
use Rattle.tabled_object.specs.declared.entity.Entity.{Entity}
use Rattle.tabled_settings.specs.declared.sides.Sides.{Sides}
use Rattle.tabled_settings.specs.Setting.{EntityEvent, write_of}
use Rattle.tabled_settings.specs.CellSettings.{of_justification_color, of_padding_color}
use Rattle.tabled_layout.specs.TableSettings.{of_cells}
use Rattle.tabled_configuration.specs.CellColors.{changed}
use Rattle.tabled_configuration.specs.Configuration.{ConfigEvent, of_settings, of_cell_colors}

-- one color on all sides
abbrev pub all_around : Texts → Sides (Option Texts)
all_around color = record { left = Some color; right = Some color; top = Some color; bottom = Some color }

-- a color written for an entity: for the texts, for what fills the cells beside them, and for the padding on all sides
abbrev pub entity_colored : Entity × Texts → List ConfigEvent
entity_colored colored =
    of_cell_colors (changed (write_of colored.0 colored.1))
    ∷ of_settings (of_cells (of_justification_color (write_of colored.0 (Some colored.1))))
    ∷ of_settings (of_cells (of_padding_color (write_of colored.0 (all_around colored.1)))) ∷ []

-- each entity of a list given its color, in the order of the list
unfoldable pub entities_colored : List (Entity × Texts) → List ConfigEvent
entities_colored list = flat_map entity_colored list

-- the writes of each kind among these
abbrev pub text_writes : List (Entity × Texts) → List (EntityEvent Texts)
text_writes list = map (λ colored. write_of colored.0 colored.1) list

abbrev pub fill_writes : List (Entity × Texts) → List (EntityEvent (Option Texts))
fill_writes list = map (λ colored. write_of colored.0 (Some colored.1)) list

abbrev pub padding_writes : List (Entity × Texts) → List (EntityEvent (Sides (Option Texts)))
padding_writes list = map (λ colored. write_of colored.0 (all_around colored.1)) list
