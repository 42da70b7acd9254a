-- How a table looks with its colors, or without them: the same characters.
use Rattle.std.proofs.Common.{◌≡◌, Bool, if◌then◌else◌, None, [], ◌∷◌, ◌++◌, map, length, get_or, sym, ap, ◌∙◌}
use Rattle.std.specs.List.{flat_map}
use Rattle.std.proofs.lemmas.List.{length-map}
use Rattle.std.proofs.lemmas.Simd.{map-map}
use Rattle.tabled_places.specs.declared.place.LineOf.{LineOf}
use Rattle.tabled_object.specs.Entities.{below}
use Rattle.tabled_printing.specs.Along.{is_empty, along}
use Rattle.tabled_printing.specs.Picture.{Look, Shown, mark_at, marks_along, text_marked, text_shown, row_lines, text_lines}
use Rattle.tabled_width.specs.Texts.{Table}
use Rattle.tabled_printing.specs.Viewed.{with_colors_if}

-- a mark with its color, or without it
abbrev pub kept_if : Bool → Shown → Shown
kept_if wanted mark = (mark.0, if wanted then mark.1 else None)

module _ (wanted : Bool) (view : Look) where
  pub kept_marks : (line : LineOf) → marks_along (with_colors_if wanted view) line ≡ map (kept_if wanted) (marks_along view line)
  kept_marks line = sym (map-map (kept_if wanted) (mark_at view) (along view.horizontal view.vertical view.shape view.widths view.heights line))

  -- as many, and the same characters
  pub kept_count : (line : LineOf) → length (marks_along (with_colors_if wanted view) line) ≡ length (marks_along view line)
  kept_count line = ap length (kept_marks line) ∙ length-map (marks_along view line) (kept_if wanted)

  pub kept_text : (line : LineOf) → text_marked (marks_along (with_colors_if wanted view) line) ≡ text_marked (marks_along view line)
  kept_text line = ap text_marked (kept_marks line) ∙ ap text_shown (map-map (λ mark. mark.0) (kept_if wanted) (marks_along view line))

  -- so the same lines of text
  pub kept_lines : (cells : Table) → text_lines (with_colors_if wanted view) cells ≡ text_lines view cells
  kept_lines cells = λ i.
      if is_empty view.shape then [] else
      flat_map (λ r. (if view.horizontal r then kept_text (LineOf.Horizontal r) i ∷ [] else []) ++ row_lines view r (get_or cells r [])) (below view.shape.0)
      ++ (if view.horizontal view.shape.0 then kept_text (LineOf.Horizontal view.shape.0) i ∷ [] else [])
