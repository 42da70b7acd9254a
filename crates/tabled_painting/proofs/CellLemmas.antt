-- A line of a cell, by where it stands and by its parts.
use Rattle.std.proofs.Common.{◌≡◌, ◌≢◌, ℕ, ◌-◌, ◌<◌, ◌≤◌, Bool, true, false, if◌then◌else◌, ltb, Option, List, [], ◌++◌, map, length, get_or, refl, sym, ap, subst, ◌∙◌, Result, OnOk}
use Rattle.std.proofs.lemmas.Bool.{lt-ltb, le-ltb}
use Rattle.tabled_border.specs.Texts.{Texts}
use Rattle.tabled_width.specs.Texts.{width_of_text}
use Rattle.tabled_settings.specs.declared.alignment.AlignmentHorizontal.TheVariants.{Left}
use Rattle.tabled_cells.specs.declared.filling.LineParts.{LineParts}
use Rattle.tabled_cells.specs.declared.placement.Placement.{Placement}
use Rattle.tabled_cells.specs.Placed.{times, lines_above, line_parts, aligned_width, greatest}
use Rattle.tabled_cells.proofs.Measuring.{parts_same}
use Rattle.tabled_painting.specs.declared.painter.Painter.{Painter}
use Rattle.tabled_painting.specs.Painted.{Painted, paint}
use Rattle.tabled_painting.specs.InColor.{Paints}
use Rattle.tabled_painting.specs.CellLines.{Coloring, painted_line, cell_line}
use Rattle.tabled_painting.proofs.PainterLemmas.{paints_both}

-- a line and another name of it
pub same_line : {T E O : Type 0} (gains : List ℕ → O → O → Type 0) (r : Result T E) (line other : Painted) (p q : Painter O) → line ≡ other → OnOk r (Paints gains line p q) → OnOk r (Paints gains other p q)
same_line gains r line other p q same = subst (λ l. OnOk r (Paints gains l p q)) same

-- a line of the text, by its five parts
pub line_of_parts : {O : Type 0} (gains : List ℕ → O → O → Type 0) (both : (xs ys : List ℕ) (old between new : O) → gains xs old between → gains ys between new → gains (xs ++ ys) old new)
    (how : Placement) (colors : Coloring) (width aligned : ℕ) (line : List ℕ) (left right : Option Texts) (parts : LineParts) (p q r s t u : Painter O)
    → left ≡ colors.padding.left → right ≡ colors.padding.right → parts ≡ line_parts how width aligned line
    → Paints gains (paint left (times how.padding.left.size how.padding.left.fill)) p q → Paints gains (paint colors.fill (times parts.before parts.fill)) q r → Paints gains (paint colors.text line) r s
    → Paints gains (paint colors.fill (times parts.after parts.fill)) s t → Paints gains (paint right (times how.padding.right.size how.padding.right.fill)) t u → Paints gains (painted_line how colors width aligned line) p u
unfolding painted_line
line_of_parts gains both how colors width aligned line left right parts p q r s t u at_left at_right found a b c d e =
    let whole : Option Texts → Option Texts → LineParts → Painted =
    λ one other of. paint one (times how.padding.left.size how.padding.left.fill) ++ paint colors.fill (times of.before of.fill) ++ paint colors.text line ++ paint colors.fill (times of.after of.fill)
    ++ paint other (times how.padding.right.size how.padding.right.fill) in
    let first : Painted = paint left (times how.padding.left.size how.padding.left.fill) in
    let second : Painted = first ++ paint colors.fill (times parts.before parts.fill) in
    let third : Painted = second ++ paint colors.text line in
    let fourth : Painted = third ++ paint colors.fill (times parts.after parts.fill) in
    subst (λ l. Paints gains l p u) (ap (λ one. whole one right parts) at_left ∙ ap (λ other. whole colors.padding.left other parts) at_right ∙ ap (whole colors.padding.left colors.padding.right) found)
    (paints_both gains both fourth _ p t u (paints_both gains both third _ p s t (paints_both gains both second _ p r s (paints_both gains both first _ p q r a b) c) d) e)

pub aligned_line : (how : Placement) (colors : Coloring) (width widest aligned : ℕ) (lines : List (List ℕ)) (line : List ℕ)
    → (how.line_alignment ≡ false → how.alignment_horizontal ≢ Left → widest ≡ greatest (map width_of_text lines))
    → aligned ≡ (if how.line_alignment then width_of_text line else widest) → painted_line how colors width aligned line ≡ painted_line how colors width (aligned_width how lines line) line
unfolding painted_line
aligned_line how colors width widest aligned lines line as_one is =
    ap (λ parts. paint colors.padding.left (times how.padding.left.size how.padding.left.fill) ++ paint colors.fill (times parts.before parts.fill) ++ paint colors.text line ++ paint colors.fill (times parts.after parts.fill)
    ++ paint colors.padding.right (times how.padding.right.size how.padding.right.fill))
    (ap (λ n. line_parts how width n line) is ∙ parts_same how width widest lines line as_one)

-- line n of a cell: above the text, in it, or below it
module _ (how : Placement) (colors : Coloring) (width height : ℕ) (texts : List (List ℕ)) (n above count : ℕ) (stands : above ≡ lines_above how height count) (counted : count ≡ length texts) where
  abbrev by_place : ℕ → Bool → Bool → Painted
  by_place there first second =
      if first then paint colors.padding.top (times width how.padding.top.fill) else
      if second then painted_line how colors width (aligned_width how texts (get_or texts (n - there) [])) (get_or texts (n - there) []) else
      paint colors.padding.bottom (times width how.padding.bottom.fill)

  placed : (first second : Bool) → ltb n above ≡ first → ltb (n - above) (length texts) ≡ second → by_place above first second ≡ cell_line how colors width height texts n
  unfolding cell_line
  placed first second p q =
      ap (λ b. by_place above b second) (sym p) ∙ ap (λ b. by_place above (ltb n above) b) (sym q)
      ∙ ap (λ there. by_place there (ltb n there) (ltb (n - there) (length texts))) (stands ∙ ap (lines_above how height) counted)

  pub upper_line : (top : Option Texts) → top ≡ colors.padding.top → n < above → paint top (times width how.padding.top.fill) ≡ cell_line how colors width height texts n
  upper_line top is within = ap (λ color. paint color (times width how.padding.top.fill)) is ∙ placed true (ltb (n - above) (length texts)) (lt-ltb n above within) refl

  pub lower_line : (bottom : Option Texts) → bottom ≡ colors.padding.bottom → above ≤ n → length texts ≤ n - above → paint bottom (times width how.padding.bottom.fill) ≡ cell_line how colors width height texts n
  lower_line bottom is past after =
      ap (λ color. paint color (times width how.padding.bottom.fill)) is ∙ placed false false (le-ltb n above past) (le-ltb (n - above) (length texts) after)

  pub text_line : (line : List ℕ) (aligned : ℕ) → above ≤ n → n - above < length texts → line ≡ get_or texts (n - above) []
      → painted_line how colors width aligned line ≡ painted_line how colors width (aligned_width how texts line) line
      → painted_line how colors width aligned line ≡ cell_line how colors width height texts n
  text_line line aligned past within read as_one =
      as_one ∙ ap (λ l. painted_line how colors width (aligned_width how texts l) l) read
      ∙ placed false true (le-ltb n above past) (lt-ltb (n - above) (length texts) within)
