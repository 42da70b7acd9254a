-- Marks that are put into a painter.
use Rattle.std.specs.Prelude.{◌≡◌, ℕ, Bool, true, false, Option, None, List, [], ◌∷◌, ◌++◌, option_copied}
use Rattle.std.proofs.Common.{refl, ap, sym, subst, ◌∙◌}
use Rattle.std.proofs.lemmas.List.{append_assoc, map-append}
use Rattle.std.proofs.lemmas.List.Concat.{flat_map-append}
use Rattle.tabled_border.specs.Texts.{Texts}
use Rattle.tabled_printing.specs.Picture.{Shown}
use Rattle.tabled_painting.specs.declared.painter.Painter.{Painter}
use Rattle.tabled_painting.specs.Painted.{Painted, paint, plain, colored_if}
use Rattle.tabled_painting.specs.InColor.{between, colored, last_color, Paints}
use Rattle.tabled_painting.specs.PaintedTable.{painted_mark, painted_marks}

-- they were painted
abbrev pub paints_marks : {O : Type 0} → (List ℕ → O → O → Type 0) → List Shown → Painter O → Painter O → Type 0
paints_marks gains marks old new = Paints gains (painted_marks marks) old new

-- a line in color, part by part
pub colored_both : (color : Option Texts) (xs ys : Painted) → colored color (xs ++ ys) ≡ colored color xs ++ colored (last_color color xs) ys
colored_both color [] ys = refl
colored_both color (x ∷ xs) ys =
    ap (λ rest. between color x.1 ++ x.0 ∷ rest) (colored_both x.1 xs ys)
    ∙ sym (append_assoc (between color x.1) (x.0 ∷ colored x.1 xs) (colored (last_color x.1 xs) ys))

pub last_both : (color : Option Texts) (xs ys : Painted) → last_color color (xs ++ ys) ≡ last_color (last_color color xs) ys
last_both color [] ys = refl
last_both color (x ∷ xs) ys = last_both x.1 xs ys

pub if_both : (wanted : Bool) (xs ys : Painted) → colored_if wanted (xs ++ ys) ≡ colored_if wanted xs ++ colored_if wanted ys
if_both true xs ys = refl
if_both false xs ys = ap (paint None) (map-append (λ painted. painted.0) xs ys) ∙ map-append (λ byte. (byte, None)) (plain xs) (plain ys)

pub if_nothing : (wanted : Bool) → colored_if wanted [] ≡ []
if_nothing true = refl
if_nothing false = refl

pub paints_none : {O : Type 0} (gains : List ℕ → O → O → Type 0) → ((out : O) → gains [] out out) → (painter : Painter O) → Paints gains [] painter painter
paints_none gains none painter =
    let color = option_copied painter.color in
    record {
      text = subst (λ line. gains (colored color line) painter.out painter.out) (sym (if_nothing painter.with_colors)) (none painter.out);
      color = ap (last_color color) (sym (if_nothing painter.with_colors));
      same_colors = refl;
      same_begun = refl;
    }

-- parts that are painted in turn are painted
pub paints_both : {O : Type 0} (gains : List ℕ → O → O → Type 0) → ((xs ys : List ℕ) (old between new : O) → gains xs old between → gains ys between new → gains (xs ++ ys) old new)
    → (xs ys : Painted) (old middle new : Painter O) → Paints gains xs old middle → Paints gains ys middle new → Paints gains (xs ++ ys) old new
paints_both gains both xs ys old middle new p q =
    let color = option_copied old.color in
    let wanted = old.with_colors in
    let first = colored_if wanted xs in
    let more = colored_if wanted ys in
    let whole : colored_if wanted (xs ++ ys) ≡ first ++ more = if_both wanted xs ys in
    record {
      text =
          subst (λ bytes. gains bytes old.out new.out) (sym (colored_both color first more) ∙ ap (colored color) (sym whole))
          (both (colored color first) (colored (last_color color first) more) old.out middle.out new.out p.text
          (subst (λ bytes. gains bytes middle.out new.out) (λ i. colored (p.color i) (colored_if (p.same_colors i) ys)) q.text));
      color =
          q.color
          ∙ (λ i. last_color (p.color i) (colored_if (p.same_colors i) ys))
          ∙ sym (last_both color first more)
          ∙ ap (last_color color) (sym whole);
      same_colors = q.same_colors ∙ p.same_colors;
      same_begun = q.same_begun ∙ p.same_begun;
    }

-- no marks change nothing, and marks put in turn are put
pub marks_none : {O : Type 0} (gains : List ℕ → O → O → Type 0) → ((out : O) → gains [] out out) → (painter : Painter O) → paints_marks gains [] painter painter
marks_none gains none painter = paints_none gains none painter

pub marks_both : {O : Type 0} (gains : List ℕ → O → O → Type 0) → ((xs ys : List ℕ) (old between new : O) → gains xs old between → gains ys between new → gains (xs ++ ys) old new)
    → (ms ns : List Shown) (old between new : Painter O) → paints_marks gains ms old between → paints_marks gains ns between new → paints_marks gains (ms ++ ns) old new
marks_both gains both ms ns old between new first second =
    subst (λ line. Paints gains line old new) (sym (flat_map-append painted_mark ms ns)) (paints_both gains both (painted_marks ms) (painted_marks ns) old between new first second)
