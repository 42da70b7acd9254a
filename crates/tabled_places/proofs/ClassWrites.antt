-- What the writes of a class record leave.
use Rattle.std.proofs.Common.{◌≡◌, Bool, true, false, cond, ◌&&◌, ◌||◌, Option, Some, None, is_some, List, [], ◌∷◌, refl, sym, ap, ◌∙◌, option_map}
use Rattle.std.specs.List.{list_any, cons_option}
use Rattle.tabled_places.specs.declared.borders.Borders.{Borders}
use Rattle.tabled_places.specs.Site.{Horizontal, Vertical, first, inner, last, Class, edges, crossings, Site, of_class, class_value, same_class, same_site}
use Rattle.tabled_places.specs.Event.{Written, sign, Event, write, covered, replay}
use Rattle.tabled_places.specs.CustomLines.{no_borders}
use Rattle.tabled_places.specs.State.{classes, class_writes, HasNothing}
use Rattle.tabled_places.proofs.SameSite.{same_class-eq}
use Rattle.tabled_places.proofs.Replay.{replay-nil, replay-cons}

-- the write of a given field of a class, in front of other events
abbrev field_write : {T : Type 0} → Class → Option T → List (Event T) → List (Event T)
field_write d o es = cons_option (option_map (λ x. write (of_class d) (sign x)) o) es

module _ {T : Type 0} (borders : Borders T) (c : Class) where
  -- the value of the class, as it is written
  there : Option (Written T)
  there = option_map sign (class_value c borders)

  -- where the classes are one and the field of the one is o, so is that of the other
  same_field : (d : Class) (o : Option T) → class_value d borders ≡ o → same_class c d ≡ true → class_value c borders ≡ o
  same_field d o e same = ap (λ k. class_value k borders) (same_class-eq c d same) ∙ e

  covered_step : (d : Class) (o : Option T) (es : List (Event T)) (any : Bool) → class_value d borders ≡ o → covered es (of_class c) ≡ (any && is_some (class_value c borders)) → covered (field_write d o es) (of_class c) ≡ ((same_class c d || any) && is_some (class_value c borders))
  covered_step d None es any e ih = ih ∙ absent (same_class c d) refl any
    where
      absent : (same : Bool) → same_class c d ≡ same → (b : Bool) → (b && is_some (class_value c borders)) ≡ ((same || b) && is_some (class_value c borders))
      absent true is true = refl
      absent true is false = sym (ap is_some (same_field d None e is))
      absent false is b = refl
  covered_step d (Some x) es any e ih = ap (λ b. same_class c d || b) ih ∙ present (same_class c d) refl
    where
      present : (same : Bool) → same_class c d ≡ same → (same || (any && is_some (class_value c borders))) ≡ ((same || any) && is_some (class_value c borders))
      present true is = sym (ap is_some (same_field d (Some x) e is))
      present false is = refl

  replay_step : (d : Class) (o : Option T) (es : List (Event T)) → class_value d borders ≡ o → replay es (of_class c) ≡ cond (covered es (of_class c)) there None → replay (field_write d o es) (of_class c) ≡ cond (covered (field_write d o es) (of_class c)) there None
  unfolding there
  replay_step d None es e ih = ih
  replay_step d (Some x) es e ih =
      replay-cons (of_class c) (write (of_class d) (sign x)) es
      ∙ ap (λ k. cond (covered es (of_class c)) k (cond (same_class c d) (Some (sign x)) None)) ih
      ∙ joined (covered es (of_class c)) (same_class c d) refl
    where
      joined : (after same : Bool) → same_class c d ≡ same → cond after (cond after (option_map sign (class_value c borders)) None) (cond same (Some (sign x)) None) ≡ cond (same || after) (option_map sign (class_value c borders)) None
      joined true true is = refl
      joined true false is = refl
      joined false true is = sym (ap (option_map sign) (same_field d (Some x) e is))
      joined false false is = refl

  -- the writes of some classes cover those among them whose field is given
  covered_class : (cs : List Class) → covered (class_writes borders cs) (of_class c) ≡ (list_any (same_class c) cs && is_some (class_value c borders))
  unfolding class_writes
  covered_class [] = refl
  covered_class (d ∷ ds) = covered_step d (class_value d borders) (class_writes borders ds) (list_any (same_class c) ds) refl (covered_class ds)

  -- and leave there what the record has
  replay_class : (cs : List Class) → replay (class_writes borders cs) (of_class c) ≡ cond (covered (class_writes borders cs) (of_class c)) there None
  unfolding class_writes
  replay_class [] = replay-nil (of_class c)
  replay_class (d ∷ ds) = replay_step d (class_value d borders) (class_writes borders ds) refl (replay_class ds)

-- each class is among the fifteen
among_classes : (c : Class) → list_any (same_class c) classes ≡ true
unfolding classes
among_classes (edges Horizontal first) = refl
among_classes (edges Horizontal inner) = refl
among_classes (edges Horizontal last) = refl
among_classes (edges Vertical first) = refl
among_classes (edges Vertical inner) = refl
among_classes (edges Vertical last) = refl
among_classes (crossings first first) = refl
among_classes (crossings first inner) = refl
among_classes (crossings first last) = refl
among_classes (crossings inner first) = refl
among_classes (crossings inner inner) = refl
among_classes (crossings inner last) = refl
among_classes (crossings last first) = refl
among_classes (crossings last inner) = refl
among_classes (crossings last last) = refl

given_or_none : {T : Type 0} (o : Option T) → cond (is_some o) (option_map sign o) None ≡ option_map sign o
given_or_none None = refl
given_or_none (Some x) = refl

-- the writes of all classes leave the record's fields
pub replay_classes : {T : Type 0} (borders : Borders T) (c : Class) → replay (class_writes borders classes) (of_class c) ≡ option_map sign (class_value c borders)
unfolding there
replay_classes borders c =
    replay_class borders c classes
    ∙ ap (λ b. cond b (option_map sign (class_value c borders)) None) (covered_class borders c classes ∙ ap (λ b. b && is_some (class_value c borders)) (among_classes c))
    ∙ given_or_none (class_value c borders)

uncovered_step : {T : Type 0} (q : Site) (d : Class) (o : Option T) (es : List (Event T)) → same_site q (of_class d) ≡ false → covered es q ≡ false → covered (field_write d o es) q ≡ false
uncovered_step q d None es e ih = ih
uncovered_step q d (Some x) es e ih = ap (λ b. b || covered es q) e ∙ ih

-- they cover no other site
pub uncovered_other : {T : Type 0} (borders : Borders T) (q : Site) → ((d : Class) → same_site q (of_class d) ≡ false) → (cs : List Class) → covered (class_writes borders cs) q ≡ false
unfolding class_writes
uncovered_other borders q other [] = refl
uncovered_other borders q other (d ∷ ds) = uncovered_step q d (class_value d borders) (class_writes borders ds) (other d) (uncovered_other borders q other ds)

-- the record with every field missing has nothing
pub nothing_in : {T : Type 0} (borders : Borders T) → borders ≡ no_borders → HasNothing borders
nothing_in borders e (edges Horizontal first) = ap (λ b. b.top) e
nothing_in borders e (edges Horizontal inner) = ap (λ b. b.horizontal) e
nothing_in borders e (edges Horizontal last) = ap (λ b. b.bottom) e
nothing_in borders e (edges Vertical first) = ap (λ b. b.left) e
nothing_in borders e (edges Vertical inner) = ap (λ b. b.vertical) e
nothing_in borders e (edges Vertical last) = ap (λ b. b.right) e
nothing_in borders e (crossings first first) = ap (λ b. b.top_left) e
nothing_in borders e (crossings first inner) = ap (λ b. b.top_intersection) e
nothing_in borders e (crossings first last) = ap (λ b. b.top_right) e
nothing_in borders e (crossings inner first) = ap (λ b. b.left_intersection) e
nothing_in borders e (crossings inner inner) = ap (λ b. b.intersection) e
nothing_in borders e (crossings inner last) = ap (λ b. b.right_intersection) e
nothing_in borders e (crossings last first) = ap (λ b. b.bottom_left) e
nothing_in borders e (crossings last inner) = ap (λ b. b.bottom_intersection) e
nothing_in borders e (crossings last last) = ap (λ b. b.bottom_right) e
