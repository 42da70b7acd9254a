-- Lists of writes that agree with one function of the sites: what such a list leaves, in whatever order it writes and
-- however often at one site.
use Rattle.std.proofs.Common.{◌≡◌, Bool, true, false, cond, ◌&&◌, ◌||◌, is_some, Option, Some, None, List, [], ◌∷◌, ◌++◌, refl, sym, ap, ◌∙◌, option_map}
use Rattle.std.specs.List.{filter_map, list_any, cons_option}
use Rattle.tabled_places.specs.Site.{Spot, Site, the_default, of_class, of_line, at_spot, at_offset, same_spot}
use Rattle.tabled_places.specs.Event.{sign, Written, Event, write, erase, covers, covered, left_by, replay, Changes}
use Rattle.std.specs.Cmp.{eq_by_cmp_equiv, both_ways}
use Rattle.tabled_places.specs.Keys.{spots_total, same_spot-eq, is_same_spot}
use Rattle.tabled_places.proofs.SameSite.{same_site-eq}
use Rattle.tabled_places.proofs.Replay.{replay-cons}

either : (a b : Bool) → (a || b) ≡ true → {P : Type 0} → (a ≡ true → P) → (b ≡ true → P) → P
either true b h f g = f refl
either false true h f g = g refl
either false false h f g = absurd cc

last_of : {A : Type 0} (b c : Bool) (x y v : Option A) → (b || c) ≡ true → (c ≡ true → x ≡ v) → (b ≡ true → y ≡ v) → cond c x (cond b y None) ≡ v
last_of b true x y v h f g = f refl
last_of true false x y v h f g = g refl
last_of false false x y v h f g = absurd cc

where_covered : {A : Type 0} (b : Bool) (x v o : A) → (b ≡ true → x ≡ v) → cond b x o ≡ cond b v o
where_covered true x v o f = f refl
where_covered false x v o f = refl

twice : {A : Type 0} (b : Bool) (x o : A) → cond b x (cond b x o) ≡ cond b x o
twice true x o = refl
twice false x o = refl

something : {T : Type 0} (o : Option T) (w : Written T) → option_map sign o ≡ Some w → is_some o ≡ true
something (Some x) w h = refl
something None w h = absurd cc

module _ {T : Type 0} (value : Site → Option T) where
  -- the event writes what the function has at its site
  abbrev pub IsOf : Event T → Type 0
  IsOf (write p w) = option_map sign (value p) ≡ Some w
  IsOf (erase region) = ⊥

  -- each event of a list does
  abbrev pub AllOf : List (Event T) → Type 0
  AllOf [] = Unit {0}
  AllOf (e ∷ es) = IsOf e × AllOf es

  -- and where the function has something, some event writes
  pub record Leaves (es : List (Event T)) : Type 0 where
    pub all_of : AllOf es
    pub everywhere : (q : Site) → is_some (value q) ≡ true → covered es q ≡ true

  pub all_of-append : (es fs : List (Event T)) → AllOf es → AllOf fs → AllOf (es ++ fs)
  all_of-append [] fs h k = k
  all_of-append (e ∷ es) fs h k = (h.0, all_of-append es fs h.1 k)

  one_left : (e : Event T) (q : Site) → IsOf e → covers q e ≡ true → left_by e ≡ option_map sign (value q)
  one_left (write p w) q h c = sym (ap (λ site. option_map sign (value site)) (same_site-eq q p c) ∙ h)
  one_left (erase region) q h c = absurd h

  -- what is left at a site that an event covers
  pub left_is : (es : List (Event T)) (q : Site) → AllOf es → covered es q ≡ true → replay es q ≡ option_map sign (value q)
  left_is [] q h c = absurd cc
  left_is (e ∷ es) q h c = replay-cons q e es ∙ last_of (covers q e) (covered es q) (replay es q) (left_by e) (option_map sign (value q)) c (left_is es q h.1) (one_left e q h.0)

  one_there : (e : Event T) (q : Site) → IsOf e → covers q e ≡ true → is_some (value q) ≡ true
  one_there (write p w) q h c = something (value q) w (ap (λ site. option_map sign (value site)) (same_site-eq q p c) ∙ h)
  one_there (erase region) q h c = absurd h

  there : (es : List (Event T)) (q : Site) → AllOf es → covered es q ≡ true → is_some (value q) ≡ true
  there [] q h c = absurd cc
  there (e ∷ es) q h c = either (covers q e) (covered es q) c (one_there e q h.0) (there es q h.1)

  -- an event covers a site exactly where the function has something there
  pub covered_is : (es : List (Event T)) (q : Site) → Leaves es → covered es q ≡ is_some (value q)
  covered_is es q h = both_ways (covered es q) (is_some (value q)) (there es q h.all_of) (h.everywhere q)

  as_value : (es : List (Event T)) (q : Site) (o : Option (Written T)) → Leaves es → cond (covered es q) (replay es q) o ≡ cond (is_some (value q)) (option_map sign (value q)) o
  as_value es q o h =
      where_covered (covered es q) (replay es q) (option_map sign (value q)) o (left_is es q h.all_of)
      ∙ ap (λ b. cond b (option_map sign (value q)) o) (covered_is es q h)

  -- two such lists make the same change
  pub same_change : (es fs : List (Event T)) (old new : Site → Option (Written T)) → Leaves es → Leaves fs → Changes es old new → Changes fs old new
  unfolding Changes
  same_change es fs old new h k changes q = changes q ∙ as_value es q (old q) h ∙ sym (as_value fs q (old q) k)

-- any events that are made once more change nothing
pub second_time : {T : Type 0} (es : List (Event T)) (old between new : Site → Option (Written T)) → Changes es old between → Changes es between new → (q : Site) → new q ≡ between q
unfolding Changes
second_time es old between new first again q =
    again q ∙ ap (cond (covered es q) (replay es q)) (first q) ∙ twice (covered es q) (replay es q) (old q) ∙ sym (first q)

-- ---- functions of the edges and crossings

-- such a function as one of all sites
abbrev pub on_spots : {T : Type 0} → (Spot → Option T) → Site → Option T
on_spots value (at_spot spot) = value spot
on_spots value the_default = None
on_spots value (of_class class) = None
on_spots value (of_line line part) = None
on_spots value (at_offset d r c offset) = None

-- an edge or a crossing is one with itself
pub spot_itself : (spot : Spot) → same_spot spot spot ≡ true
spot_itself spot = sym (is_same_spot spot spot) ∙ (eq_by_cmp_equiv spots_total).refl spot

none_passes : (a b c isq : Bool) → (b ≡ true → a ≡ isq) → ((a && b) || (isq && c)) ≡ (isq && (b || c))
none_passes a true c isq same = ap (λ x. (x && true) || (isq && c)) (same refl) ∙ alike isq c
  where
    alike : (x y : Bool) → ((x && true) || (x && y)) ≡ (x && true)
    alike true y = refl
    alike false y = refl
none_passes true false c isq same = refl
none_passes false false c isq same = refl

module _ {T : Type 0} (value : Spot → Option T) where
  -- the writes of a function at some edges and crossings
  abbrev pub written_on : List Spot → List (Event T)
  written_on spots = filter_map (λ spot. option_map (λ x. write (at_spot spot) (sign x)) (value spot)) spots

  -- a list with all of it at edges and crossings
  pub leaves_on_spots : (es : List (Event T)) → AllOf (on_spots value) es → ((spot : Spot) → is_some (value spot) ≡ true → covered es (at_spot spot) ≡ true) → Leaves (on_spots value) es
  leaves_on_spots es all everywhere = record { all_of = all; everywhere = covers_all }
    where
      covers_all : (q : Site) → is_some (on_spots value q) ≡ true → covered es q ≡ true
      covers_all (at_spot spot) h = everywhere spot h
      covers_all the_default h = absurd cc
      covers_all (of_class class) h = absurd cc
      covers_all (of_line line part) h = absurd cc
      covers_all (at_offset d r c offset) h = absurd cc

  one_written : (spot : Spot) (o : Option T) (rest : List (Event T)) → value spot ≡ o → AllOf (on_spots value) rest → AllOf (on_spots value) (cons_option (option_map (λ x. write (at_spot spot) (sign x)) o) rest)
  one_written spot None rest is all = all
  one_written spot (Some x) rest is all = (ap (option_map sign) is, all)

  pub all_agree : (spots : List Spot) → AllOf (on_spots value) (written_on spots)
  all_agree [] = tt
  all_agree (spot ∷ spots) = one_written spot (value spot) (written_on spots) refl (all_agree spots)

  one_covered : (spot q : Spot) (o : Option T) (rest : List (Event T)) → covered (cons_option (option_map (λ x. write (at_spot spot) (sign x)) o) rest) (at_spot q) ≡ ((is_some o && same_spot q spot) || covered rest (at_spot q))
  one_covered spot q None rest = refl
  one_covered spot q (Some x) rest = refl

  -- they cover an edge or a crossing exactly where it is one of these and the function has something there
  pub covered_written : (spots : List Spot) (q : Spot) → covered (written_on spots) (at_spot q) ≡ (is_some (value q) && list_any (same_spot q) spots)
  covered_written [] q = nothing (is_some (value q))
    where
      nothing : (b : Bool) → false ≡ (b && false)
      nothing true = refl
      nothing false = refl
  covered_written (spot ∷ spots) q =
      one_covered spot q (value spot) (written_on spots) ∙ ap (λ b. (is_some (value spot) && same_spot q spot) || b) (covered_written spots q)
      ∙ none_passes (is_some (value spot)) (same_spot q spot) (list_any (same_spot q) spots) (is_some (value q)) (λ h. ap (λ p. is_some (value p)) (sym (same_spot-eq q spot h)))
