-- Erasures in a row: cell by cell, and spot by spot along a line.
use Rattle.std.proofs.Common.{◌≡◌, ℕ, ◌+◌, ◌<◌, ◌==◌, Bool, true, false, cond, ◌||◌, None, List, [], ◌∷◌, ◌++◌, refl, ap, sym, ◌∙◌, subst, map, arith}
use Rattle.std.specs.List.{flat_map, filter, list_any, range_with_len}
use Rattle.std.proofs.lemmas.List.{append_assoc, map-append}
use Rattle.std.proofs.lemmas.Bool.Decides.{nat_tests}
use Rattle.std.proofs.lemmas.List.Folds.{list_any-append}
use Rattle.std.proofs.lemmas.List.FromFn.{map-range_with_len_more}
use Rattle.tabled_object.specs.declared.position.Position.{Position}
use Rattle.tabled_object.specs.Entities.{is_inside}
use Rattle.tabled_places.specs.declared.place.LineOf.{LineOf}
use Rattle.tabled_places.specs.Site.{Spot, Site, at_spot, same_site}
use Rattle.tabled_places.specs.Event.{one_site, erase, covered, replay, Changes}
use Rattle.tabled_places.specs.State.{State, state_at}
use Rattle.tabled_places.specs.Calls.{border_erased, borders_erased, spots_erased, line_spots, frame_erased}
use Rattle.tabled_places.proofs.Replay.{replay-nil, replay_cleared, Changes-append, Changes-nil}

-- a cell inside, and then the others
pub one_inside : {T : Type 0} (rows cols : ℕ) (pos : Position) (rest : List Position) (old mid end : State T) → is_inside rows cols pos ≡ true → Changes (border_erased pos) (state_at old) (state_at mid) → Changes (borders_erased (rows, cols) rest) (state_at mid) (state_at end) → Changes (borders_erased (rows, cols) (pos ∷ rest)) (state_at old) (state_at end)
unfolding borders_erased
one_inside rows cols pos rest old mid end inside one others =
    subst (λ b. Changes (flat_map border_erased (cond b (pos ∷ filter (is_inside rows cols) rest) (filter (is_inside rows cols) rest))) (state_at old) (state_at end)) (sym inside)
    (Changes-append (border_erased pos) (flat_map border_erased (filter (is_inside rows cols) rest)) (state_at old) (state_at mid) (state_at end) one others)

-- a cell outside is passed over
pub one_outside : {T : Type 0} (rows cols : ℕ) (pos : Position) (rest : List Position) (old end : State T) → is_inside rows cols pos ≡ false → Changes (borders_erased (rows, cols) rest) (state_at old) (state_at end) → Changes (borders_erased (rows, cols) (pos ∷ rest)) (state_at old) (state_at end)
unfolding borders_erased
one_outside rows cols pos rest old end outside others =
    subst (λ b. Changes (flat_map border_erased (cond b (pos ∷ filter (is_inside rows cols) rest) (filter (is_inside rows cols) rest))) (state_at old) (state_at end)) (sym outside) others

-- no cell is left
pub none_left : {T : Type 0} (shape : ℕ × ℕ) (cells : List Position) (store : State T) → cells ≡ [] → Changes (borders_erased shape cells) (state_at store) (state_at store)
unfolding borders_erased
none_left shape cells store e = subst (λ rest. Changes (borders_erased shape rest) (state_at store) (state_at store)) (sym e) (Changes-nil (state_at store))

-- whether a site is at one of these spots
abbrev pub among : List Spot → Site → Bool
among spots q = list_any (same_site q) (map at_spot spots)

among-append : (ps qs : List Spot) (q : Site) → among (ps ++ qs) q ≡ (among ps q || among qs q)
among-append ps qs q = ap (list_any (same_site q)) (map-append at_spot ps qs) ∙ list_any-append (same_site q) (map at_spot ps) (map at_spot qs)

-- erasures of spots cover these and leave nothing
covered_spots : (T : Type 0) (spots : List Spot) (q : Site) → covered (spots_erased {T = T} spots) q ≡ among spots q
unfolding spots_erased
covered_spots T [] q = refl
covered_spots T (spot ∷ spots) q = ap (λ b. same_site q (at_spot spot) || b) (covered_spots T spots q)

replayed_spots : (T : Type 0) (spots : List Spot) (q : Site) → replay (spots_erased {T = T} spots) q ≡ None
unfolding spots_erased
replayed_spots T [] q = replay-nil q
replayed_spots T (spot ∷ spots) q = replay_cleared (one_site (at_spot spot)) (spots_erased spots) q ∙ replayed_spots T spots q

-- lists of the same spots are erased alike
same_erasure : {T : Type 0} (ps qs : List Spot) (old new : State T) → ((q : Site) → among ps q ≡ among qs q) → Changes (spots_erased ps) (state_at old) (state_at new) → Changes (spots_erased qs) (state_at old) (state_at new)
unfolding Changes
same_erasure {T} ps qs old new same erased q =
    erased q ∙ (λ i. cond ((covered_spots T ps q ∙ same q ∙ sym (covered_spots T qs q)) i) ((replayed_spots T ps q ∙ sym (replayed_spots T qs q)) i) (state_at old q))

-- two erasures in a row
pub spots_then : {T : Type 0} (ps qs : List Spot) (old mid new : State T) → Changes (spots_erased ps) (state_at old) (state_at mid) → Changes (spots_erased qs) (state_at mid) (state_at new) → Changes (spots_erased (ps ++ qs)) (state_at old) (state_at new)
unfolding spots_erased
spots_then ps qs old mid new first then =
    subst (λ es. Changes es (state_at old) (state_at new)) (sym (map-append (λ spot. erase (one_site (at_spot spot))) ps qs))
    (Changes-append (spots_erased ps) (spots_erased qs) (state_at old) (state_at mid) (state_at new) first then)

-- one spot, by its name
pub named_spot : {T : Type 0} (spot named : Spot) (old new : State T) → spot ≡ named → Changes (erase (one_site (at_spot spot)) ∷ []) (state_at old) (state_at new) → Changes (spots_erased (named ∷ [])) (state_at old) (state_at new)
unfolding spots_erased
named_spot spot named old new e h = subst (λ s. Changes (erase (one_site (at_spot s)) ∷ []) (state_at old) (state_at new)) e h

module _ (f g : ℕ → Spot) where
  -- the edges and the crossings of a line so far
  abbrev pub so_far : ℕ → List Spot
  so_far n = map f (range_with_len 0 n) ++ map g (range_with_len 0 n)

  pub none_so_far : {T : Type 0} (store : State T) → Changes (spots_erased (so_far 0)) (state_at store) (state_at store)
  unfolding spots_erased
  none_so_far store = Changes-nil (state_at store)

  reordered : (a b c d : Bool) → (((a || b) || c) || d) ≡ ((a || c) || (b || d))
  reordered true b c d = refl
  reordered false true true d = refl
  reordered false true false d = refl
  reordered false false c d = refl

  -- the next edge and the next crossing
  pub one_further : {T : Type 0} (n : ℕ) (old a b new : State T) → Changes (spots_erased (so_far n)) (state_at old) (state_at a) → Changes (spots_erased (f n ∷ [])) (state_at a) (state_at b) → Changes (spots_erased (g n ∷ [])) (state_at b) (state_at new) → Changes (spots_erased (so_far (n + 1))) (state_at old) (state_at new)
  one_further n old a b new before edge crossing =
      same_erasure ((so_far n ++ f n ∷ []) ++ g n ∷ []) (so_far (n + 1)) old new (λ q.
      among-append (so_far n ++ f n ∷ []) (g n ∷ []) q
      ∙ ap (λ x. x || among (g n ∷ []) q) (among-append (so_far n) (f n ∷ []) q ∙ ap (λ x. x || among (f n ∷ []) q) (among-append (map f (range_with_len 0 n)) (map g (range_with_len 0 n)) q))
      ∙ reordered (among (map f (range_with_len 0 n)) q) (among (map g (range_with_len 0 n)) q) (among (f n ∷ []) q) (among (g n ∷ []) q)
      ∙ sym (among-append (map f (range_with_len 0 (n + 1))) (map g (range_with_len 0 (n + 1))) q
      ∙ ap (λ x. x || among (map g (range_with_len 0 (n + 1))) q) (ap (λ l. among l q) (map-range_with_len_more f 0 n n (omega arith)) ∙ among-append (map f (range_with_len 0 n)) (f n ∷ []) q)
      ∙ ap (λ x. (among (map f (range_with_len 0 n)) q || among (f n ∷ []) q) || x) (ap (λ l. among l q) (map-range_with_len_more g 0 n n (omega arith)) ∙ among-append (map g (range_with_len 0 n)) (g n ∷ []) q)))
      (spots_then (so_far n ++ f n ∷ []) (g n ∷ []) old b new (spots_then (so_far n) (f n ∷ []) old a b before edge) crossing)

  -- the last crossing
  pub line_closed : {T : Type 0} (n : ℕ) (old mid new : State T) → Changes (spots_erased (so_far n)) (state_at old) (state_at mid) → Changes (spots_erased (g n ∷ [])) (state_at mid) (state_at new) → Changes (spots_erased (map f (range_with_len 0 n) ++ map g (range_with_len 0 (n + 1)))) (state_at old) (state_at new)
  line_closed n old mid new before crossing =
      subst (λ spots. Changes (spots_erased spots) (state_at old) (state_at new))
      (append_assoc (map f (range_with_len 0 n)) (map g (range_with_len 0 n)) (g n ∷ []) ∙ ap (λ l. map f (range_with_len 0 n) ++ l) (sym (map-range_with_len_more g 0 n n (omega arith))))
      (spots_then (so_far n) (g n ∷ []) old mid new before crossing)

no_zero : (rows cols : ℕ) → 0 < rows → 0 < cols → ((rows == 0) || (cols == 0)) ≡ false
no_zero rows cols h k = grind (arith, nat_tests)

-- a table with rows and columns has a frame, whose four lines are erased in a row
pub frame_there : {T : Type 0} (rows cols : ℕ) (old a b c new : State T) → 0 < rows → 0 < cols → Changes (spots_erased (line_spots (LineOf.Horizontal 0) cols)) (state_at old) (state_at a) → Changes (spots_erased (line_spots (LineOf.Horizontal rows) cols)) (state_at a) (state_at b) → Changes (spots_erased (line_spots (LineOf.Vertical 0) rows)) (state_at b) (state_at c) → Changes (spots_erased (line_spots (LineOf.Vertical cols) rows)) (state_at c) (state_at new) → Changes (frame_erased (rows, cols)) (state_at old) (state_at new)
frame_there rows cols old a b c new h k top bottom left right =
    subst (λ z. Changes (cond z [] (spots_erased (line_spots (LineOf.Horizontal 0) cols ++ line_spots (LineOf.Horizontal rows) cols ++ line_spots (LineOf.Vertical 0) rows ++ line_spots (LineOf.Vertical cols) rows))) (state_at old) (state_at new)) (sym (no_zero rows cols h k))
    (spots_then _ (line_spots (LineOf.Vertical cols) rows) old c new (spots_then _ (line_spots (LineOf.Vertical 0) rows) old b c (spots_then (line_spots (LineOf.Horizontal 0) cols) (line_spots (LineOf.Horizontal rows) cols) old a b top bottom) left) right)

-- a table without has none
pub no_frame : {T : Type 0} (rows cols : ℕ) (store : State T) → ((rows == 0) || (cols == 0)) ≡ true → Changes (frame_erased (rows, cols)) (state_at store) (state_at store)
no_frame rows cols store e = subst (λ z. Changes (cond z [] (spots_erased (line_spots (LineOf.Horizontal 0) cols ++ line_spots (LineOf.Horizontal rows) cols ++ line_spots (LineOf.Vertical 0) rows ++ line_spots (LineOf.Vertical cols) rows))) (state_at store) (state_at store)) (sym e) (Changes-nil (state_at store))

pub no_rows : (rows cols : ℕ) → rows ≡ 0 → ((rows == 0) || (cols == 0)) ≡ true
no_rows rows cols e = grind (arith, nat_tests)

pub no_cols : (rows cols : ℕ) → cols ≡ 0 → ((rows == 0) || (cols == 0)) ≡ true
no_cols rows cols e = grind (arith, nat_tests)
