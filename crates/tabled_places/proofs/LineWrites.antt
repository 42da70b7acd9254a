-- What a custom line put at its index leaves.
use Rattle.std.proofs.Common.{◌≡◌, ℕ, Bool, true, false, cond, ◌&&◌, ◌||◌, ◌==◌, Option, Some, None, List, [], ◌∷◌, ◌++◌, refl, sym, ap, ◌∙◌, eq-eqb, eqb-true, option_map}
use mathlib.Core.Bool.{and-false}
use Rattle.std.specs.Cmp.{both_ways}
use Rattle.tabled_places.specs.declared.place.LineOf.{LineOf}
use Rattle.tabled_places.specs.declared.lines.HorizontalLine.{HorizontalLine}
use Rattle.tabled_places.specs.declared.lines.VerticalLine.{VerticalLine}
use Rattle.tabled_places.specs.Site.{Rank, first, inner, last, Part, mark, main_edges, meeting, Site, of_line, same_rank, same_part, same_line, same_site}
use Rattle.tabled_places.specs.Event.{sign, standing, Event, write, erase, line_sites, within, covered, replay}
use Rattle.tabled_places.specs.Lines.{part_write, horizontal_line_set, vertical_line_set}
use Rattle.tabled_places.specs.State.{horizontal_part, vertical_part}
use Rattle.tabled_places.proofs.Replay.{replay_one, replay-append, replay_cleared, replay_uncovered}
use Rattle.tabled_places.proofs.Blocks.{replay_rest, uncovered_both}

pub same_number : (n : ℕ) → (n == n) ≡ true
same_number n = eq-eqb n n refl

same_line-refl : (l : LineOf) → same_line l l ≡ true
same_line-refl (LineOf.Horizontal n) = same_number n
same_line-refl (LineOf.Vertical n) = same_number n

same_rank-refl : (r : Rank) → same_rank r r ≡ true
same_rank-refl first = refl
same_rank-refl inner = refl
same_rank-refl last = refl

same_part-refl : (p : Part) → same_part p p ≡ true
same_part-refl (meeting r) = same_rank-refl r
same_part-refl p = refl

-- the events of a line of either direction, by its four fields
abbrev line_set : {T : Type 0} → LineOf → Option T → Option T → Option T → Option T → List (Event T)
line_set l main between start end =
    erase (line_sites l) ∷ write (of_line l mark) standing
    ∷ part_write l main_edges main ++ part_write l (meeting inner) between ++ part_write l (meeting first) start ++ part_write l (meeting last) end

other_part : (l : LineOf) (p r : Part) → same_part p r ≡ false → same_site (of_line l p) (of_line l r) ≡ false
other_part l p r h = ap (λ b. same_line l l && b) h ∙ and-false (same_line l l)

own_site : (l : LineOf) (p : Part) → same_site (of_line l p) (of_line l p) ≡ true
own_site l p = ap (λ b. b && same_part p p) (same_line-refl l) ∙ same_part-refl p

module _ {T : Type 0} (l : LineOf) where
  -- the write of one part covers no site but its own
  part_elsewhere : (q : Site) (p : Part) (o : Option T) → same_site q (of_line l p) ≡ false → covered (part_write l p o) q ≡ false
  part_elsewhere q p None h = refl
  part_elsewhere q p (Some x) h = ap (λ b. b || false) h

  -- after events that leave nothing there, a part leaves its field
  own_part : (before : List (Event T)) (p : Part) (o : Option T) → replay before (of_line l p) ≡ None → replay (before ++ part_write l p o) (of_line l p) ≡ option_map sign o
  own_part before p None h = replay-append (of_line l p) before [] ∙ h
  own_part before p (Some x) h =
      replay-append (of_line l p) before (write (of_line l p) (sign x) ∷ [])
      ∙ ap (λ b. cond (b || false) (replay (write (of_line l p) (sign x) ∷ []) (of_line l p)) (replay before (of_line l p))) (own_site l p)
      ∙ replay_one (of_line l p) (write (of_line l p) (sign x)) ∙ ap (λ b. cond b (Some (sign x)) None) (own_site l p)

  -- the clearing and the mark, in front of some other events
  cleared : (es : List (Event T)) (p : Part) → same_part p mark ≡ false → covered es (of_line l p) ≡ false → replay (erase (line_sites l) ∷ write (of_line l mark) standing ∷ es) (of_line l p) ≡ None
  cleared es p h g =
      replay_cleared (line_sites l) (write (of_line l mark) standing ∷ es) (of_line l p)
      ∙ replay_uncovered (of_line l p) (write (of_line l mark) standing ∷ es) (ap (λ b. b || covered es (of_line l p)) (other_part l p mark h) ∙ g)

  module _ (main between start end : Option T) where
    at_mark : replay (line_set l main between start end) (of_line l mark) ≡ Some standing
    at_mark =
        replay_rest (of_line l mark) _ (part_write l (meeting last) end) (part_elsewhere (of_line l mark) (meeting last) end (other_part l mark (meeting last) refl))
        ∙ replay_rest (of_line l mark) _ (part_write l (meeting first) start) (part_elsewhere (of_line l mark) (meeting first) start (other_part l mark (meeting first) refl))
        ∙ replay_rest (of_line l mark) _ (part_write l (meeting inner) between) (part_elsewhere (of_line l mark) (meeting inner) between (other_part l mark (meeting inner) refl))
        ∙ replay_rest (of_line l mark) (erase (line_sites l) ∷ write (of_line l mark) standing ∷ []) (part_write l main_edges main) (part_elsewhere (of_line l mark) main_edges main (other_part l mark main_edges refl))
        ∙ replay_cleared (line_sites l) (write (of_line l mark) standing ∷ []) (of_line l mark)
        ∙ replay_one (of_line l mark) (write (of_line l mark) standing) ∙ ap (λ b. cond b (Some standing) None) (own_site l mark)

    at_main : replay (line_set l main between start end) (of_line l main_edges) ≡ option_map sign main
    at_main =
        replay_rest (of_line l main_edges) _ (part_write l (meeting last) end) (part_elsewhere (of_line l main_edges) (meeting last) end (other_part l main_edges (meeting last) refl))
        ∙ replay_rest (of_line l main_edges) _ (part_write l (meeting first) start) (part_elsewhere (of_line l main_edges) (meeting first) start (other_part l main_edges (meeting first) refl))
        ∙ replay_rest (of_line l main_edges) _ (part_write l (meeting inner) between) (part_elsewhere (of_line l main_edges) (meeting inner) between (other_part l main_edges (meeting inner) refl))
        ∙ own_part (erase (line_sites l) ∷ write (of_line l mark) standing ∷ []) main_edges main (cleared [] main_edges refl refl)

    at_between : replay (line_set l main between start end) (of_line l (meeting inner)) ≡ option_map sign between
    at_between =
        replay_rest (of_line l (meeting inner)) _ (part_write l (meeting last) end) (part_elsewhere (of_line l (meeting inner)) (meeting last) end (other_part l (meeting inner) (meeting last) refl))
        ∙ replay_rest (of_line l (meeting inner)) _ (part_write l (meeting first) start) (part_elsewhere (of_line l (meeting inner)) (meeting first) start (other_part l (meeting inner) (meeting first) refl))
        ∙ own_part (erase (line_sites l) ∷ write (of_line l mark) standing ∷ part_write l main_edges main) (meeting inner) between
        (cleared (part_write l main_edges main) (meeting inner) refl (part_elsewhere (of_line l (meeting inner)) main_edges main (other_part l (meeting inner) main_edges refl)))

    at_start : replay (line_set l main between start end) (of_line l (meeting first)) ≡ option_map sign start
    at_start =
        replay_rest (of_line l (meeting first)) _ (part_write l (meeting last) end) (part_elsewhere (of_line l (meeting first)) (meeting last) end (other_part l (meeting first) (meeting last) refl))
        ∙ own_part (erase (line_sites l) ∷ write (of_line l mark) standing ∷ part_write l main_edges main ++ part_write l (meeting inner) between) (meeting first) start
        (cleared (part_write l main_edges main ++ part_write l (meeting inner) between) (meeting first) refl
        (uncovered_both (of_line l (meeting first)) (part_write l main_edges main) (part_write l (meeting inner) between)
        (part_elsewhere (of_line l (meeting first)) main_edges main (other_part l (meeting first) main_edges refl))
        (part_elsewhere (of_line l (meeting first)) (meeting inner) between (other_part l (meeting first) (meeting inner) refl))))

    at_end : replay (line_set l main between start end) (of_line l (meeting last)) ≡ option_map sign end
    at_end =
        own_part (erase (line_sites l) ∷ write (of_line l mark) standing ∷ part_write l main_edges main ++ part_write l (meeting inner) between ++ part_write l (meeting first) start) (meeting last) end
        (cleared (part_write l main_edges main ++ part_write l (meeting inner) between ++ part_write l (meeting first) start) (meeting last) refl
        (uncovered_both (of_line l (meeting last)) (part_write l main_edges main ++ part_write l (meeting inner) between) (part_write l (meeting first) start)
        (uncovered_both (of_line l (meeting last)) (part_write l main_edges main) (part_write l (meeting inner) between)
        (part_elsewhere (of_line l (meeting last)) main_edges main (other_part l (meeting last) main_edges refl))
        (part_elsewhere (of_line l (meeting last)) (meeting inner) between (other_part l (meeting last) (meeting inner) refl)))
        (part_elsewhere (of_line l (meeting last)) (meeting first) start (other_part l (meeting last) (meeting first) refl))))

    -- the events cover the sites of the line and no others
    covered_line_set : (q : Site) → ((p : Part) → within (line_sites l) q ≡ false → same_site q (of_line l p) ≡ false) → covered (line_set l main between start end) q ≡ within (line_sites l) q
    covered_line_set q others = by_test (within (line_sites l) q) refl
      where
        rest : List (Event T)
        rest = write (of_line l mark) standing ∷ part_write l main_edges main ++ part_write l (meeting inner) between ++ part_write l (meeting first) start ++ part_write l (meeting last) end

        outside : within (line_sites l) q ≡ false → covered rest q ≡ false
        outside h =
            uncovered_both q (write (of_line l mark) standing ∷ part_write l main_edges main ++ part_write l (meeting inner) between ++ part_write l (meeting first) start) (part_write l (meeting last) end)
            (uncovered_both q (write (of_line l mark) standing ∷ part_write l main_edges main ++ part_write l (meeting inner) between) (part_write l (meeting first) start)
            (uncovered_both q (write (of_line l mark) standing ∷ part_write l main_edges main) (part_write l (meeting inner) between)
            (ap (λ b. b || covered (part_write l main_edges main) q) (others mark h) ∙ part_elsewhere q main_edges main (others main_edges h))
            (part_elsewhere q (meeting inner) between (others (meeting inner) h)))
            (part_elsewhere q (meeting first) start (others (meeting first) h)))
            (part_elsewhere q (meeting last) end (others (meeting last) h))

        by_test : (b : Bool) → within (line_sites l) q ≡ b → (within (line_sites l) q || covered rest q) ≡ within (line_sites l) q
        by_test true h = ap (λ b. b || covered rest q) h ∙ sym h
        by_test false h = ap (λ b. b || covered rest q) h ∙ outside h ∙ sym h

pub number_sym : (n m : ℕ) → (n == m) ≡ (m == n)
number_sym n m = both_ways (n == m) (m == n) (λ e. eq-eqb m n (sym (eqb-true n m e))) (λ e. eq-eqb n m (sym (eqb-true m n e)))

same_line-sym : (l m : LineOf) → same_line l m ≡ same_line m l
same_line-sym (LineOf.Horizontal n) (LineOf.Horizontal m) = number_sym n m
same_line-sym (LineOf.Vertical n) (LineOf.Vertical m) = number_sym n m
same_line-sym l m = refl

-- a site that is not of the line is none of its parts
outside_line : (l : LineOf) (q : Site) (p : Part) → within (line_sites l) q ≡ false → same_site q (of_line l p) ≡ false
outside_line l (of_line m r) p h = ap (λ b. b && same_part r p) (same_line-sym m l ∙ h)
outside_line l q p h = refl

-- a custom line put at its index leaves its fields and its mark, and nothing else there
pub replay-horizontal_line_set : {T : Type 0} (n : ℕ) (line : HorizontalLine T) (p : Part) → replay (horizontal_line_set n line) (of_line (LineOf.Horizontal n) p) ≡ horizontal_part p line
unfolding horizontal_line_set
replay-horizontal_line_set n line mark = at_mark (LineOf.Horizontal n) line.main line.intersection line.left line.right
replay-horizontal_line_set n line main_edges = at_main (LineOf.Horizontal n) line.main line.intersection line.left line.right
replay-horizontal_line_set n line (meeting inner) = at_between (LineOf.Horizontal n) line.main line.intersection line.left line.right
replay-horizontal_line_set n line (meeting first) = at_start (LineOf.Horizontal n) line.main line.intersection line.left line.right
replay-horizontal_line_set n line (meeting last) = at_end (LineOf.Horizontal n) line.main line.intersection line.left line.right

pub replay-vertical_line_set : {T : Type 0} (n : ℕ) (line : VerticalLine T) (p : Part) → replay (vertical_line_set n line) (of_line (LineOf.Vertical n) p) ≡ vertical_part p line
unfolding vertical_line_set
replay-vertical_line_set n line mark = at_mark (LineOf.Vertical n) line.main line.intersection line.top line.bottom
replay-vertical_line_set n line main_edges = at_main (LineOf.Vertical n) line.main line.intersection line.top line.bottom
replay-vertical_line_set n line (meeting inner) = at_between (LineOf.Vertical n) line.main line.intersection line.top line.bottom
replay-vertical_line_set n line (meeting first) = at_start (LineOf.Vertical n) line.main line.intersection line.top line.bottom
replay-vertical_line_set n line (meeting last) = at_end (LineOf.Vertical n) line.main line.intersection line.top line.bottom

-- it covers the line's sites
pub covered-horizontal_line_set : {T : Type 0} (n : ℕ) (line : HorizontalLine T) (q : Site) → covered (horizontal_line_set n line) q ≡ within (line_sites (LineOf.Horizontal n)) q
unfolding horizontal_line_set
covered-horizontal_line_set n line q = covered_line_set (LineOf.Horizontal n) line.main line.intersection line.left line.right q (outside_line (LineOf.Horizontal n) q)

pub covered-vertical_line_set : {T : Type 0} (n : ℕ) (line : VerticalLine T) (q : Site) → covered (vertical_line_set n line) q ≡ within (line_sites (LineOf.Vertical n)) q
unfolding vertical_line_set
covered-vertical_line_set n line q = covered_line_set (LineOf.Vertical n) line.main line.intersection line.top line.bottom q (outside_line (LineOf.Vertical n) q)
