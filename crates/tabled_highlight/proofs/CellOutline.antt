-- What is written around one cell of a set is what the outline has there, and somewhere all of it is written.
use Rattle.std.proofs.Common.{◌≡◌, ℕ, zero, suc, ◌||◌, Bool, true, false, is_some, Option, Some, None, option_map, List, [], ◌∷◌, refl, ap, ◌∙◌}
use Rattle.std.proofs.lemmas.Bool.{or_left, or_right}
use Rattle.tabled_object.specs.Entities.{position}
use Rattle.tabled_places.specs.declared.site.Direction.TheVariants.{Horizontal, Vertical}
use Rattle.tabled_places.specs.declared.site.Spot.{Spot}
use Rattle.tabled_places.specs.declared.site.Spot.TheVariants.{Edge, Crossing}
use Rattle.tabled_places.specs.declared.site.Site.{Site}
use Rattle.tabled_places.specs.declared.site.Site.TheVariants.{Cell as at_spot}
use Rattle.tabled_places.specs.declared.event.Written.TheVariants.{Sign as sign}
use Rattle.tabled_places.specs.Event.{covered}
use Rattle.tabled_places.proofs.Leaving.{AllOf, on_spots, spot_itself}
use Rattle.tabled_highlight.specs.Outline.{Outlining, CellSet, upper_left, upper_right, lower_left, lower_right, across_value, down_value, crossing_value, outline_value}
use Rattle.tabled_highlight.specs.Around.{all_written, unless, around}

-- an entry covers its own spot where it has a value, and those after it cover what they cover
head_covers : {T : Type 0} (spot : Spot) (value : Option T) (rest : List (Spot × Option T)) → is_some value ≡ true → covered (all_written ((spot, value) ∷ rest)) (at_spot spot) ≡ true
unfolding all_written
head_covers spot (Some x) rest h = or_left _ (covered (all_written rest) (at_spot spot)) (spot_itself spot)
head_covers spot None rest h = absurd cc

tail_covers : {T : Type 0} (spot : Spot) (value : Option T) (rest : List (Spot × Option T)) (q : Site) → covered (all_written rest) q ≡ true → covered (all_written ((spot, value) ∷ rest)) q ≡ true
unfolding all_written
tail_covers spot (Some x) rest q h = or_right _ (covered (all_written rest) q) h
tail_covers spot None rest q h = h

module _ {T : Type 0} (given : Outlining T) where
  -- corners by the bits of their cells
  first_corner : (ul ur ll : Bool) (w : T) → unless (ul || ur || ll) (crossing_value given (false, false) (false, true)) ≡ Some w → crossing_value given (ul, ur) (ll, true) ≡ Some w
  first_corner false false false w e = e
  first_corner ul ur ll w e = absurd cc

  second_corner : (ul ur lr : Bool) (w : T) → unless (ul || ur) (crossing_value given (false, false) (true, lr)) ≡ Some w → crossing_value given (ul, ur) (true, lr) ≡ Some w
  second_corner false false lr w e = e
  second_corner ul ur lr w e = absurd cc

  third_corner : (ul ll lr : Bool) (w : T) → unless ul (crossing_value given (false, true) (ll, lr)) ≡ Some w → crossing_value given (ul, true) (ll, lr) ≡ Some w
  third_corner true ll lr w e = absurd cc
  third_corner false ll lr w e = e

  module _ (cells : CellSet) where
    one_agrees : (spot : Spot) (value : Option T) (rest : List (Spot × Option T)) → ((w : T) → value ≡ Some w → outline_value cells given spot ≡ Some w)
        → AllOf (on_spots (outline_value cells given)) (all_written rest) → AllOf (on_spots (outline_value cells given)) (all_written ((spot, value) ∷ rest))
    unfolding all_written
    one_agrees spot (Some w) rest h all = (ap (option_map sign) (h w refl), all)
    one_agrees spot None rest h all = all

    none_agree : AllOf (on_spots (outline_value cells given)) (all_written [])
    unfolding all_written
    none_agree = tt

    -- all that is written around a cell of the set is of the outline
    pub around_agrees : (r c : ℕ) → cells (position r c) ≡ true → AllOf (on_spots (outline_value cells given)) (all_written (around given cells r (suc r) c (suc c)))
    around_agrees r c h =
        one_agrees (Edge Horizontal r c) _ _ (λ w e. ap (across_value given.border (upper_right cells r c)) h ∙ e)
        (one_agrees (Edge Horizontal (suc r) c) _ _ (λ w e. ap (λ b. across_value given.border b (lower_right cells (suc r) c)) h ∙ e)
        (one_agrees (Edge Vertical r c) _ _ (λ w e. ap (down_value given.border (lower_left cells r c)) h ∙ e)
        (one_agrees (Edge Vertical r (suc c)) _ _ (λ w e. ap (λ b. down_value given.border b (lower_right cells r (suc c))) h ∙ e)
        (one_agrees (Crossing r c) _ _ (λ w e. ap (λ b. crossing_value given (upper_left cells r c, upper_right cells r c) (lower_left cells r c, b)) h ∙ first_corner (upper_left cells r c) (upper_right cells r c) (lower_left cells r c) w e)
        (one_agrees (Crossing r (suc c)) _ _ (λ w e. ap (λ b. crossing_value given (upper_right cells r c, upper_right cells r (suc c)) (b, lower_right cells r (suc c))) h ∙ second_corner (upper_right cells r c) (upper_right cells r (suc c)) (lower_right cells r (suc c)) w e)
        (one_agrees (Crossing (suc r) c) _ _ (λ w e. ap (λ b. crossing_value given (lower_left cells r c, b) (lower_left cells (suc r) c, lower_right cells (suc r) c)) h ∙ third_corner (lower_left cells r c) (lower_left cells (suc r) c) (lower_right cells (suc r) c) w e)
        (one_agrees (Crossing (suc r) (suc c)) _ _ (λ w e. ap (λ b. crossing_value given (b, lower_right cells r (suc c)) (lower_right cells (suc r) c, lower_right cells (suc r) (suc c))) h ∙ e) none_agree)))))))

    -- a cell of the set around which an edge or a crossing is written
    pub record Found (spot : Spot) : Type 0 where
      pub row : ℕ
      pub col : ℕ
      pub chosen : cells (position row col) ≡ true
      pub written : covered (all_written (around given cells row (suc row) col (suc col))) (at_spot spot) ≡ true

    found_across : (r c : ℕ) (u l : Bool) → upper_right cells r c ≡ u → lower_right cells r c ≡ l → is_some (across_value given.border u l) ≡ true → Found (Edge Horizontal r c)
    found_across r c false true hu hl h = record { row = r; col = c; chosen = hl; written = head_covers (Edge Horizontal r c) _ _ (ap (λ b. is_some (across_value given.border b true)) hu ∙ h) }
    found_across zero c true false hu hl h = absurd cc
    found_across (suc r) c true false hu hl h = record {
      row = r;
      col = c;
      chosen = hu;
      written = tail_covers _ _ _ (at_spot (Edge Horizontal (suc r) c)) (head_covers (Edge Horizontal (suc r) c) _ _ (ap (λ b. is_some (across_value given.border true b)) hl ∙ h));
    }
    found_across r c false false hu hl h = absurd cc
    found_across r c true true hu hl h = absurd cc

    found_down : (r c : ℕ) (a b : Bool) → lower_left cells r c ≡ a → lower_right cells r c ≡ b → is_some (down_value given.border a b) ≡ true → Found (Edge Vertical r c)
    found_down r c false true ha hb h = record {
      row = r;
      col = c;
      chosen = hb;
      written = let q = at_spot (Edge Vertical r c) in tail_covers _ _ _ q (tail_covers _ _ _ q (head_covers (Edge Vertical r c) _ _ (ap (λ x. is_some (down_value given.border x true)) ha ∙ h)));
    }
    found_down r zero true false ha hb h = absurd cc
    found_down r (suc c) true false ha hb h = record {
      row = r;
      col = c;
      chosen = ha;
      written = let q = at_spot (Edge Vertical r (suc c)) in tail_covers _ _ _ q (tail_covers _ _ _ q (tail_covers _ _ _ q (head_covers (Edge Vertical r (suc c)) _ _ (ap (λ x. is_some (down_value given.border true x)) hb ∙ h))));
    }
    found_down r c false false ha hb h = absurd cc
    found_down r c true true ha hb h = absurd cc

    -- past the four sides
    past_sides : (s1 s2 s3 s4 : Spot) (v1 v2 v3 v4 : Option T) (rest : List (Spot × Option T)) (q : Site) → covered (all_written rest) q ≡ true → covered (all_written ((s1, v1) ∷ (s2, v2) ∷ (s3, v3) ∷ (s4, v4) ∷ rest)) q ≡ true
    past_sides s1 s2 s3 s4 v1 v2 v3 v4 rest q h = tail_covers s1 v1 _ q (tail_covers s2 v2 _ q (tail_covers s3 v3 _ q (tail_covers s4 v4 rest q h)))

    found_crossing : (r c : ℕ) (ul ur ll lr : Bool) → upper_left cells r c ≡ ul → upper_right cells r c ≡ ur → lower_left cells r c ≡ ll → lower_right cells r c ≡ lr
        → is_some (crossing_value given (ul, ur) (ll, lr)) ≡ true → Found (Crossing r c)
    found_crossing zero c true ur ll lr hul hur hll hlr h = absurd cc
    found_crossing (suc r) zero true ur ll lr hul hur hll hlr h = absurd cc
    found_crossing (suc r) (suc c) true ur ll lr hul hur hll hlr h = record {
      row = r;
      col = c;
      chosen = hul;
      written = let q = at_spot (Crossing (suc r) (suc c)) in past_sides _ _ _ _ _ _ _ _ _ q (tail_covers _ _ _ q (tail_covers _ _ _ q (tail_covers _ _ _ q
          (head_covers (Crossing (suc r) (suc c)) _ _ ((λ i. is_some (crossing_value given (true, hur i) (hll i, hlr i))) ∙ h)))));
    }
    found_crossing zero c false true ll lr hul hur hll hlr h = absurd cc
    found_crossing (suc r) c false true ll lr hul hur hll hlr h = record {
      row = r;
      col = c;
      chosen = hur;
      written = let q = at_spot (Crossing (suc r) c) in past_sides _ _ _ _ _ _ _ _ _ q (tail_covers _ _ _ q (tail_covers _ _ _ q
          (head_covers (Crossing (suc r) c) _ _ ((λ i. is_some (unless (hul i) (crossing_value given (false, true) (hll i, hlr i)))) ∙ h))));
    }
    found_crossing r zero false false true lr hul hur hll hlr h = absurd cc
    found_crossing r (suc c) false false true lr hul hur hll hlr h = record {
      row = r;
      col = c;
      chosen = hll;
      written = let q = at_spot (Crossing r (suc c)) in past_sides _ _ _ _ _ _ _ _ _ q (tail_covers _ _ _ q
          (head_covers (Crossing r (suc c)) _ _ ((λ i. is_some (unless (hul i || hur i) (crossing_value given (false, false) (true, hlr i)))) ∙ h)));
    }
    found_crossing r c false false false true hul hur hll hlr h = record {
      row = r;
      col = c;
      chosen = hlr;
      written = let q = at_spot (Crossing r c) in past_sides _ _ _ _ _ _ _ _ _ q
          (head_covers (Crossing r c) _ _ ((λ i. is_some (unless (hul i || hur i || hll i) (crossing_value given (false, false) (false, true)))) ∙ h));
    }
    found_crossing r c false false false false hul hur hll hlr h = absurd cc

    -- where the outline has something, it is written around a cell of the set
    pub found : (spot : Spot) → is_some (outline_value cells given spot) ≡ true → Found spot
    found (Edge Horizontal r c) h = found_across r c (upper_right cells r c) (lower_right cells r c) refl refl h
    found (Edge Vertical r c) h = found_down r c (lower_left cells r c) (lower_right cells r c) refl refl h
    found (Crossing r c) h = found_crossing r c (upper_left cells r c) (upper_right cells r c) (lower_left cells r c) (lower_right cells r c) refl refl refl refl h
