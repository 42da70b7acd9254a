-- The picture after crossings were written.
use Rattle.std.proofs.Common.{◌≡◌, ℕ, Bool, true, false, cond, Option, Some, None, List, [], ◌∷◌, ◌++◌, refl, sym, ap, ◌∙◌, filter, option_map}
use Rattle.std.specs.List.{last_or}
use Rattle.std.specs.Option.{option_or}
use Rattle.std.specs.Cmp.{eq_by_cmp_equiv}
use Rattle.std.specs.BTreeMap.{BTreeMap, get, is_at}
use Rattle.std.specs.Map.{lookup}
use Rattle.tabled_object.specs.declared.position.Position.{Position}
use Rattle.tabled_object.specs.contracts.position.PositionOrd.TheImpl.Laws.{total-law}
use Rattle.tabled_object.specs.Entities.{position}
use Rattle.tabled_places.specs.declared.place.Place.{Place}
use Rattle.tabled_layout.specs.Spans.{position_cmp, same_position}
use Rattle.tabled_layout.proofs.SpanLemmas.{is_same_position}
use Rattle.tabled_correction.specs.Correction.{Write, PlaceCharacters, last_at, written_over}
use Rattle.tabled_correction.specs.Picture.{shown_through}

last_more : {A : Type 0} (test : A → Bool) (before : Option A) (xs : List A) (x : A) → last_or before (filter test (xs ++ x ∷ [])) ≡ cond (test x) (Some x) (last_or before (filter test xs))
last_more test before [] x = by (test x)
  where
    by : (b : Bool) → last_or before (cond b (x ∷ []) []) ≡ cond b (Some x) before
    by true = refl
    by false = refl
last_more test before (y ∷ ys) x = by (test y) (last_more test (Some y) ys x) (last_more test before ys x)
  where
    by : (b : Bool) → last_or (Some y) (filter test (ys ++ x ∷ [])) ≡ cond (test x) (Some x) (last_or (Some y) (filter test ys)) → last_or before (filter test (ys ++ x ∷ [])) ≡ cond (test x) (Some x) (last_or before (filter test ys))
        → last_or before (cond b (y ∷ filter test (ys ++ x ∷ [])) (filter test (ys ++ x ∷ []))) ≡ cond (test x) (Some x) (last_or before (cond b (y ∷ filter test ys) (filter test ys)))
    by true with_it without = with_it
    by false with_it without = without

-- of writes and one more the last one counts
last_at_more : (writes : List Write) (entry : Write) (crossing : Position) → last_at (writes ++ entry ∷ []) crossing ≡ cond (same_position crossing entry.0) (Some entry.1) (last_at writes crossing)
last_at_more writes entry crossing =
    ap (option_map (λ e. e.1)) (last_more (λ e. same_position crossing e.0) None writes entry) ∙ by (same_position crossing entry.0)
  where
    by : (b : Bool) → option_map (λ (e : Write). e.1) (cond b (Some entry) (last_or None (filter (λ e. same_position crossing e.0) writes))) ≡ cond b (Some entry.1) (last_at writes crossing)
    by true = refl
    by false = refl

-- a map of crossings, after one more was put into it
pub one_more_crossing : (writes further : List Write) (old before after : BTreeMap Position ℕ) (entry : Write) → further ≡ writes ++ entry ∷ []
    → ((crossing : Position) → get position_cmp before crossing ≡ option_or (last_at writes crossing) (get position_cmp old crossing))
    → ((crossing : Position) → get position_cmp after crossing ≡ cond (is_at (position_cmp entry.0) crossing) (Some entry.1) (get position_cmp before crossing))
    → (crossing : Position) → get position_cmp after crossing ≡ option_or (last_at further crossing) (get position_cmp old crossing)
one_more_crossing writes further old before after entry more so_far updated crossing =
    updated crossing
    ∙ (λ i. cond (here i) (Some entry.1) (so_far crossing i))
    ∙ by (same_position crossing entry.0) (last_at writes crossing)
    ∙ ap (λ last. option_or last (get position_cmp old crossing)) (sym (last_at_more writes entry crossing) ∙ ap (λ ws. last_at ws crossing) (sym more))
  where
    here : is_at (position_cmp entry.0) crossing ≡ same_position crossing entry.0
    here = (eq_by_cmp_equiv total-law).symm entry.0 crossing ∙ is_same_position crossing entry.0

    by : (b : Bool) (last : Option ℕ) → cond b (Some entry.1) (option_or last (get position_cmp old crossing)) ≡ option_or (cond b (Some entry.1) last) (get position_cmp old crossing)
    by true last = refl
    by false last = refl

-- a map in which the crossings of a list stand shows what the list writes over the picture of the old map
pub shown_after : (writes : List Write) (old new : BTreeMap Position ℕ) (shown : PlaceCharacters)
    → ((crossing : Position) → get position_cmp new crossing ≡ option_or (last_at writes crossing) (get position_cmp old crossing))
    → (place : Place) → shown_through new shown place ≡ written_over writes (shown_through old shown) place
shown_after writes old new shown stands (Place.Cross r c) = ap (λ o. option_or o (shown (Place.Cross r c))) (stands (position r c)) ∙ by (last_at writes (position r c)) (get position_cmp old (position r c))
  where
    by : (a b : Option ℕ) → option_or (option_or a b) (shown (Place.Cross r c)) ≡ option_or a (option_or b (shown (Place.Cross r c)))
    by None b = refl
    by (Some x) b = refl
shown_after writes old new shown stands place = refl

-- a map in which nothing stands shows the picture as it is
pub nothing_written_over : (written : BTreeMap Position ℕ) (shown : PlaceCharacters) → written.entries ≡ [] → (place : Place) → shown_through written shown place ≡ shown place
nothing_written_over written shown none (Place.Cross r c) = ap (λ es. option_or (lookup (is_at (position_cmp (position r c))) es) (shown (Place.Cross r c))) none
nothing_written_over written shown none place = refl
