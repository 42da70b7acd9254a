-- What a list of events leaves, event by event and list by list.
use Rattle.std.proofs.Common.{◌≡◌, Bool, true, false, cond, ◌||◌, Option, Some, None, List, [], ◌∷◌, ◌++◌, refl, sym, ap, ◌∙◌, filter, option_and_then}
use Rattle.std.specs.List.{last_or}
use Rattle.std.proofs.lemmas.List.Folds.{list_any-append}
use Rattle.std.proofs.lemmas.List.Elements.{filter-append}
use Rattle.tabled_places.specs.Site.{Site}
use Rattle.tabled_places.specs.Event.{Written, Region, every_site, within, Event, erase, covers, covered, left_by, replay, Shows, Changes}

module _ {T : Type 0} (q : Site) where
  -- the last of the events that cover the site decides, and else what was last before
  last_covering : (o : Option (Event T)) (es : List (Event T)) → option_and_then left_by (last_or o (filter (covers q) es)) ≡ cond (covered es q) (replay es q) (option_and_then left_by o)
  unfolding replay
  last_covering o [] = refl
  last_covering o (e ∷ es) =
      elim (covers q e) as (λ b. option_and_then left_by (last_or o (cond b (e ∷ filter (covers q) es) (filter (covers q) es))) ≡ cond (b || covered es q) (option_and_then left_by (last_or None (cond b (e ∷ filter (covers q) es) (filter (covers q) es)))) (option_and_then left_by o)) [
        | true ↦ refl
        | false ↦ last_covering o es
      ]

  last_or-append : (o : Option (Event T)) (xs ys : List (Event T)) → last_or o (xs ++ ys) ≡ last_or (last_or o xs) ys
  last_or-append o [] ys = refl
  last_or-append o (x ∷ xs) ys = last_or-append (Some x) xs ys

  pub covered-append : (es fs : List (Event T)) → covered (es ++ fs) q ≡ (covered es q || covered fs q)
  covered-append es fs = list_any-append (covers q) es fs

  pub replay-append : (es fs : List (Event T)) → replay (es ++ fs) q ≡ cond (covered fs q) (replay fs q) (replay es q)
  unfolding replay
  replay-append es fs =
      ap (λ all. option_and_then left_by (last_or None all)) (filter-append (covers q) es fs)
      ∙ ap (option_and_then left_by) (last_or-append None (filter (covers q) es) (filter (covers q) fs))
      ∙ last_covering (last_or None (filter (covers q) es)) fs

  pub replay-nil : replay {T = T} [] q ≡ None
  unfolding replay
  replay-nil = refl

  pub replay_one : (e : Event T) → replay (e ∷ []) q ≡ cond (covers q e) (left_by e) None
  unfolding replay
  replay_one e = elim (covers q e) as (λ b. option_and_then left_by (last_or None (cond b (e ∷ []) [])) ≡ cond b (left_by e) None) [ true ↦ refl | false ↦ refl ]

  pub replay-cons : (e : Event T) (es : List (Event T)) → replay (e ∷ es) q ≡ cond (covered es q) (replay es q) (cond (covers q e) (left_by e) None)
  replay-cons e es = replay-append (e ∷ []) es ∙ ap (cond (covered es q) (replay es q)) (replay_one e)

  pub replay_uncovered : (es : List (Event T)) → covered es q ≡ false → replay es q ≡ None
  replay_uncovered [] h = replay-nil
  replay_uncovered (e ∷ es) h = replay-cons e es ∙ uncovered (covers q e) (covered es q) h
    where
      uncovered : (b c : Bool) → (b || c) ≡ false → cond c (replay es q) (cond b (left_by e) None) ≡ None
      uncovered true c h = absurd cc
      uncovered false true h = absurd cc
      uncovered false false h = refl

nothing_or_none : {A : Type 0} (b c : Bool) (k : Option A) → (b ≡ false → k ≡ None) → cond b k (cond c None None) ≡ k
nothing_or_none true c k h = refl
nothing_or_none false true k h = sym (h refl)
nothing_or_none false false k h = sym (h refl)

-- to clear a region first changes nothing of what the events after it leave
pub replay_cleared : {T : Type 0} (region : Region) (es : List (Event T)) (q : Site) → replay (erase region ∷ es) q ≡ replay es q
replay_cleared region es q = replay-cons q (erase region) es ∙ nothing_or_none (covered es q) (within region q) (replay es q) (replay_uncovered q es)

chosen : {A : Type 0} (b c : Bool) (x y z : A) → cond b x (cond c y z) ≡ cond (c || b) (cond b x y) z
chosen true true x y z = refl
chosen true false x y z = refl
chosen false true x y z = refl
chosen false false x y z = refl

-- a list that was shown before, followed by the events of a change, is shown after it
pub Shows_after : {T : Type 0} (before es : List (Event T)) (old new : Site → Option (Written T)) → Changes es old new → Shows before old → Shows (before ++ es) new
unfolding Shows Changes
Shows_after before es old new changes shows q =
    changes q ∙ ap (cond (covered es q) (replay es q)) (shows q) ∙ sym (replay-append q before es)

-- two changes in a row are the change by both lists
pub Changes-append : {T : Type 0} (es fs : List (Event T)) (old mid new : Site → Option (Written T)) → Changes es old mid → Changes fs mid new → Changes (es ++ fs) old new
unfolding Changes
Changes-append es fs old mid new by_es by_fs q =
    by_fs q ∙ ap (cond (covered fs q) (replay fs q)) (by_es q) ∙ chosen (covered fs q) (covered es q) (replay fs q) (replay es q) (old q)
    ∙ ap (λ b. cond b (cond (covered fs q) (replay fs q) (replay es q)) (old q)) (sym (covered-append q es fs))
    ∙ ap (λ x. cond (covered (es ++ fs) q) x (old q)) (sym (replay-append q es fs))

-- no event changes nothing
pub Changes-nil : {T : Type 0} (keep : Site → Option (Written T)) → Changes [] keep keep
unfolding Changes
Changes-nil keep q = refl

-- where all that the events do not cover was empty, to clear every site first makes no difference
pub Changes_from_nothing : {T : Type 0} (es : List (Event T)) (old new : Site → Option (Written T)) → ((q : Site) → covered es q ≡ false → old q ≡ None) → Changes es old new → Changes (erase every_site ∷ es) old new
unfolding Changes
Changes_from_nothing es old new nothing changes q =
    changes q ∙ emptied (covered es q) (replay es q) (old q) (nothing q) (replay_uncovered q es) ∙ sym (replay_cleared every_site es q)
  where
    emptied : {A : Type 0} (b : Bool) (k o : Option A) → (b ≡ false → o ≡ None) → (b ≡ false → k ≡ None) → cond b k o ≡ k
    emptied true k o f g = refl
    emptied false k o f g = f refl ∙ sym (g refl)
