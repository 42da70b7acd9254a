-- What the events of one level leave, and what those of several levels in a row do.
use Rattle.std.proofs.Common.{◌≡◌, Bool, true, false, cond, ◌||◌, Option, Some, List, [], ◌∷◌, ◌++◌, refl, sym, ap, ◌∙◌, option_and_then, Ordering}
use Rattle.std.specs.Ordering.{eq_by_cmp}
use Rattle.std.specs.Cmp.{Equal-is}
use Rattle.std.specs.FinMap as map
use Rattle.tabled_places.specs.Site.{Site}
use Rattle.tabled_places.specs.Event.{Written, Event, covered, replay}
use Rattle.tabled_places.specs.State.{entry_events}
use Rattle.tabled_places.proofs.Replay.{replay-nil, replay-append, covered-append, replay_uncovered}

pub tied : {K : Type 0} {R : K → K → Ordering} → map.IsAntisymmetric R → (q k : K) → eq_by_cmp R q k ≡ true → q ≡ k
tied {R = R} exact q k e = exact q k ((Equal-is (R q k)).0 e)

module _ {T : Type 0} (q : Site) where
  -- events that do not cover the site, in front of others
  pub replay_skip : (es fs : List (Event T)) → covered es q ≡ false → replay (es ++ fs) q ≡ replay fs q
  replay_skip es fs h = replay-append q es fs ∙ unless_first (covered fs q) refl
    where
      unless_first : (b : Bool) → covered fs q ≡ b → cond b (replay fs q) (replay es q) ≡ replay fs q
      unless_first true e = refl
      unless_first false e = replay_uncovered q es h ∙ sym (replay_uncovered q fs e)

  -- and after them
  pub replay_rest : (es fs : List (Event T)) → covered fs q ≡ false → replay (es ++ fs) q ≡ replay es q
  replay_rest es fs h = replay-append q es fs ∙ ap (λ b. cond b (replay fs q) (replay es q)) h

  pub uncovered_both : (es fs : List (Event T)) → covered es q ≡ false → covered fs q ≡ false → covered (es ++ fs) q ≡ false
  uncovered_both es fs h g = covered-append q es fs ∙ ap (λ b. b || covered fs q) h ∙ g

  -- no entry's events cover the site
  pub uncovered_entries : {K X : Type 0} (events : K → X → List (Event T)) → ((k : K) (x : X) → covered (events k x) q ≡ false) → (es : List (K × X)) → covered (entry_events events es) q ≡ false
  uncovered_entries events h [] = refl
  uncovered_entries events h (e ∷ es) = uncovered_both (entry_events events es) (events e.0 e.1) (uncovered_entries events h es) (h e.0 e.1)

  -- the events of the entry under the site's key cover it, and no others
  pub replay_entries : {K X : Type 0} {R : K → K → Ordering} → map.IsAntisymmetric R → (events : K → X → List (Event T)) (k : K) (left : X → Option (Written T)) → ((j : K) (x : X) → covered (events j x) q ≡ eq_by_cmp R k j) → ((x : X) → replay (events k x) q ≡ left x) → (es : List (K × X)) → replay (entry_events events es) q ≡ option_and_then left (map.find R k es)
  replay_entries exact events k left covering leaves [] = replay-nil q
  replay_entries {R = R} exact events k left covering leaves (e ∷ es) =
      replay-append q (entry_events events es) (events e.0 e.1)
      ∙ ap (λ b. cond b (replay (events e.0 e.1) q) (replay (entry_events events es) q)) (covering e.0 e.1)
      ∙ ap (λ old. cond (eq_by_cmp R k e.0) (replay (events e.0 e.1) q) old) (replay_entries exact events k left covering leaves es)
      ∙ at_key (eq_by_cmp R k e.0) refl
    where
      at_key : (same : Bool) → eq_by_cmp R k e.0 ≡ same → cond same (replay (events e.0 e.1) q) (option_and_then left (map.find R k es)) ≡ option_and_then left (cond same (Some e.1) (map.find R k es))
      at_key true is = ap (λ j. replay (events j e.1) q) (sym (tied exact k e.0 is)) ∙ leaves e.1
      at_key false is = refl
