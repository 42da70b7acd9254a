-- Where writes are refused memory, nothing stood at one of their sites.
use Rattle.std.proofs.Common.{◌≡◌, Bool, true, false, cond, ◌||◌, IsTrue, is_some, is_none, Option, Some, None, List, [], ◌∷◌, ◌++◌, refl, ap, sym, ◌∙◌}
use Rattle.std.specs.List.{list_any}
use Rattle.std.proofs.lemmas.List.Folds.{list_any-append}
use mathlib.Core.Bool.{or-true}
use Rattle.tabled_places.specs.Site.{Site, same_site}
use Rattle.tabled_places.specs.Event.{Written, Event, write, erase, Changes}
use Rattle.tabled_places.specs.Drawn.{written}
use Rattle.tabled_places.specs.Calls.{writes_anew}
use Rattle.tabled_places.specs.Writes.{Stays}
use Rattle.tabled_places.proofs.PuttingBack.{by_write}

either_more : (a b c d : Bool) → (a ≡ true → c ≡ true) → (b ≡ true → d ≡ true) → (a || b) ≡ true → (c || d) ≡ true
either_more true b c d f g h = ap (λ x. x || d) (f refl)
either_more false b c d f g h = ap (λ x. c || x) (g h) ∙ or-true c

nothing : {A : Type 0} (o : Option A) → is_none o ≡ true → o ≡ None
nothing None h = refl
nothing (Some x) h = absurd cc

-- the sites of two lists in a row
written-append : {T : Type 0} (es fs : List (Event T)) → written (es ++ fs) ≡ written es ++ written fs
written-append [] fs = refl
written-append (write q w ∷ es) fs = ap (λ qs. q ∷ qs) (written-append es fs)
written-append (erase region ∷ es) fs = written-append es fs

pub anew-append : {T : Type 0} (keep : Site → Option (Written T)) (es fs : List (Event T)) → writes_anew keep (es ++ fs) ≡ (writes_anew keep es || writes_anew keep fs)
anew-append keep es fs = ap (list_any (λ q. is_none (keep q))) (written-append es fs) ∙ list_any-append (λ q. is_none (keep q)) (written es) (written fs)

-- where nothing stands after writes, nothing stood before
pub anew_before : {T : Type 0} (old mid : Site → Option (Written T)) (qs : List Site) → Stays old mid → list_any (λ q. is_none (mid q)) qs ≡ true → list_any (λ q. is_none (old q)) qs ≡ true
unfolding Stays
anew_before old mid [] stays h = h
anew_before old mid (q ∷ qs) stays h =
    either_more (is_none (mid q)) (list_any (λ p. is_none (mid p)) qs) (is_none (old q)) (list_any (λ p. is_none (old p)) qs) (λ e. ap is_none (stays q (nothing (mid q) e))) (anew_before old mid qs stays) h

pub stays_written : {T : Type 0} (site : Site) (w : Written T) (old new : Site → Option (Written T)) → Changes (write site w ∷ []) old new → Stays old new
unfolding Stays
stays_written site w old new changes q e = at (same_site q site) (by_write site w old new changes q)
  where
    at : (b : Bool) → new q ≡ cond b (Some w) (old q) → old q ≡ None
    at true is = absurd (let there = ap is_some (sym is ∙ e) in cc)
    at false is = sym is ∙ e

pub stays_same : {T : Type 0} (keep : Site → Option (Written T)) → Stays keep keep
unfolding Stays
stays_same keep q e = e

pub stays_then : {T : Type 0} (old mid new : Site → Option (Written T)) → Stays old mid → Stays mid new → Stays old new
unfolding Stays
stays_then old mid new f g q e = f q (g q e)

-- the first of two lists of events, and the second
pub sooner_anew : {T : Type 0} (es fs : List (Event T)) (old : Site → Option (Written T)) → IsTrue (writes_anew old es) → IsTrue (writes_anew old (es ++ fs))
sooner_anew es fs old h = anew-append old es fs ∙ ap (λ b. b || writes_anew old fs) h

pub later_anew : {T : Type 0} (es fs : List (Event T)) (old mid : Site → Option (Written T)) → Stays old mid → IsTrue (writes_anew mid fs) → IsTrue (writes_anew old (es ++ fs))
later_anew es fs old mid stays h =
    anew-append old es fs ∙ ap (λ b. writes_anew old es || b) (anew_before old mid (written fs) stays h) ∙ or-true (writes_anew old es)
