-- Lists of writes: what is made so far, and what puts it back.
use Rattle.std.proofs.Common.{◌≡◌, ℕ, ◌+◌, false, ◌||◌, IsTrue, is_none, Option, Some, None, List, [], ◌∷◌, ◌++◌, get_or, set, drop, refl, ap, sym, subst, ◌∙◌, arith, drop-drop, drop-set-lt, get_or-drop}
use Rattle.tabled_places.specs.declared.writes.Target.{Target}
use Rattle.tabled_places.specs.declared.writes.Write.{Write}
use Rattle.tabled_places.specs.Event.{sign, write, Changes}
use Rattle.tabled_places.specs.State.{State, state_at}
use Rattle.tabled_places.specs.Calls.{writes_anew}
use Rattle.tabled_places.specs.Writes.{site_of, writes_made, PutsBackAt, PutsBack, PutsBackAll, Stays}
use Rattle.tabled_places.proofs.Replay.{Changes-append, Changes-nil}
use Rattle.tabled_places.proofs.EntityBorders.{writes_made-append}
use Rattle.tabled_places.proofs.WritingAnew.{sooner_anew, later_anew}

module _ {T : Type 0} where
  -- one write that is given
  pub one_made : (target : Option Target) (value : Option T) (there : Target) (given : T) (old new : State T) → target ≡ Some there → value ≡ Some given → Changes (write (site_of there) (sign given) ∷ []) (state_at old) (state_at new) → Changes (writes_made (record { target = target; value = value } ∷ [])) (state_at old) (state_at new)
  unfolding writes_made
  one_made target value there given old new at is changes =
      subst (λ t. Changes (writes_made (record { target = t; value = value } ∷ [])) (state_at old) (state_at new)) (sym at)
      (subst (λ v. Changes (writes_made (record { target = Some there; value = v } ∷ [])) (state_at old) (state_at new)) (sym is) changes)

  pub one_anew : (target : Option Target) (value : Option T) (there : Target) (given : T) (old : State T) → target ≡ Some there → value ≡ Some given → state_at old (site_of there) ≡ None → IsTrue (writes_anew (state_at old) (writes_made (record { target = target; value = value } ∷ [])))
  unfolding writes_made
  one_anew target value there given old at is nothing =
      subst (λ t. IsTrue (writes_anew (state_at old) (writes_made (record { target = t; value = value } ∷ [])))) (sym at)
      (subst (λ v. IsTrue (writes_anew (state_at old) (writes_made (record { target = Some there; value = v } ∷ [])))) (sym is) (ap (λ o. is_none o || false) nothing))

  -- one without a target, and one without a value
  pub none_made : (target : Option Target) (value : Option T) (store : State T) → target ≡ None → Changes (writes_made (record { target = target; value = value } ∷ [])) (state_at store) (state_at store)
  unfolding writes_made
  none_made target value store at = subst (λ t. Changes (writes_made (record { target = t; value = value } ∷ [])) (state_at store) (state_at store)) (sym at) (Changes-nil (state_at store))

  pub no_value_made : (target : Option Target) (value : Option T) (there : Target) (store : State T) → target ≡ Some there → value ≡ None → Changes (writes_made (record { target = target; value = value } ∷ [])) (state_at store) (state_at store)
  unfolding writes_made
  no_value_made target value there store at is =
      subst (λ t. Changes (writes_made (record { target = t; value = value } ∷ [])) (state_at store) (state_at store)) (sym at)
      (subst (λ v. Changes (writes_made (record { target = Some there; value = v } ∷ [])) (state_at store) (state_at store)) (sym is) (Changes-nil (state_at store)))

  pub target_back : (target : Option Target) (before : Option T) (there : Target) (old new : State T) → target ≡ Some there → PutsBackAt (site_of there) before old new → PutsBack target before old new
  target_back target before there old new at puts = subst (λ t. PutsBack t before old new) (sym at) puts

  -- one write more
  pub one_more_made : (all ws : List (Write T)) (entry : Write T) (old between new : State T) → all ≡ ws ++ entry ∷ [] → Changes (writes_made ws) (state_at old) (state_at between) → Changes (writes_made (entry ∷ [])) (state_at between) (state_at new) → Changes (writes_made all) (state_at old) (state_at new)
  one_more_made all ws entry old between new is made one =
      subst (λ es. Changes es (state_at old) (state_at new)) (sym (ap writes_made is ∙ writes_made-append ws (entry ∷ [])))
      (Changes-append (writes_made ws) (writes_made (entry ∷ [])) (state_at old) (state_at between) (state_at new) made one)

  more_back : (ws : List (Write T)) (entry : Write T) (old between new : State T) → PutsBackAll ws old between → PutsBack entry.target entry.value between new → PutsBackAll (ws ++ entry ∷ []) old new
  unfolding PutsBackAll
  more_back [] entry old between new same one = (new, subst (λ k. PutsBack entry.target entry.value k new) same one, refl)
  more_back (w ∷ ws) entry old between new puts one = (puts.0, puts.1, more_back ws entry puts.0 between new puts.2 one)

  pub one_more_back : (all ws : List (Write T)) (entry : Write T) (old between new : State T) → all ≡ ws ++ entry ∷ [] → PutsBackAll ws old between → PutsBack entry.target entry.value between new → PutsBackAll all old new
  one_more_back all ws entry old between new is puts one = subst (λ es. PutsBackAll es old new) (sym is) (more_back ws entry old between new puts one)

  -- the last one put back, and then the others
  last_of : (ws : List (Write T)) (entry : Write T) (old new : State T) → PutsBackAll (ws ++ entry ∷ []) old new → (between : State T) × PutsBackAll ws old between × PutsBack entry.target entry.value between new
  unfolding PutsBackAll
  last_of [] entry old new puts = (old, refl, subst (λ k. PutsBack entry.target entry.value old k) (sym puts.2) puts.1)
  last_of (w ∷ ws) entry old new puts = let rest = last_of ws entry puts.0 new puts.2 in (rest.0, (puts.0, puts.1, rest.1), rest.2)

  pub last_back : (ws : List (Write T)) (entry : Write T) (old now mid : State T) → ((between : State T) → PutsBack entry.target entry.value between now → mid ≡ between) → PutsBackAll (ws ++ entry ∷ []) old now → PutsBackAll ws old mid
  last_back ws entry old now mid one puts = let last = last_of ws entry old now puts in subst (λ k. PutsBackAll ws old k) (sym (one last.0 last.2)) last.1

  pub none_back : (ws : List (Write T)) (old now : State T) → ws ≡ [] → PutsBackAll ws old now → now ≡ old
  unfolding PutsBackAll
  none_back ws old now e puts = subst (λ es. PutsBackAll es old now) e puts

  pub nothing_back_yet : (ws : List (Write T)) (store : State T) → ws ≡ [] → PutsBackAll ws store store
  unfolding PutsBackAll
  nothing_back_yet ws store e = subst (λ es. PutsBackAll es store store) (sym e) refl

  -- where a write after those that were made is refused, something of the list was new
  pub entry_anew : (all ws rest : List (Write T)) (entry : Write T) (old between : State T) → all ≡ (ws ++ entry ∷ []) ++ rest → Stays (state_at old) (state_at between) → IsTrue (writes_anew (state_at between) (writes_made (entry ∷ []))) → IsTrue (writes_anew (state_at old) (writes_made all))
  entry_anew all ws rest entry old between is stays anew =
      subst (λ es. IsTrue (writes_anew (state_at old) es)) (sym (ap writes_made is ∙ writes_made-append (ws ++ entry ∷ []) rest ∙ ap (λ es. es ++ writes_made rest) (writes_made-append ws (entry ∷ []))))
      (sooner_anew (writes_made ws ++ writes_made (entry ∷ [])) (writes_made rest) (state_at old) (later_anew (writes_made ws) (writes_made (entry ∷ [])) (state_at old) (state_at between) stays anew))

-- the list while its entries are exchanged, beside the one that was given: from the index on both are the same
pub same_behind : {X : Type 0} (xs ys : List X) (i : ℕ) (x : X) → drop i xs ≡ drop i ys → drop (i + 1) (set xs i x) ≡ drop (i + 1) ys
same_behind xs ys i x same =
    drop-set-lt (i + 1) xs i x (omega arith) ∙ sym (drop-drop 1 i xs) ∙ ap (drop 1) same ∙ drop-drop 1 i ys

pub same_there : {X : Type 0} (xs ys : List X) (i : ℕ) (d : X) → drop i xs ≡ drop i ys → get_or xs i d ≡ get_or ys i d
same_there xs ys i d same =
    let at : (zs : List _) → get_or zs i d ≡ get_or (drop i zs) 0 d = λ zs. sym (get_or-drop i zs 0 d ∙ ap (λ n. get_or zs n d) (omega arith)) in
    at xs ∙ ap (λ zs. get_or zs 0 d) same ∙ sym (at ys)
