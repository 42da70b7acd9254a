-- Laws of what becomes of a crossing.
use Rattle.std.proofs.Common.{◌≡◌, ℕ, ◌<◌, ◌≤◌, ◌⊎◌, Bool, true, false, refl, sym, ap, ◌∙◌, inl, inr, Option, None, Some, is_some, arith}
use Rattle.std.specs.Prelude.{◌||◌, not, nat_lt, option_and_then}
use Rattle.std.specs.Option.{option_eq, option_or, IfSome}
use Rattle.std.proofs.lemmas.Bool.Decides.{Decides-ltb, nat_tests}
use Rattle.tabled_boxes.specs.declared.arms.Arms.{Arms}
use Rattle.tabled_boxes.specs.declared.crossing.Edges.{Edges}
use Rattle.tabled_boxes.specs.Arms.{same_arms, arms_of, join, is_drawn}
use Rattle.tabled_boxes.specs.Joined.{any_other, met, arm_count, may_change, is_kept, joined_by, joined}
use Rattle.tabled_boxes.proofs.Alike.{same_option-tells, same_arms-tells, same_arms-refl}
use Rattle.tabled_boxes.proofs.Tables.{drawn-there, arms-come-back}

either-true : (a b : Bool) → b ≡ true → (a || b) ≡ true
either-true true b h = refl
either-true false b h = h

first-true : (a b : Bool) → a ≡ false → (not a || b) ≡ true
first-true true b h = cc
first-true false b h = refl

pub kept-few : (crossing : Option ℕ) (arms : Arms) → arm_count arms < 2 → is_kept crossing arms ≡ true
kept-few crossing arms few = let e : nat_lt (arm_count arms) 2 ≡ true = (Decides-ltb (arm_count arms) 2).1 few in rw e

pub kept-untouched : (crossing : Option ℕ) (arms : Arms) → may_change crossing arms ≡ false → is_kept crossing arms ≡ true
kept-untouched crossing arms untouched =
    either-true (nat_lt (arm_count arms) 2) (not (may_change crossing arms) || option_eq same_arms (option_and_then arms_of crossing) (Some arms)) (first-true (may_change crossing arms) (option_eq same_arms (option_and_then arms_of crossing) (Some arms)) untouched)

pub kept-same : (crossing : Option ℕ) (arms : Arms) → option_and_then arms_of crossing ≡ Some arms → is_kept crossing arms ≡ true
kept-same crossing arms same =
    either-true (nat_lt (arm_count arms) 2) (not (may_change crossing arms) || option_eq same_arms (option_and_then arms_of crossing) (Some arms)) (either-true (not (may_change crossing arms)) (option_eq same_arms (option_and_then arms_of crossing) (Some arms)) (rw same (same_arms-refl arms)))

same-refuted : (same : Bool) → (same ≡ true → ⊥) → same ≡ false
same-refuted true h = absurd (h refl)
same-refuted false h = refl

none-of : (few may same : Bool) → few ≡ false → may ≡ true → same ≡ false → (few || (not may || same)) ≡ false
none-of true may same f m s = cc
none-of false true same f m s = s
none-of false false same f m s = cc

not-few : (arms : Arms) → 2 ≤ arm_count arms → nat_lt (arm_count arms) 2 ≡ false
not-few arms many = grind (arith, nat_tests)

pub not-kept : (crossing : Option ℕ) (arms : Arms) → 2 ≤ arm_count arms → may_change crossing arms ≡ true → (option_and_then arms_of crossing ≡ Some arms → ⊥) → is_kept crossing arms ≡ false
not-kept crossing arms many may other =
    none-of (nat_lt (arm_count arms) 2) (may_change crossing arms) (option_eq same_arms (option_and_then arms_of crossing) (Some arms)) (not-few arms many) may
    (same-refuted (option_eq same_arms (option_and_then arms_of crossing) (Some arms)) (λ e. other (same_option-tells same_arms same_arms-tells (option_and_then arms_of crossing) (Some arms) e)))

pub is-kept : (crossing : Option ℕ) (arms : Arms) → is_kept crossing arms ≡ true → joined_by crossing arms ≡ crossing
unfolding joined_by
is-kept crossing arms h = rw h

pub is-joined : (crossing : Option ℕ) (arms : Arms) → is_kept crossing arms ≡ false → joined_by crossing arms ≡ option_or (join arms) crossing
unfolding joined_by
is-joined crossing arms h = rw h

pub joined-as : (crossing : Option ℕ) (arms : Arms) (found : Option ℕ) → is_kept crossing arms ≡ false → join arms ≡ found → joined_by crossing arms ≡ option_or found crossing
joined-as crossing arms found h e = is-joined crossing arms h ∙ ap (λ one. option_or one crossing) e

-- a crossing stays, or has the arms
come-out : (crossing joined : Option ℕ) (arms : Arms) → IfSome joined (λ c. arms_of c ≡ Some arms) → (option_or joined crossing ≡ crossing) ⊎ (option_and_then arms_of (option_or joined crossing) ≡ Some arms)
come-out crossing None arms h = inl refl
come-out crossing (Some c) arms h = inr h

by-kept : (crossing : Option ℕ) (arms : Arms) (kept : Bool) → is_kept crossing arms ≡ kept → (joined_by crossing arms ≡ crossing) ⊎ (option_and_then arms_of (joined_by crossing arms) ≡ Some arms)
by-kept crossing arms true h = inl (is-kept crossing arms h)
by-kept crossing arms false h = rw (is-joined crossing arms h) (come-out crossing (join arms) arms (arms-come-back arms))

pub stays-or-has : (crossing : Option ℕ) (arms : Arms) → (joined_by crossing arms ≡ crossing) ⊎ (option_and_then arms_of (joined_by crossing arms) ≡ Some arms)
stays-or-has crossing arms = by-kept crossing arms (is_kept crossing arms) refl

-- ---- what is said of the arms that meet

arms-few : (crossing : Option ℕ) (arms : Arms) → arm_count arms < 2 → joined_by crossing arms ≡ crossing
arms-few crossing arms h = is-kept crossing arms (kept-few crossing arms h)

arms-stays : (crossing : Option ℕ) (arms : Arms) → option_and_then arms_of crossing ≡ Some arms → joined_by crossing arms ≡ crossing
arms-stays crossing arms h = is-kept crossing arms (kept-same crossing arms h)

twice-by : (crossing : Option ℕ) (arms : Arms) → (joined_by crossing arms ≡ crossing) ⊎ (option_and_then arms_of (joined_by crossing arms) ≡ Some arms) → joined_by (joined_by crossing arms) arms ≡ joined_by crossing arms
twice-by crossing arms (inl h) = ap (λ x. joined_by x arms) h
twice-by crossing arms (inr h) = arms-stays (joined_by crossing arms) arms h

arms-twice : (crossing : Option ℕ) (arms : Arms) → joined_by (joined_by crossing arms) arms ≡ joined_by crossing arms
arms-twice crossing arms = twice-by crossing arms (stays-or-has crossing arms)

none-there : (joined crossing : Option ℕ) → is_some joined ≡ false → option_or joined crossing ≡ crossing
none-there None crossing h = refl
none-there (Some c) crossing h = cc

undrawn-by : (crossing : Option ℕ) (arms : Arms) (kept : Bool) → is_kept crossing arms ≡ kept → is_drawn arms ≡ false → joined_by crossing arms ≡ crossing
undrawn-by crossing arms true h undrawn = is-kept crossing arms h
undrawn-by crossing arms false h undrawn = is-joined crossing arms h ∙ none-there (join arms) crossing (drawn-there arms ∙ undrawn)

arms-undrawn : (crossing : Option ℕ) (arms : Arms) → is_drawn arms ≡ false → joined_by crossing arms ≡ crossing
arms-undrawn crossing arms h = undrawn-by crossing arms (is_kept crossing arms) refl h

some-there : (joined crossing : Option ℕ) (arms : Arms) → is_some joined ≡ true → IfSome joined (λ c. arms_of c ≡ Some arms) → option_and_then arms_of (option_or joined crossing) ≡ Some arms
some-there None crossing arms h has = cc
some-there (Some c) crossing arms h has = has

kept-many : (few may same : Bool) → few ≡ false → may ≡ true → (few || (not may || same)) ≡ true → same ≡ true
kept-many true may same f m e = cc
kept-many false true same f m e = e
kept-many false false same f m e = cc

joins-by : (crossing : Option ℕ) (arms : Arms) (kept : Bool) → is_kept crossing arms ≡ kept → 2 ≤ arm_count arms → is_drawn arms ≡ true → may_change crossing arms ≡ true → option_and_then arms_of (joined_by crossing arms) ≡ Some arms
joins-by crossing arms true h many drawn may =
    rw (is-kept crossing arms h) (same_option-tells same_arms same_arms-tells (option_and_then arms_of crossing) (Some arms) (kept-many (nat_lt (arm_count arms) 2) (may_change crossing arms) (option_eq same_arms (option_and_then arms_of crossing) (Some arms)) (not-few arms many) may h))
joins-by crossing arms false h many drawn may = rw (is-joined crossing arms h) (some-there (join arms) crossing arms (drawn-there arms ∙ drawn) (arms-come-back arms))

arms-joins : (crossing : Option ℕ) (arms : Arms) → 2 ≤ arm_count arms → may_change crossing arms ≡ true → is_drawn arms ≡ true → option_and_then arms_of (joined_by crossing arms) ≡ Some arms
arms-joins crossing arms many may drawn = joins-by crossing arms (is_kept crossing arms) refl many drawn may

arms-untouched : (crossing : Option ℕ) (arms : Arms) → may_change crossing arms ≡ false → joined_by crossing arms ≡ crossing
arms-untouched crossing arms h = is-kept crossing arms (kept-untouched crossing arms h)

written-by : (crossing : Option ℕ) (arms : Arms) → (joined_by crossing arms ≡ crossing) ⊎ (option_and_then arms_of (joined_by crossing arms) ≡ Some arms) → (joined_by crossing arms ≡ crossing → ⊥) → option_and_then arms_of (joined_by crossing arms) ≡ Some arms
written-by crossing arms (inl same) other = absurd (other same)
written-by crossing arms (inr has) other = has

arms-written : (crossing : Option ℕ) (arms : Arms) → (joined_by crossing arms ≡ crossing → ⊥) → option_and_then arms_of (joined_by crossing arms) ≡ Some arms
arms-written crossing arms other = written-by crossing arms (stays-or-has crossing arms) other

some-or : (joined crossing : Option ℕ) → is_some crossing ≡ true → is_some (option_or joined crossing) ≡ true
some-or None crossing h = h
some-or (Some c) crossing h = refl

remains-by : (crossing : Option ℕ) (arms : Arms) (kept : Bool) → is_kept crossing arms ≡ kept → is_some crossing ≡ true → is_some (joined_by crossing arms) ≡ true
remains-by crossing arms true h some = rw (is-kept crossing arms h) some
remains-by crossing arms false h some = rw (is-joined crossing arms h) (some-or (join arms) crossing some)

-- ---- what the contract says: with an edge of another character a crossing stays, else it is as its arms say

module _ (crossing : Option ℕ) (edges : Edges) where
  pub beside_another : any_other edges ≡ true → joined crossing edges ≡ crossing
  unfolding joined
  beside_another h = rw h

  pub as-arms : any_other edges ≡ false → joined crossing edges ≡ joined_by crossing (met edges)
  unfolding joined
  as-arms h = rw h

  kept-or-joined : (other : Bool) → any_other edges ≡ other → (joined crossing edges ≡ crossing) ⊎ (joined crossing edges ≡ joined_by crossing (met edges))
  kept-or-joined true h = inl (beside_another h)
  kept-or-joined false h = inr (as-arms h)

  one-of : (joined crossing edges ≡ crossing) ⊎ (joined crossing edges ≡ joined_by crossing (met edges))
  one-of = kept-or-joined (any_other edges) refl

  same-where : joined_by crossing (met edges) ≡ crossing → joined crossing edges ≡ crossing
  same-where h = elim one-of [ inl same ↦ same | inr arms ↦ arms ∙ h ]

  pub few : arm_count (met edges) < 2 → joined crossing edges ≡ crossing
  few h = same-where (arms-few crossing (met edges) h)

  pub untouched : may_change crossing (met edges) ≡ false → joined crossing edges ≡ crossing
  untouched h = same-where (arms-untouched crossing (met edges) h)

  pub undrawn : is_drawn (met edges) ≡ false → joined crossing edges ≡ crossing
  undrawn h = same-where (arms-undrawn crossing (met edges) h)

  pub stays : option_and_then arms_of crossing ≡ Some (met edges) → joined crossing edges ≡ crossing
  stays h = same-where (arms-stays crossing (met edges) h)

  pub joins : any_other edges ≡ false → 2 ≤ arm_count (met edges) → may_change crossing (met edges) ≡ true → is_drawn (met edges) ≡ true → option_and_then arms_of (joined crossing edges) ≡ Some (met edges)
  joins other many may drawn = rw (as-arms other) (arms-joins crossing (met edges) many may drawn)

  pub written : (joined crossing edges ≡ crossing → ⊥) → option_and_then arms_of (joined crossing edges) ≡ Some (met edges)
  written changed = elim one-of [ inl same ↦ absurd (changed same) | inr arms ↦ rw arms (arms-written crossing (met edges) (λ same. changed (arms ∙ same))) ]

  pub remains : is_some crossing ≡ true → is_some (joined crossing edges) ≡ true
  remains some = elim one-of [ inl same ↦ rw same some | inr arms ↦ rw arms (remains-by crossing (met edges) (is_kept crossing (met edges)) refl some) ]

twice-where : (crossing : Option ℕ) (edges : Edges) (other : Bool) → any_other edges ≡ other → joined (joined crossing edges) edges ≡ joined crossing edges
twice-where crossing edges true h = beside_another (joined crossing edges) edges h
twice-where crossing edges false h =
    as-arms (joined crossing edges) edges h ∙ ap (λ one. joined_by one (met edges)) (as-arms crossing edges h) ∙ arms-twice crossing (met edges) ∙ sym (as-arms crossing edges h)

pub twice : (crossing : Option ℕ) (edges : Edges) → joined (joined crossing edges) edges ≡ joined crossing edges
twice crossing edges = twice-where crossing edges (any_other edges) refl
