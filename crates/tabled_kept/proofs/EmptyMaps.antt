-- Maps with nothing in them, and maps that may never have had anything.
use Rattle.std.proofs.Common.{◌≡◌, ◌<◌, ◌^◌, ◌∙◌, ap, sym, refl, Bool, true, false, cond, Option, None, Some, List, [], arith, unwrap_or, option_map, Ordering}
use Rattle.std.specs.Cmp.{IsTotalOrder}
use Rattle.std.specs.Ordering.{eq_by_cmp}
use Rattle.std.specs.FinMap as map

-- nothing is under any key
pub none_under : {K V : Type 0} {R : K → K → Ordering} → (m : map.FinMap R V) → m ≡ map.empty → (q : K) → map.get m q ≡ None
none_under {R = R} m none q = ap (λ m. map.get m q) none ∙ map.get-empty R q

-- so few are in it that they can be counted
pub few_of_none : {K V : Type 0} {R : K → K → Ordering} → (m : map.FinMap R V) → m ≡ map.empty → map.len m < 2 ^ 64
few_of_none {K = K} {V = V} {R = R} m none = let counted = ap map.len none ∙ map.len-empty R V in omega (arith, counted)

-- taking something leaves it as it was
pub none_taken : {K V : Type 0} {R : K → K → Ordering} → IsTotalOrder R → map.IsAntisymmetric R → (m : map.FinMap R V) → m ≡ map.empty → (k : K) → m ≡ map.remove m k
none_taken {V = V} {R = R} o exact m none k =
    map.same_map o exact m (map.remove m k) (λ q. none_under m none q
    ∙ sym (map.get-remove o m k q ∙ either (map.get m q) (eq_by_cmp R q k) (none_under m none q)))
  where
    either : (a : Option V) (b : Bool) → a ≡ None → cond b None a ≡ None
    either a true e = refl
    either a false e = e

-- what is shown of entries that are not there
pub of_none : {B A : Type 0} (f : B → List A) (entries : Option B) (shown : List A) → unwrap_or (option_map f entries) [] ≡ shown → entries ≡ None → shown ≡ []
of_none f entries shown seen none = sym seen ∙ ap (λ e. unwrap_or (option_map f e) []) none

-- and of those that are
pub of_some : {B A : Type 0} (f : B → List A) (entries : Option B) (shown : List A) (b : B) → unwrap_or (option_map f entries) [] ≡ shown → entries ≡ Some b → shown ≡ f b
of_some f entries shown b seen some = sym seen ∙ ap (λ e. unwrap_or (option_map f e) []) some
