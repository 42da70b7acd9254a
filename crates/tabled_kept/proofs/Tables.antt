-- Ordered maps as finite maps, for keys of any total order that tells them apart.
use Rattle.std.proofs.Common.{◌≡◌, ℕ, Bool, true, false, cond, Option, Some, None, is_some, List, [], ◌∷◌, length, refl, sym, ap, ◌∙◌, ◌+◌, ◌≤◌, arith, Ordering}
use Rattle.std.specs.Ordering.{eq_by_cmp}
use Rattle.std.specs.Cmp.{IsTotalOrder, eq_by_cmp_equiv, Equal-is}
use Rattle.std.specs.Map.{lookup}
use Rattle.std.specs.BTreeMap.{is_at}
use Rattle.std.specs.FinMap as map
use Rattle.tabled_kept.specs.Table.{table}

one_more : (b : Bool) (n m : ℕ) → n ≤ m → cond b n (n + 1) ≤ m + 1
one_more true n m h = omega arith
one_more false n m h = omega arith

module _ {K X : Type 0} {R : K → K → Ordering} (o : IsTotalOrder R) (exact : map.IsAntisymmetric R) where
  find-lookup : (es : List (K × X)) (q : K) → map.find R q es ≡ lookup (is_at (R q)) es
  find-lookup [] q = refl
  find-lookup (e ∷ es) q = ap (cond (is_at (R q) e.0) (Some e.1)) (find-lookup es q)

  -- what the finite map of the entries has at a key is what a search of the entries finds
  pub get-table : (es : List (K × X)) (q : K) → map.get (table R es) q ≡ lookup (is_at (R q)) es
  get-table es q = map.get-from_entries o es q ∙ find-lookup es q

  -- entries that differ at one key only, by a value put there
  pub table-put : (es fs : List (K × X)) (k : K) (v : X) → ((q : K) → lookup (is_at (R q)) fs ≡ cond (is_at (R k) q) (Some v) (lookup (is_at (R q)) es)) → table R fs ≡ map.insert (table R es) k v
  table-put es fs k v h = map.same_map o exact _ _ (λ q.
      get-table fs q ∙ h q ∙ ap (λ b. cond b (Some v) (lookup (is_at (R q)) es)) ((eq_by_cmp_equiv o).symm k q)
      ∙ sym (map.get-insert o (table R es) k v q ∙ ap (cond (eq_by_cmp R q k) (Some v)) (get-table es q)))

  -- by the value there taken
  pub table-take : (es fs : List (K × X)) (k : K) → ((q : K) → lookup (is_at (R q)) fs ≡ cond (is_at (R k) q) None (lookup (is_at (R q)) es)) → table R fs ≡ map.remove (table R es) k
  table-take es fs k h = map.same_map o exact _ _ (λ q.
      get-table fs q ∙ h q ∙ ap (λ b. cond b None (lookup (is_at (R q)) es)) ((eq_by_cmp_equiv o).symm k q)
      ∙ sym (map.get-remove o (table R es) k q ∙ ap (cond (eq_by_cmp R q k) None) (get-table es q)))

  -- the finite map has no more keys than there are entries
  pub len-table : (es : List (K × X)) → map.len (table R es) ≤ length es
  len-table [] = omega (arith, map.len-empty R X)
  len-table (e ∷ es) = omega (arith, map.len-insert o (table R es) e.0 e.1, one_more (map.contains_key (table R es) e.0) (map.len (table R es)) (length es) (len-table es))

  -- it is the empty one exactly where there are no entries
  pub no-entries : (es : List (K × X)) → length es ≡ 0 → table R es ≡ map.empty
  no-entries es none = map.empty_of_len (table R es) (omega (arith, len-table es))

  pub no-keys : (es : List (K × X)) → table R es ≡ map.empty → length es ≡ 0
  no-keys [] none = refl
  no-keys (e ∷ es) none =
      let here : None ≡ Some e.1 =
      sym (ap (λ m. map.get m e.0) none ∙ map.get-empty R e.0) ∙ get-table (e ∷ es) e.0
      ∙ ap (λ b. cond b (Some e.1) (lookup (is_at (R e.0)) es)) ((eq_by_cmp_equiv o).refl e.0) in
      absurd cc

-- the steps from the fields to the value that the clauses see
abbrev pub table_at : {K X : Type 0} → (R : K → K → Ordering) → K → List (K × X) → Option X
table_at R k es = map.get (table R es) k

abbrev pub inserted : {K X : Type 0} → (R : K → K → Ordering) → K → X → List (K × X) → map.FinMap R X
inserted R k v es = map.insert (table R es) k v

abbrev pub taken : {K X : Type 0} → (R : K → K → Ordering) → K → List (K × X) → map.FinMap R X
taken R k es = map.remove (table R es) k

undone : {X : Type 0} (b : Bool) (v : X) (o : Option X) → (b ≡ true → o ≡ None) → cond b None (cond b (Some v) o) ≡ o
undone true v o h = sym (h refl)
undone false v o h = refl

-- what was put where nothing was, and taken again, leaves the map as it was
pub remove-insert : {K X : Type 0} {R : K → K → Ordering} → IsTotalOrder R → map.IsAntisymmetric R → (m : map.FinMap R X) (k : K) (v : X) → map.get m k ≡ None → map.remove (map.insert m k v) k ≡ m
remove-insert {R = R} o exact m k v none = map.same_map o exact _ _ (λ q.
    map.get-remove o (map.insert m k v) k q ∙ ap (cond (eq_by_cmp R q k) None) (map.get-insert o m k v q)
    ∙ undone (eq_by_cmp R q k) v (map.get m q) (λ e. ap (map.get m) (exact q k ((Equal-is (R q k)).0 e)) ∙ none))

-- the same, step by step
pub put_and_taken : {K X : Type 0} {R : K → K → Ordering} → IsTotalOrder R → map.IsAntisymmetric R → (old put new : map.FinMap R X) (k : K) (v : X) (before : Option X) → before ≡ map.get old k → is_some before ≡ false → put ≡ map.insert old k v → new ≡ map.remove put k → new ≡ old
put_and_taken o exact old put new k v before was none ok taken =
    taken ∙ ap (λ m. map.remove m k) ok ∙ remove-insert o exact old k v (sym was ∙ nothing before none)
  where
    nothing : {X : Type 0} (x : Option X) → is_some x ≡ false → x ≡ None
    nothing None h = refl
    nothing (Some x) h = absurd cc
