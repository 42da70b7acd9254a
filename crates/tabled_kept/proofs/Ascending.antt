-- Entries whose keys ascend.
use Rattle.std.proofs.Common.{◌≡◌, Bool, ◌&&◌, List, [], ◌∷◌, ◌++◌, length, refl, sym, ap, subst, ◌∙◌, append_assoc, arith, Ordering, Less}
use Rattle.std.specs.Cmp.{IsTotalOrder, eq_by_cmp_equiv}
use Rattle.std.specs.List.{AllByRecursion}
use Rattle.std.specs.List.Sorted.{IsStrictlySortedBy}
use Rattle.std.specs.Ordering.{ordering_reverse, match_ordering, eq_by_cmp}
use Rattle.std.specs.Cmp.Lexicographic.{pointwise}
use Rattle.std.specs.FinMap as map
use Rattle.std.specs.FinMap.Entries.{by_order}
use Rattle.std.specs.Map.{keys_of}
use Rattle.std.specs.BTreeMap.{BTreeMap, IsFromIterResult, insert_entry}
use Rattle.std.proofs.lemmas.Map.Keys.{IsDistinct-from_sorted}
use Rattle.std.proofs.lemmas.Map.Made.{update_all_none}
use Rattle.tabled_kept.specs.Table.{table}
use Rattle.tabled_kept.specs.Same.{same_map}
use Rattle.tabled_kept.proofs.Tables.{get-table}

-- what holds of all keys holds of the one in the middle
in_the_middle : {K X : Type 0} (P : K → Type 0) (es : List (K × X)) (k : K) (v : X) (rest : List (K × X)) → AllByRecursion P (keys_of (es ++ (k, v) ∷ rest)) → P k
in_the_middle P [] k v rest h = h.0
in_the_middle P (e ∷ es) k v rest h = in_the_middle P es k v rest h.1

-- an entry whose key comes after all the others is put last
pub put_last : {K X : Type 0} {R : K → K → Ordering} → IsTotalOrder R → (es : List (K × X)) (k : K) (v : X) (rest : List (K × X)) → IsStrictlySortedBy R (keys_of (es ++ (k, v) ∷ rest)) → insert_entry R es k v ≡ es ++ (k, v) ∷ []
unfolding IsStrictlySortedBy
put_last o [] k v rest h = refl
put_last {R = R} o (e ∷ es) k v rest h =
    ap (λ r. match_ordering r ((k, v) ∷ e ∷ es) ((e.0, v) ∷ es) (e ∷ insert_entry R es k v)) (o.antisymm k e.0 ∙ ap ordering_reverse (in_the_middle (λ y. R e.0 y ≡ Less) es k v rest h.0))
    ∙ ap (λ fs. e ∷ fs) (put_last o es k v rest h.1)

-- a copy that has come as far as an entry, with that entry put into it
pub copied_further : {K X : Type 0} {R : K → K → Ordering} → IsTotalOrder R → (all : List (K × X)) → IsStrictlySortedBy R (keys_of all) → (copied left : List (K × X)) (k : K) (v : X) (rest further : List (K × X)) → copied ++ left ≡ all → left ≡ (k, v) ∷ rest → further ≡ insert_entry R copied k v → further ++ rest ≡ all
copied_further {R = R} o all ascend copied left k v rest further so_far next put =
    let whole : copied ++ (k, v) ∷ rest ≡ all = ap (λ es. copied ++ es) (sym next) ∙ so_far in
    ap (λ es. es ++ rest) (put ∙ put_last o copied k v rest (subst (λ es. IsStrictlySortedBy R (keys_of es)) (sym whole) ascend))
    ∙ append_assoc copied ((k, v) ∷ []) rest ∙ whole

nil_of_length : {A : Type 0} (es : List A) → length es ≡ 0 → es ≡ []
nil_of_length [] e = refl
nil_of_length (x ∷ es) e = absurd (omega arith)

-- an entry whose key comes before all the others is put first
put_first : {K X : Type 0} (R : K → K → Ordering) (k : K) (v : X) (es : List (K × X)) → AllByRecursion (λ y. R k y ≡ Less) (keys_of es) → map.put R k v es ≡ (k, v) ∷ es
put_first R k v [] h = refl
put_first R k v (e ∷ es) h = ap (λ r. by_order r ((k, v) ∷ e ∷ es) ((e.0, v) ∷ es) (e ∷ map.put R k v es)) h.0

-- the finite map of entries in order has those entries
pub entries-table : {K X : Type 0} {R : K → K → Ordering} → IsTotalOrder R → (es : List (K × X)) → IsStrictlySortedBy R (keys_of es) → map.entries (table R es) ≡ es
unfolding IsStrictlySortedBy
entries-table {X = X} {R = R} o [] h = nil_of_length (map.entries (map.empty {X = X} {R = R})) (sym (map.len-entries (map.empty {X = X} {R = R})) ∙ map.len-empty R X)
entries-table {R = R} o (e ∷ es) h =
    map.entries-insert o (table R es) e.0 e.1 ∙ ap (map.put R e.0 e.1) (entries-table o es h.1) ∙ put_first R e.0 e.1 es h.0

-- no keys are in order, and no entries are those of the map with nothing in it
pub none_ascend : {K : Type 0} (R : K → K → Ordering) → IsStrictlySortedBy R []
unfolding IsStrictlySortedBy
none_ascend R = record {}

pub none_listed : {K X : Type 0} {R : K → K → Ordering} → IsTotalOrder R → map.entries (table {X = X} R []) ≡ []
none_listed {R = R} o = entries-table o [] (none_ascend R)

-- and a finite map is that of its entries
pub table-entries : {K X : Type 0} {R : K → K → Ordering} → IsTotalOrder R → (m : map.FinMap R X) → IsStrictlySortedBy R (keys_of (map.entries m)) → table R (map.entries m) ≡ m
table-entries o m h = map.same_entries_map _ _ (entries-table o (map.entries m) h)

-- two lists of entries in order are the same, pair by pair, where their finite maps are
pub same-table : {K X : Type 0} {R : K → K → Ordering} → IsTotalOrder R → (D : K → K → Bool) (E : X → X → Bool) → ((x y : K) → D x y ≡ eq_by_cmp R x y) → (es fs : List (K × X)) → IsStrictlySortedBy R (keys_of es) → IsStrictlySortedBy R (keys_of fs) → pointwise (λ a b. D a.0 b.0 && E a.1 b.1) es fs ≡ same_map E (table R es) (table R fs)
same-table {R = R} o D E ties es fs ascend ascend' =
    λ i. pointwise (λ a b. ties a.0 b.0 i && E a.1 b.1) (sym (entries-table o es ascend) i) (sym (entries-table o fs ascend') i)

-- an ordered map that is made of entries in order has those entries
pub entries_made : {K X : Type 0} {R : K → K → Ordering} → IsTotalOrder R → map.IsAntisymmetric R → (es : List (K × X)) → IsStrictlySortedBy R (keys_of es) → (made : BTreeMap K X) → IsFromIterResult R es made → made.entries ≡ es
entries_made {R = R} o exact es ascend made from =
    sym (entries-table o made.entries from.1)
    ∙ ap map.entries (map.same_map o exact _ _ (λ q.
    get-table o exact made.entries q ∙ from.0 q ∙ update_all_none (eq_by_cmp_equiv o) (eq_by_cmp R) (λ x y. refl) es q (IsDistinct-from_sorted R (keys_of es) ascend) ∙ sym (get-table o exact es q)))
    ∙ entries-table o es ascend
