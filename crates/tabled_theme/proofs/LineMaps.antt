-- Lists of lines, and the maps of them.
use Rattle.std.proofs.Common.{◌≡◌, ℕ, suc, ◌+◌, arith, Bool, true, false, cond, ◌&&◌, ◌==◌, Option, Some, None, List, [], ◌∷◌, ◌++◌, refl, sym, ap, subst, ◌∙◌, T, reverse, Ordering, Less, Equal, Greater}
use Rattle.std.specs.Option.{option_or}
use Rattle.std.specs.Ordering.{nat_cmp, is_lt, is_eq, eq_by_cmp}
use Rattle.std.specs.Cmp.{nat_cmp_total, unsigned_tied}
use Rattle.std.specs.FinMap as map
use Rattle.std.specs.FinMap.Entries as entry
use Rattle.std.proofs.lemmas.List.{append-nil, reverse-append}
use Rattle.std.specs.List.Sorted.{IsStrictlySortedBy}
use Rattle.std.specs.Map.{keys_of}
use Rattle.std.specs.Cmp.Lexicographic.{pointwise}
use Rattle.tabled_kept.specs.Table.{table}
use Rattle.tabled_kept.proofs.Ascending.{same-table, entries-table}
use Rattle.tabled_theme.specs.Lines.{last_under, shown_line, lines_put}
use Rattle.tabled_theme.specs.Same.{same_lines}

behind : (i : ℕ) → i + 1 ≡ suc i
behind i = omega arith

first_half : (a b : Bool) → T (a && b) → T a
first_half true b h = tt
first_half false b h = h

second_half : (a b : Bool) → T (a && b) → T b
second_half true b h = h
second_half false b h = absurd h

less_apart : (o : Ordering) → T (is_lt o) → is_eq o ≡ false
less_apart Less h = refl
less_apart Equal h = absurd h
less_apart Greater h = absurd h

module _ {L : Type 0} where
  or_else : (b : Bool) (x : L) (a c : Option L) → cond b (Some x) (option_or a c) ≡ option_or (cond b (Some x) a) c
  or_else true x a c = refl
  or_else false x a c = refl

  -- of two lists in a row the first one that has an index counts
  find_in_both : (n : ℕ) (es fs : List (ℕ × L)) → map.find nat_cmp n (es ++ fs) ≡ option_or (map.find nat_cmp n es) (map.find nat_cmp n fs)
  find_in_both n [] fs = refl
  find_in_both n (e ∷ es) fs =
      ap (cond (eq_by_cmp nat_cmp n e.0) (Some e.1)) (find_in_both n es fs) ∙ or_else (eq_by_cmp nat_cmp n e.0) e.1 (map.find nat_cmp n es) (map.find nat_cmp n fs)

  -- an index below all others is not found
  find_below : (n : ℕ) (es : List (ℕ × L)) → T (entry.below_all nat_cmp n es) → map.find nat_cmp n es ≡ None
  find_below n [] h = refl
  find_below n (e ∷ es) h =
      ap (λ b. cond b (Some e.1) (map.find nat_cmp n es)) (less_apart (nat_cmp n e.0) (first_half (is_lt (nat_cmp n e.0)) (entry.below_all nat_cmp n es) h))
      ∙ find_below n es (second_half (is_lt (nat_cmp n e.0)) (entry.below_all nat_cmp n es) h)

  -- of entries in order each index has one, so it is found from either end
  find_turned : (n : ℕ) (es : List (ℕ × L)) → T (map.is_sorted nat_cmp es) → map.find nat_cmp n (reverse es) ≡ map.find nat_cmp n es
  find_turned n [] h = refl
  find_turned n (e ∷ es) h =
      let ascend : T (map.is_sorted nat_cmp es) = second_half (entry.below_all nat_cmp e.0 es) (map.is_sorted nat_cmp es) h in
      let missed : map.find nat_cmp e.0 (reverse es) ≡ None = find_turned e.0 es ascend ∙ find_below e.0 es (first_half (entry.below_all nat_cmp e.0 es) (map.is_sorted nat_cmp es) h) in
      ap (map.find nat_cmp n) (reverse-append (e ∷ []) es) ∙ entry.find-append nat_cmp nat_cmp_total (reverse es) e.0 e.1 n missed
      ∙ ap (cond (eq_by_cmp nat_cmp n e.0) (Some e.1)) (find_turned n es ascend)

  -- of lines as they are put the one that shows counts
  pub last_put : (set beneath : map.FinMap nat_cmp L) (n : ℕ) → map.get (last_under (lines_put set beneath)) n ≡ shown_line set beneath n
  last_put set beneath n =
      map.get-from_entries nat_cmp_total (reverse (lines_put set beneath)) n
      ∙ ap (map.find nat_cmp n) (reverse-append (map.entries beneath) (map.entries set))
      ∙ find_in_both n (reverse (map.entries set)) (reverse (map.entries beneath))
      ∙ (λ i. option_or (found set i) (found beneath i))
    where
      found : (m : map.FinMap nat_cmp L) → map.find nat_cmp n (reverse (map.entries m)) ≡ map.get m n
      found m = find_turned n (map.entries m) (map.entries_sorted m) ∙ sym (map.get-entries m n)

  -- where nothing was set the lines beneath show, as they are
  pub last_beneath : (beneath : map.FinMap nat_cmp L) → last_under (lines_put map.empty beneath) ≡ beneath
  last_beneath beneath = map.same_map nat_cmp_total map.nat_cmp-IsAntisymmetric _ _ (λ n.
      last_put map.empty beneath n ∙ ap (λ (o : Option L). option_or o (map.get beneath n)) (map.get-empty nat_cmp n))

-- two lists of entries in order are the same, pair by pair, where their maps are
pub same_in_order : {L : Type 0} (same : L → L → Bool) (es fs : List (ℕ × L)) → IsStrictlySortedBy nat_cmp (keys_of es) → IsStrictlySortedBy nat_cmp (keys_of fs) → pointwise (λ a b. (a.0 == b.0) && same a.1 b.1) es fs ≡ same_lines same (table nat_cmp es) (table nat_cmp fs)
same_in_order same es fs ascend ascend' = same-table nat_cmp_total ◌==◌ same (λ x y. sym (unsigned_tied x y)) es fs ascend ascend'

-- the entries that are walked are those of the map, in their order
pub still_ascending : {L : Type 0} (es walked : List (ℕ × L)) → walked ≡ es → IsStrictlySortedBy nat_cmp (keys_of es) → IsStrictlySortedBy nat_cmp (keys_of walked)
still_ascending es walked is ascend = subst (λ all. IsStrictlySortedBy nat_cmp (keys_of all)) (sym is) ascend

-- all entries of a map were added
pub all_pushed : {L : Type 0} (es : List (ℕ × L)) (lines : map.FinMap nat_cmp L) (list before left walked : List (ℕ × L)) → walked ≡ es → IsStrictlySortedBy nat_cmp (keys_of es) → table nat_cmp es ≡ lines → list ++ left ≡ before ++ walked → left ≡ [] → list ≡ before ++ map.entries lines
all_pushed es lines list before left walked all ascend is pushed done =
    sym (append-nil list) ∙ ap (λ rest. list ++ rest) (sym done) ∙ pushed
    ∙ ap (λ rest. before ++ rest) (all ∙ sym (entries-table nat_cmp_total es ascend) ∙ ap map.entries is)
