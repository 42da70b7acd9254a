-- Lists in which no two elements are the same: of numbers in a row, of lists in a row, and of what is made of them.
use Rattle.std.proofs.Common.{◌≡◌, ◌<◌, ◌≤◌, ◌+◌, ℕ, zero, suc, Bool, false, List, [], ◌∷◌, ◌++◌, map, arith}
use Rattle.std.specs.List.{AllByRecursion, IsDistinct, flat_map, range_with_len}

module _ {K : Type 0} (same : K → K → Bool) where
  -- it is none of the list
  abbrev pub Apart : K → List K → Type 0
  Apart x ys = AllByRecursion (λ y. same x y ≡ false) ys

  -- none of the one list is one of the other
  abbrev pub AllApart : List K → List K → Type 0
  AllApart xs ys = AllByRecursion (λ x. Apart x ys) xs

  pub apart-append : (x : K) (ys zs : List K) → Apart x ys → Apart x zs → Apart x (ys ++ zs)
  apart-append x [] zs these those = those
  apart-append x (y ∷ ys) zs these those = (these.0, apart-append x ys zs these.1 those)

  pub apart_from_both : (xs ys zs : List K) → AllApart xs ys → AllApart xs zs → AllApart xs (ys ++ zs)
  apart_from_both [] ys zs these those = tt
  apart_from_both (x ∷ xs) ys zs these those = (apart-append x ys zs these.0 those.0, apart_from_both xs ys zs these.1 those.1)

  pub both_apart : (xs ys zs : List K) → AllApart xs zs → AllApart ys zs → AllApart (xs ++ ys) zs
  both_apart [] ys zs these those = those
  both_apart (x ∷ xs) ys zs these those = (these.0, both_apart xs ys zs these.1 those)

  pub distinct-append : (xs ys : List K) → IsDistinct same xs → IsDistinct same ys → AllApart xs ys → IsDistinct same (xs ++ ys)
  unfolding IsDistinct
  distinct-append [] ys these those apart = those
  distinct-append (x ∷ xs) ys these those apart = (apart-append x xs ys these.0 apart.0, distinct-append xs ys these.1 those apart.1)

  -- it is none of a list
  pub apart_from_nothing : (xs : List K) → AllApart xs []
  apart_from_nothing [] = tt
  apart_from_nothing (x ∷ xs) = (tt, apart_from_nothing xs)

  module _ (make : ℕ → K) where
    pub apart_from_made : (x : K) (start count : ℕ) → ((n : ℕ) → start ≤ n → same x (make n) ≡ false) → Apart x (map make (range_with_len start count))
    apart_from_made x start zero differ = tt
    apart_from_made x start (suc count) differ = (differ start (omega arith), apart_from_made x (start + 1) count (λ n h. differ n (omega arith)))

    -- numbers in a row, of which each makes another
    pub distinct_made : (start count : ℕ) → ((m n : ℕ) → m < n → same (make m) (make n) ≡ false) → IsDistinct same (map make (range_with_len start count))
    unfolding IsDistinct
    distinct_made start zero differ = tt
    distinct_made start (suc count) differ = (apart_from_made (make start) (start + 1) count (λ n h. differ start n (omega arith)), distinct_made (start + 1) count differ)

  -- two lists that are made of numbers in different ways
  pub made_apart : (make other : ℕ → K) (start count more amount : ℕ) → ((m n : ℕ) → same (make m) (other n) ≡ false)
      → AllApart (map make (range_with_len start count)) (map other (range_with_len more amount))
  made_apart make other start zero more amount differ = tt
  made_apart make other start (suc count) more amount differ =
      (apart_from_made other (make start) more amount (λ n h. differ start n), made_apart make other (start + 1) count more amount differ)

  module _ (lists : ℕ → List K) where
    pub apart_from_lists : (xs : List K) (start count : ℕ) → ((n : ℕ) → start ≤ n → AllApart xs (lists n)) → AllApart xs (flat_map lists (range_with_len start count))
    apart_from_lists xs start zero differ = apart_from_nothing xs
    apart_from_lists xs start (suc count) differ =
        apart_from_both xs (lists start) (flat_map lists (range_with_len (start + 1) count)) (differ start (omega arith)) (apart_from_lists xs (start + 1) count (λ n h. differ n (omega arith)))

    -- lists in a row, of which none has an element of another
    pub distinct_lists : (start count : ℕ) → ((n : ℕ) → IsDistinct same (lists n)) → ((m n : ℕ) → m < n → AllApart (lists m) (lists n))
        → IsDistinct same (flat_map lists (range_with_len start count))
    unfolding IsDistinct
    distinct_lists start zero each differ = tt
    distinct_lists start (suc count) each differ =
        distinct-append (lists start) (flat_map lists (range_with_len (start + 1) count)) (each start) (distinct_lists (start + 1) count each differ)
        (apart_from_lists (lists start) (start + 1) count (λ n h. differ start n (omega arith)))

  pub lists_apart : (lists others : ℕ → List K) (start count more amount : ℕ) → ((m n : ℕ) → AllApart (lists m) (others n))
      → AllApart (flat_map lists (range_with_len start count)) (flat_map others (range_with_len more amount))
  lists_apart lists others start zero more amount differ = tt
  lists_apart lists others start (suc count) more amount differ =
      both_apart (lists start) (flat_map lists (range_with_len (start + 1) count)) (flat_map others (range_with_len more amount))
      (apart_from_lists others (lists start) more amount (λ n h. differ start n)) (lists_apart lists others (start + 1) count more amount differ)
