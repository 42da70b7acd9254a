-- What cells ask for, one column more and one row more.
use Rattle.std.proofs.Common.{◌≡◌, ℕ, zero, suc, ◌+◌, ◌-◌, ◌<◌, ◌==◌, Bool, true, false, min, max, if◌then◌else◌, List, [], ◌∷◌, ◌++◌, map, length, get_or, set, slice_index_or, refl, sym, ap, ◌∙◌, arith, add-one}
use Rattle.std.specs.List.{flat_map, sum_by}
use Rattle.std.proofs.lemmas.Bool.Decides.{nat_tests}
use Rattle.std.proofs.lemmas.List.{append-nil, append_assoc}
use Rattle.std.proofs.lemmas.List.Concat.{flat_map-append}
use Rattle.std.proofs.lemmas.List.Edits.{fill_by_more}
use Rattle.std.proofs.lemmas.List.FromFn.{map-range_with_len_more}
use Rattle.std.proofs.lemmas.List.Sums.{fold-append}
use Rattle.tabled_rooms.specs.declared.host.Host.{Host}
use Rattle.tabled_rooms.specs.Hosts.{Cell, Counts, host}
use Rattle.tabled_rooms.specs.Holding.{cell_of, AreHosts}
use Rattle.tabled_rooms.specs.Sizes.{below, greatest, is_shown, columns_taken, alone, over_several, is_own, column_count, row_count}
use Rattle.tabled_rooms.proofs.RoomLemmas.{range_more, sum_below}

pub taken_more : (hosts : ℕ → Cell) (n c : ℕ) → columns_taken hosts (n + 1) c ≡ columns_taken hosts n c + (if (hosts n).1 == c then 1 else 0)
taken_more hosts n c = sum_below (λ k. if (hosts k).1 == c then 1 else 0) n

pub flat_map_below : {A : Type 0} (f : ℕ → List A) (n : ℕ) → flat_map f (below (n + 1)) ≡ flat_map f (below n) ++ f n
flat_map_below f n =
    ap (λ k. flat_map f (below k)) (add-one n) ∙ ap (flat_map f) (range_more 0 n) ∙ flat_map-append f (below n) ((0 + n) ∷ [])
    ∙ (let same : 0 + n ≡ n = omega arith in ap (λ k. flat_map f (below n) ++ (f k ++ [])) same) ∙ ap (λ xs. flat_map f (below n) ++ xs) (append-nil (f n))

-- what is noted of one column more, behind what was noted before
pub noted_more : {A : Type 0} (f : ℕ → List A) (n : ℕ) (old now new more : List A) → now ≡ old ++ flat_map f (below n) → more ≡ f n → new ≡ now ++ more → new ≡ old ++ flat_map f (below (n + 1))
noted_more f n old now new more so_far is noted =
    noted ∙ (λ i. so_far i ++ is i) ∙ append_assoc old (flat_map f (below n)) (f n) ∙ ap (λ xs. old ++ xs) (sym (flat_map_below f n))

-- the greatest of one number more
pub greatest_more : (f : ℕ → ℕ) (n : ℕ) → greatest (map f (below (n + 1))) ≡ max (greatest (map f (below n))) (f n)
greatest_more f n = ap greatest (map-range_with_len_more f 0 n n (omega arith)) ∙ fold-append max 0 (map f (below n)) (f n ∷ [])

-- a width more
pub widened_more : (old widths : List ℕ) (part : ℕ → ℕ) (n new : ℕ) → n < length widths → new ≡ max (get_or old n 0) (part n) → ((k : ℕ) → k < n → get_or widths k 0 ≡ max (get_or old k 0) (part k))
    → (k : ℕ) → k < n + 1 → get_or (set widths n new) k 0 ≡ max (get_or old k 0) (part k)
widened_more old widths part n new within is so_far k before =
    ap (λ w. get_or (set widths n w) k 0) is ∙ fill_by_more (λ k. max (get_or old k 0) (part k)) widths n 0 within so_far k before

-- a number more
pub set_more : (f : ℕ → ℕ) (xs : List ℕ) (n new : ℕ) → n < length xs → new ≡ f n → ((k : ℕ) → k < n → get_or xs k 0 ≡ f k) → (k : ℕ) → k < n + 1 → get_or (set xs n new) k 0 ≡ f k
set_more f xs n new within is so_far k before = ap (λ w. get_or (set xs n w) k 0) is ∙ fill_by_more f xs n 0 within so_far k before

-- sums and lists over the numbers below a count, of what is the same there
pub sum_same : (f g : ℕ → ℕ) (n : ℕ) → ((k : ℕ) → k < n → f k ≡ g k) → sum_by f (below n) ≡ sum_by g (below n)
sum_same f g zero same = refl
sum_same f g (suc n) same =
    ap (λ m. sum_by f (below m)) (sym (add-one n)) ∙ sum_below f n ∙ (λ i. sum_same f g n (λ k within. same k (omega arith)) i + same n (omega arith) i) ∙ sym (sum_below g n)
    ∙ ap (λ m. sum_by g (below m)) (add-one n)

pub map_same : {A : Type 0} (f g : ℕ → A) (n : ℕ) → ((k : ℕ) → k < n → f k ≡ g k) → map f (below n) ≡ map g (below n)
map_same f g zero same = refl
map_same f g (suc n) same =
    ap (λ m. map f (below m)) (sym (add-one n)) ∙ map-range_with_len_more f 0 n n (omega arith) ∙ (λ i. map_same f g n (λ k within. same k (omega arith)) i ++ same n (omega arith) i ∷ [])
    ∙ sym (map-range_with_len_more g 0 n n (omega arith)) ∙ ap (λ m. map g (below m)) (add-one n)

pub flat_map_same : {A : Type 0} (f g : ℕ → List A) (n : ℕ) → ((k : ℕ) → k < n → f k ≡ g k) → flat_map f (below n) ≡ flat_map g (below n)
flat_map_same f g zero same = refl
flat_map_same f g (suc n) same =
    ap (λ m. flat_map f (below m)) (sym (add-one n)) ∙ flat_map_below f n ∙ (λ i. flat_map_same f g n (λ k within. same k (omega arith)) i ++ same n (omega arith) i)
    ∙ sym (flat_map_below g n) ∙ ap (λ m. flat_map g (below m)) (add-one n)

-- the hosts of a row, as they are kept
module _ (columns rows : Counts) (shape : ℕ × ℕ) (r : ℕ) (kept : List Host) (none : Host) (are : AreHosts columns rows shape r kept) (count : length kept ≡ shape.1) where
  kept_cell : (c : ℕ) → c < shape.1 → cell_of (slice_index_or kept c none) ≡ host columns rows r c
  kept_cell c within = ap cell_of (are c none (omega arith))

  pub shown_kept : (c : ℕ) → c < shape.1 → is_shown (cell_of (slice_index_or kept c none)) r c ≡ is_own columns rows shape r c
  shown_kept c within = ap (λ cell. is_shown cell r c) (kept_cell c within)

  pub count_kept : (c : ℕ) → columns_taken (λ k. cell_of (slice_index_or kept k none)) (length kept) c ≡ column_count columns rows shape r c
  count_kept c = ap (λ n. columns_taken (λ k. cell_of (slice_index_or kept k none)) n c) count
      ∙ sum_same (λ k. if (cell_of (slice_index_or kept k none)).1 == c then 1 else 0) (λ k. if (host columns rows r k).1 == c then 1 else 0) shape.1
      (λ k within. ap (λ (cell : Cell). if cell.1 == c then 1 else 0) (kept_cell k within))

  -- the rows that are left of what is shown at its own place
  left_kept : (c : ℕ) → c < shape.1 → is_own columns rows shape r c ≡ true → (slice_index_or kept c none).bottom - r ≡ row_count columns rows shape r c
  left_kept c within own =
      let row : (host columns rows r c).0 ≡ r = grind (arith, nat_tests) in
      let col : (host columns rows r c).1 ≡ c = grind (arith, nat_tests) in
      ap (λ (h : Host). h.bottom - r) (are c none (omega arith)) ∙ (λ i. min (row i + rows (row i) (col i)) shape.0 - r)

  pub alone_kept : (c size : ℕ) → c < shape.1 → alone (is_shown (cell_of (slice_index_or kept c none)) r c) ((slice_index_or kept c none).bottom - r) size ≡ alone (is_own columns rows shape r c) (row_count columns rows shape r c) size
  alone_kept c size within = ap (λ b. alone b ((slice_index_or kept c none).bottom - r) size) (shown_kept c within) ∙ by (is_own columns rows shape r c) refl
    where
      by : (own : Bool) → is_own columns rows shape r c ≡ own → alone (is_own columns rows shape r c) ((slice_index_or kept c none).bottom - r) size ≡ alone (is_own columns rows shape r c) (row_count columns rows shape r c) size
      by true own = ap (λ n. alone (is_own columns rows shape r c) n size) (left_kept c within own)
      by false own = ap (λ b. alone b ((slice_index_or kept c none).bottom - r) size) own ∙ sym (ap (λ b. alone b (row_count columns rows shape r c) size) own)

  pub over_kept : (c size : ℕ) → c < shape.1 → over_several (is_shown (cell_of (slice_index_or kept c none)) r c) r ((slice_index_or kept c none).bottom - r) size ≡ over_several (is_own columns rows shape r c) r (row_count columns rows shape r c) size
  over_kept c size within = ap (λ b. over_several b r ((slice_index_or kept c none).bottom - r) size) (shown_kept c within) ∙ by (is_own columns rows shape r c) refl
    where
      by : (own : Bool) → is_own columns rows shape r c ≡ own → over_several (is_own columns rows shape r c) r ((slice_index_or kept c none).bottom - r) size ≡ over_several (is_own columns rows shape r c) r (row_count columns rows shape r c) size
      by true own = ap (λ n. over_several (is_own columns rows shape r c) r n size) (left_kept c within own)
      by false own = ap (λ b. over_several b r ((slice_index_or kept c none).bottom - r) size) own ∙ sym (ap (λ b. over_several b r (row_count columns rows shape r c) size) own)
