-- What stands in rows of slots.
use Rattle.std.proofs.Common.{◌≡◌, ℕ, zero, suc, ◌+◌, ◌<◌, ◌≤◌, Bool, true, false, cond, ◌&&◌, ◌==◌, Option, Some, None, List, [], ◌∷◌, ◌++◌, length, refl, sym, ap, ◌∙◌, arith, tests, slice_index_or, slice_set}
use Rattle.std.specs.Ordering.{nat_cmp, is_eq, eq_by_cmp}
use Rattle.std.specs.Cmp.{nat_cmp_total, tied_then, unsigned_tied}
use Rattle.std.specs.FinMap as map
use Rattle.std.proofs.lemmas.Bool.{eqb-true, and_parts}
use Rattle.std.proofs.lemmas.Bool.Decides.{nat_tests}
use Rattle.std.proofs.lemmas.List.{get_or_past}
use Rattle.tabled_keys.specs.declared.key.Slot.{Slot}
use Rattle.tabled_kept.specs.Slots.{slot_cmp, slots_total, in_row, rows_from, in_rows}
use Rattle.tabled_keys.specs.Slots.{slot}
use Rattle.tabled_kept.proofs.SlotLemmas.{padded, set_item, or_else, find-append}

-- slots tie where both of their numbers are equal
pub same_slot : (s t : Slot) → eq_by_cmp slot_cmp s t ≡ ((s.row == t.row) && (s.col == t.col))
same_slot s t = sym (tied_then (nat_cmp s.row t.row) (nat_cmp s.col t.col)) ∙ (λ i. unsigned_tied s.row t.row i && unsigned_tied s.col t.col i)

pub exact_slots : map.IsAntisymmetric slot_cmp
exact_slots s t h =
    let parts = and_parts (s.row == t.row) (s.col == t.col) (sym (same_slot s t) ∙ ap is_eq h) in
    λ i. record { row = eqb-true s.row t.row parts.0 i; col = eqb-true s.col t.col parts.1 i }

module _ {V : Type 0} where
  -- in a row a slot of that row is found by its number, and no slot of another row
  find-in_row : (row col : ℕ) (values : List (ℕ × V)) → map.find slot_cmp (slot row col) (in_row row values) ≡ map.find nat_cmp col values
  find-in_row row col [] = refl
  find-in_row row col (v ∷ values) =
      let same : eq_by_cmp slot_cmp (slot row col) (slot row v.0) ≡ eq_by_cmp nat_cmp col v.0 =
      same_slot (slot row col) (slot row v.0) ∙ ap (λ b. b && (col == v.0)) (sym (unsigned_tied row row) ∙ tied row) ∙ sym (unsigned_tied col v.0) in
      λ i. cond (same i) (Some v.1) (find-in_row row col values i)
    where
      tied : (n : ℕ) → eq_by_cmp nat_cmp n n ≡ true
      tied n = unsigned_tied n n ∙ grind (arith, tests, nat_tests)

  other_row : (n row col : ℕ) (values : List (ℕ × V)) → (row == n) ≡ false → map.find slot_cmp (slot row col) (in_row n values) ≡ None
  other_row n row col [] other = refl
  other_row n row col (v ∷ values) other =
      let apart : eq_by_cmp slot_cmp (slot row col) (slot n v.0) ≡ false = same_slot (slot row col) (slot n v.0) ∙ ap (λ b. b && (col == v.0)) other in
      ap (λ b. cond b (Some v.1) (map.find slot_cmp (slot row col) (in_row n values))) apart ∙ other_row n row col values other

  -- a row before the first is not there
  before_rows : (n row col : ℕ) (rows : List (map.FinMap nat_cmp V)) → row < n → map.find slot_cmp (slot row col) (rows_from n rows) ≡ None
  before_rows n row col [] h = refl
  before_rows n row col (r ∷ rows) h =
      let other : (row == n) ≡ false = grind (arith, tests, nat_tests) in
      find-append slot_cmp (slot row col) (in_row n (map.entries r)) (rows_from (suc n) rows)
      ∙ (λ i. or_else (other_row n row col (map.entries r) other i) (before_rows (suc n) row col rows (omega arith) i))

  find-rows_from : (n row col : ℕ) (rows : List (map.FinMap nat_cmp V)) → map.find slot_cmp (slot (n + row) col) (rows_from n rows) ≡ map.get (slice_index_or rows row map.empty) col
  find-rows_from n row col [] = sym (map.get-empty nat_cmp col)
  find-rows_from n zero col (r ∷ rows) =
      let here : n + 0 ≡ n = omega arith in
      ap (λ k. map.find slot_cmp (slot k col) (rows_from n (r ∷ rows))) here
      ∙ find-append slot_cmp (slot n col) (in_row n (map.entries r)) (rows_from (suc n) rows)
      ∙ (λ i. or_else (find-in_row n col (map.entries r) i) (before_rows (suc n) n col rows (omega arith) i))
      ∙ nothing_else (map.find nat_cmp col (map.entries r)) ∙ sym (map.get-entries r col)
    where
      nothing_else : (x : Option V) → or_else x None ≡ x
      nothing_else None = refl
      nothing_else (Some x) = refl
  find-rows_from n (suc row) col (r ∷ rows) =
      let next : n + suc row ≡ suc n + row = omega arith in
      let other : (n + suc row == n) ≡ false = grind (arith, tests, nat_tests) in
      find-append slot_cmp (slot (n + suc row) col) (in_row n (map.entries r)) (rows_from (suc n) rows)
      ∙ ap (λ x. or_else x (map.find slot_cmp (slot (n + suc row) col) (rows_from (suc n) rows))) (other_row n (n + suc row) col (map.entries r) other)
      ∙ ap (λ k. map.find slot_cmp (slot k col) (rows_from (suc n) rows)) next ∙ find-rows_from (suc n) row col rows

  -- what the rows have in a slot is what its row has under its number
  pub get-in_rows : (rows : List (map.FinMap nat_cmp V)) (s : Slot) → map.get (in_rows rows) s ≡ map.get (slice_index_or rows s.row map.empty) s.col
  unfolding in_rows
  get-in_rows rows s =
      let same : s.row ≡ 0 + s.row = omega arith in
      map.get-from_entries slots_total (rows_from 0 rows) s ∙ ap (λ k. map.find slot_cmp (slot k s.col) (rows_from 0 rows)) same ∙ find-rows_from 0 s.row s.col rows

  same_rows : (a b : map.FinMap slot_cmp V) → ((s : Slot) → map.get a s ≡ map.get b s) → a ≡ b
  same_rows a b h = map.same_map slots_total exact_slots a b h

  pub in_rows-nil : in_rows {V = V} [] ≡ map.empty
  unfolding in_rows
  in_rows-nil = refl

  pub in_rows-push : (rows : List (map.FinMap nat_cmp V)) → in_rows (rows ++ map.empty ∷ []) ≡ in_rows rows
  in_rows-push rows = same_rows _ _ (λ s.
      get-in_rows (rows ++ map.empty ∷ []) s ∙ ap (λ row. map.get row s.col) (padded rows s.row map.empty) ∙ sym (get-in_rows rows s))

  -- one row is another now
  in_row_set : (rows : List (map.FinMap nat_cmp V)) (at : Slot) (row : map.FinMap nat_cmp V) (s : Slot) → at.row < length rows → map.get (in_rows (slice_set rows at.row row)) s ≡ cond (s.row == at.row) (map.get row s.col) (map.get (in_rows rows) s)
  in_row_set rows at row s h =
      get-in_rows (slice_set rows at.row row) s ∙ ap (λ r. map.get r s.col) (set_item rows at.row row s.row map.empty h)
      ∙ each (s.row == at.row) ∙ ap (cond (s.row == at.row) (map.get row s.col)) (sym (get-in_rows rows s))
    where
      each : (b : Bool) → map.get (cond b row (slice_index_or rows s.row map.empty)) s.col ≡ cond b (map.get row s.col) (map.get (slice_index_or rows s.row map.empty) s.col)
      each true = refl
      each false = refl

  -- a change in one row, by what is there now
  changed_row : (rows : List (map.FinMap nat_cmp V)) (at : Slot) (row : map.FinMap nat_cmp V) (now : Option V) → at.row < length rows → ((k : ℕ) → map.get row k ≡ cond (k == at.col) now (map.get (slice_index_or rows at.row map.empty) k)) → (s : Slot) → map.get (in_rows (slice_set rows at.row row)) s ≡ cond (eq_by_cmp slot_cmp s at) now (map.get (in_rows rows) s)
  changed_row rows at row now h changed s =
      in_row_set rows at row s h ∙ ap (λ x. cond (s.row == at.row) x (map.get (in_rows rows) s)) (changed s.col)
      ∙ by_test (s.row == at.row) refl ∙ ap (λ b. cond b now (map.get (in_rows rows) s)) (sym (same_slot s at))
    where
      by_test : (b : Bool) → (s.row == at.row) ≡ b → cond b (cond (s.col == at.col) now (map.get (slice_index_or rows at.row map.empty) s.col)) (map.get (in_rows rows) s) ≡ cond (b && (s.col == at.col)) now (map.get (in_rows rows) s)
      by_test true here =
          ap (cond (s.col == at.col) now) (ap (λ k. map.get (slice_index_or rows k map.empty) s.col) (sym (eqb-true s.row at.row here)) ∙ sym (get-in_rows rows s))
      by_test false away = refl

  pub in_rows-put : (rows : List (map.FinMap nat_cmp V)) (at : Slot) (row old : map.FinMap nat_cmp V) (v : V) → at.row < length rows → old ≡ slice_index_or rows at.row map.empty → row ≡ map.insert old at.col v → in_rows (slice_set rows at.row row) ≡ map.insert (in_rows rows) at v
  in_rows-put rows at row old v h was now = same_rows _ _ (λ s.
      changed_row rows at row (Some v) h (λ k.
      ap (λ m. map.get m k) now ∙ map.get-insert nat_cmp_total old at.col v k
      ∙ (λ i. cond (unsigned_tied k at.col i) (Some v) (map.get (was i) k))) s
      ∙ sym (map.get-insert slots_total (in_rows rows) at v s))

  pub in_rows-take : (rows : List (map.FinMap nat_cmp V)) (at : Slot) (row old : map.FinMap nat_cmp V) → at.row < length rows → old ≡ slice_index_or rows at.row map.empty → row ≡ map.remove old at.col → in_rows (slice_set rows at.row row) ≡ map.remove (in_rows rows) at
  in_rows-take rows at row old h was now = same_rows _ _ (λ s.
      changed_row rows at row None h (λ k.
      ap (λ m. map.get m k) now ∙ map.get-remove nat_cmp_total old at.col k
      ∙ (λ i. cond (unsigned_tied k at.col i) None (map.get (was i) k))) s
      ∙ sym (map.get-remove slots_total (in_rows rows) at s))

  -- nothing stands in any row
  pub all_rows_empty : (rows : List (map.FinMap nat_cmp V)) → ((k : ℕ) → slice_index_or rows k map.empty ≡ map.empty) → in_rows rows ≡ map.empty
  all_rows_empty rows h = same_rows _ _ (λ s. get-in_rows rows s ∙ ap (λ m. map.get m s.col) (h s.row) ∙ map.get-empty nat_cmp s.col ∙ sym (map.get-empty slot_cmp s))

  -- what is seen of rows
  pub in_slot_of : (rows : List (map.FinMap nat_cmp V)) (m : map.FinMap slot_cmp V) → in_rows rows ≡ m → (s : Slot) → map.get m s ≡ map.get (slice_index_or rows s.row map.empty) s.col
  in_slot_of rows m e s = ap (λ n. map.get n s) (sym e) ∙ get-in_rows rows s

  pub in_no_row : (rows : List (map.FinMap nat_cmp V)) (m : map.FinMap slot_cmp V) → in_rows rows ≡ m → (s : Slot) → length rows ≤ s.row → map.get m s ≡ None
  in_no_row rows m e s h = in_slot_of rows m e s ∙ ap (λ row. map.get row s.col) (get_or_past rows s.row map.empty h) ∙ map.get-empty nat_cmp s.col
