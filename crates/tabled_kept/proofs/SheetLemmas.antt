-- A sheet of slots by its two parts: what each change of one does to the whole.
use Rattle.std.proofs.Common.{◌≡◌, ℕ, ◌+◌, ◌*◌, ◌/◌, ◌%◌, ◌<◌, ◌^◌, Bool, true, false, cond, ◌&&◌, ◌==◌, Option, Some, None, is_some, List, length, refl, sym, ap, ◌∙◌, arith, tests, nat_lt, if◌then◌else◌}
use Rattle.std.specs.Ordering.{nat_cmp}
use Rattle.std.specs.Cmp.{nat_cmp_total, unsigned_tied}
use Rattle.std.specs.Cmp.Lexicographic.{pointwise}
use Rattle.std.specs.List.Sorted.{IsStrictlySortedBy}
use Rattle.std.specs.Map.{keys_of, lookup}
use Rattle.std.specs.BTreeMap.{is_at}
use Rattle.std.specs.FinMap as map
use Rattle.std.proofs.lemmas.Bool.Decides.{nat_tests}
use Rattle.std.proofs.lemmas.Nat.{div-mul-add, mod-mul-add}
use Rattle.tabled_keys.specs.declared.key.Slot.{Slot}
use Rattle.tabled_kept.specs.Slots.{slot_cmp, slots_total}
use Rattle.tabled_keys.specs.Slots.{slot}
use Rattle.tabled_kept.specs.Table.{table}
use Rattle.tabled_kept.specs.Same.{same_map}
use Rattle.tabled_kept.specs.Sheet.{is_near, far_number, far_slot, sheet, PartedSheet}
use Rattle.tabled_kept.proofs.TableLemmas.{exact_slots}
use Rattle.tabled_kept.proofs.Tables.{get-table, table-put, table-take, no-entries}
use Rattle.tabled_kept.proofs.Ascending.{same-table}
use Rattle.tabled_kept.proofs.Joining.{same_some}
use Rattle.tabled_kept.proofs.KeptLemmas.{read_dense, read_others, put_in_slot, put_beside, taken_from_slot, taken_beside, parted_none, empty_whole, same_parts}

-- a number tells its slot
pub far_back : (s : Slot) (n : ℕ) → far_number s ≡ Some n → far_slot n ≡ s
far_back s n = by_tests (is_near s) (nat_lt s.row (2 ^ 30)) (nat_lt s.col (2 ^ 32)) (λ h. grind (arith, tests, nat_tests, h))
  where
    by_tests : (near row col : Bool) → (col ≡ true → s.col < 2 ^ 32) → (if near then None else if row && col then Some (s.row * 2 ^ 32 + s.col) else None) ≡ Some n → far_slot n ≡ s
    by_tests false true true small e =
        let number : s.row * 2 ^ 32 + s.col ≡ n = same_some _ _ e in
        let row : n / 2 ^ 32 ≡ s.row = ap (λ m. m / 2 ^ 32) (sym number) ∙ div-mul-add s.row (2 ^ 32) s.col (small refl) in
        let col : n % 2 ^ 32 ≡ s.col = ap (λ m. m % 2 ^ 32) (sym number) ∙ mod-mul-add s.row (2 ^ 32) s.col (small refl) in
        λ i. slot (row i) (col i)
    by_tests true row col small e = absurd cc
    by_tests false false col small e = absurd cc
    by_tests false true false small e = absurd cc

pub not_far : (number : Option ℕ) → is_some number ≡ false → number ≡ None
not_far None h = refl
not_far (Some n) h = absurd cc

module _ {V : Type 0} where
  -- a finite map is that of its entries
  of_entries : (m : map.FinMap slot_cmp V) → table slot_cmp (map.entries m) ≡ m
  of_entries m = map.same_map slots_total exact_slots _ _ (λ q. map.get-from_entries slots_total (map.entries m) q ∙ sym (map.get-entries m q))

  module _ (near : map.FinMap slot_cmp V) (far : List (ℕ × V)) (parted : PartedSheet near far) where
    pub read_far : (s : Slot) (n : ℕ) → far_number s ≡ Some n → map.get (sheet near far) s ≡ lookup (is_at (nat_cmp n)) far
    read_far s n of_s =
        read_dense nat_cmp_total map.nat_cmp-IsAntisymmetric slots_total exact_slots far_back (table nat_cmp far) (map.entries near) parted s n of_s
        ∙ get-table nat_cmp_total map.nat_cmp-IsAntisymmetric far n

    pub read_near : (s : Slot) → far_number s ≡ None → map.get (sheet near far) s ≡ map.get near s
    read_near s of_s =
        read_others nat_cmp_total map.nat_cmp-IsAntisymmetric slots_total exact_slots far_back (table nat_cmp far) (map.entries near) parted s of_s
        ∙ ap (λ m. map.get m s) (of_entries near)

    -- a value put under a number, or taken there
    pub put_far : (far' : List (ℕ × V)) (s : Slot) (n : ℕ) → far_number s ≡ Some n → (v : V) → ((q : ℕ) → lookup (is_at (nat_cmp q)) far' ≡ cond (is_at (nat_cmp n) q) (Some v) (lookup (is_at (nat_cmp q)) far)) → PartedSheet near far' × (sheet near far' ≡ map.insert (sheet near far) s v)
    put_far far' s n of_s v put =
        put_in_slot nat_cmp_total map.nat_cmp-IsAntisymmetric slots_total exact_slots far_back (table nat_cmp far) (table nat_cmp far') (map.entries near) parted s n of_s v
        (table-put nat_cmp_total map.nat_cmp-IsAntisymmetric far far' n v put)

    pub take_far : (far' : List (ℕ × V)) (s : Slot) (n : ℕ) → far_number s ≡ Some n → ((q : ℕ) → lookup (is_at (nat_cmp q)) far' ≡ cond (is_at (nat_cmp n) q) None (lookup (is_at (nat_cmp q)) far)) → PartedSheet near far' × (sheet near far' ≡ map.remove (sheet near far) s)
    take_far far' s n of_s gone =
        taken_from_slot nat_cmp_total map.nat_cmp-IsAntisymmetric slots_total exact_slots far_back (table nat_cmp far) (table nat_cmp far') (map.entries near) parted s n of_s
        (table-take nat_cmp_total map.nat_cmp-IsAntisymmetric far far' n gone)

    -- the same in a row
    pub put_near : (near' : map.FinMap slot_cmp V) (s : Slot) → far_number s ≡ None → (v : V) → near' ≡ map.insert near s v → PartedSheet near' far × (sheet near' far ≡ map.insert (sheet near far) s v)
    put_near near' s of_s v put =
        put_beside nat_cmp_total map.nat_cmp-IsAntisymmetric slots_total exact_slots far_back (table nat_cmp far) (map.entries near) (map.entries near') parted s of_s v
        (of_entries near' ∙ put ∙ ap (λ m. map.insert m s v) (sym (of_entries near)))

    pub take_near : (near' : map.FinMap slot_cmp V) (s : Slot) → far_number s ≡ None → near' ≡ map.remove near s → PartedSheet near' far × (sheet near' far ≡ map.remove (sheet near far) s)
    take_near near' s of_s gone =
        taken_beside nat_cmp_total map.nat_cmp-IsAntisymmetric slots_total exact_slots far_back (table nat_cmp far) (map.entries near) (map.entries near') parted s of_s
        (of_entries near' ∙ gone ∙ ap (λ m. map.remove m s) (sym (of_entries near)))

    -- what the first row has
    pub in_first_row : (m : map.FinMap slot_cmp V) → sheet near far ≡ m → (col : ℕ) → map.get near (slot 0 col) ≡ (if is_some (far_number (slot 0 col)) then None else map.get m (slot 0 col))
    in_first_row m is col = by_number (far_number (slot 0 col)) refl
      where
        by_number : (number : Option ℕ) → far_number (slot 0 col) ≡ number → map.get near (slot 0 col) ≡ (if is_some number then None else map.get m (slot 0 col))
        by_number None of_s = sym (read_near (slot 0 col) of_s) ∙ ap (λ m. map.get m (slot 0 col)) is
        by_number (Some n) of_s = ap (λ m. map.get m (slot 0 col)) (sym (of_entries near)) ∙ parted.apart (slot 0 col) (ap is_some of_s)

  module _ (near : map.FinMap slot_cmp V) (far : List (ℕ × V)) (none : near ≡ map.empty) (few : length far ≡ 0) where
    no_rows : length (map.entries near) ≡ 0
    no_rows = sym (map.len-entries near) ∙ ap map.len none ∙ map.len-empty slot_cmp V

    no_numbers : table nat_cmp far ≡ map.empty
    no_numbers = no-entries nat_cmp_total map.nat_cmp-IsAntisymmetric far few

    -- a sheet is empty where both parts are
    pub parted_empty : PartedSheet near far
    parted_empty = parted_none nat_cmp_total map.nat_cmp-IsAntisymmetric slots_total exact_slots far_back (table nat_cmp far) (map.entries near) no_numbers no_rows

    pub sheet_empty : sheet near far ≡ map.empty
    sheet_empty = empty_whole nat_cmp_total map.nat_cmp-IsAntisymmetric slots_total exact_slots far_back (table nat_cmp far) (map.entries near) parted_empty no_numbers no_rows

  -- two are the same where both of their parts are
  pub same_sheets : (E : V → V → Bool) (near near' : map.FinMap slot_cmp V) (far far' : List (ℕ × V)) → PartedSheet near far → PartedSheet near' far' → IsStrictlySortedBy nat_cmp (keys_of far) → IsStrictlySortedBy nat_cmp (keys_of far') → (pointwise (λ a b. (a.0 == b.0) && E a.1 b.1) far far' && same_map E near near') ≡ same_map E (sheet near far) (sheet near' far')
  same_sheets E near near' far far' parted parted' ascend ascend' =
      (λ i. same-table nat_cmp_total (λ x y. x == y) E (λ x y. sym (unsigned_tied x y)) far far' ascend ascend' i && same_map E (sym (of_entries near) i) (sym (of_entries near') i))
      ∙ same_parts nat_cmp_total map.nat_cmp-IsAntisymmetric slots_total exact_slots far_back E (table nat_cmp far) (table nat_cmp far') (map.entries near) (map.entries near') parted parted'
