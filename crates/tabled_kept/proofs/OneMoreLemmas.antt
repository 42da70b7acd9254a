-- A number that is counted up in a slot is one more in all that the slot is a part of.
use Rattle.std.proofs.Common.{◌≡◌, ℕ, ◌+◌, ◌<◌, Bool, true, false, Option, Some, None, IsTrue, IsFalse, List, length, refl, sym, ap, subst, ◌∙◌, slice_index_or, slice_set, Ordering}
use Rattle.std.specs.Ordering.{nat_cmp}
use Rattle.std.specs.Cmp.{IsTotalOrder}
use Rattle.std.specs.FinMap as map
use Rattle.tabled_keys.specs.declared.key.Slot.{Slot}
use Rattle.tabled_kept.specs.Slots.{slot_cmp, slots_total, filled, in_rows}
use Rattle.tabled_kept.specs.Table.{table}
use Rattle.tabled_kept.specs.Kept.{all_entries, Parted}
use Rattle.tabled_kept.specs.Sheet.{far_number, sheet, PartedSheet}
use Rattle.tabled_kept.specs.OneMore.{IsOneMore}
use Rattle.tabled_kept.proofs.SlotLemmas.{in_slot, filled-put}
use Rattle.tabled_kept.proofs.TableLemmas.{in_slot_of, in_rows-put, exact_slots}
use Rattle.tabled_kept.proofs.Tables.{table_at, inserted}
use Rattle.tabled_kept.proofs.Tallies.{as_many}
use Rattle.tabled_kept.proofs.KeptLemmas.{read_dense, put_in_slot}
use Rattle.tabled_kept.proofs.SheetLemmas.{read_near, put_near}

pub more_in_slot : (slots : List (Option ℕ)) (m : map.FinMap nat_cmp ℕ) → filled slots ≡ m → (at n : ℕ) → at < length slots → slice_index_or slots at None ≡ Some n → IsOneMore m (filled (slice_set slots at (Some (n + 1)))) at
more_in_slot slots m e at n h there = (n, in_slot slots m e at ∙ there, filled-put slots at (n + 1) h ∙ ap (λ k. map.insert k at (n + 1)) e)

pub more_in_row : (rows : List (map.FinMap nat_cmp ℕ)) (m : map.FinMap slot_cmp ℕ) → in_rows rows ≡ m → (at : Slot) (row old : map.FinMap nat_cmp ℕ) → at.row < length rows → old ≡ slice_index_or rows at.row map.empty → IsOneMore old row at.col → IsOneMore m (in_rows (slice_set rows at.row row)) at
more_in_row rows m e at row old h was more = (
  more.0,
  in_slot_of rows m e at ∙ ap (λ r. map.get r at.col) (sym was) ∙ more.1,
  in_rows-put rows at row old (more.0 + 1) h was more.2 ∙ ap (λ k. map.insert k at (more.0 + 1)) e,
)

module _ (near near' : map.FinMap slot_cmp ℕ) (far : List (ℕ × ℕ)) (parted : PartedSheet near far) (s : Slot) (of_s : far_number s ≡ None) where
  pub parted_near : (b : Bool) → (IsTrue b → IsOneMore near near' s) → (IsFalse b → near' ≡ near) → PartedSheet near' far
  parted_near true more same = (put_near near far parted near' s of_s ((more refl).0 + 1) (more refl).2).0
  parted_near false more same = subst (λ n. PartedSheet n far) (sym (same refl)) parted

  pub more_near : (m : map.FinMap slot_cmp ℕ) → sheet near far ≡ m → IsOneMore near near' s → IsOneMore m (sheet near' far) s
  more_near m e more = (
    more.0,
    sym (ap (λ n. map.get n s) e) ∙ read_near near far parted s of_s ∙ more.1,
    (put_near near far parted near' s of_s (more.0 + 1) more.2).1 ∙ ap (λ n. map.insert n s (more.0 + 1)) e,
  )

module _ {K : Type 0} {R : K → K → Ordering} (o : IsTotalOrder R) where
  module _ (exact : map.IsAntisymmetric R) {slot_of : K → Option Slot} {key_at : Slot → K} (back : (key : K) (s : Slot) → slot_of key ≡ Some s → key_at s ≡ key) (dense dense' : map.FinMap slot_cmp ℕ) (others : List (K × ℕ)) (parted : Parted R slot_of key_at dense others) (k : K) (s : Slot) (of_k : slot_of k ≡ Some s) where
    pub parted_dense : (b : Bool) → (IsTrue b → IsOneMore dense dense' s) → (IsFalse b → dense' ≡ dense) → Parted R slot_of key_at dense' others
    parted_dense true more same = (put_in_slot slots_total exact_slots o exact back dense dense' others parted k s of_k ((more refl).0 + 1) (more refl).2).0
    parted_dense false more same = subst (λ m. Parted R slot_of key_at m others) (sym (same refl)) parted

    pub more_dense : (kept : List (K × ℕ)) → all_entries key_at dense others ≡ kept → IsOneMore dense dense' s → IsOneMore (table R kept) (table R (all_entries key_at dense' others)) k
    more_dense kept e more = (
      more.0,
      sym (ap (table_at R k) e) ∙ read_dense slots_total exact_slots o exact back dense others parted k s of_k ∙ more.1,
      (put_in_slot slots_total exact_slots o exact back dense dense' others parted k s of_k (more.0 + 1) more.2).1 ∙ ap (inserted R k (more.0 + 1)) e,
    )

  -- there are as many entries
  pub as_many_kept : (old new : map.FinMap R ℕ) (k : K) (n : ℕ) (b : Bool) → n ≡ map.len old → (IsTrue b → IsOneMore old new k) → (IsFalse b → new ≡ old) → n ≡ map.len new
  as_many_kept old new k n true number more same = let it = more refl in as_many o old new k (it.0 + 1) (Some it.0) n false number (sym it.1) it.2 refl refl
  as_many_kept old new k n false number more same = number ∙ ap map.len (sym (same refl))
