-- What a kept map keeps: values in slots, and the others in an ordered map.
use Rattle.std.specs.Prelude.{◌≡◌, Option, Some, None, IsSome, List, ◌++◌, map}
use Rattle.std.specs.FinMap.{FinMap, get, entries}
use Rattle.std.specs.declared.cmp.Ordering.{Ordering}
use Rattle.tabled_kept.specs.Table.{table}

-- entries under their keys in place of their slots
abbrev pub keyed : {S K V : Type 0} → (S → K) → List (S × V) → List (K × V)
keyed key_at values = map (λ value. (key_at value.0, value.1)) values

-- all entries: those in slots, and then the others
abbrev pub all_entries : {S K V : Type 0} {Q : S → S → Ordering} → (S → K) → FinMap Q V → List (K × V) → List (K × V)
all_entries key_at dense others = keyed key_at (entries dense) ++ others

-- the key alone says where its value is: in its slot, if it has one, and else among the others
pub record Parted {S K V : Type 0} {Q : S → S → Ordering} (R : K → K → Ordering) (slot_of : K → Option S) (key_at : S → K) (dense : FinMap Q V) (others : List (K × V)) : Type 0 where
  pub in_place : (s : S) → IsSome (get dense s) → slot_of (key_at s) ≡ Some s
  pub apart : (key : K) → IsSome (slot_of key) → get (table R others) key ≡ None
