-- The slots of the keys of a store: where both numbers of an edge or a crossing are small, or the number of a line.
use Rattle.std.specs.Prelude.{◌≡◌, ℕ, zero, suc, ◌+◌, ◌*◌, ◌^◌, ◌<◌, Bool, true, false, ◌&&◌, ◌==◌, nat_lt, if◌then◌else◌, Option, Some, None, refl, unwrap_or}
use Rattle.std.proofs.Common.{sym, ap, ◌∙◌, tests, arith}
use Rattle.std.proofs.lemmas.Bool.Decides.{nat_tests}
use Rattle.std.proofs.lemmas.Bool.{and_parts}
use Rattle.tabled_places.specs.declared.keys.EdgePlace.{EdgePlace}
use Rattle.tabled_object.specs.declared.offset.Offset.{Offset}
use Rattle.tabled_places.specs.declared.place.LineOf.{LineOf}
use Rattle.tabled_places.specs.Site.{Horizontal, Vertical, Spot, Edge, Crossing}
use Rattle.tabled_keys.specs.declared.key.Slot.{Slot}
use Rattle.tabled_keys.specs.Slots.{slot}

-- the first number that has no slot
abbrev pub slots_end : ℕ
slots_end = 2 ^ 30

-- horizontal lines stand in the first row of their table, and vertical ones in the second
abbrev pub slot_of_line : LineOf → Option Slot
slot_of_line (LineOf.Horizontal n) = if nat_lt n slots_end then Some (slot 0 n) else None
slot_of_line (LineOf.Vertical n) = if nat_lt n slots_end then Some (slot 1 n) else None

abbrev pub line_at : Slot → LineOf
line_at s = if s.row == 0 then LineOf.Horizontal s.col else LineOf.Vertical s.col

-- the two edges and the crossing of a row and a column stand beside one another
abbrev pub small : ℕ → ℕ → Bool
small r c = nat_lt r slots_end && nat_lt c slots_end

abbrev pub slot_of_spot : Spot → Option Slot
slot_of_spot (Edge Horizontal r c) = if small r c then Some (slot r (3 * c)) else None
slot_of_spot (Edge Vertical r c) = if small r c then Some (slot r (3 * c + 1)) else None
slot_of_spot (Crossing r c) = if small r c then Some (slot r (3 * c + 2)) else None

-- what stands the given number of slots after the horizontal edge of a row and a column
abbrev pub spot_after : ℕ → ℕ → ℕ → Spot
spot_after r c zero = Edge Horizontal r c
spot_after r c (suc zero) = Edge Vertical r c
spot_after r c (suc (suc zero)) = Crossing r c
spot_after r c (suc (suc (suc n))) = spot_after r (suc c) n

abbrev pub spot_at : Slot → Spot
spot_at s = spot_after s.row 0 s.col

-- offsets have no slots
abbrev pub no_slot : EdgePlace → Option Slot
no_slot place = None

abbrev pub no_edge_place : Slot → EdgePlace
no_edge_place s = record { row = s.row; col = s.col; offset = Offset.Start 0 }

same_slot : (s t : Slot) → Some s ≡ Some t → s ≡ t
same_slot s t e = ap (λ o. unwrap_or o s) e

-- a slot that is given by a test is that one
given : (b : Bool) (s t : Slot) → (if b then Some s else None) ≡ Some t → (b ≡ true) × (s ≡ t)
given true s t e = (refl, same_slot s t e)
given false s t e = absurd cc

less : (n end : ℕ) → nat_lt n end ≡ true → n < end
less n end h = grind (arith, tests, nat_tests, h)

pub lines_back : (line : LineOf) (s : Slot) → slot_of_line line ≡ Some s → line_at s ≡ line
lines_back (LineOf.Horizontal n) s e = ap line_at (sym (given (nat_lt n slots_end) (slot 0 n) s e).1)
lines_back (LineOf.Vertical n) s e = ap line_at (sym (given (nat_lt n slots_end) (slot 1 n) s e).1)

narrow_slot : (s t : Slot) → s ≡ t → (s.row < 2 ^ 30) × (s.col < 2 ^ 32) → (t.row < 2 ^ 30) × (t.col < 2 ^ 32)
narrow_slot s t e h =
    let row : s.row ≡ t.row = ap (λ u. u.row) e in
    let col : s.col ≡ t.col = ap (λ u. u.col) e in
    (omega (arith, row, h.0), omega (arith, col, h.1))

pub lines_narrow : (line : LineOf) (s : Slot) → slot_of_line line ≡ Some s → (s.row < 2 ^ 30) × (s.col < 2 ^ 32)
lines_narrow (LineOf.Horizontal n) s e =
    let it = given (nat_lt n slots_end) (slot 0 n) s e in
    narrow_slot (slot 0 n) s it.1 (omega arith, omega (arith, less n slots_end it.0))
lines_narrow (LineOf.Vertical n) s e =
    let it = given (nat_lt n slots_end) (slot 1 n) s e in
    narrow_slot (slot 1 n) s it.1 (omega arith, omega (arith, less n slots_end it.0))

-- three slots a column
columns_on : (r a c n : ℕ) → spot_after r a (3 * c + n) ≡ spot_after r (a + c) n
columns_on r a zero n =
    let slots : 3 * 0 + n ≡ n = omega arith in
    let col : a ≡ a + 0 = omega arith in
    ap (spot_after r a) slots ∙ ap (λ k. spot_after r k n) col
columns_on r a (suc c) n =
    let slots : 3 * suc c + n ≡ suc (suc (suc (3 * c + n))) = omega arith in
    let col : suc a + c ≡ a + suc c = omega arith in
    ap (spot_after r a) slots ∙ columns_on r (suc a) c n ∙ ap (λ k. spot_after r k n) col

at_column : (r c n : ℕ) → spot_after r 0 (3 * c + n) ≡ spot_after r c n
at_column r c n =
    let col : 0 + c ≡ c = omega arith in
    columns_on r 0 c n ∙ ap (λ k. spot_after r k n) col

pub spots_back : (spot : Spot) (s : Slot) → slot_of_spot spot ≡ Some s → spot_at s ≡ spot
spots_back (Edge Horizontal r c) s e =
    let first : 3 * c ≡ 3 * c + 0 = omega arith in
    ap spot_at (sym (given (small r c) (slot r (3 * c)) s e).1) ∙ ap (spot_after r 0) first ∙ at_column r c 0
spots_back (Edge Vertical r c) s e = ap spot_at (sym (given (small r c) (slot r (3 * c + 1)) s e).1) ∙ at_column r c 1
spots_back (Crossing r c) s e = ap spot_at (sym (given (small r c) (slot r (3 * c + 2)) s e).1) ∙ at_column r c 2

narrow_spot : (r c n : ℕ) (s : Slot) → n < 3 → (if small r c then Some (slot r (3 * c + n)) else None) ≡ Some s → (s.row < 2 ^ 30) × (s.col < 2 ^ 32)
narrow_spot r c n s part e =
    let it = given (small r c) (slot r (3 * c + n)) s e in
    let numbers = and_parts (nat_lt r slots_end) (nat_lt c slots_end) it.0 in
    narrow_slot (slot r (3 * c + n)) s it.1 (less r slots_end numbers.0, omega (arith, less c slots_end numbers.1, part))

pub spots_narrow : (spot : Spot) (s : Slot) → slot_of_spot spot ≡ Some s → (s.row < 2 ^ 30) × (s.col < 2 ^ 32)
spots_narrow (Edge Horizontal r c) s e =
    let first : 3 * c + 0 ≡ 3 * c = omega arith in
    narrow_spot r c 0 s (omega arith) (ap (λ k. if small r c then Some (slot r k) else None) first ∙ e)
spots_narrow (Edge Vertical r c) s e = narrow_spot r c 1 s (omega arith) e
spots_narrow (Crossing r c) s e = narrow_spot r c 2 s (omega arith) e

pub no_slot_back : (place : EdgePlace) (s : Slot) → no_slot place ≡ Some s → no_edge_place s ≡ place
no_slot_back place s e = absurd cc

pub no_slot_narrow : (place : EdgePlace) (s : Slot) → no_slot place ≡ Some s → (s.row < 2 ^ 30) × (s.col < 2 ^ 32)
no_slot_narrow place s e = absurd cc
