-- The set of the cells that entities name, gathered cell by cell.
use Rattle.std.proofs.Common.{◌≡◌, ℕ, ◌==◌, ◌&&◌, ◌||◌, Bool, true, false, cond, List, [], ◌∷◌, refl, sym, ap, ◌∙◌, arith, nat_cmp}
use Rattle.std.specs.List.{list_any}
use Rattle.std.specs.BTreeMap.{is_at}
use Rattle.std.specs.BTreeSet.{BTreeSet, Updates, contains}
use Rattle.std.proofs.lemmas.Bool.Decides.{nat_tests}
use mathlib.Core.Bool.{or-false}
use Rattle.std.specs.Cmp.{unsigned_tied, tied_then}
use Rattle.tabled_object.specs.declared.entity.Entity.{Entity}
use Rattle.tabled_object.specs.declared.position.Position.{Position}
use Rattle.tabled_object.specs.contracts.position.PositionOrd.TheImpl.{cmp-value}
use Rattle.tabled_object.specs.Entities.{covers, cells_of, is_inside}
use Rattle.tabled_object.specs.Listing.{listed}
use Rattle.tabled_object.proofs.Sets.{is_here, any_named, same_here}
use Rattle.tabled_highlight.specs.Around.{has}

-- cells that compare alike are the same
alike_is_here : (cell other : Position) → is_at (cmp-value.it cell) other ≡ is_here cell other
alike_is_here cell other =
    sym (tied_then (nat_cmp cell.row other.row) (nat_cmp cell.col other.col)) ∙ (λ i. unsigned_tied cell.row other.row i && unsigned_tied cell.col other.col i)

here_either_way : (cell other : Position) → is_here cell other ≡ is_here other cell
here_either_way cell other = λ i. swapped cell.row other.row i && swapped cell.col other.col i
  where
    swapped : (a b : ℕ) → (a == b) ≡ (b == a)
    swapped a b = grind (arith, nat_tests)

pub set_has : (set : BTreeSet Position) (cell : Position) → contains cmp-value.it set cell ≡ has set.keys cell
set_has set cell = λ i. list_any (λ other. alike_is_here cell other i) set.keys

chosen : (b c : Bool) → cond b true c ≡ (b || c)
chosen true c = refl
chosen false c = refl

-- a cell that was put into a set
pub has_inserted : (old new : BTreeSet Position) (pos : Position) → Updates cmp-value.it old new pos true → (cell : Position) → has new.keys cell ≡ (is_here cell pos || has old.keys cell)
has_inserted old new pos updates cell =
    sym (set_has new cell) ∙ updates.0 cell ∙ (λ i. cond ((alike_is_here pos cell ∙ here_either_way pos cell) i) true (set_has old cell i))
    ∙ chosen (is_here cell pos) (has old.keys cell)

added_bits : (here old inside rest : Bool) → (here ≡ true → inside ≡ true) → ((here || old) || (inside && rest)) ≡ (old || (inside && (here || rest)))
added_bits true old true rest h = all old
  where
    all : (b : Bool) → true ≡ (b || true)
    all true = refl
    all false = refl
added_bits true old false rest h = absurd (let e = h refl in cc)
added_bits false old inside rest h = refl

module _ (rows cols : ℕ) where
  -- a cell inside is added, and one outside passed over
  pub one_added : (now then items rest : List Position) (pos : Position) (whole : Position → Bool) → items ≡ pos ∷ rest → is_inside rows cols pos ≡ true
      → ((cell : Position) → has then cell ≡ (is_here cell pos || has now cell))
      → ((cell : Position) → (has now cell || (is_inside rows cols cell && list_any (is_here cell) items)) ≡ whole cell)
      → (cell : Position) → (has then cell || (is_inside rows cols cell && list_any (is_here cell) rest)) ≡ whole cell
  one_added now then items rest pos whole next inside added so_far cell =
      ap (λ b. b || (is_inside rows cols cell && list_any (is_here cell) rest)) (added cell)
      ∙ added_bits (is_here cell pos) (has now cell) (is_inside rows cols cell) (list_any (is_here cell) rest) (λ e. ap (is_inside rows cols) (sym (same_here cell pos e)) ∙ inside)
      ∙ ap (λ list. has now cell || (is_inside rows cols cell && list_any (is_here cell) list)) (sym next) ∙ so_far cell

  -- the cells that an entity names, inside, are those that it covers
  pub all_named : (entity : Entity) (cell : Position) → (is_inside rows cols cell && list_any (is_here cell) (cells_of entity rows cols)) ≡ listed (entity ∷ []) rows cols cell
  all_named entity cell = where_inside (is_inside rows cols cell) (list_any (is_here cell) (cells_of entity rows cols)) (covers entity cell) (any_named entity rows cols cell)
    where
      where_inside : (b x y : Bool) → (b ≡ true → x ≡ y) → (b && x) ≡ (b && (y || false))
      where_inside true x y h = h refl ∙ sym (or-false y)
      where_inside false x y h = refl

  -- nothing is left
  pub none_left : (now items : List Position) (whole : Position → Bool) → items ≡ [] → ((cell : Position) → (has now cell || (is_inside rows cols cell && list_any (is_here cell) items)) ≡ whole cell) → (cell : Position) → has now cell ≡ whole cell
  none_left now items whole none so_far cell = sym (or_none (has now cell) (is_inside rows cols cell)) ∙ ap (λ list. has now cell || (is_inside rows cols cell && list_any (is_here cell) list)) (sym none) ∙ so_far cell
    where
      or_none : (a b : Bool) → (a || (b && false)) ≡ a
      or_none true b = refl
      or_none false true = refl
      or_none false false = refl
