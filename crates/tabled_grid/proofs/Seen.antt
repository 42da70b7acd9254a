-- From a store's fields to what its contracts see.
use Rattle.std.proofs.Common.{◌≡◌, false, Option, List, sym, ap, subst, Result, Ok, Err, IfOk, OnOk, OnErr, is_err, nat_cmp}
use Rattle.std.specs.FinMap as map
use Rattle.tabled_places.specs.declared.borders.Borders.{Borders}
use Rattle.tabled_places.specs.declared.lines.HorizontalLine.{HorizontalLine}
use Rattle.tabled_places.specs.declared.lines.VerticalLine.{VerticalLine}
use Rattle.tabled_grid.specs.declared.layers.Layers.TheInside.{Inside}
use Rattle.tabled_kept.specs.Table.{table}
use Rattle.tabled_places.specs.Keys.{spot_cmp, edge_place_cmp}
use Rattle.tabled_places.specs.declared.event.Event.{Event}
use Rattle.tabled_places.specs.Event.{Changes}
use Rattle.tabled_places.specs.State.{State, state_at}

-- what the fields keep
abbrev pub seen : {T M : Type 0} → Inside T M → State T
seen i = record {
  default_value = i.default_value;
  class_record = i.class_record;
  vertical_lines = table nat_cmp i.vertical_lines;
  horizontal_lines = table nat_cmp i.horizontal_lines;
  cells = table spot_cmp i.cells;
  horizontal_offsets = table edge_place_cmp i.horizontal_offsets;
  vertical_offsets = table edge_place_cmp i.vertical_offsets;
}

-- a change of what the fields keep, up to equations at both ends
pub changed : {T : Type 0} (es : List (Event T)) (before old new after : State T) → before ≡ old → new ≡ after → Changes es (state_at before) (state_at after) → Changes es (state_at old) (state_at new)
changed es before old new after is becomes changes =
    subst (λ k. Changes es (state_at k) (state_at new)) is (subst (λ k. Changes es (state_at before) (state_at k)) (sym becomes) changes)

-- one field given anew
pub with_default : {T : Type 0} (k : State T) (a b : Option T) → a ≡ b → record k { default_value = a } ≡ record k { default_value = b }
with_default k a b e = ap (λ x. record k { default_value = x }) e

pub with_class : {T : Type 0} (k : State T) (a b : Borders T) → a ≡ b → record k { class_record = a } ≡ record k { class_record = b }
with_class k a b e = ap (λ x. record k { class_record = x }) e

pub with_vertical : {T : Type 0} (k : State T) (a b : map.FinMap nat_cmp (VerticalLine T)) → a ≡ b → record k { vertical_lines = a } ≡ record k { vertical_lines = b }
with_vertical k a b e = ap (λ x. record k { vertical_lines = x }) e

pub with_horizontal : {T : Type 0} (k : State T) (a b : map.FinMap nat_cmp (HorizontalLine T)) → a ≡ b → record k { horizontal_lines = a } ≡ record k { horizontal_lines = b }
with_horizontal k a b e = ap (λ x. record k { horizontal_lines = x }) e

pub with_lines : {T : Type 0} (k : State T) (a b : map.FinMap nat_cmp (VerticalLine T)) (c d : map.FinMap nat_cmp (HorizontalLine T)) → a ≡ b → c ≡ d → record k { vertical_lines = a; horizontal_lines = c } ≡ record k { vertical_lines = b; horizontal_lines = d }
with_lines k a b c d e f = λ i. record k { vertical_lines = e i; horizontal_lines = f i }

pub with_cells : {T : Type 0} (k : State T) (a b : map.FinMap spot_cmp T) → a ≡ b → record k { cells = a } ≡ record k { cells = b }
with_cells k a b e = ap (λ x. record k { cells = x }) e

pub with_horizontal_offsets : {T : Type 0} (k : State T) (a b : map.FinMap edge_place_cmp T) → a ≡ b → record k { horizontal_offsets = a } ≡ record k { horizontal_offsets = b }
with_horizontal_offsets k a b e = ap (λ x. record k { horizontal_offsets = x }) e

pub with_vertical_offsets : {T : Type 0} (k : State T) (a b : map.FinMap edge_place_cmp T) → a ≡ b → record k { vertical_offsets = a } ≡ record k { vertical_offsets = b }
with_vertical_offsets k a b e = ap (λ x. record k { vertical_offsets = x }) e

-- what follows where the call succeeded
pub on_ok : {A E P Q : Type 0} (r : Result A E) → (P → Q) → OnOk r P → OnOk r Q
on_ok (Ok x) f h = f h
on_ok (Err e) f h = tt

-- what a call promises where it succeeds, of one that did
pub where_ok : {A E P : Type 0} (r : Result A E) → is_err r ≡ false → OnOk r P → P
where_ok (Ok x) e h = h
where_ok (Err refused) e h = absurd cc

pub on_err : {A E P Q : Type 0} (r : Result A E) → (P → Q) → OnErr r P → OnErr r Q
on_err (Ok x) f h = tt
on_err (Err e) f h = f h

pub if_ok : {A E : Type 0} {P Q : A → Type 0} (r : Result A E) → ((x : A) → P x → Q x) → IfOk r P → IfOk r Q
if_ok (Ok x) f h = f x h
if_ok (Err e) f h = tt

pub if_err : {A E P : Type 0} (r : Result A E) → P → OnErr r P
if_err (Ok x) h = tt
if_err (Err e) h = h

-- the events by another name
pub as_events : {T : Type 0} (es fs : List (Event T)) (old new : State T) → fs ≡ es → Changes es (state_at old) (state_at new) → Changes fs (state_at old) (state_at new)
as_events es fs old new e h = subst (λ x. Changes x (state_at old) (state_at new)) (sym e) h
