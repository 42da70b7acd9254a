-- The row has the cells that stand after the others.
use Rattle.std.proofs.Common.{◌≡◌, ℕ, List, ◌-◌, ◌≤◌, ◌++◌, ◌∷◌, [], length, ap, ◌∙◌, arith}
use Rattle.tabled_input.specs.Joined.{total}
use Rattle.tabled_input.proofs.Joining.{row_ended, total-last}
use Rattle.tabled_input.proofs.joined.JoinedRows.end_row.Goals as goal

within : (c : goal.After-self-1) → total c.self.inside.counts.items ≤ length c.self.inside.lengths.items
within c = omega (arith, c.self.invariant.2, c.self.invariant.3)

-- the count that is put
put : (c : goal.After-self-1) → c.push.new.self.items ≡ c.self.inside.counts.items ++ (length c.self.inside.lengths.items - total c.self.inside.counts.items) ∷ []
put c =
    let len : c.len.result - c.self.inside.ended_cells ≡ length c.self.inside.lengths.items - total c.self.inside.counts.items = omega (arith, c.len.ensures, c.self.inside.lengths.ok.0, c.self.invariant.2) in
    ◌∙◌ {A = List ℕ} c.in_ok-push.ensures.items (ap (λ n. c.self.inside.counts.items ++ n ∷ []) len)

pub invariant_of-self-2 : goal.invariant_of-self-2
invariant_of-self-2 c =
    let all = c.self.invariant in
    let lengths = c.self.inside.lengths in
    let whole : c.len-self-inside.result ≡ total c.push.new.self.items =
    omega (arith, c.len-self-inside.ensures, lengths.ok.0, within c, ap total (put c), total-last c.self.inside.counts.items (length lengths.items - total c.self.inside.counts.items)) in
    let last : c.len-self-inside.result ≤ length lengths.items = omega (arith, c.len-self-inside.ensures, lengths.ok.0) in
    (all.0, all.1, whole, last)

pub returns-clause-rows : goal.returns-clause-rows
returns-clause-rows c = (row_ended _ _ _ _ c.self.view_is c.self.invariant.0 (within c) _ (put c)).0

pub returns-clause-row : goal.returns-clause-row
returns-clause-row c = (row_ended _ _ _ _ c.self.view_is c.self.invariant.0 (within c) _ (put c)).1
