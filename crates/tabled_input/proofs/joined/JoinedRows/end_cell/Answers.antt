-- The cell has what stands after the others.
use Rattle.std.proofs.Common.{◌≡◌, ℕ, List, ◌-◌, ◌≤◌, ◌++◌, ◌∷◌, [], length, string_bytes, sym, ap, subst, ◌∙◌, arith}
use Rattle.std.proofs.lemmas.List.{length-append}
use Rattle.tabled_input.specs.Joined.{AreTexts, total}
use Rattle.tabled_input.proofs.Joining.{cell_ended, texts-last, texts-within, total-last}
use Rattle.tabled_input.proofs.joined.JoinedRows.end_cell.Goals as goal

pub overflow_sub-len : goal.overflow_sub-len
overflow_sub-len c = omega (arith, c.len.ensures, c.self.invariant.1, texts-within _ _ c.self.invariant.0)

-- the length that is put
put : (c : goal.After-self-1) → c.push.new.self.items ≡ c.self.inside.lengths.items ++ (length (string_bytes c.self.inside.text) - total c.self.inside.lengths.items) ∷ []
put c =
    let len : c.len.result - c.self.inside.ended_bytes ≡ length (string_bytes c.self.inside.text) - total c.self.inside.lengths.items = omega (arith, c.len.ensures, c.self.invariant.1) in
    ◌∙◌ {A = List ℕ} c.in_ok-push.ensures.items (ap (λ n. c.self.inside.lengths.items ++ n ∷ []) len)

pub invariant_of-self-2 : goal.invariant_of-self-2
invariant_of-self-2 c =
    let all = c.self.invariant in
    let within = texts-within _ _ all.0 in
    let whole : c.len-self-inside.result ≡ total c.push.new.self.items =
    omega (arith, c.len-self-inside.ensures, within, ap total (put c), total-last c.self.inside.lengths.items (length (string_bytes c.self.inside.text) - total c.self.inside.lengths.items)) in
    let more : c.self.inside.ended_cells ≤ length c.push.new.self.items = omega (arith, all.3, ap length (put c), length-append c.self.inside.lengths.items ((length (string_bytes c.self.inside.text) - total c.self.inside.lengths.items) ∷ [])) in
    (subst (λ lengths. AreTexts lengths (string_bytes c.self.inside.text)) (sym (put c)) (texts-last _ _ all.0), whole, all.2, more)

within : (c : goal.After-self-1) → total c.self.inside.counts.items ≤ length c.self.inside.lengths.items
within c = omega (arith, c.self.invariant.2, c.self.invariant.3)

pub returns-clause-rows : goal.returns-clause-rows
returns-clause-rows c = (cell_ended _ _ _ _ c.self.view_is c.self.invariant.0 (within c) _ (put c)).0

pub returns-clause-row : goal.returns-clause-row
returns-clause-row c = (cell_ended _ _ _ _ c.self.view_is c.self.invariant.0 (within c) _ (put c)).1

pub returns-clause-cell : goal.returns-clause-cell
returns-clause-cell c = (cell_ended _ _ _ _ c.self.view_is c.self.invariant.0 (within c) _ (put c)).2
