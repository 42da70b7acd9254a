-- No character goes on there.
use Rattle.std.proofs.Common.{drop, string_bytes, sym, subst, arith}
use Rattle.std.specs.Str.{IsCharBoundary, IsUtf8}
use Rattle.std.proofs.lemmas.Str.{IsCharBoundary-from_drop}
use Rattle.tabled_input.proofs.Joining.{texts-rest, texts-within}
use Rattle.tabled_input.proofs.joined.JoinedRows.open_cell.Goals as goal

pub range_from-requires : goal.range_from-requires
range_from-requires c positive =
    let all = c.self.invariant in
    let text = c.self.inside.text in
    let boundary : IsCharBoundary (string_bytes text) c.self.inside.ended_bytes =
    IsCharBoundary-from_drop (string_bytes text) c.self.inside.ended_bytes (omega (arith, all.1, texts-within _ _ all.0)) (subst (λ n. IsUtf8 (drop n (string_bytes text))) (sym all.1) (texts-rest _ _ all.0)) in
    subst (λ bytes. IsCharBoundary bytes c.self.inside.ended_bytes) (sym c.deref.ensures) boundary
