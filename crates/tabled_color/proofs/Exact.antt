-- Colors that compare alike are the same.
use Rattle.std.proofs.Common.{◌≡◌, ℕ, Bool, true, false, List, refl, ap, subst, Equal}
use Rattle.std.specs.Ordering.{nat_cmp, bool_cmp, ordering_then}
use Rattle.std.specs.Cmp.Lexicographic.{slice_cmp}
use Rattle.std.proofs.lemmas.Cmp.{tied_itself}
use Rattle.std.proofs.lemmas.Map.Lookups.{CmpEqualImpliesEq, exact_bytes, exact_pairs}
use Rattle.tabled_color.specs.Shade.{Shade}
use Rattle.tabled_color.specs.Order.{shade_cmp}
use Rattle.tabled_color.specs.contracts.comparing.ColorOrd.TheImpl.Laws.{total-law}

exact_bool : CmpEqualImpliesEq bool_cmp
exact_bool true false h = absurd cc
exact_bool false true h = absurd cc
exact_bool a b h = refl

pub exact_shades : (a b : Shade) → shade_cmp a b ≡ Equal → a ≡ b
exact_shades a b h =
    ap (λ (p : (Bool × List ℕ) × List ℕ). record { owned = p.0.0; prefix = p.0.1; suffix = p.1 })
    (exact_pairs (λ (x y : Bool × List ℕ). ordering_then (bool_cmp x.0 y.0) (slice_cmp nat_cmp x.1 y.1)) (slice_cmp nat_cmp)
    (exact_pairs bool_cmp (slice_cmp nat_cmp) exact_bool exact_bytes) exact_bytes ((a.owned, a.prefix), a.suffix) ((b.owned, b.prefix), b.suffix) h)

pub tied_shades : (a b : Shade) → a ≡ b → shade_cmp a b ≡ Equal
tied_shades a b same = subst (λ c. shade_cmp a c ≡ Equal) same (tied_itself total-law a)
