-- What two reads in a row consume.
use Rattle.std.proofs.Common.{◌≡◌, ℕ, List, ◌++◌, Option, None, Some, ap, ◌∙◌, sym, append_assoc}
use Rattle.std.specs.Io.KnownBytes.{Consumes}

pub Consumes-more : (a b c : Option (List ℕ)) (first second all : List ℕ) → Consumes a b first → Consumes b c second → all ≡ first ++ second → Consumes a c all
Consumes-more None b c first second all p q e = tt
Consumes-more (Some x) None c first second all p q e = absurd p
Consumes-more (Some x) (Some y) None first second all p q e = absurd q
Consumes-more (Some x) (Some y) (Some z) first second all p q e =
    p ∙ ap (λ rest. first ++ rest) q ∙ sym (append_assoc first second z) ∙ ap (λ front. front ++ z) (sym e)
