-- What happens to a compact configuration: it becomes one record after another.
use Rattle.std.specs.Prelude.{◌≡◌, List, [], ◌∷◌, ◌++◌}
use Rattle.std.proofs.Common.{refl, sym, ap, ◌∙◌}

module _ {C : Type 0} where
  -- the last record that it became, and what it was where it became none
  abbrev pub last_of : C → List C → C
  last_of old [] = old
  last_of old (next ∷ later) = last_of next later

  -- the one configuration became these in turn, and with that the other
  abbrev pub Becomes : List C → C → C → Type 0
  Becomes records old new = new ≡ last_of old records

  last_of-append : (old : C) (es fs : List C) → last_of old (es ++ fs) ≡ last_of (last_of old es) fs
  last_of-append old [] fs = refl
  last_of-append old (next ∷ later) fs = last_of-append next later fs

  -- the laws of changes
  pub none_becomes : (cfg : C) → Becomes [] cfg cfg
  none_becomes cfg = refl

  pub both_become : (es fs : List C) (old between new : C) → Becomes es old between → Becomes fs between new → Becomes (es ++ fs) old new
  both_become es fs old between new by_es by_fs = by_fs ∙ ap (λ cfg. last_of cfg fs) by_es ∙ sym (last_of-append old es fs)
