-- What a conversion makes of an option.
use Rattle.std.specs.Prelude.{◌≡◌, Option, Some, None, IsSomeAnd}

-- nothing stays nothing, and a value becomes one that the conversion gives for it
abbrev pub Converts : {T U : Type 0} → (T → U → Type 0) → Option T → Option U → Type 0
Converts gives None new = new ≡ None
Converts gives (Some x) new = IsSomeAnd new (gives x)
