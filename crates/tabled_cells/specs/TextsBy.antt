-- Rows of texts, whatever has the bytes of each: a text of its own, or one that is lent.
use Rattle.std.specs.Prelude.{ℕ, List, map}
use Rattle.std.specs.declared.vec.Vec.{Vec}
use Rattle.tabled_width.specs.Texts.{Table}

-- the bytes of each text of rows
abbrev pub texts_by : {T Z : Type 0} → (T → List ℕ) → List (Vec T Z) → Table
texts_by bytes rows = map (λ row. map bytes row.items) rows
