-- A store whose fields are those of another, its allocator aside.
use Rattle.std.proofs.Common.{◌≡◌}
use Rattle.tabled_grid.specs.declared.layers.Layers.TheInside.{Inside}
use Rattle.tabled_grid.proofs.Seen.{seen}

-- two values are two others
abbrev pub SamePair : {A B : Type 0} → A → B → A → B → Type 0
SamePair {A} {B} a b c d = ◌≡◌ {A = A × B} (a, b) (c, d)

module _ {T M : Type 0} (old new : Inside T M) where
  pub same_seen : SamePair new.vertical_lines new.horizontal_lines old.vertical_lines old.horizontal_lines → new.cells ≡ old.cells → SamePair new.horizontal_offsets new.vertical_offsets old.horizontal_offsets old.vertical_offsets → SamePair new.default_value new.class_record old.default_value old.class_record → seen new ≡ seen old
  same_seen lines cells offsets below = λ i. seen (record new {
    default_value = (below i).0;
    class_record = (below i).1;
    vertical_lines = (lines i).0;
    horizontal_lines = (lines i).1;
    cells = cells i;
    horizontal_offsets = (offsets i).0;
    vertical_offsets = (offsets i).1;
  })
