-- A colored text.
use Rattle.std.specs.Prelude.{ℕ, List, map, ◌++◌}
use Rattle.std.specs.List.{join_with_byte}
use Rattle.std.specs.Str.Lines.{lines}
use Rattle.tabled_color.specs.Shade.{Shade}

abbrev pub painted : Shade → List ℕ → List ℕ
painted shade line = shade.prefix ++ line ++ shade.suffix

-- each line of a text painted, with line feeds between them
abbrev pub colorized : Shade → List ℕ → List ℕ
colorized shade text = join_with_byte 10 (map (painted shade) (lines text))
