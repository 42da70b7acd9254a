use Rattle.std.proofs.Common.{◌≡◌, take}
use Rattle.tabled_theme.specs.Lines.{last_under}
use Rattle.tabled_theme.proofs.line_map.LineMap.of_list.Given as goal

abbrev pub invariant-loop-line : goal.invariant-loop-line
invariant-loop-line g l = l.lines ≡ last_under (take l.line-index l.list)
