use Rattle.std.proofs.Common.{◌≡◌, ◌++◌, take, drop}
use Rattle.tabled_style.specs.Lines.{each_line}
use Rattle.tabled_style.proofs.builder.custom.put_over_each.Given as goal

abbrev pub invariant-loop-line : goal.invariant-loop-line
invariant-loop-line g l =
    l.lines ≡ each_line (g.Line.CustomLine.over l.put) (take l.line-index l.initial.lines) ++ drop l.line-index l.initial.lines
