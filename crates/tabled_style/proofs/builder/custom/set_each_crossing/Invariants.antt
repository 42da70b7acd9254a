use Rattle.std.proofs.Common.{◌≡◌, ◌++◌, take, drop}
use Rattle.tabled_style.specs.Lines.{each_line}
use Rattle.tabled_style.proofs.builder.custom.set_each_crossing.Given as goal

abbrev pub invariant-loop-line : goal.invariant-loop-line
invariant-loop-line g l =
    l.lines ≡ each_line (g.Line.CustomLine.met l.rank l.c) (take l.line-index l.initial.lines) ++ drop l.line-index l.initial.lines
