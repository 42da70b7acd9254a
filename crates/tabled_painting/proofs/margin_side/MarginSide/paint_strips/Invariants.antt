-- The lines so far.
use Rattle.std.proofs.Common.{replicate}
use Rattle.tabled_painting.specs.Margin.{side_of, strip}
use Rattle.tabled_painting.specs.Pages.{PaintsWhole}
use Rattle.tabled_painting.proofs.margin_side.MarginSide.paint_strips.Given as goal

abbrev pub invariant-loop : goal.invariant-loop
invariant-loop g l = PaintsWhole g.O.Output.gains (replicate l.counter (strip (side_of l.self) l.long)) l.fn.painter l.painter
