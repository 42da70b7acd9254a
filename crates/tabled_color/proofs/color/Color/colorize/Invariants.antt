use denote.Text.{Utf8}
use denote.Shadow.{shadow}
use Rattle.std.proofs.Common.{◌≡◌}
use Rattle.std.specs.String.{string_bytes}
use Rattle.tabled_color.proofs.Lines.{painted_so_far, feed}
use Rattle.tabled_color.proofs.color.Color.colorize.Given as goal

-- the separator is text; the lines so far are painted; and a line feed stands before the next line, if it is not the first
abbrev pub invariant-loop-line : goal.invariant-loop-line
invariant-loop-line l = shadow (Utf8 l.separator) × (string_bytes l.colored ≡ painted_so_far l.self l.yielded) × (l.separator ≡ feed l.yielded)
