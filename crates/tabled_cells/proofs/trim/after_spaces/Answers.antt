-- What is left does not begin with a space.
use Rattle.std.proofs.Common.{None, sym, ◌∙◌, lit<}
use Rattle.std.proofs.lemmas.Str.Pattern.{strip_prefix_char}
use Rattle.tabled_cells.proofs.Trimming.{no_space_first}
use Rattle.tabled_cells.proofs.trim.after_spaces.Goals as goal

pub returns : goal.returns
returns c = sym (no_space_first c.loop-more.rest.now (strip_prefix_char 32 c.loop-more.rest.now None c.in_default.ensures.cases (lit< tt))) ∙ c.loop-more.invariant.shown
