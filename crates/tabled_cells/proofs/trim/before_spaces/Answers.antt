-- What is left does not end with a space.
use Rattle.std.proofs.Common.{None, reverse, ap, sym, ◌∙◌, lit<}
use Rattle.std.proofs.lemmas.List.{reverse-reverse}
use Rattle.std.proofs.lemmas.Str.Pattern.{strip_suffix_char}
use Rattle.tabled_cells.proofs.Trimming.{no_space_last}
use Rattle.tabled_cells.proofs.trim.before_spaces.Goals as goal

pub returns : goal.returns
returns c =
    sym (reverse-reverse c.loop-less.rest.now)
    ∙ ap reverse (sym (no_space_last c.loop-less.rest.now (strip_suffix_char 32 c.loop-less.rest.now None c.in_default.ensures.cases (lit< tt))) ∙ c.loop-less.invariant.shown)
