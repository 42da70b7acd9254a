-- The words so far, spread, and those that are left.
use Rattle.std.proofs.Common.{◌≡◌, ◌++◌, map, string_bytes, drop}
use Rattle.tabled_request.specs.declared.spread.Next.TheVariants.{Any}
use Rattle.tabled_request.specs.Words.{spread}
use Rattle.tabled_request.proofs.spread.spread_words.Given as goal

abbrev pub invariant-loop-word : goal.invariant-loop-word
invariant-loop-word l = map string_bytes l.all.items ++ spread l.next (drop l.word-index (map string_bytes l.words)) ≡ spread Any (map string_bytes l.words)
