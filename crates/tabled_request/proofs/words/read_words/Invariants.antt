-- What the words so far and those that are left ask for together.
use Rattle.std.proofs.Common.{◌≡◌, map, string_bytes, drop}
use Rattle.tabled_request.specs.Words.{request_of, words_read}
use Rattle.tabled_request.proofs.words.read_words.Given as goal

abbrev pub invariant-loop-n : goal.invariant-loop-n
invariant-loop-n l = words_read l.next l.reading l.n (drop l.n (map string_bytes l.words)) ≡ request_of (map string_bytes l.words)
