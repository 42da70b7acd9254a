-- What is written so far, and what stands for the rest.
use Rattle.std.proofs.Common.{◌≡◌, ◌++◌, ℕ, List, encode_utf8_all, string_bytes}
use Rattle.tabled_markdown.specs.Source.{source_after}
use Rattle.tabled_markdown.proofs.source.put_inner.Given as goal

abbrev pub invariant-loop-character : goal.invariant-loop-character
invariant-loop-character l =
    (more : List ℕ) → string_bytes l.written ++ source_after l.before (encode_utf8_all more) ≡ string_bytes l.initial.written ++ source_after 32 (encode_utf8_all (l.yielded ++ more))
