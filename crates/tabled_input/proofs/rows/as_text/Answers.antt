-- A text is one of UTF-8.
use Rattle.std.proofs.Common.{subst}
use Rattle.std.specs.Str.{IsUtf8}
use Rattle.std.proofs.lemmas.Str.{IsUtf8-string_bytes}
use Rattle.tabled_input.proofs.rows.as_text.Goals as goal

pub returns-in-Ok-clause-utf8 : goal.returns-in-Ok-clause-utf8
returns-in-Ok-clause-utf8 c = subst (λ bytes. IsUtf8 bytes.items) c.in-Ok.ensures.ok (IsUtf8-string_bytes c.in-Ok.text)
