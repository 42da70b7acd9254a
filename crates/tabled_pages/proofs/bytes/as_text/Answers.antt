-- Allowed bytes are a text.
use Rattle.std.proofs.Common.{sym, ◌∙◌}
use Rattle.tabled_pages.proofs.Allowed.{IsUtf8-allowed, read_as_text}
use Rattle.tabled_pages.proofs.bytes.as_text.Goals as goal

pub unwrap-requires : goal.unwrap-requires
unwrap-requires c = read_as_text _ _ c.from_utf8.result _ c.from_utf8.ensures.cases (IsUtf8-allowed c.args.input.now (sym c.are_allowed.ensures ∙ c.if-not-are_allowed.false))
