-- The characters of the cleaned text.
use Rattle.std.proofs.Common.{ap, ◌∙◌, chars, string_bytes}
use Rattle.std.proofs.lemmas.Str.{IsUtf8-string_bytes}
use Rattle.tabled_clean.specs.Line.{cleaned_line, on_one_line}
use Rattle.tabled_clean.proofs.LineLemmas.{characters_of_line}
use Rattle.tabled_options.specs.LineText.{Lettering}
use Rattle.tabled_options.proofs.line_text.LineText.clean.Goals as goal

pub returns : goal.returns
returns g c =
    let letters = ap chars c.in_ok-text.ensures ∙ ap (λ bytes. chars (cleaned_line bytes)) c.as_str.ensures.value ∙ characters_of_line (string_bytes c.self.inside.text) (IsUtf8-string_bytes c.self.inside.text) in
    ap (λ text. record { text = text; line = c.self.inside.line; alignment = c.self.inside.alignment; offset = c.self.inside.offset; color = c.self.inside.color; limit = c.self.inside.limit }) letters
    ∙ ap (λ (given : Lettering _). record given { text = on_one_line given.text }) c.self.view_is
