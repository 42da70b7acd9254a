-- No two ready styles have the same name.
use Rattle.std.proofs.Common.{◌≡◌, refl, Some}
use Rattle.tabled_style.specs.declared.ready_style.ReadyStyle.TheVariants as ready
use Rattle.tabled_style.specs.declared.ready_style.ReadyStyle.{ReadyStyle}
use Rattle.tabled_style.specs.Named.{name_of, style_named}

pub named_again : (style : ReadyStyle) → style_named (name_of style) ≡ Some style
unfolding style_named name_of
named_again ready.Empty = refl
named_again ready.Blank = refl
named_again ready.Ascii = refl
named_again ready.Psql = refl
named_again ready.Markdown = refl
named_again ready.Modern = refl
named_again ready.Sharp = refl
named_again ready.Rounded = refl
named_again ready.ModernRounded = refl
named_again ready.Extended = refl
named_again ready.Dots = refl
named_again ready.ReStructuredText = refl
named_again ready.AsciiRounded = refl
