-- The texts of a color that lends them.
use Rattle.tabled_border.specs.declared.ansi.ANSIStr.{ANSIStr}
use Rattle.tabled_border.specs.Texts.{Texts}

abbrev pub lent_texts : ANSIStr → Texts
lent_texts color = record { prefix = color.prefix.now; suffix = color.suffix.now }
