-- What the texts of a color are, static or owned.
use Rattle.tabled_color.specs.declared.color.Inner.{Inner}
use Rattle.tabled_color.specs.declared.color.Inner.TheVariants.{Static, Buf}
use Rattle.tabled_color.specs.Shade.{Shade, owned_shade, static_shade}

abbrev pub shade_of : Inner → Shade
shade_of (Static prefix suffix) = static_shade prefix.now suffix.now
shade_of (Buf texts) = owned_shade texts.prefix texts.suffix
