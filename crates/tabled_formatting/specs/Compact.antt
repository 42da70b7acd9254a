-- What alignments make of compact configurations.
use Rattle.tabled_compact.specs.declared.compact_config.CompactConfig.{CompactConfig}
use Rattle.tabled_compact.specs.declared.multiline_config.CompactMultilineConfig.{CompactMultilineConfig}
use Rattle.tabled_formatting.specs.declared.alignment.Alignment.{Alignment}

-- where cells have one line there is no alignment between the upper and the lower side
abbrev pub compact_aligned : Alignment → CompactConfig → CompactConfig
compact_aligned (Alignment.Horizontal alignment) old = record old { alignment_horizontal = alignment }
compact_aligned (Alignment.Vertical alignment) old = old

abbrev pub multiline_aligned : Alignment → CompactMultilineConfig → CompactMultilineConfig
multiline_aligned (Alignment.Horizontal alignment) old = record old { alignment_horizontal = alignment }
multiline_aligned (Alignment.Vertical alignment) old = record old { alignment_vertical = alignment }
