-- Whether two entity maps are equal, where an equality of the values says which of those are.
use Rattle.std.specs.Prelude.{Bool, ◌&&◌}
use Rattle.std.specs.Option.{option_eq}
use Rattle.std.specs.Cmp.Lexicographic.{pointwise}
use Rattle.tabled_settings.specs.Setting.{EntityEvent, same_entity}
use Rattle.tabled_settings.specs.Live.{Live}

-- the same entity, and the same value written or both removed
abbrev pub same_event : {T : Type 0} → (T → T → Bool) → EntityEvent T → EntityEvent T → Bool
same_event same a b = same_entity a.0 b.0 && option_eq same a.1 b.1

-- the same default, the same value of all cells, and the same events since then in the same order
abbrev pub same_live : {T : Type 0} → (T → T → Bool) → Live T → Live T → Bool
same_live same a b = same a.default b.default && (same a.global b.global && pointwise (same_event same) a.since b.since)
