-- Events: what is written and erased, in order, and what a list of them leaves.
use Rattle.std.specs.Prelude.{◌≡◌, Bool, true, false, ◌==◌, if◌then◌else◌, Option, Some, None, List, filter, option_and_then}
use Rattle.std.specs.List.{list_any, last_or}
use Rattle.tabled_places.specs.Site.{Site, level, same_direction, same_line, same_site, of_line, at_offset}
-- what is written at a site: a character or a color, or the bare mark that a custom line stands
pub use Rattle.tabled_places.specs.declared.event.Written.{Written}
pub use Rattle.tabled_places.specs.declared.event.Written.TheVariants.{Sign as sign, Standing as standing}
-- the sites that an erasure clears: all, those of one level, both kinds of offsets on the edges of one direction, those
-- of one custom line, or one
pub use Rattle.tabled_places.specs.declared.event.Region.{Region}
pub use Rattle.tabled_places.specs.declared.event.Region.TheVariants.{All as every_site, Level as level_sites, Offsets as offset_sites, Line as line_sites, One as one_site}
-- something is written at a site, or a region is cleared
pub use Rattle.tabled_places.specs.declared.event.Event.{Event}
pub use Rattle.tabled_places.specs.declared.event.Event.TheVariants.{Write as write, Erase as erase}

-- whether a region has a site
abbrev pub within : Region → Site → Bool
within every_site q = true
within (level_sites n) q = level q == n
within (offset_sites d) (at_offset e r c offset) = same_direction d e
within (offset_sites d) _ = false
within (line_sites l) (of_line m p) = same_line l m
within (line_sites l) _ = false
within (one_site p) q = same_site q p

-- whether the event decides what the site has
abbrev pub covers : {T : Type 0} → Site → Event T → Bool
covers q (write p w) = same_site q p
covers q (erase region) = within region q

-- whether some event of the list covers the site
abbrev pub covered : {T : Type 0} → List (Event T) → Site → Bool
covered es q = list_any (covers q) es

-- what the event leaves at the sites that it covers
abbrev pub left_by : {T : Type 0} → Event T → Option (Written T)
left_by (write p w) = Some w
left_by (erase region) = None

-- what a list of events leaves at a site: of those that cover it the last one counts
unfoldable pub replay : {T : Type 0} → List (Event T) → Site → Option (Written T)
replay es q = option_and_then left_by (last_or None (filter (covers q) es))

-- the state is what the events leave, at every site
unfoldable pub Shows : {T : Type 0} → List (Event T) → (Site → Option (Written T)) → Type 0
Shows es state = (q : Site) → state q ≡ replay es q

-- at each site the new state has what the events leave where one covers it, and else what the old one had
unfoldable pub Changes : {T : Type 0} → List (Event T) → (Site → Option (Written T)) → (Site → Option (Written T)) → Type 0
Changes es old new = (q : Site) → new q ≡ (if covered es q then replay es q else old q)
