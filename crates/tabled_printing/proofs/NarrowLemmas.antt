-- Where all that is written is narrow, so is what each place shows.
use Rattle.std.proofs.Common.{◌≡◌, ℕ, Bool, true, Option, Some, None, unwrap_or, List, [], ◌∷◌, refl}
use Rattle.std.specs.Prelude.{filter, option_and_then}
use Rattle.std.specs.List.{list_all, last_or}
use Rattle.std.proofs.lemmas.Bool.{and_parts, cond_both}
use Rattle.tabled_places.specs.declared.place.Place.{Place}
use Rattle.tabled_places.specs.declared.site.Site.{Site}
use Rattle.tabled_places.specs.declared.event.Event.{Event}
use Rattle.tabled_places.specs.declared.event.Event.TheVariants.{Write as write, Erase as erase}
use Rattle.tabled_places.specs.declared.event.Written.{Written}
use Rattle.tabled_places.specs.declared.event.Written.TheVariants.{Sign as sign, Standing as standing}
use Rattle.tabled_places.specs.Event.{covers, left_by}
use Rattle.tabled_places.specs.Value.{first_sign, sign_or, sites, inside, value}
use Rattle.tabled_places.specs.Event.{replay}
use Rattle.tabled_configuration.specs.Configuration.{ConfigEvent, characters_of}
use Rattle.tabled_printing.specs.Picture.{look, edge_size}
use Rattle.tabled_width.specs.Narrow.{is_narrow}
use Rattle.tabled_printing.specs.Columns.{is_narrow_write, HasNarrowBorders}

-- whether what is kept, and what is shown, passes
abbrev kept_passes : Option (Written ℕ) → Bool
kept_passes None = true
kept_passes (Some (sign x)) = is_narrow x
kept_passes (Some standing) = true

abbrev shown_passes : Option ℕ → Bool
shown_passes None = true
shown_passes (Some x) = is_narrow x

left : (event : Event ℕ) → is_narrow_write event ≡ true → kept_passes (left_by event) ≡ true
left (write site (sign x)) h = h
left (write site standing) h = refl
left (erase region) h = refl

last_passes : (q : Site) (last : Option (Event ℕ)) (events : List (Event ℕ)) → kept_passes (option_and_then left_by last) ≡ true → list_all (is_narrow_write) events ≡ true
    → kept_passes (option_and_then left_by (last_or last (filter (covers q) events))) ≡ true
last_passes q last [] h all = h
last_passes q last (event ∷ events) h all =
    let parts = and_parts (is_narrow_write event) (list_all (is_narrow_write) events) all in
    cond_both (covers q event) (event ∷ filter (covers q) events) (filter (covers q) events) (λ es. kept_passes (option_and_then left_by (last_or last es)) ≡ true)
    (λ _. last_passes q (Some event) events (left event parts.0) parts.1) (λ _. last_passes q last events h parts.1)

replayed : (events : List (Event ℕ)) → list_all (is_narrow_write) events ≡ true → (q : Site) → kept_passes (replay events q) ≡ true
unfolding replay
replayed events all q = last_passes q None events refl all

signed : (kept : Option (Written ℕ)) (other : Option ℕ) → kept_passes kept ≡ true → shown_passes other ≡ true → shown_passes (sign_or kept other) ≡ true
signed None other h rest = rest
signed (Some (sign x)) other h rest = h
signed (Some standing) other h rest = rest

first_passes : (state : Site → Option (Written ℕ)) (qs : List Site) → ((q : Site) → kept_passes (state q) ≡ true) → shown_passes (first_sign state qs) ≡ true
first_passes state [] each = refl
first_passes state (q ∷ qs) each = signed (state q) (first_sign state qs) (each q) (first_passes state qs each)

value_passes : (events : List (Event ℕ)) → list_all (is_narrow_write) events ≡ true → (shape : ℕ × ℕ) (size : ℕ) (place : Place) → shown_passes (value (replay events) shape size place) ≡ true
unfolding value
value_passes events all shape size place =
    let shown : Option ℕ = first_sign (replay events) (sites shape size place) in
    cond_both (inside shape size place) shown None (λ found. shown_passes found ≡ true) (λ _. first_passes (replay events) (sites shape size place) (replayed events all)) (λ _. refl)

space_or : (shown : Option ℕ) → is_narrow 32 ≡ true → shown_passes shown ≡ true → is_narrow (unwrap_or shown 32) ≡ true
space_or None space h = space
space_or (Some x) space h = h

pub borders_narrow : (es : List ConfigEvent) (shape : ℕ × ℕ) (widths heights : ℕ → ℕ) → list_all is_narrow_write (characters_of es) ≡ true → HasNarrowBorders (look es shape widths heights)
borders_narrow es shape widths heights all place =
    let size : ℕ = edge_size widths heights place in
    space_or (value (replay (characters_of es)) shape size place) refl (value_passes (characters_of es) all shape size place)
