-- Where nothing that is written steers, nothing that a place shows does.
use Rattle.std.proofs.Common.{◌≡◌, ℕ, Bool, true, false, not, if◌then◌else◌, cond, Option, Some, None, unwrap_or, List, [], ◌∷◌, refl}
use Rattle.std.specs.Prelude.{filter, option_and_then}
use Rattle.std.specs.List.{list_all, last_or}
use Rattle.std.proofs.lemmas.Bool.{and_parts, not-true}
use Rattle.tabled_clean.specs.Steering.{steers}
use Rattle.tabled_places.specs.declared.place.Place.{Place}
use Rattle.tabled_places.specs.declared.site.Site.{Site}
use Rattle.tabled_places.specs.declared.event.Event.{Event}
use Rattle.tabled_places.specs.declared.event.Event.TheVariants.{Write as write, Erase as erase}
use Rattle.tabled_places.specs.declared.event.Written.{Written}
use Rattle.tabled_places.specs.declared.event.Written.TheVariants.{Sign as sign, Standing as standing}
use Rattle.tabled_places.specs.Event.{covers, left_by, replay}
use Rattle.tabled_places.specs.Value.{first_sign, sign_or, sites, inside, value}
use Rattle.tabled_configuration.specs.Configuration.{ConfigEvent, characters_of}
use Rattle.tabled_printing.specs.Picture.{character, look, edge_size}
use Rattle.tabled_claims.specs.Clean.{is_clean_write}
use Rattle.tabled_claims.proofs.CleanCharacters.{space_steers}

-- whether what is kept of a site, and what is shown, does not steer
keeps_clean : Option (Written ℕ) → Bool
keeps_clean None = true
keeps_clean (Some (sign x)) = not (steers x)
keeps_clean (Some standing) = true

shows_clean : Option ℕ → Bool
shows_clean None = true
shows_clean (Some x) = not (steers x)

left : (event : Event ℕ) → is_clean_write event ≡ true → keeps_clean (left_by event) ≡ true
unfolding keeps_clean
left (write site (sign x)) h = h
left (write site standing) h = refl
left (erase region) h = refl

last_clean : (q : Site) (last : Option (Event ℕ)) (events : List (Event ℕ)) → keeps_clean (option_and_then left_by last) ≡ true → list_all is_clean_write events ≡ true
    → keeps_clean (option_and_then left_by (last_or last (filter (covers q) events))) ≡ true
last_clean q last [] h all = h
last_clean q last (event ∷ events) h all =
    let parts = and_parts (is_clean_write event) (list_all is_clean_write events) all in
    by_cover (covers q event) (last_clean q (Some event) events (left event parts.0) parts.1) (last_clean q last events h parts.1)
  where
    by_cover : (b : Bool) → keeps_clean (option_and_then left_by (last_or (Some event) (filter (covers q) events))) ≡ true
        → keeps_clean (option_and_then left_by (last_or last (filter (covers q) events))) ≡ true
        → keeps_clean (option_and_then left_by (last_or last (cond b (event ∷ filter (covers q) events) (filter (covers q) events)))) ≡ true
    by_cover true taken other = taken
    by_cover false taken other = other

replayed : (events : List (Event ℕ)) → list_all is_clean_write events ≡ true → (q : Site) → keeps_clean (replay events q) ≡ true
unfolding replay keeps_clean
replayed events all q = last_clean q None events refl all

signed : (kept : Option (Written ℕ)) (other : Option ℕ) → keeps_clean kept ≡ true → shows_clean other ≡ true → shows_clean (sign_or kept other) ≡ true
unfolding keeps_clean shows_clean
signed None other h rest = rest
signed (Some (sign x)) other h rest = h
signed (Some standing) other h rest = rest

first_clean : (state : Site → Option (Written ℕ)) (qs : List Site) → ((q : Site) → keeps_clean (state q) ≡ true) → shows_clean (first_sign state qs) ≡ true
unfolding shows_clean
first_clean state [] each = refl
first_clean state (q ∷ qs) each = signed (state q) (first_sign state qs) (each q) (first_clean state qs each)

value_clean : (events : List (Event ℕ)) → list_all is_clean_write events ≡ true → (shape : ℕ × ℕ) (size : ℕ) (place : Place) → shows_clean (value (replay events) shape size place) ≡ true
unfolding value shows_clean
value_clean events all shape size place = by_place (inside shape size place) (first_clean (replay events) (sites shape size place) (replayed events all))
  where
    by_place : (b : Bool) → shows_clean (first_sign (replay events) (sites shape size place)) ≡ true → shows_clean (if b then first_sign (replay events) (sites shape size place) else None) ≡ true
    by_place true h = h
    by_place false h = refl

shown_or_space : (shown : Option ℕ) → shows_clean shown ≡ true → steers (unwrap_or shown 32) ≡ false
unfolding shows_clean
shown_or_space None h = space_steers
shown_or_space (Some x) h = not-true (steers x) h

pub borders_steer : (es : List ConfigEvent) (shape : ℕ × ℕ) (widths heights : ℕ → ℕ) → list_all is_clean_write (characters_of es) ≡ true
    → (place : Place) → steers (character ((look es shape widths heights).shown place)) ≡ false
borders_steer es shape widths heights all place =
    shown_or_space (value (replay (characters_of es)) shape (edge_size widths heights place) place) (value_clean (characters_of es) all shape (edge_size widths heights place) place)
