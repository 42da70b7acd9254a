-- What a text writes on the places that it takes.
use Rattle.std.proofs.Common.{◌≡◌, ℕ, ◌+◌, ◌<◌, true, false, cond, Option, Some, None, option_map, List, [], ◌∷◌, ◌++◌, length, get_or, map, take, refl, ap, sym, ◌∙◌, append-nil, arith, Result, Ok, Err, IfOk, option_and_then, filter, zip}
use Rattle.std.proofs.lemmas.List.{take_more, map-append, drop_all}
use Rattle.std.proofs.lemmas.List.Elements.{filter-append}
use Rattle.tabled_border.specs.Texts.{Texts}
use Rattle.tabled_places.specs.declared.event.Event.{Event}
use Rattle.tabled_places.specs.declared.place.Place.{Place}
use Rattle.tabled_places.specs.declared.place.LineOf.{LineOf}
use Rattle.tabled_object.specs.declared.offset.Offset.{Offset}
use Rattle.tabled_places.specs.declared.writes.Write.{Write}
use Rattle.tabled_places.specs.Writes.{writes_made}
use Rattle.tabled_places.proofs.EntityBorders.{writes_made-append, nothing_written}
use Rattle.tabled_printing.specs.Picture.{Look}
use Rattle.tabled_configuration.specs.Configuration.{writes_applied, by_characters, by_colors}
use Rattle.tabled_color.specs.Shade.{texts_of}
use Rattle.tabled_formatting.specs.declared.alignment.Alignment.{Alignment}
use Rattle.tabled_options.specs.TextStart.{limited, width_of, aligned_offset, moved_if_aligned, place_number, text_start}
use Rattle.tabled_options.specs.LineText.{Lettering, countable, places_along, laid, takes_character, character_written, color_written, characters_written, colors_written, places_taken, text_events}
use Rattle.tabled_printing.specs.LinePieces.{has_line}
use Rattle.tabled_printing.proofs.LineLemmas.{no_places}

-- what follows from what is returned
pub if_ok : {A E : Type 0} (P Q : A → Type 0) (r : Result A E) → ((x : A) → P x → Q x) → IfOk r P → IfOk r Q
if_ok P Q (Ok x) f h = f x h
if_ok P Q (Err e) f h = tt

-- one write more
pub one_written : {T : Type 0} (all ws : List (Write T)) (entry : Write T) (event : Event T) → all ≡ ws ++ entry ∷ [] → writes_made (entry ∷ []) ≡ event ∷ [] → writes_made all ≡ writes_made ws ++ event ∷ []
one_written all ws entry event pushed made = ap writes_made pushed ∙ writes_made-append ws (entry ∷ []) ∙ ap (λ es. writes_made ws ++ es) made

module _ (shown : Place → Option ℕ) where
  characters-append : (taken more : List (Place × ℕ)) → characters_written shown (taken ++ more) ≡ characters_written shown taken ++ characters_written shown more
  unfolding characters_written
  characters-append taken more =
      ap (map character_written) (filter-append (λ at. takes_character shown at.0) taken more)
      ∙ map-append character_written (filter (λ at. takes_character shown at.0) taken) (filter (λ at. takes_character shown at.0) more)

  pub no_characters : (ws : List (Write ℕ)) → ws ≡ [] → writes_made ws ≡ characters_written shown []
  unfolding characters_written
  no_characters ws none = nothing_written ws none

  -- the next place takes its character, or stays empty
  pub character_more : (taken : List (Place × ℕ)) (n : ℕ) (d : Place × ℕ) (ws all : List (Write ℕ)) → n < length taken → takes_character shown (get_or taken n d).0 ≡ true → writes_made all ≡ writes_made ws ++ character_written (get_or taken n d) ∷ []
      → writes_made ws ≡ characters_written shown (take n taken) → writes_made all ≡ characters_written shown (take (n + 1) taken)
  unfolding characters_written
  character_more taken n d ws all within takes more so_far =
      let at : Place × ℕ = get_or taken n d in
      more ∙ ap (λ es. es ++ character_written at ∷ []) so_far
      ∙ ap (λ es. characters_written shown (take n taken) ++ es) (sym (ap (λ b. map character_written (cond b (at ∷ []) [])) takes))
      ∙ sym (characters-append (take n taken) (at ∷ []))
      ∙ ap (characters_written shown) (sym (take_more taken n d within))

  pub character_none : (taken : List (Place × ℕ)) (n : ℕ) (d : Place × ℕ) (ws : List (Write ℕ)) → n < length taken → takes_character shown (get_or taken n d).0 ≡ false
      → writes_made ws ≡ characters_written shown (take n taken) → writes_made ws ≡ characters_written shown (take (n + 1) taken)
  unfolding characters_written
  character_none taken n d ws within stays so_far =
      let at : Place × ℕ = get_or taken n d in
      so_far ∙ sym (append-nil (characters_written shown (take n taken)))
      ∙ ap (λ es. characters_written shown (take n taken) ++ es) (sym (ap (λ b. map character_written (cond b (at ∷ []) [])) stays))
      ∙ sym (characters-append (take n taken) (at ∷ []))
      ∙ ap (characters_written shown) (sym (take_more taken n d within))

module _ (color : Texts) where
  pub no_colors : (ws : List (Write Texts)) → ws ≡ [] → writes_made ws ≡ colors_written (Some color) []
  unfolding colors_written
  no_colors ws none = nothing_written ws none

  -- the next place takes the color
  pub color_more : (taken : List (Place × ℕ)) (n : ℕ) (d : Place × ℕ) (ws all : List (Write Texts)) (copy : Texts) → n < length taken → copy ≡ color → writes_made all ≡ writes_made ws ++ color_written copy (get_or taken n d) ∷ []
      → writes_made ws ≡ colors_written (Some color) (take n taken) → writes_made all ≡ colors_written (Some color) (take (n + 1) taken)
  unfolding colors_written
  color_more taken n d ws all copy within same more so_far =
      more ∙ (λ i. so_far i ++ color_written (same i) (get_or taken n d) ∷ [])
      ∙ sym (map-append (color_written color) (take n taken) (get_or taken n d ∷ []))
      ∙ ap (map (color_written color)) (sym (take_more taken n d within))

pub uncolored : (ws : List (Write Texts)) (taken : List (Place × ℕ)) → ws ≡ [] → writes_made ws ≡ colors_written None taken
unfolding colors_written
uncolored ws taken none = nothing_written ws none

none_colored : (color : Option Texts) → colors_written color [] ≡ []
unfolding colors_written
none_colored None = refl
none_colored (Some color) = refl

nothing_laid : (found : Option ℕ) (letters : List ℕ) → laid found letters [] ≡ []
nothing_laid None letters = refl
nothing_laid (Some start) letters = ap (λ places. zip {X = ℕ} places letters) (drop_all start [] (omega arith))

module _ {L : Type 0} (text : Lettering L) (view : Look) where
  pub none_taken : (line : LineOf) (taken : List (Place × ℕ)) → taken ≡ [] → has_line view.shape line ≡ false → taken ≡ places_taken text view (Some line)
  unfolding places_taken places_along
  none_taken line taken none there =
      let letters : List ℕ = limited text.limit text.text in
      none ∙ sym (ap (λ places. laid (text_start line (length (countable places)) letters text.alignment text.offset) letters (countable places)) (no_places view line there)
      ∙ nothing_laid (text_start line 0 letters text.alignment text.offset) letters)

  -- what is laid from the start that was found is what the text takes
  pub laid_is_taken : (line : LineOf) (total width count : ℕ) (alignment : Option Alignment) (offset : Offset) (letters : List ℕ) (found : Option ℕ) → total ≡ length (places_along view line) → letters ≡ limited text.limit text.text
      → width ≡ width_of letters → count ≡ length letters → alignment ≡ text.alignment → offset ≡ text.offset
      → found ≡ place_number total (moved_if_aligned (option_and_then (aligned_offset line total width count) alignment) offset)
      → laid found letters (places_along view line) ≡ places_taken text view (Some line)
  unfolding places_taken text_start
  laid_is_taken line total width count alignment offset letters found counted limits wide many aligned moved is =
      let w : width ≡ width_of (limited text.limit text.text) = wide ∙ ap width_of limits in
      let n : count ≡ length (limited text.limit text.text) = many ∙ ap length limits in
      let start : found ≡ text_start line (length (places_along view line)) (limited text.limit text.text) text.alignment text.offset =
      is ∙ (λ i. place_number (counted i) (moved_if_aligned (option_and_then (aligned_offset line (counted i) (w i) (n i)) (aligned i)) (moved i))) in
      λ i. laid (start i) (limits i) (places_along view line)

  -- the lists that are written are the events of the text
  pub writes_are_events : (line : Option LineOf) (characters : List (Write ℕ)) (colors : List (Write Texts)) (taken : List (Place × ℕ)) (color : Option Texts) → writes_made characters ≡ characters_written view.shown taken → writes_made colors ≡ colors_written color taken
      → taken ≡ places_taken text view line → color ≡ option_map texts_of text.color → writes_applied characters colors ≡ text_events text view line
  unfolding writes_applied text_events
  writes_are_events line characters colors taken color of_characters of_colors is colored =
      (λ i. by_characters (of_characters i) ++ by_colors (of_colors i))
      ∙ (λ i. by_characters (characters_written view.shown (is i)) ++ by_colors (colors_written (colored i) (is i)))

  pub no_line : (characters : List (Write ℕ)) (colors : List (Write Texts)) → characters ≡ [] → colors ≡ [] → writes_applied characters colors ≡ text_events text view None
  unfolding places_taken
  no_line characters colors first second =
      writes_are_events None characters colors [] (option_map texts_of text.color) (no_characters view.shown characters first)
      (nothing_written colors second ∙ sym (none_colored (option_map texts_of text.color))) refl refl
