-- What a style leaves in a configuration that it is applied to.
use Rattle.std.proofs.Common.{◌≡◌, ℕ, false, ◌==◌, ◌||◌, None, List, [], ◌∷◌, ◌++◌, refl, sym, ap, ◌∙◌, append_assoc, option_and_then, option_map, reverse, flat_map, nat_cmp}
use Rattle.std.specs.Cmp.{nat_cmp_total, unsigned_tied}
use Rattle.std.specs.FinMap as map
use Rattle.std.proofs.lemmas.List.{append-nil, reverse-append}
use Rattle.tabled_places.specs.declared.place.LineOf.{LineOf}
use Rattle.tabled_object.specs.declared.offset.Offset.{Offset}
use Rattle.tabled_places.specs.declared.lines.HorizontalLine.{HorizontalLine}
use Rattle.tabled_places.specs.declared.lines.VerticalLine.{VerticalLine}
use Rattle.tabled_places.specs.declared.borders.Borders.{Borders}
use Rattle.tabled_places.specs.Keys.{spot_cmp, edge_place_cmp}
use Rattle.tabled_places.specs.declared.site.Direction.TheVariants.{Horizontal, Vertical}
use Rattle.tabled_places.specs.declared.site.Class.{Class}
use Rattle.tabled_places.specs.declared.site.Part.{Part}
use Rattle.tabled_places.specs.declared.site.Site.{Site}
use Rattle.tabled_places.specs.declared.site.Site.TheVariants.{Default as the_default, Class as of_class, Line as of_line, Cell as at_spot, Offset as at_offset}
use Rattle.tabled_places.specs.Site.{level, same_site, class_value}
use Rattle.tabled_places.specs.declared.event.Event.{Event}
use Rattle.tabled_places.specs.declared.event.Written.TheVariants.{Sign as sign}
use Rattle.tabled_places.specs.declared.event.Region.TheVariants.{Level as level_sites, Line as line_sites}
use Rattle.tabled_places.specs.Event.{within, covered, replay, Shows}
use Rattle.tabled_places.specs.Lines.{horizontal_line_set, vertical_line_set}
use Rattle.tabled_places.specs.State.{State, state_at, class_writes, classes, class_record_set, entry_events, edge_place, horizontal_part, vertical_part}
use Rattle.tabled_places.proofs.Replay.{replay_uncovered, replay_cleared}
use Rattle.tabled_places.proofs.Blocks.{replay_skip, replay_rest, uncovered_both, uncovered_entries, replay_entries}
use Rattle.tabled_places.proofs.ClassWrites.{replay_classes, uncovered_other}
use Rattle.tabled_places.proofs.LineWrites.{replay-horizontal_line_set, replay-vertical_line_set, covered-horizontal_line_set, covered-vertical_line_set, number_sym}
use Rattle.tabled_configuration.specs.Configuration.{horizontal_lines_put, vertical_lines_put}
use Rattle.tabled_style.specs.Shown.{StyleShown}
use Rattle.tabled_style.specs.Deciding.{written_by}
use Rattle.tabled_theme.specs.Lines.{last_under}

-- the store with a class record and custom lines, and with nothing else
abbrev pub left : Borders ℕ → map.FinMap nat_cmp (HorizontalLine ℕ) → map.FinMap nat_cmp (VerticalLine ℕ) → State ℕ
left borders horizontals verticals = record {
  default_value = None;
  class_record = borders;
  vertical_lines = verticals;
  horizontal_lines = horizontals;
  cells = map.empty;
  horizontal_offsets = map.empty;
  vertical_offsets = map.empty;
}

module _ {L : Type 0} (put : ℕ → L → List (Event ℕ)) where
  entries-append : (es fs : List (ℕ × L)) → entry_events put (es ++ fs) ≡ entry_events put fs ++ entry_events put es
  entries-append [] fs = sym (append-nil (entry_events put fs))
  entries-append (e ∷ es) fs =
      ap (λ events. events ++ put e.0 e.1) (entries-append es fs) ∙ append_assoc (entry_events put fs) (entry_events put es) (put e.0 e.1)

  -- a list in its order is its turned list, the first entry last
  in_order : (lines : List (ℕ × L)) → flat_map (λ line. put line.0 line.1) lines ≡ entry_events put (reverse lines)
  in_order [] = refl
  in_order (line ∷ lines) =
      ap (λ events. put line.0 line.1 ++ events) (in_order lines)
      ∙ sym (ap (entry_events put) (reverse-append (line ∷ []) lines) ∙ entries-append (reverse lines) (line ∷ []))

module _ (q : Site) where
  not_horizontal : (lines : List (ℕ × HorizontalLine ℕ)) → ((m : ℕ) → within (line_sites (LineOf.Horizontal m)) q ≡ false) → covered (horizontal_lines_put lines) q ≡ false
  unfolding horizontal_lines_put
  not_horizontal lines apart =
      ap (λ es. covered es q) (in_order horizontal_line_set lines)
      ∙ uncovered_entries q horizontal_line_set (λ m line. covered-horizontal_line_set m line q ∙ apart m) (reverse lines)

  not_vertical : (lines : List (ℕ × VerticalLine ℕ)) → ((m : ℕ) → within (line_sites (LineOf.Vertical m)) q ≡ false) → covered (vertical_lines_put lines) q ≡ false
  unfolding vertical_lines_put
  not_vertical lines apart =
      ap (λ es. covered es q) (in_order vertical_line_set lines)
      ∙ uncovered_entries q vertical_line_set (λ m line. covered-vertical_line_set m line q ∙ apart m) (reverse lines)

  not_class : (borders : Borders ℕ) → (level q == 1) ≡ false → ((d : Class) → same_site q (of_class d) ≡ false) → covered (class_record_set borders) q ≡ false
  unfolding class_record_set
  not_class borders apart other = ap (λ b. b || covered (class_writes borders classes) q) apart ∙ uncovered_other borders q other classes

at_horizontal : (lines : List (ℕ × HorizontalLine ℕ)) (n : ℕ) (p : Part) → replay (horizontal_lines_put lines) (of_line (LineOf.Horizontal n) p) ≡ option_and_then (horizontal_part p) (map.get (last_under lines) n)
unfolding horizontal_lines_put
at_horizontal lines n p =
    ap (λ es. replay es (of_line (LineOf.Horizontal n) p)) (in_order horizontal_line_set lines)
    ∙ replay_entries (of_line (LineOf.Horizontal n) p) map.nat_cmp-IsAntisymmetric horizontal_line_set n (horizontal_part p)
    (λ m line. covered-horizontal_line_set m line (of_line (LineOf.Horizontal n) p) ∙ number_sym m n ∙ sym (unsigned_tied n m))
    (λ line. replay-horizontal_line_set n line p) (reverse lines)
    ∙ ap (option_and_then (horizontal_part p)) (sym (map.get-from_entries nat_cmp_total (reverse lines) n))

at_vertical : (lines : List (ℕ × VerticalLine ℕ)) (n : ℕ) (p : Part) → replay (vertical_lines_put lines) (of_line (LineOf.Vertical n) p) ≡ option_and_then (vertical_part p) (map.get (last_under lines) n)
unfolding vertical_lines_put
at_vertical lines n p =
    ap (λ es. replay es (of_line (LineOf.Vertical n) p)) (in_order vertical_line_set lines)
    ∙ replay_entries (of_line (LineOf.Vertical n) p) map.nat_cmp-IsAntisymmetric vertical_line_set n (vertical_part p)
    (λ m line. covered-vertical_line_set m line (of_line (LineOf.Vertical n) p) ∙ number_sym m n ∙ sym (unsigned_tied n m))
    (λ line. replay-vertical_line_set n line p) (reverse lines)
    ∙ ap (option_and_then (vertical_part p)) (sym (map.get-from_entries nat_cmp_total (reverse lines) n))

pub at_class : {T : Type 0} (borders : Borders T) (c : Class) → replay (class_record_set borders) (of_class c) ≡ option_map sign (class_value c borders)
unfolding class_record_set
at_class borders c = replay_cleared (level_sites 1) (class_writes borders classes) (of_class c) ∙ replay_classes borders c

nowhere : (style : StyleShown) (q : Site) → ((m : ℕ) → within (line_sites (LineOf.Horizontal m)) q ≡ false) → ((m : ℕ) → within (line_sites (LineOf.Vertical m)) q ≡ false) → (level q == 1) ≡ false → ((d : Class) → same_site q (of_class d) ≡ false) → replay (written_by style) q ≡ None
unfolding written_by
nowhere style q horizontal vertical apart other =
    replay_uncovered q (written_by style)
    (uncovered_both q (horizontal_lines_put style.horizontals ++ vertical_lines_put style.verticals) (class_record_set style.borders)
    (uncovered_both q (horizontal_lines_put style.horizontals) (vertical_lines_put style.verticals) (not_horizontal q style.horizontals horizontal) (not_vertical q style.verticals vertical))
    (not_class q style.borders apart other))

-- its class record, and under each index the last line of its list
pub style_leaves : (style : StyleShown) → Shows (written_by style) (state_at (left style.borders (last_under style.horizontals) (last_under style.verticals)))
unfolding Shows written_by
style_leaves style the_default = sym (nowhere style the_default (λ m. refl) (λ m. refl) refl (λ d. refl))
style_leaves style (of_class c) =
    let q : Site = of_class c in
    sym (replay_skip q (horizontal_lines_put style.horizontals ++ vertical_lines_put style.verticals) (class_record_set style.borders)
    (uncovered_both q (horizontal_lines_put style.horizontals) (vertical_lines_put style.verticals) (not_horizontal q style.horizontals (λ m. refl)) (not_vertical q style.verticals (λ m. refl)))
    ∙ at_class style.borders c)
style_leaves style (of_line (LineOf.Horizontal n) p) =
    let q : Site = of_line (LineOf.Horizontal n) p in
    sym (replay_rest q (horizontal_lines_put style.horizontals ++ vertical_lines_put style.verticals) (class_record_set style.borders) (not_class q style.borders refl (λ d. refl))
    ∙ replay_rest q (horizontal_lines_put style.horizontals) (vertical_lines_put style.verticals) (not_vertical q style.verticals (λ m. refl))
    ∙ at_horizontal style.horizontals n p)
style_leaves style (of_line (LineOf.Vertical n) p) =
    let q : Site = of_line (LineOf.Vertical n) p in
    sym (replay_rest q (horizontal_lines_put style.horizontals ++ vertical_lines_put style.verticals) (class_record_set style.borders) (not_class q style.borders refl (λ d. refl))
    ∙ replay_skip q (horizontal_lines_put style.horizontals) (vertical_lines_put style.verticals) (not_horizontal q style.horizontals (λ m. refl))
    ∙ at_vertical style.verticals n p)
style_leaves style (at_spot spot) = ap (option_map sign) (map.get-empty spot_cmp spot) ∙ sym (nowhere style (at_spot spot) (λ m. refl) (λ m. refl) refl (λ d. refl))
style_leaves style (at_offset Horizontal r c (Offset.End k)) = ap (option_map sign) (map.get-empty edge_place_cmp (edge_place r c (Offset.End k))) ∙ sym (nowhere style (at_offset Horizontal r c (Offset.End k)) (λ m. refl) (λ m. refl) refl (λ d. refl))
style_leaves style (at_offset Horizontal r c (Offset.Start k)) = ap (option_map sign) (map.get-empty edge_place_cmp (edge_place r c (Offset.Start k))) ∙ sym (nowhere style (at_offset Horizontal r c (Offset.Start k)) (λ m. refl) (λ m. refl) refl (λ d. refl))
style_leaves style (at_offset Vertical r c (Offset.End k)) = ap (option_map sign) (map.get-empty edge_place_cmp (edge_place r c (Offset.End k))) ∙ sym (nowhere style (at_offset Vertical r c (Offset.End k)) (λ m. refl) (λ m. refl) refl (λ d. refl))
style_leaves style (at_offset Vertical r c (Offset.Start k)) = ap (option_map sign) (map.get-empty edge_place_cmp (edge_place r c (Offset.Start k))) ∙ sym (nowhere style (at_offset Vertical r c (Offset.Start k)) (λ m. refl) (λ m. refl) refl (λ d. refl))
