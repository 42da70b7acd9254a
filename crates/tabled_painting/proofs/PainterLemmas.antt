-- Painted lines as texts in color, part by part.
use Rattle.std.proofs.Common.{◌≡◌, eq-eqb, ℕ, ◌-◌, Bool, true, false, ◌==◌, ◌&&◌, if◌then◌else◌, Option, Some, None, List, [], ◌∷◌, ◌++◌, refl, sym, ap, ◌∙◌, option_copied, zero, suc, ◌+◌, ◌≤◌, length, subst, arith, replicate, max, Result, Ok, Err, OnOk}
use Rattle.std.specs.Cmp.Lexicographic.{pointwise}
use Rattle.std.proofs.lemmas.List.{append-nil, append_assoc, length-replicate}
use Rattle.std.proofs.lemmas.Str.{length-le-encodes}
use Rattle.tabled_cells.specs.Placed.{free_before, times}
use Rattle.tabled_settings.specs.declared.alignment.AlignmentHorizontal.{AlignmentHorizontal}
use Rattle.tabled_width.proofs.TimesLemmas.{times_both, times_spaces}
use Rattle.tabled_cells.proofs.Fits.{before_fits}
use Rattle.tabled_painting.specs.BareCells.{bare_text}
use Rattle.tabled_border.specs.Texts.{Texts}
use Rattle.std.specs.List.{flat_map}
use Rattle.tabled_object.specs.Entities.{below}
use Rattle.tabled_configuration.proofs.Below.{flat_map_below}
pub use Rattle.tabled_painting.specs.Put.{paints_none, paints_both}
use Rattle.tabled_painting.specs.Put.{colored_both, if_both, last_both}
use Rattle.tabled_painting.specs.Pages.{BeginsLine, PaintsWhole, line_text}
use Rattle.tabled_painting.specs.declared.painter.Painter.{Painter}
use Rattle.tabled_painting.specs.Painted.{Painted, paint, plain, colored_if}
use Rattle.tabled_painting.specs.InColor.{same_color, prefix_of, suffix_of, between, colored, feed_if, last_color, color_if, Paints}

-- ---- colors

same_number : (n : ℕ) → (n == n) ≡ true
same_number n = eq-eqb n n refl

same_bytes : (bs : List ℕ) → pointwise ◌==◌ bs bs ≡ true
same_bytes [] = refl
same_bytes (b ∷ bs) = ap (λ t. t && pointwise ◌==◌ bs bs) (same_number b) ∙ same_bytes bs

pub same_self : (color : Option Texts) → same_color color color ≡ true
same_self None = refl
same_self (Some a) = ap (λ t. t && pointwise ◌==◌ a.suffix a.suffix) (same_bytes a.prefix) ∙ same_bytes a.suffix

pub between_self : (color : Option Texts) → between color color ≡ []
unfolding between
between_self color = ap (λ b. if b then [] else suffix_of color ++ prefix_of color) (same_self color)

-- ---- a text in one color

pub plain_paint : (color : Option Texts) (text : List ℕ) → plain (paint color text) ≡ text
plain_paint color [] = refl
plain_paint color (b ∷ bs) = ap (λ rest. b ∷ rest) (plain_paint color bs)

pub if_paint : (wanted : Bool) (color : Option Texts) (text : List ℕ) → colored_if wanted (paint color text) ≡ paint (color_if wanted color) text
if_paint true color text = refl
if_paint false color text = ap (paint None) (plain_paint color text)

pub goes_on : (color : Option Texts) (text : List ℕ) → colored color (paint color text) ≡ text
goes_on color [] = refl
goes_on color (b ∷ bs) = ap (λ front. front ++ b ∷ colored color (paint color bs)) (between_self color) ∙ ap (λ rest. b ∷ rest) (goes_on color bs)

pub stays : (color : Option Texts) (text : List ℕ) → last_color color (paint color text) ≡ color
stays color [] = refl
stays color (b ∷ bs) = stays color bs

-- a text that is not empty is painted after its color was begun
text_begun : (color next : Option Texts) (byte : ℕ) (bytes : List ℕ) → colored color (paint next (byte ∷ bytes)) ≡ between color next ++ byte ∷ bytes
text_begun color next byte bytes = ap (λ rest. between color next ++ byte ∷ rest) (goes_on next bytes)

-- a color that ends where none follows
pub between_none : (color : Option Texts) → between color None ≡ suffix_of color
unfolding between
between_none None = refl
between_none (Some color) = append-nil color.suffix

-- no color, wanted or not
pub none_if : (wanted : Bool) → None ≡ color_if wanted None
none_if true = refl
none_if false = refl

module _ {O : Type 0} (gains : List ℕ → O → O → Type 0) where
  -- a text is painted after what has its color
  pub paints_on : (color : Option Texts) (bytes : List ℕ) (old new : Painter O) → option_copied old.color ≡ color_if old.with_colors color → gains bytes old.out new.out
      → new.color ≡ old.color → new.with_colors ≡ old.with_colors → new.has_begun ≡ old.has_begun → Paints gains (paint color bytes) old new
  paints_on color bytes old new is wrote kept still begun =
      let next = color_if old.with_colors color in
      let line : colored_if old.with_colors (paint color bytes) ≡ paint next bytes = if_paint old.with_colors color bytes in
      record {
        text = subst (λ bs. gains bs old.out new.out) (sym (goes_on next bytes) ∙ (λ i. colored (sym is i) (sym line i))) wrote;
        color = ap option_copied kept ∙ is ∙ sym (stays next bytes) ∙ (λ i. last_color (sym is i) (sym line i));
        same_colors = still;
        same_begun = begun;
      }

  -- another line that is the same
  pub paints_same : (line other : Painted) (old new : Painter O) → line ≡ other → Paints gains line old new → Paints gains other old new
  paints_same line other old new same p = subst (λ l. Paints gains l old new) same p

  -- a part that shows what another one shows is that one, whatever follows
  pub paints_as : (line other more : Painted) (old new : Painter O) → colored_if old.with_colors line ≡ colored_if old.with_colors other → Paints gains (line ++ more) old new → Paints gains (other ++ more) old new
  paints_as line other more old new alike p =
      let wanted = old.with_colors in
      let same : colored_if wanted (line ++ more) ≡ colored_if wanted (other ++ more) =
      if_both wanted line more ∙ ap (λ first. first ++ colored_if wanted more) alike ∙ sym (if_both wanted other more) in
      record {
        text = subst (λ l. gains (colored (option_copied old.color) l) old.out new.out) same p.text;
        color = p.color ∙ ap (last_color (option_copied old.color)) same;
        same_colors = p.same_colors;
        same_begun = p.same_begun;
      }

  module _ (both : (xs ys : List ℕ) (old between new : O) → gains xs old between → gains ys between new → gains (xs ++ ys) old new) where
    -- a text that is not empty is painted after its color was begun
    pub paints_begun : (color : Option Texts) (bytes : List ℕ) (old begun new : Painter O) → (bytes ≡ [] → ⊥)
        → gains (between (option_copied old.color) (color_if old.with_colors color)) old.out begun.out
        → option_copied begun.color ≡ color_if old.with_colors color → begun.with_colors ≡ old.with_colors → begun.has_begun ≡ old.has_begun
        → gains bytes begun.out new.out → new.color ≡ begun.color → new.with_colors ≡ begun.with_colors → new.has_begun ≡ begun.has_begun
        → Paints gains (paint color bytes) old new
    paints_begun color [] old begun new some began is same same_line wrote kept still still_line = absurd (some refl)
    paints_begun color (byte ∷ bytes) old begun new some began is same same_line wrote kept still still_line =
        let next = color_if old.with_colors color in
        let line : colored_if old.with_colors (paint color (byte ∷ bytes)) ≡ paint next (byte ∷ bytes) = if_paint old.with_colors color (byte ∷ bytes) in
        record {
          text =
              subst (λ bs. gains bs old.out new.out) (sym (text_begun (option_copied old.color) next byte bytes) ∙ ap (colored (option_copied old.color)) (sym line))
              (both (between (option_copied old.color) next) (byte ∷ bytes) old.out begun.out new.out began wrote);
          color = ap option_copied kept ∙ is ∙ sym (stays next bytes) ∙ ap (last_color (option_copied old.color)) (sym line);
          same_colors = still ∙ same;
          same_begun = still_line ∙ same_line;
        }

    -- one more part
    pub parts_more : (part : ℕ → Painted) (n : ℕ) (old middle new : Painter O) → Paints gains (flat_map part (below n)) old middle → Paints gains (part n) middle new
        → Paints gains (flat_map part (below (n + 1))) old new
    parts_more part n old middle new p q =
        subst (λ line. Paints gains line old new) (sym (flat_map_below part n)) (paints_both gains both (flat_map part (below n)) (part n) old middle new p q)

    -- a line that was begun, and a part of it more
    pub begins_more : (line more : Painted) (old middle new : Painter O) → BeginsLine gains line old middle → Paints gains more middle new → BeginsLine gains (line ++ more) old new
    begins_more line more old middle new p q =
        let first = colored_if old.with_colors line in
        let rest = colored_if old.with_colors more in
        let whole : colored_if old.with_colors (line ++ more) ≡ first ++ rest = if_both old.with_colors line more in
        record {
          text =
              subst (λ bs. gains bs old.out new.out)
              (append_assoc (feed_if old.has_begun) (colored None first) (colored (last_color None first) rest)
              ∙ ap (λ bs. feed_if old.has_begun ++ bs) (sym (colored_both None first rest) ∙ ap (colored None) (sym whole)))
              (both (feed_if old.has_begun ++ colored None first) (colored (last_color None first) rest) old.out middle.out new.out p.text
              (subst (λ bs. gains bs middle.out new.out) (λ i. colored (p.color i) (colored_if (p.same_colors i) more)) q.text));
          color = q.color ∙ (λ i. last_color (p.color i) (colored_if (p.same_colors i) more)) ∙ sym (last_both None first rest) ∙ ap (last_color None) (sym whole);
          begun = q.same_begun ∙ p.begun;
          same_colors = q.same_colors ∙ p.same_colors;
        }

    -- a line that was begun, and its first part
    pub begins_all : (line : Painted) (old middle new : Painter O) → option_copied old.color ≡ None → gains (feed_if old.has_begun) old.out middle.out → middle.has_begun ≡ true → middle.color ≡ old.color
        → middle.with_colors ≡ old.with_colors → Paints gains line middle new → BeginsLine gains line old new
    begins_all line old middle new ended fed begun color colors p =
        let none : option_copied middle.color ≡ None = ap option_copied color ∙ ended in
        record {
          text =
              both (feed_if old.has_begun) (colored None (colored_if old.with_colors line)) old.out middle.out new.out fed
              (subst (λ bs. gains bs middle.out new.out) (λ i. colored (none i) (colored_if (colors i) line)) p.text);
          color = p.color ∙ (λ i. last_color (none i) (colored_if (colors i) line));
          begun = p.same_begun ∙ begun;
          same_colors = p.same_colors ∙ colors;
        }

    -- a line that was begun is written whole when its color has ended
    pub line_whole : (line : Painted) (old middle new : Painter O) → BeginsLine gains line old middle → gains (suffix_of (option_copied middle.color)) middle.out new.out → option_copied new.color ≡ None
        → new.with_colors ≡ middle.with_colors → new.has_begun ≡ middle.has_begun → PaintsWhole gains (line ∷ []) old new
    line_whole line old middle new p wrote ended colors begun =
        let shown = colored_if old.with_colors line in
        record {
          text =
              subst (λ bs. gains bs old.out new.out)
              (append_assoc (feed_if old.has_begun) (colored None shown) (suffix_of (last_color None shown)) ∙ sym (append-nil (feed_if old.has_begun ++ line_text old.with_colors line)))
              (both (feed_if old.has_begun ++ colored None shown) (suffix_of (last_color None shown)) old.out middle.out new.out p.text
              (subst (λ color. gains (suffix_of color) middle.out new.out) p.color wrote));
          begun = begun ∙ p.begun;
          ended = ended;
          same_colors = colors ∙ p.same_colors;
        }

-- a text that is said not to be empty
pub some_bytes : (bytes : List ℕ) (empty : Bool) → empty ≡ false → empty ≡ (length bytes == 0) → bytes ≡ [] → ⊥
some_bytes bytes empty not_empty is none = let yes : empty ≡ true = is ∙ ap (λ bs. length bs == 0) none in absurd cc

-- no character, no bytes, and the given number of one are some
pub some_times : (count character : ℕ) → (count ≡ 0 → ⊥) → times count character ≡ [] → ⊥
some_times zero character some none = some refl
some_times (suc count) character some none =
    let long : suc count ≤ 0 = subst (λ bs. suc count ≤ length bs) none (subst (λ n. n ≤ length (times (suc count) character)) (length-replicate (suc count) character) (length-le-encodes (replicate (suc count) character))) in
    omega arith

-- and so are a text of a bare cell and the spaces around it
pub some_bare : (side : AlignmentHorizontal) (width : ℕ) (text : List ℕ) → bare_text side width text ≡ [] → ⊥
some_bare side width text none =
    let free : ℕ = width - 2 - length text in
    let before : ℕ = free_before side free in
    let last : List ℕ = times (free - before + 1) 32 in
    let more : suc before ≡ 1 + before = omega arith in
    let first : 32 ∷ ((replicate before 32 ++ text) ++ last) ≡ [] = sym (ap (λ bs. bs ++ text ++ last) (times_spaces (suc before))) ∙ ap (λ n. times n 32 ++ text ++ last) more ∙ none in
    cc

-- where there is no text, all are spaces
pub bare_spaces : (side : AlignmentHorizontal) (width : ℕ) (text : List ℕ) → text ≡ [] → times (max width 2) 32 ≡ bare_text side width text
bare_spaces side width text none =
    let free : ℕ = width - 2 - 0 in
    let before : ℕ = free_before side free in
    let fits = before_fits side free in
    let all : max width 2 ≡ (1 + before) + (free - before + 1) = omega (arith, fits) in
    ap (λ n. times n 32) all ∙ times_both (1 + before) (free - before + 1) 32
    ∙ ap (λ bs. bs ++ times (free - before + 1) 32) (sym (append-nil (times (1 + before) 32)))
    ∙ ap (bare_text side width) (sym none)

-- what follows where a call has succeeded
pub on_done : {T E P Q : Type 0} (r : Result T E) → OnOk r P → (P → Q) → OnOk r Q
on_done (Ok x) p so = so p
on_done (Err e) p so = tt

pub ruleset painting = (paints_none, paints_both)
