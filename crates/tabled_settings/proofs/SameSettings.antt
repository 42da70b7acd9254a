-- Settings that are equal are one.
use Rattle.std.proofs.Common.{◌≡◌, ◌==◌, Bool, true, false, ◌&&◌, Option, Some, None, [], ◌∷◌, refl, sym, ap, eqb-true}
use Rattle.std.specs.Option.{option_eq}
use Rattle.tabled_border.specs.contracts.ansi.ANSIBufPartialEq.TheImpl.{eq-value as same_texts}
use Rattle.std.specs.contracts.prelude.BoolPartialEq.TheImpl.{eq-value as same_bool}
use Rattle.std.specs.Cmp.{first_so, second_so}
use Rattle.std.specs.Cmp.Lexicographic.{pointwise, same_text}
use Rattle.tabled_border.specs.Texts.{Texts}
use Rattle.tabled_settings.specs.declared.alignment.AlignmentHorizontal.TheVariants as horizontal
use Rattle.tabled_settings.specs.declared.alignment.AlignmentVertical.TheVariants as vertical
use Rattle.tabled_settings.specs.declared.sides.Sides.{Sides}
use Rattle.tabled_settings.specs.declared.cell_settings.CellSettings.{CellSettings}
use Rattle.tabled_settings.specs.contracts.alignment.AlignmentHorizontalPartialEq.TheImpl.{eq-value as same_horizontal}
use Rattle.tabled_settings.specs.contracts.alignment.AlignmentVerticalPartialEq.TheImpl.{eq-value as same_vertical}
use Rattle.tabled_settings.specs.contracts.indent.IndentPartialEq.TheImpl.{eq-value as same_indent}
use Rattle.tabled_settings.specs.contracts.cell_settings.CellSettingsPartialEq.TheImpl.{eq-value as same_settings}
use Rattle.tabled_settings.specs.Setting.{same_entity}
use Rattle.tabled_settings.specs.Same.{same_event, same_live}
use Rattle.tabled_settings.proofs.Entities.{equal_entities}

-- only equal values pass
abbrev pub IsExact : {A : Type 0} → (A → A → Bool) → Type 0
IsExact {A} E = (x y : A) → E x y ≡ true → x ≡ y

exact_horizontal : IsExact same_horizontal.it
exact_horizontal horizontal.Left horizontal.Left h = refl
exact_horizontal horizontal.Center horizontal.Center h = refl
exact_horizontal horizontal.Right horizontal.Right h = refl
exact_horizontal a b h = absurd cc

exact_vertical : IsExact same_vertical.it
exact_vertical vertical.Top vertical.Top h = refl
exact_vertical vertical.Center vertical.Center h = refl
exact_vertical vertical.Bottom vertical.Bottom h = refl
exact_vertical a b h = absurd cc

exact_bool : IsExact same_bool.it
exact_bool true false h = absurd cc
exact_bool false true h = absurd cc
exact_bool a b h = refl

module _ {T : Type 0} (E : T → T → Bool) (exact : IsExact E) where
  exact_option : IsExact (option_eq E)
  exact_option None None h = refl
  exact_option (Some x) (Some y) h = ap Some (exact x y h)
  exact_option a b h = absurd cc

  exact_events : IsExact (pointwise (same_event E))
  exact_events [] [] h = refl
  exact_events (e ∷ es) (f ∷ fs) h =
      let heads = first_so (same_event E e f) (pointwise (same_event E) es fs) h in
      λ i. (equal_entities e.0 f.0 (first_so (same_entity e.0 f.0) (option_eq E e.1 f.1) heads) i, exact_option e.1 f.1 (second_so (same_entity e.0 f.0) (option_eq E e.1 f.1) heads) i)
      ∷ exact_events es fs (second_so (same_event E e f) (pointwise (same_event E) es fs) h) i
  exact_events a b h = absurd cc

  pub exact_live : IsExact (same_live E)
  exact_live a b h =
      let others = second_so (E a.default b.default) (E a.global b.global && pointwise (same_event E) a.since b.since) h in
      λ i. record {
        default = exact a.default b.default (first_so (E a.default b.default) (E a.global b.global && pointwise (same_event E) a.since b.since) h) i;
        global = exact a.global b.global (first_so (E a.global b.global) (pointwise (same_event E) a.since b.since) others) i;
        since = exact_events a.since b.since (second_so (E a.global b.global) (pointwise (same_event E) a.since b.since) others) i;
      }

exact_texts : IsExact same_texts.it
exact_texts a b h =
    let texts : (pointwise ◌==◌ a.prefix b.prefix ≡ true) × (pointwise ◌==◌ a.suffix b.suffix ≡ true) = (first_so (pointwise ◌==◌ a.prefix b.prefix) (pointwise ◌==◌ a.suffix b.suffix) h, second_so (pointwise ◌==◌ a.prefix b.prefix) (pointwise ◌==◌ a.suffix b.suffix) h) in
    λ i. record { prefix = same_text a.prefix b.prefix (sym texts.0) i; suffix = same_text a.suffix b.suffix (sym texts.1) i }

-- a color or none, and one or none on each side
abbrev pub same_color : Option Texts → Option Texts → Bool
same_color a b = option_eq same_texts.it a b

pub exact_color : IsExact same_color
exact_color a b h = exact_option same_texts.it exact_texts a b h

-- a value on each side
abbrev pub same_sides : {T : Type 0} → (T → T → Bool) → Sides T → Sides T → Bool
same_sides E a b = E a.left b.left && (E a.right b.right && (E a.top b.top && E a.bottom b.bottom))

pub exact_sides : {T : Type 0} (E : T → T → Bool) → IsExact E → IsExact (same_sides E)
exact_sides E exact a b h =
    let after_left = second_so (E a.left b.left) (E a.right b.right && (E a.top b.top && E a.bottom b.bottom)) h in
    let after_right = second_so (E a.right b.right) (E a.top b.top && E a.bottom b.bottom) after_left in
    λ i. record {
      left = exact a.left b.left (first_so (E a.left b.left) (E a.right b.right && (E a.top b.top && E a.bottom b.bottom)) h) i;
      right = exact a.right b.right (first_so (E a.right b.right) (E a.top b.top && E a.bottom b.bottom) after_left) i;
      top = exact a.top b.top (first_so (E a.top b.top) (E a.bottom b.bottom) after_right) i;
      bottom = exact a.bottom b.bottom (second_so (E a.top b.top) (E a.bottom b.bottom) after_right) i;
    }

pub exact_indent : IsExact same_indent.it
exact_indent a b h = λ i. record {
  size = eqb-true a.size b.size (first_so (a.size == b.size) (a.fill == b.fill) h) i;
  fill = eqb-true a.fill b.fill (second_so (a.size == b.size) (a.fill == b.fill) h) i;
}

pub exact_settings : (a b : CellSettings) → same_settings.it a b ≡ true → a ≡ b
exact_settings a b h =
    let test_1 : Bool = same_live same_horizontal.it a.alignment_horizontal b.alignment_horizontal in
    let test_2 : Bool = same_live same_vertical.it a.alignment_vertical b.alignment_vertical in
    let test_3 : Bool = same_live same_bool.it a.trim_horizontal b.trim_horizontal in
    let test_4 : Bool = same_live same_bool.it a.trim_vertical b.trim_vertical in
    let test_5 : Bool = same_live same_bool.it a.line_alignment b.line_alignment in
    let test_6 : Bool = same_live ◌==◌ a.justification b.justification in
    let test_7 : Bool = same_live same_color a.justification_color b.justification_color in
    let test_8 : Bool = same_live (same_sides same_indent.it) a.padding b.padding in
    let test_9 : Bool = same_live (same_sides same_color) a.padding_color b.padding_color in
    let rest_9 : Bool = test_9 in
    let rest_8 : Bool = test_8 && rest_9 in
    let rest_7 : Bool = test_7 && rest_8 in
    let rest_6 : Bool = test_6 && rest_7 in
    let rest_5 : Bool = test_5 && rest_6 in
    let rest_4 : Bool = test_4 && rest_5 in
    let rest_3 : Bool = test_3 && rest_4 in
    let rest_2 : Bool = test_2 && rest_3 in
    let left_2 = second_so test_1 rest_2 h in
    let left_3 = second_so test_2 rest_3 left_2 in
    let left_4 = second_so test_3 rest_4 left_3 in
    let left_5 = second_so test_4 rest_5 left_4 in
    let left_6 = second_so test_5 rest_6 left_5 in
    let left_7 = second_so test_6 rest_7 left_6 in
    let left_8 = second_so test_7 rest_8 left_7 in
    let left_9 = second_so test_8 rest_9 left_8 in
    λ i. record {
      alignment_horizontal = exact_live same_horizontal.it exact_horizontal a.alignment_horizontal b.alignment_horizontal (first_so test_1 rest_2 h) i;
      alignment_vertical = exact_live same_vertical.it exact_vertical a.alignment_vertical b.alignment_vertical (first_so test_2 rest_3 left_2) i;
      trim_horizontal = exact_live same_bool.it exact_bool a.trim_horizontal b.trim_horizontal (first_so test_3 rest_4 left_3) i;
      trim_vertical = exact_live same_bool.it exact_bool a.trim_vertical b.trim_vertical (first_so test_4 rest_5 left_4) i;
      line_alignment = exact_live same_bool.it exact_bool a.line_alignment b.line_alignment (first_so test_5 rest_6 left_5) i;
      justification = exact_live ◌==◌ eqb-true a.justification b.justification (first_so test_6 rest_7 left_6) i;
      justification_color = exact_live same_color exact_color a.justification_color b.justification_color (first_so test_7 rest_8 left_7) i;
      padding = exact_live (same_sides same_indent.it) (exact_sides same_indent.it exact_indent) a.padding b.padding (first_so test_8 rest_9 left_8) i;
      padding_color = exact_live (same_sides same_color) (exact_sides same_color exact_color) a.padding_color b.padding_color left_9 i;
    }
