-- Where no padding is set every cell has the first one.
use Rattle.std.proofs.Common.{◌≡◌, ◌==◌, ◌&&◌, ◌<◌, ℕ, true, arith, List, [], ◌∷◌, length, refl, ap, ◌∙◌, eqb-true}
use Rattle.std.specs.Cmp.{first_so, second_so}
use Rattle.tabled_object.specs.declared.entity.Entity.TheVariants.{Global}
use Rattle.tabled_object.specs.declared.position.Position.{Position}
use Rattle.tabled_settings.specs.declared.indent.Indent.{Indent}
use Rattle.tabled_settings.specs.declared.sides.Sides.{Sides}
use Rattle.tabled_settings.specs.Setting.{write_of, setting}
use Rattle.tabled_settings.specs.Live.{Live, value_at}
use Rattle.tabled_settings.specs.Padding.{spaces, first_padding, is_spaces, is_first_padding, keeps_first_padding}

are_spaces : (size : ℕ) (indent : Indent) → is_spaces size indent ≡ true → indent ≡ spaces size
are_spaces size indent is = λ i. record {
  size = eqb-true indent.size size (first_so (indent.size == size) (indent.fill == 32) is) i;
  fill = eqb-true indent.fill 32 (second_so (indent.size == size) (indent.fill == 32) is) i;
}

pub first_alone : (padding : Sides Indent) → is_first_padding padding ≡ true → padding ≡ first_padding
first_alone padding is =
    let after_left = second_so (is_spaces 1 padding.left) (is_spaces 1 padding.right && (is_spaces 0 padding.top && is_spaces 0 padding.bottom)) is in
    let after_right = second_so (is_spaces 1 padding.right) (is_spaces 0 padding.top && is_spaces 0 padding.bottom) after_left in
    λ i. record {
      left = are_spaces 1 padding.left (first_so (is_spaces 1 padding.left) (is_spaces 1 padding.right && (is_spaces 0 padding.top && is_spaces 0 padding.bottom)) is) i;
      right = are_spaces 1 padding.right (first_so (is_spaces 1 padding.right) (is_spaces 0 padding.top && is_spaces 0 padding.bottom) after_left) i;
      top = are_spaces 0 padding.top (first_so (is_spaces 0 padding.top) (is_spaces 0 padding.bottom) after_right) i;
      bottom = are_spaces 0 padding.bottom (second_so (is_spaces 0 padding.top) (is_spaces 0 padding.bottom) after_right) i;
    }

none_left : {A : Type 0} (xs : List A) → (length xs == 0) ≡ true → xs ≡ []
none_left [] is = refl
none_left (x ∷ xs) is = absurd (let more : 0 < length (x ∷ xs) = omega arith in let none : length (x ∷ xs) ≡ 0 = eqb-true (length (x ∷ xs)) 0 is in omega (arith, more, none))

pub no_padding_at : (padding : Live (Sides Indent)) (cell : Position) → keeps_first_padding padding ≡ true → value_at padding cell ≡ first_padding
no_padding_at padding cell is =
    let none : padding.since ≡ [] = none_left padding.since (first_so (length padding.since == 0) (is_first_padding padding.global) is) in
    ap (λ events. setting (write_of Global padding.global ∷ events) padding.default cell) none
    ∙ first_alone padding.global (second_so (length padding.since == 0) (is_first_padding padding.global) is)
