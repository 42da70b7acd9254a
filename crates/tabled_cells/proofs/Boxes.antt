-- A character that draws boxes or blocks takes one column, whatever follows it.
use Rattle.std.proofs.Common.{◌≡◌, ◌&&◌, ℕ, ◌+◌, ◌≤◌, Bool, true, false, not, None, refl, arith}
use Rattle.std.specs.List.{list_all, range_with_len}
use Rattle.std.proofs.lemmas.Bool.Decides.{nat_tests}
use Rattle.unicode_width.proofs.Computing.{unicode_width}
use Rattle.unicode_width.specs.declared.kind.Kind.{Kind}
use Rattle.unicode_width.specs.declared.kind.Kind.TheVariants as kinds
use Rattle.unicode_width.specs.declared.state.After.{After}
use Rattle.unicode_width.specs.declared.state.After.TheVariants.{Alef, SolidusAlef}
use Rattle.unicode_width.specs.declared.state.State.{State}
use Rattle.unicode_width.specs.Kind.{kind, is_ligature_transparent}
use Rattle.tabled_width.specs.Narrow.{is_narrow_kind}
use Rattle.tabled_width.proofs.Ranges.{in_range}
use Rattle.unicode_width.specs.Width.{plain, of_kind, alone, joins, before_alef, is_lam, is_emoji, Reading, past_selectors, in_context, past_emoji, step, is_emoji_variation_base, is_emoji_modifier_base}

-- a character that no rule joins to what follows it
abbrev joins_nothing : ℕ → Bool
joins_nothing c =
    is_narrow_kind (kind c) && (not (is_emoji_variation_base c) && (not (is_ligature_transparent c) && (not (is_lam c) && not (is_emoji_modifier_base c))))

all_boxes : list_all joins_nothing (range_with_len 0x2500 160) ≡ true
unfolding unicode_width
all_boxes = refl

box_joins_nothing : (c : ℕ) → 0x2500 ≤ c → c ≤ 0x259F → joins_nothing c ≡ true
box_joins_nothing c least most = in_range joins_nothing 0x2500 160 all_boxes c least (omega arith)

-- what is known of such a character
record Box (c : ℕ) : Type 0 where
  least : 0x2500 ≤ c
  most : c ≤ 0x259F
  one : alone false c ≡ (1, plain)
  kind : is_emoji (kind c) ≡ false
  base : is_emoji_variation_base c ≡ false
  transparent : is_ligature_transparent c ≡ false
  lam : is_lam c ≡ false
  modifier : is_emoji_modifier_base c ≡ false

plain_kind : (c : ℕ) (k : Kind) → is_narrow_kind k ≡ true → (is_emoji k ≡ false) × (of_kind false c k ≡ (1, plain))
plain_kind c kinds.Narrow h = (refl, refl)
plain_kind c kinds.Ambiguous h = (refl, refl)
plain_kind c _ h = cc

box_is : (c : ℕ) → 0x2500 ≤ c → c ≤ 0x259F → Box c
unfolding alone
box_is c least most =
    let joins = box_joins_nothing c least most in
    let kinds = plain_kind c (kind c) (grind (arith, nat_tests)) in
    record {
      least = least;
      most = most;
      one = kinds.1;
      kind = kinds.0;
      base = grind (arith, nat_tests);
      transparent = grind (arith, nat_tests);
      lam = grind (arith, nat_tests);
      modifier = grind (arith, nat_tests);
    }

module _ (c : ℕ) (box : Box c) where
  no_alef : before_alef false c ≡ None
  unfolding before_alef
  no_alef = grind (arith, nat_tests, box.one, box.lam)

  joins_none : (after : After) → joins false after c ≡ None
  unfolding joins
  joins_none Alef = no_alef
  joins_none SolidusAlef = refl
  joins_none _ = grind (arith, nat_tests, box.kind, box.modifier)

  context_past : (total : ℕ) (s : State) → in_context false c total s ≡ (total + 1, plain)
  unfolding in_context past_selectors
  context_past total s = grind (arith, nat_tests, box.transparent, box.one, joins_none s.after)

-- such a character takes one column, whatever follows it
pub box_step : (c : ℕ) → 0x2500 ≤ c → c ≤ 0x259F → (r : Reading) → step false c r ≡ (r.0 + 1, plain)
unfolding step past_emoji
box_step c least most r =
    let box = box_is c least most in
    let past = context_past c box in grind (arith, nat_tests)
