-- Which characters are narrow.
use Rattle.std.specs.Int.{is_in_range}
use Rattle.std.proofs.lemmas.Bool.Decides.{nat_tests}
use Rattle.std.proofs.Common.{◌≡◌, ◌==◌, unwrap_or, ℕ, ◌+◌, ◌-◌, ◌<◌, ◌≤◌, ◌||◌, Bool, true, false, refl, subst, ◌∙◌, arith}
use Rattle.std.specs.Prelude.{nat_lt, ◌&&◌}
use Rattle.std.proofs.lemmas.Bool.{and_right}
use Rattle.std.proofs.lemmas.List.FromFn.{length-range_with_len, get_or-range_with_len}
use Rattle.std.proofs.lemmas.List.Sums.{AllPass-from_list_all}
use Rattle.std.specs.List.{list_all, range_with_len}
use Rattle.unicode_width.proofs.Computing.{unicode_width}
use Rattle.unicode_width.specs.declared.kind.Kind.{Kind}
use Rattle.unicode_width.specs.declared.kind.Kind.TheVariants as kinds
use Rattle.unicode_width.specs.Kind.{kind}
use Rattle.unicode_width.specs.Width.{alone, char_width, of_kind, single}
use Rattle.tabled_width.specs.Narrow.{is_narrow, is_narrow_kind, is_ambiguous_kind, draws_plainly}

-- what each number of a range passes, a number within it passes
pub in_range : (p : ℕ → Bool) (start count : ℕ) → list_all p (range_with_len start count) ≡ true → (c : ℕ) → start ≤ c → c < start + count → p c ≡ true
in_range p start count all c least most =
    let same : start + (c - start) ≡ c = omega arith in
    let long = length-range_with_len start count in
    subst (λ n. p n ≡ true) (get_or-range_with_len start count (c - start) 0 (omega arith) ∙ same)
    (AllPass-from_list_all p (range_with_len start count) all (c - start) 0 (omega (arith, long)))

-- ---- box drawing and block elements

boxes : list_all is_narrow (range_with_len 0x2500 160) ≡ true
unfolding unicode_width
boxes = refl

-- each of these characters is narrow
pub box_drawing_narrow : (c : ℕ) → 0x2500 ≤ c → c ≤ 0x259F → is_narrow c ≡ true
box_drawing_narrow c least most = in_range is_narrow 0x2500 160 boxes c least (omega arith)

-- ---- a narrow character that is wide in an East Asian context is of the kind Ambiguous

ambiguous_narrow : (k : Kind) → is_ambiguous_kind k ≡ true → is_narrow_kind k ≡ true
ambiguous_narrow kinds.Ambiguous h = refl
ambiguous_narrow _ h = cc

-- a character of ASCII or of the box drawings is narrow, and so is one that is wide in an East Asian context
pub soon_narrow : (c : ℕ) → (is_in_range 0x20 0x7E c || is_in_range 0x2500 0x259F c) ≡ true → is_narrow c ≡ true
soon_narrow c passed = let boxes = box_drawing_narrow c in grind (arith, nat_tests)

-- each character that draws plainly is narrow
pub plainly_narrow : (c : ℕ) → draws_plainly c ≡ true → is_narrow c ≡ true
plainly_narrow c passed =
    let soon = soon_narrow c in
    let high = ambiguous_narrow (kind c) in grind (arith, nat_tests)

-- ---- how the kind is told by the two widths

single_two : (c : ℕ) → ((single true c).0 == 2) ≡ false
single_two c = grind (arith, nat_tests)

by_widths : (c : ℕ) (k : Kind) → (((of_kind false c k).0 == 1) && ((of_kind true c k).0 == 2)) ≡ is_ambiguous_kind k
by_widths c kinds.Single = and_right ((single false c).0 == 1) _ (single_two c)
by_widths c _ = refl

high_width : (cjk : Bool) (c : ℕ) → nat_lt 0xA0 c ≡ true → unwrap_or (char_width cjk c) 0 ≡ (of_kind cjk c (kind c)).0
unfolding char_width alone
high_width cjk c high = grind (arith, nat_tests)

pub told_by_widths : (c : ℕ) → (nat_lt 0xA0 c && ((unwrap_or (char_width false c) 0 == 1) && (unwrap_or (char_width true c) 0 == 2))) ≡ (nat_lt 0xA0 c && is_ambiguous_kind (kind c))
told_by_widths c =
    let one = high_width false c in
    let two = high_width true c in
    let told = by_widths c (kind c) in grind (arith, nat_tests)
