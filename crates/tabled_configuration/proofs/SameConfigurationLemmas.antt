-- Configurations that are equal are one.
use Rattle.std.proofs.Common.{◌≡◌, ◌↔◌, Bool, true, ◌&&◌, nat_eq, Some, None, IsTrue, refl, sym, ap, subst, ◌∙◌}
use Rattle.std.proofs.lemmas.Bool.{eqb-true, and_parts}
use Rattle.std.specs.Cmp.Lexicographic.{pointwise, same_text}
use Rattle.tabled_grid.specs.Same.{same_state}
use Rattle.tabled_grid.proofs.SameLemmas.{exact_state}
use Rattle.tabled_kept.proofs.ExactMaps.{IsExact}
use Rattle.tabled_layout.specs.contracts.table_settings.TableSettingsPartialEq.TheImpl.{eq-value as same_settings}
use Rattle.tabled_settings.proofs.SameSettings.{exact_live}
use Rattle.tabled_layout.proofs.SameLayout.{exact_settings}
use Rattle.tabled_configuration.specs.Configuration.{Configuration}
use Rattle.tabled_configuration.specs.Colored.{Colored}
use Rattle.tabled_configuration.specs.SameConfiguration.{same_texts, same_stores, same_configuration, configuration_equiv, same_colors, same_colored, colored_equiv}

-- where the first test is passed, the second one decides for both
pub second_answers : (first second p q whole : Bool) → first ≡ p → first ≡ true → second ≡ q → p && q ≡ whole → second ≡ whole
second_answers first second p q whole is holds other and_parts = other ∙ ap (λ b. b && q) (sym holds ∙ is) ∙ and_parts

-- colors with the same texts are one
exact_texts : IsExact same_texts
exact_texts a b h =
    let texts = and_parts (pointwise nat_eq a.prefix b.prefix) (pointwise nat_eq a.suffix b.suffix) h in
    λ i. record { prefix = same_text a.prefix b.prefix (sym texts.0) i; suffix = same_text a.suffix b.suffix (sym texts.1) i }

exact_configurations : IsExact same_configuration
unfolding same_configuration same_stores
exact_configurations a b h =
    let parts = and_parts (same_stores a b) (same_settings.it a.settings b.settings) h in
    let stores = and_parts (same_state nat_eq a.characters b.characters) (same_state same_texts a.colors b.colors) parts.0 in
    λ i. record {
      characters = exact_state eqb-true a.characters b.characters stores.0 i;
      colors = exact_state exact_texts a.colors b.colors stores.1 i;
      settings = exact_settings a.settings b.settings parts.1 i;
    }

-- configurations pass the test exactly where they keep the same
pub same_configuration-exact : (a b : Configuration) → IsTrue (same_configuration a b) ↔ (a ≡ b)
same_configuration-exact a b =
    (λ h. exact_configurations a b h, λ is. subst (λ c. same_configuration a c ≡ true) is (configuration_equiv.refl a))

-- and so do what options change
exact_colors : IsExact same_colors
exact_colors None None h = refl
exact_colors (Some a) (Some b) h = ap Some (exact_live same_texts exact_texts a b h)
exact_colors a b h = absurd cc

exact_colored : IsExact same_colored
exact_colored a b h =
    let parts = and_parts (same_configuration a.spanned b.spanned) (same_colors a.cell_colors b.cell_colors) h in
    λ i. record { spanned = exact_configurations a.spanned b.spanned parts.0 i; cell_colors = exact_colors a.cell_colors b.cell_colors parts.1 i }

pub same_colored-exact : (a b : Colored) → IsTrue (same_colored a b) ↔ (a ≡ b)
same_colored-exact a b =
    (λ h. exact_colored a b h, λ is. subst (λ c. same_colored a c ≡ true) is (colored_equiv.refl a))
