-- The texts of a color.
use Rattle.std.specs.Prelude.{ℕ, List, []}

-- what is written before and after what is colored, each as the bytes of a text
pub record Texts : Type 0 where
  pub prefix : List ℕ
  pub suffix : List ℕ

-- those of a color without texts
abbrev pub no_texts : Texts
no_texts = record { prefix = []; suffix = [] }
