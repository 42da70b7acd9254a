use Rattle.std.proofs.Common.{rules, tests, ◌≡◌, ap, sym, subst, ◌∙◌}
use Rattle.std.proofs.lemmas.Iterator.{YieldsList}
use Rattle.std.proofs.lemmas.Iterator.Consumers.{YieldsList-from_shown}
use Rattle.std.proofs.lemmas.Iterator.Search.{find_from_yields_List}
use Rattle.std.proofs.lemmas.Iterator.Adapters.{option_map_id}
use Rattle.std.specs.Array.Iter.{array_into_iter_items, array_steps}
use Rattle.std.specs.Str.{bytes_eq}
use Rattle.tabled_style.specs.declared.ready_style.ReadyStyle.{ReadyStyle}
use Rattle.tabled_style.specs.Named.{all_ready, name_of, style_named}
use Rattle.tabled_style.proofs.Naming.{named_again}
use Rattle.tabled_style.proofs.ready_style.ReadyStyle.from_name.Goals as goal

-- the iterator gives all ready styles
in_order : (c : goal.After-drop-into_iter) → YieldsList (array_steps {A = ReadyStyle} {n = 13}) (λ style. style) c.into_iter.result all_ready
in_order c =
    subst (λ styles. YieldsList (array_steps {A = ReadyStyle} {n = 13}) (λ style. style) c.into_iter.result styles)
    (c.into_iter.ensures.into_iter_gives.0 ∙ c.all.ensures)
    (YieldsList-from_shown (array_steps {A = ReadyStyle} {n = 13}) (λ style. style) array_into_iter_items (λ s t h. h.0) (λ s x t h. h) c.into_iter.result)

value : (c : goal.After-drop-into_iter) → c.find.result ≡ style_named c.args.name.now
unfolding style_named
value c =
    sym (option_map_id c.find.result)
    ∙ find_from_yields_List (λ style. bytes_eq (name_of style) c.args.name.now) _ _ c.find.result c.find.ensures.ran (in_order c) (λ x b q k. search (rules, tests))

pub returns-clause-value : goal.returns-clause-value
returns-clause-value c = value c

pub returns-clause-found : goal.returns-clause-found
returns-clause-found c = λ style same. value c ∙ ap style_named (sym same) ∙ named_again style
