-- The options are tried one after the other.
use Rattle.std.proofs.Common.{rules, tests, ap, sym, subst, ◌∙◌}
use Rattle.std.specs.Prelude.{find}
use Rattle.std.proofs.lemmas.Iterator.{YieldsList}
use Rattle.std.proofs.lemmas.Iterator.Consumers.{YieldsList-from_shown}
use Rattle.std.proofs.lemmas.Iterator.Search.{find_from_yields_List}
use Rattle.std.proofs.lemmas.Iterator.Adapters.{option_map_id}
use Rattle.std.specs.Array.Iter.{array_into_iter_items, array_steps}
use Rattle.tabled_request.specs.declared.options.OptionName.{OptionName}
use Rattle.tabled_request.specs.Options.{all_options, are_near, name_of, option_near}
use Rattle.tabled_request.proofs.options.OptionName.near.Goals as goal

-- the iterator gives all options
in_order : (c : goal.After-drop-into_iter) → YieldsList (array_steps {A = OptionName} {n = 29}) (λ option. option) c.into_iter.result all_options
in_order c =
    subst (λ options. YieldsList (array_steps {A = OptionName} {n = 29}) (λ option. option) c.into_iter.result options)
    (c.into_iter.ensures.into_iter_gives.0 ∙ c.all.ensures)
    (YieldsList-from_shown (array_steps {A = OptionName} {n = 29}) (λ option. option) array_into_iter_items (λ s t h. h.0) (λ s x t h. h) c.into_iter.result)

pub returns : goal.returns
unfolding option_near
returns c =
    sym (option_map_id c.find.result)
    ∙ find_from_yields_List (λ option. are_near (name_of option) c.cut.result.0.now) _ _ c.find.result c.find.ensures.ran (in_order c) (λ x b q k. search (rules, tests))
    ∙ ap (λ name. find (λ option. are_near (name_of option) name) all_options) c.cut.ensures.before
