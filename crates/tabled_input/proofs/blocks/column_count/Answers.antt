-- The most words of a line that may have headings, if there is one.
use Rattle.std.proofs.Common.{◌≡◌, ◌-◌, length, max, take, rules, sym, ap, ◌∙◌, tests}
use Rattle.std.specs.List.{filter, reduce}
use Rattle.std.specs.Option.{unwrap_or}
use Rattle.std.proofs.lemmas.Iterator.{YieldsList-from_slice}
use Rattle.std.proofs.lemmas.Iterator.Adapters.{option_map_id}
use Rattle.std.proofs.lemmas.Iterator.Consumers.{YieldsList-at, YieldsList-from_copied, YieldsList-from_filter, max_from_yields_List}
use Rattle.tabled_input.specs.Spaced.{column_count, may_head}
use Rattle.tabled_input.specs.declared.blocks.Block.{Block}
use Rattle.tabled_input.proofs.blocks.column_count.Goals as goal

pub returns : goal.returns
unfolding column_count
returns c =
    let counts = c.args.counts.now in
    let table = c.largest-table.result in
    let above = take (length counts - table.height) counts in
    let most : c.max.result ≡ reduce max (filter (may_head table.width) above) =
    sym (option_map_id c.max.result)
    ∙ max_from_yields_List c.filter-headings.result _ c.max.ensures.ran
    (YieldsList-from_filter _ (may_head table.width) (YieldsList-at c.filter-headings.ensures.source (YieldsList-from_copied (YieldsList-at c.copied.ensures.source (YieldsList-from_slice above c.iter.ensures.rest)))) c.filter-headings.ensures.closure (λ x b q k. search (rules, tests))) in
    c.unwrap_or.ensures ∙ ap (λ o. unwrap_or o table.width) most
    ∙ ap (λ (b : Block). unwrap_or (reduce max (filter (may_head b.width) (take (length counts - b.height) counts))) b.width) c.largest-table.ensures.block
