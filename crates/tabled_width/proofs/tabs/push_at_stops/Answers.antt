-- One text more, and spaces up to the next stop.
use Rattle.std.proofs.Common.{rules, ◌++◌, replicate, ap, ◌∙◌, string_bytes}
use Rattle.tabled_width.proofs.TabLemmas.{tab_more, tab_last}
use Rattle.tabled_width.proofs.tabs.push_at_stops.Goals as goal

pub loop-text-preserved : goal.loop-text-preserved
loop-text-preserved c = record {
  text = search rules;
  filled = tab_more c.args.every (string_bytes c.loop-text.out) (string_bytes c.push_str.new.self) (string_bytes c.push_spaces.new.row) _
      c.loop-text.rest.now c.in-Some.text.now c.in-Some.more.now c.loop-text.invariant.filled c.in-Some.ensures.pieces c.in_ok-push_str.ensures.bytes
      (c.in_ok-push_spaces.ensures ∙ ap (λ n. string_bytes c.push_str.new.self ++ replicate n 32) c.spaces_to_stop.ensures);
}

pub returns : goal.returns
returns c =
    tab_last c.args.every (string_bytes c.loop-text.out) (string_bytes c.push_str-2.new.self) _ c.loop-text.rest.now
    c.loop-text.invariant.filled c.in_default.ensures.pieces c.in_ok-push_str-2.ensures.bytes
