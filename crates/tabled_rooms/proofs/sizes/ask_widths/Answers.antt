-- One column more.
use Rattle.std.proofs.Common.{◌≡◌, ◌≢◌, ℕ, ◌++◌, max, length, get_or, slice_index, slice_index_or, List, ap, ◌∙◌, arith}
use Rattle.std.specs.List.{flat_map}
use Rattle.std.proofs.lemmas.List.{get_or_default, get_or-set_other}
use Rattle.tabled_rooms.specs.declared.host.Host.{Host}
use Rattle.tabled_rooms.specs.declared.growing.Ask.{Ask}
use Rattle.tabled_rooms.specs.Holding.{cell_of}
use Rattle.tabled_rooms.specs.Sizes.{below, is_shown, alone, over_several}
use Rattle.tabled_rooms.proofs.SizeLemmas.{noted_more, widened_more}
use Rattle.tabled_rooms.proofs.sizes.ask_widths.Goals as goal

pub loop-col-preserved : goal.loop-col-preserved
loop-col-preserved g c =
    let r = c.args.row in
    let n = c.loop-col.col in
    let counts = slice_index c.args.counts.now in
    let asked : ℕ → ℕ = λ k. g.M.CellSizes.width_at c.args.cells.now r k in
    let kept : Host = record { row = 0; col = 0; bottom = 0; right = 0 } in
    let shown : (none : Host) → c.is_shown-shown.result ≡ is_shown (cell_of (slice_index_or c.args.hosts.now n none)) r n =
    λ none. c.is_shown-shown.ensures ∙ ap (λ h. is_shown (cell_of h) r n) (get_or_default c.args.hosts.now n kept none (omega arith)) in
    record {
      widened = λ k none before.
          let part : ℕ → ℕ = λ j. alone (is_shown (cell_of (slice_index_or c.args.hosts.now j none)) r j) (counts j) (asked j) in
          let is : c.in_ok-wider.wider ≡ max (get_or c.args.widths.now n 0) (part n) =
          c.in_ok-wider.ensures.width ∙ (λ i. max (c.loop-col.invariant.ahead n (omega arith) i) (alone (shown none i) (counts n) (asked n))) in
          widened_more c.args.widths.now c.loop-col.widths part n c.in_ok-wider.wider (omega arith) is (λ j within. c.loop-col.invariant.widened j none within) k before;
      ahead = λ k from.
          let apart : k ≢ n = omega arith in
          get_or-set_other c.loop-col.widths n k c.in_ok-wider.wider 0 apart ∙ c.loop-col.invariant.ahead k (omega arith);
      noted = λ none.
          let f : ℕ → List Ask = λ j. over_several (is_shown (cell_of (slice_index_or c.args.hosts.now j none)) r j) j (counts j) (asked j) in
          noted_more f n c.args.asks.now.items c.loop-col.asks.items c.ask_width.new.asks.items (over_several c.is_shown-shown.result n (counts n) (asked n)) (c.loop-col.invariant.noted none)
          (λ i. over_several (shown none i) n (counts n) (asked n)) c.in_ok-wider.ensures.asks;
    }

pub returns-clause-asks : goal.returns-clause-asks
returns-clause-asks g c = λ none.
    let f : ℕ → List Ask = λ j. over_several (is_shown (cell_of (slice_index_or c.args.hosts.now j none)) c.args.row j) j (slice_index c.args.counts.now j) (g.M.CellSizes.width_at c.args.cells.now c.args.row j) in
    let all : c.loop-col.col ≡ length c.args.hosts.now = omega arith in
    c.loop-col.invariant.noted none ∙ ap (λ n. c.args.asks.now.items ++ flat_map f (below n)) all
