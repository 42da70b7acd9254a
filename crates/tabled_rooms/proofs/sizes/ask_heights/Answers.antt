-- One column more.
use Rattle.std.proofs.Common.{◌≡◌, ℕ, ◌-◌, ◌++◌, max, map, length, slice_index_or, List, sym, ap, ◌∙◌, arith}
use Rattle.std.specs.List.{flat_map}
use Rattle.std.proofs.lemmas.List.{get_or_default}
use Rattle.tabled_rooms.specs.declared.host.Host.{Host}
use Rattle.tabled_rooms.specs.declared.growing.Ask.{Ask}
use Rattle.tabled_rooms.specs.Holding.{cell_of}
use Rattle.tabled_rooms.specs.Sizes.{below, greatest, is_shown, alone, over_several}
use Rattle.tabled_rooms.proofs.SizeLemmas.{noted_more, greatest_more}
use Rattle.tabled_rooms.proofs.sizes.ask_heights.Goals as goal

pub loop-col-preserved : goal.loop-col-preserved
loop-col-preserved g c =
    let r = c.args.row in
    let n = c.loop-col.col in
    let asked : ℕ → ℕ = λ k. g.M.CellSizes.height_at c.args.cells.now r k in
    let kept : Host = record { row = 0; col = 0; bottom = 0; right = 0 } in
    let at : (none : Host) → slice_index_or c.args.hosts.now n kept ≡ slice_index_or c.args.hosts.now n none = λ none. get_or_default c.args.hosts.now n kept none (omega arith) in
    let shown : (none : Host) → c.is_shown-shown.result ≡ is_shown (cell_of (slice_index_or c.args.hosts.now n none)) r n =
    λ none. c.is_shown-shown.ensures ∙ ap (λ h. is_shown (cell_of h) r n) (at none) in
    let left : (none : Host) → c.saturating_sub-count.result ≡ (slice_index_or c.args.hosts.now n none).bottom - r =
    λ none. c.saturating_sub-count.ensures ∙ ap (λ (h : Host). h.bottom - r) (at none) in
    record {
      high = λ none.
          let part : ℕ → ℕ = λ j. alone (is_shown (cell_of (slice_index_or c.args.hosts.now j none)) r j) ((slice_index_or c.args.hosts.now j none).bottom - r) (asked j) in
          c.in_ok-higher.ensures.height ∙ (λ i. max (c.loop-col.invariant.high none i) (alone (shown none i) (left none i) (asked n))) ∙ sym (greatest_more part n);
      noted = λ none.
          let f : ℕ → List Ask = λ j. over_several (is_shown (cell_of (slice_index_or c.args.hosts.now j none)) r j) r ((slice_index_or c.args.hosts.now j none).bottom - r) (asked j) in
          noted_more f n c.args.asks.now.items c.loop-col.asks.items c.ask_height.new.asks.items (over_several c.is_shown-shown.result r c.saturating_sub-count.result (asked n)) (c.loop-col.invariant.noted none)
          (λ i. over_several (shown none i) r (left none i) (asked n)) c.in_ok-higher.ensures.asks;
    }

pub returns-clause-height : goal.returns-clause-height
returns-clause-height g c = λ none.
    let part : ℕ → ℕ = λ j. alone (is_shown (cell_of (slice_index_or c.args.hosts.now j none)) c.args.row j) ((slice_index_or c.args.hosts.now j none).bottom - c.args.row) (g.M.CellSizes.height_at c.args.cells.now c.args.row j) in
    let all : c.loop-col.col ≡ length c.args.hosts.now = omega arith in
    c.loop-col.invariant.high none ∙ ap (λ n. greatest (map part (below n))) all

pub returns-clause-asks : goal.returns-clause-asks
returns-clause-asks g c = λ none.
    let f : ℕ → List Ask = λ j. over_several (is_shown (cell_of (slice_index_or c.args.hosts.now j none)) c.args.row j) c.args.row ((slice_index_or c.args.hosts.now j none).bottom - c.args.row) (g.M.CellSizes.height_at c.args.cells.now c.args.row j) in
    let all : c.loop-col.col ≡ length c.args.hosts.now = omega arith in
    c.loop-col.invariant.noted none ∙ ap (λ n. c.args.asks.now.items ++ flat_map f (below n)) all
