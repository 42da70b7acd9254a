-- A few characters more, and finally those that are left.
use Rattle.std.proofs.Common.{◌*◌, ◌+◌, ◌%◌, refl, arith}
use Rattle.tabled_text.specs.Streams.{stream_none}
use Rattle.tabled_text.proofs.StreamLemmas.{more_gained}
use Rattle.tabled_text.proofs.stream.Stream.push_many.Goals as goal

pub loop-init : goal.loop-init
loop-init g c = stream_none g.W.Write.contents c.args.self.now

pub loop-preserved : goal.loop-preserved
loop-preserved g c =
    let n = c.loop.counter in
    more_gained g.W.Write.contents (16 * n) 16 (16 * (n + 1)) c.args.character _ c.args.self.now c.loop.self c.push_few.new.self (omega arith) refl c.loop.invariant c.push_few.ensures

pub returns : goal.returns
returns g c =
    more_gained g.W.Write.contents (16 * c.loop.counter) (c.args.count % 16) c.args.count c.args.character _ c.args.self.now c.loop.self c.push_few-2.new.self (omega arith) refl c.loop.invariant c.push_few-2.ensures
