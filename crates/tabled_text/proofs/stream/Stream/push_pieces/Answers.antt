-- A piece more, and finally those that are left.
use Rattle.std.proofs.Common.{◌*◌, ◌+◌, ◌%◌, length, ap, arith}
use Rattle.tabled_text.specs.Streams.{stream_none}
use Rattle.tabled_text.proofs.StreamLemmas.{times_fit, more_gained}
use Rattle.tabled_text.proofs.stream.Stream.push_pieces.Goals as goal

pub push_part-requires : goal.push_part-requires
push_part-requires g c = omega (arith, ap length c.requires, times_fit 64 c.args.character)

pub push_part-requires-2 : goal.push_part-requires-2
push_part-requires-2 g c = omega (arith, ap length c.part_of.ensures, times_fit (c.args.count % 64) c.args.character)

pub loop-init : goal.loop-init
loop-init g c = stream_none g.W.Write.contents c.args.self.now

pub loop-preserved : goal.loop-preserved
loop-preserved g c =
    let n = c.loop.counter in
    more_gained g.W.Write.contents (64 * n) 64 (64 * (n + 1)) c.args.character c.args.piece.now c.args.self.now c.loop.self c.push_part.new.self (omega arith) c.requires c.loop.invariant c.push_part.ensures

pub returns : goal.returns
returns g c =
    more_gained g.W.Write.contents (64 * c.loop.counter) (c.args.count % 64) c.args.count c.args.character c.part_of.result.now c.args.self.now c.loop.self c.push_part-2.new.self (omega arith) c.part_of.ensures c.loop.invariant c.push_part-2.ensures
