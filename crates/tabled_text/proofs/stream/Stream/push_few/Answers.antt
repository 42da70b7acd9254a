-- A character more, which takes four bytes at most.
use Rattle.std.proofs.Common.{◌+◌, encode_utf8, refl, sym, arith}
use Rattle.std.proofs.lemmas.List.{append-nil}
use Rattle.tabled_text.proofs.StreamLemmas.{encode_fits, more_gained}
use Rattle.tabled_text.proofs.stream.Stream.push_few.Goals as goal

pub push_next-requires : goal.push_next-requires
push_next-requires g c = omega (arith, c.loop.invariant.room, c.loop-test.true, encode_fits c.args.character)

pub loop-preserved : goal.loop-preserved
loop-preserved g c =
    let n = c.loop.counter in
    let character = c.args.character in
    record {
      gained = more_gained g.W.Write.contents n 1 (n + 1) character _ c.make_room.new.self c.loop.self c.push_next.new.self refl (sym (append-nil (encode_utf8 character))) c.loop.invariant.gained c.push_next.ensures.gained;
      room = omega (arith, c.loop.invariant.room, c.loop-test.true, c.push_next.ensures.len, encode_fits character);
    }
