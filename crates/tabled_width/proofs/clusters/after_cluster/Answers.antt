-- The cluster takes a character more, or ends.
use Rattle.std.proofs.Common.{rules}
use Rattle.tabled_width.proofs.ClusterLemmas.{grown, ended, ended_last}
use Rattle.tabled_width.proofs.clusters.after_cluster.Goals as goal

pub returns-then-not-belongs-clause-cluster : goal.returns-then-not-belongs-clause-cluster
returns-then-not-belongs-clause-cluster c =
    ended c.args.first c.args.rest.now c.loop-character.left.now c.in-Some.more.now c.loop-character.last c.in-Some.character c.loop-character.is_half_flag c.belongs.result
    c.loop-character.invariant.begun c.in-Some.ensures.0 c.belongs.ensures c.if-not-belongs.true

pub loop-character-preserved : goal.loop-character-preserved
loop-character-preserved c = record {
  text = search rules;
  begun = grown c.args.first c.args.rest.now c.loop-character.left.now c.in-Some.more.now c.loop-character.last c.in-Some.character c.loop-character.is_half_flag c.belongs.result
      c.loop-character.invariant.begun c.in-Some.ensures.0 c.in-Some.ensures.1 c.belongs.ensures c.if-not-belongs.false;
  short = search rules;
}

pub returns-clause-cluster : goal.returns-clause-cluster
returns-clause-cluster c =
    ended_last c.args.first c.args.rest.now c.loop-character.left.now c.loop-character.last c.loop-character.is_half_flag
    c.loop-character.invariant.begun c.in_default.ensures.0
