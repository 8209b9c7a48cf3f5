use Rattle.std.proofs.Common.{◌∙◌, arith, drop}
use Rattle.std.proofs.lemmas.List.{drop_all}
use Rattle.inc_answers.proofs.FlagLemmas.{flagging_ends, flagging_next}
use Rattle.inc_answers.proofs.dot_text.flag_edges.Goals as goal

pub loop-edge-preserved : goal.loop-edge-preserved
loop-edge-preserved c = record {
  flagging = flagging_next c.args.flags.now c.loop-edge.flags c.flag.new.flags c.args.edges.now c.args.edges.now c.loop-edge.edge-index c.edge-item.result c.loop-edge-test.true c.edge-item.is
      c.flag.ensures.flags c.loop-edge.invariant.flagging;
  long = c.flag.ensures.long ∙ c.loop-edge.invariant.long;
}

pub returns-clause-flags : goal.returns-clause-flags
returns-clause-flags c =
    flagging_ends c.args.flags.now c.loop-edge.flags (drop c.loop-edge.edge-index c.args.edges.now) c.args.edges.now (drop_all c.loop-edge.edge-index c.args.edges.now (omega arith))
    c.loop-edge.invariant.flagging
