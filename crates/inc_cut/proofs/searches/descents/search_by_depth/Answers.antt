use Rattle.std.proofs.Common.{◌≡◌, take, ap, ◌∙◌, arith}
use Rattle.std.proofs.lemmas.Bool.{OnFalse_at, false≢true}
use Rattle.std.proofs.lemmas.List.{take_all}
use Rattle.inc_graph.specs.Members.{is_member}
use Rattle.inc_cut.proofs.DescentLemmas.{source_item, between_reach, one_more_held}
use Rattle.inc_cut.proofs.searches.descents.search_by_depth.Goals as goal

pub loop-source-init : goal.loop-source-init
loop-source-init g c = (c.in_ok-descent.ensures (g.T.StepTest.passes c.args.test.now), λ a none. absurd (false≢true none))

pub descend-requires-clause-source : goal.descend-requires-clause-source
descend-requires-clause-source g c =
    source_item c.args.graph.now c.sources-source-items.result.now c.loop-source.source-index c.source-item.result c.sources-source-items.ensures.sources c.loop-source-test.true c.source-item.is

pub descend-requires-clause-between : goal.descend-requires-clause-between
descend-requires-clause-between g c = c.loop-source.invariant.0

pub loop-source-preserved : goal.loop-source-preserved
loop-source-preserved g c = (
  OnFalse_at c.if-branch.false c.in_ok-descend.ensures.between,
  one_more_held c.loop-source.descent.reached.items c.descend.new.self.reached.items c.sources-source-items.result.now c.loop-source.source-index c.source-item.result c.loop-source-test.true
      c.source-item.is c.loop-source.invariant.1 (OnFalse_at c.if-branch.false c.in_ok-descend.ensures.source) (OnFalse_at c.if-branch.false c.in_ok-descend.ensures.grown),
)

pub returns : goal.returns
returns g c =
    let sources = c.sources-source-items.result.now in
    let all : take c.loop-source.source-index sources ≡ c.args.graph.now.sources = take_all c.loop-source.source-index sources (omega arith) ∙ c.sources-source-items.ensures.sources in
    between_reach c.args.graph.now (g.T.StepTest.passes c.args.test.now) c.loop-source.descent.reached.items c.loop-source.descent.looked.items c.loop-source.invariant.0
    (λ a among. c.loop-source.invariant.1 a (ap (is_member a) all ∙ among))
