use Rattle.std.proofs.Common.{◌≡◌, [], true, false, sym, ◌∙◌, arith}
use Rattle.std.specs.Prelude.{slice_set}
use Rattle.std.proofs.lemmas.Bool.{OnTrue_at}
use Rattle.inc_cut.specs.Descents.{holds}
use Rattle.inc_cut.proofs.DescentLemmas.{source_low, flag_read, descent_begun, descent_as, descent_path, more_holds, start_holds}
use Rattle.inc_cut.proofs.searches.descents.Descent.descend.Goals as goal

pub index-requires-2 : goal.index-requires-2
index-requires-2 g c =
    let low = source_low c.args.graph.now (g.T.StepTest.passes c.args.test.now) c.args.self.now.reached.items c.args.self.now.looked.items c.args.source c.requires.between c.requires.source in
    omega (arith, low, c.index.ensures)

pub returns-then-index-clause-source : goal.returns-then-index-clause-source
returns-then-index-clause-source g c =
    let reached = c.args.self.now.reached.items in
    let low = source_low c.args.graph.now (g.T.StepTest.passes c.args.test.now) reached c.args.self.now.looked.items c.args.source c.requires.between c.requires.source in
    flag_read reached c.args.source c.index.result c.index-2.result.now true low c.index.ensures c.index-2.ensures c.if-index.true

pub begin-requires : goal.begin-requires
begin-requires g c =
    source_low c.args.graph.now (g.T.StepTest.passes c.args.test.now) c.args.self.now.reached.items c.args.self.now.looked.items c.args.source c.requires.between c.requires.source

pub loop-self-init : goal.loop-self-init
loop-self-init g c =
    let graph = c.args.graph.now in
    let passes = g.T.StepTest.passes c.args.test.now in
    let was = c.args.self.now in
    let now = c.begin.new.self in
    let source = c.args.source in
    let low = source_low graph passes was.reached.items was.looked.items source c.requires.between c.requires.source in
    let new : holds was.reached.items source ≡ false = flag_read was.reached.items source c.index.result c.index-2.result.now false low c.index.ensures c.index-2.ensures c.if-index.false in (
      descent_as graph passes (slice_set was.reached.items source true) now.reached.items was.looked.items now.looked.items [] now.steps.items source now.file c.begin.ensures.reached c.begin.ensures.looked
          c.begin.ensures.steps c.begin.ensures.file (descent_begun graph passes was.reached.items was.looked.items source c.requires.between c.requires.source new),
      more_holds was.reached.items now.reached.items source low c.begin.ensures.reached,
      start_holds was.reached.items now.reached.items source low c.begin.ensures.reached,
    )

pub turn-requires-clause-descent : goal.turn-requires-clause-descent
turn-requires-clause-descent g c = c.loop-self.invariant.0

pub returns-then-not-branch-clause-source : goal.returns-then-not-branch-clause-source
returns-then-not-branch-clause-source g c = c.in_ok-turn.ensures.grown c.args.source c.loop-self.invariant.2

pub returns-then-not-branch-clause-grown : goal.returns-then-not-branch-clause-grown
returns-then-not-branch-clause-grown g c = λ f held. c.in_ok-turn.ensures.grown f (c.loop-self.invariant.1 f held)

pub loop-self-smaller : goal.loop-self-smaller
loop-self-smaller g c = OnTrue_at c.if-not-branch.false c.in_ok-turn.ensures.less

pub loop-self-preserved : goal.loop-self-preserved
loop-self-preserved g c = (
  OnTrue_at c.if-not-branch.false c.in_ok-turn.ensures.descent,
  λ f held. c.in_ok-turn.ensures.grown f (c.loop-self.invariant.1 f held),
  c.in_ok-turn.ensures.grown c.args.source c.loop-self.invariant.2,
)

pub returns-clause-path : goal.returns-clause-path
returns-clause-path g c =
    let now = c.loop-self.self in
    descent_path c.args.graph.now (g.T.StepTest.passes c.args.test.now) now.reached.items now.looked.items now.steps.items now.file c.loop-self.invariant.0
    (sym c.is_header.ensures ∙ c.loop-self-test.false)
