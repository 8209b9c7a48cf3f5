use Rattle.std.proofs.Common.{◌∙◌, List, suc, arith}
use Rattle.inc_graph.specs.Reaching.{Reaching}
use Rattle.inc_answers.specs.Documents.{Block}
use Rattle.inc_answers.specs.WhoDocument.{reaching_blocks}
use Rattle.inc_answers.proofs.BoundLemmas.{enough_left, next_taken, some_left}
use Rattle.inc_answers.proofs.EdgeEnds.{next_added}
use Rattle.inc_answers.proofs.who_document.add_first_sources.Goals as goal

pub add_source-requires-clause-edges : goal.add_source-requires-clause-edges
add_source-requires-clause-edges c =
    let walk = c.loop-place in
    let next = some_left c.args.shown walk.place c.loop-place-test.true c.advance.result walk.reaching.left c.advance.new.self.at c.advance.new.self.left walk.invariant.enough c.advance.ensures.source in
    let all = rw next at walk.invariant.left in
    all 0 c.advance.new.self.at (omega arith)

pub loop-place-preserved : goal.loop-place-preserved
loop-place-preserved c =
    let walk = c.loop-place in
    let next = some_left c.args.shown walk.place c.loop-place-test.true c.advance.result walk.reaching.left c.advance.new.self.at c.advance.new.self.left walk.invariant.enough c.advance.ensures.source in
    let all = rw next at walk.invariant.left in
    let blocks : Reaching → List Block = reaching_blocks c.args.all c.args.project.now c.args.graph.now in record {
      added = rw c.add_source.ensures.left
          (next_added blocks walk.document c.add_source.new.document _ _ c.advance.new.self.at _
          (next_taken c.args.shown walk.place c.loop-place-test.true walk.reaching.left c.advance.new.self.at c.advance.new.self.left next)
          c.in_ok-add_source.ensures.blocks walk.invariant.added);
      enough = rw c.add_source.ensures.left (enough_left c.args.shown walk.place c.loop-place-test.true walk.reaching.left c.advance.new.self.at c.advance.new.self.left next walk.invariant.enough);
      left = rw c.add_source.ensures.left (λ k d low. all (suc k) d (omega (arith, low)));
      graph = c.add_source.ensures.graph ∙ c.advance.ensures.graph ∙ walk.invariant.graph;
    }
