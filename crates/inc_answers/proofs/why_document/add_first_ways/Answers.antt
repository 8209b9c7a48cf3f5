use Rattle.std.proofs.Common.{◌≡◌, ◌∙◌, ◌++◌, ◌∷◌, [], List, ℕ, suc, ap, arith}
use Rattle.inc_answers.specs.Documents.{Block}
use Rattle.inc_answers.specs.WhyDocument.{way_blocks}
use Rattle.inc_answers.proofs.BoundLemmas.{enough_left, next_taken, some_left}
use Rattle.inc_answers.proofs.EdgeEnds.{next_added}
use Rattle.inc_answers.proofs.why_document.add_first_ways.Goals as goal

pub add_way-requires : goal.add_way-requires
add_way-requires c =
    let walk = c.loop-place in
    let next = some_left c.args.shown walk.place c.loop-place-test.true c.advance.result walk.chains.left c.advance.new.self.chain c.advance.new.self.left walk.invariant.enough c.advance.ensures.chain in
    let all = rw next at walk.invariant.left in
    rw c.edges.ensures (all 0 [] (omega arith))

pub loop-place-preserved : goal.loop-place-preserved
loop-place-preserved c =
    let walk = c.loop-place in
    let way : List ℕ → List Block = way_blocks c.args.last.now c.args.graph.now in
    let next = some_left c.args.shown walk.place c.loop-place-test.true c.advance.result walk.chains.left c.advance.new.self.chain c.advance.new.self.left walk.invariant.enough c.advance.ensures.chain in
    let all = rw next at walk.invariant.left in record {
      added = next_added way walk.document c.add_way.new.document _ _ c.advance.new.self.chain _
          (next_taken c.args.shown walk.place c.loop-place-test.true walk.chains.left c.advance.new.self.chain c.advance.new.self.left next)
          (c.in_ok-add_way.ensures ∙ ap (λ (chain : List ℕ). walk.document ++ way chain) c.edges.ensures) walk.invariant.added;
      enough = enough_left c.args.shown walk.place c.loop-place-test.true walk.chains.left c.advance.new.self.chain c.advance.new.self.left next walk.invariant.enough;
      left = λ k d low. all (suc k) d (omega (arith, low));
    }
