use Rattle.std.proofs.Common.{◌∙◌, List, ℕ, subst}
use Rattle.inc_answers.specs.Sending.{Sends}
use Rattle.inc_answers.specs.TreeText.{stack_line}
use Rattle.inc_answers.proofs.StackLemmas.{stacks_begun, stacks_more}
use Rattle.inc_answers.proofs.trees.send_stacks.Goals as goal

pub loop-node-init : goal.loop-node-init
loop-node-init g c = (
  c.clear.ensures.room ∙ c.requires.room,
  stacks_begun c.args.project.now c.args.sizes.now c.args.walk.now.tree c.clear.new.self.files c.args.out.now c.clear.ensures.files,
)

pub loop-node-preserved : goal.loop-node-preserved
loop-node-preserved g c =
    let project = c.args.project.now in
    let bytes = c.own_weight.result in
    let line : Sends c.loop-node.out c.send_stack.new.out (stack_line project c.step.new.self.files bytes) =
    subst (λ (way : List ℕ). Sends c.loop-node.out c.send_stack.new.out (stack_line project way bytes)) c.files.ensures c.send_stack.ensures in (
      c.step.ensures.room ∙ c.loop-node.invariant.0,
      stacks_more project c.args.sizes.now c.args.walk.now.tree c.nodes-node-items.result.now c.loop-node.node-index c.node-item.result c.loop-node.way.files c.step.new.self.files bytes
          c.args.out.now c.loop-node.out c.send_stack.new.out c.requires.within c.nodes-node-items.ensures.nodes c.loop-node-test.true c.node-item.is c.step.ensures.files c.step.ensures.longer
          c.own_weight.ensures line c.loop-node.invariant.1,
    )
