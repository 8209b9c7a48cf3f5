use Rattle.std.proofs.Common.{◌≡◌, ◌<◌, ◌∙◌, List, ℕ, [], ap, arith, get_or, length, subst, sym}
use Rattle.inc_cost.specs.declared.trees.Node.{Node}
use Rattle.inc_answers.specs.Sending.{Sends}
use Rattle.inc_answers.specs.TreeText.{source_stacks, stacks_from}
use Rattle.inc_answers.proofs.SendingLemmas.{sends_none, sends_then}
use Rattle.inc_answers.proofs.WhyLemmas.{flat_map-more}
use Rattle.inc_answers.proofs.trees.send_each_source.Goals as goal

pub loop-source-init : goal.loop-source-init
loop-source-init g c = (c.requires.walk, c.requires.room ∙ c.requires.walk.room, sends_none c.args.out.now)

pub loop-source-preserved : goal.loop-source-preserved
loop-source-preserved g c =
    let project = c.args.project.now in
    let graph = c.args.graph.now in
    let weights = c.args.sizes.now in
    let i = c.loop-source.source-index in
    let source = c.source-item.result in
    let long : length c.sources-source-items.result.now ≡ length graph.sources = ap length c.sources-source-items.ensures.sources in
    let low : i < length graph.sources = omega (arith, c.loop-source-test.true, long) in
    let at : source ≡ get_or graph.sources i source = c.source-item.is ∙ ap (λ (ss : List ℕ). get_or ss i source) c.sources-source-items.ensures.sources in
    let sent : Sends c.loop-source.out c.send_stacks.new.out (source_stacks project graph weights source) =
    subst (λ (ns : List Node). Sends c.loop-source.out c.send_stacks.new.out (stacks_from project weights [] ns)) c.walk.ensures.tree c.send_stacks.ensures.sent in (
      c.walk.ensures.sized,
      c.send_stacks.ensures.room ∙ c.loop-source.invariant.1,
      subst (λ (text : List ℕ). Sends c.args.out.now c.send_stacks.new.out text) (sym (flat_map-more (source_stacks project graph weights) graph.sources i source low at))
          (sends_then _ _ _ _ _ c.loop-source.invariant.2 sent),
    )
