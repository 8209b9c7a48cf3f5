use Rattle.std.proofs.Common.{◌∙◌, sym}
use Rattle.inc_cost.proofs.TreeFiles.{listed_ended, tree_within}
use Rattle.inc_cost.proofs.TreeSteps.{begun_walking, nothing_waits, tree_ended}
use Rattle.inc_cost.proofs.trees.TreeWalk.walk.Goals as goal

pub loop-source-init : goal.loop-source-init
loop-source-init c = begun_walking c.args.graph.now c.args.source c.args.self.now c.begin.new.self c.requires.sized c.requires.source c.begin.ensures

pub returns-clause-tree : goal.returns-clause-tree
returns-clause-tree c =
    tree_ended c.args.graph.now c.args.source c.loop-source.self c.loop-source.invariant (nothing_waits c.loop-source.self.waiting (sym c.is_going.ensures ∙ c.loop-source-test.false))

pub returns-clause-listed : goal.returns-clause-listed
returns-clause-listed c =
    listed_ended c.args.graph.now c.args.source c.loop-source.self c.files-sound.ensures.sound c.requires.source c.loop-source.invariant
    (nothing_waits c.loop-source.self.waiting (sym c.is_going.ensures ∙ c.loop-source-test.false))

pub returns-clause-within : goal.returns-clause-within
returns-clause-within c =
    tree_within c.args.graph.now c.args.source c.loop-source.self.tree
    (listed_ended c.args.graph.now c.args.source c.loop-source.self c.files-sound.ensures.sound c.requires.source c.loop-source.invariant
    (nothing_waits c.loop-source.self.waiting (sym c.is_going.ensures ∙ c.loop-source-test.false)))
