use Rattle.std.proofs.Common.{◌≡◌, false, true, rules}
use Rattle.inc_cost.specs.Trees.{is_met}
use Rattle.inc_cost.proofs.TreeSteps.{step_into, step_past, step_room}
use Rattle.inc_cost.proofs.trees.TreeWalk.step.Goals as goal

pub put_children-requires-clause-room : goal.put_children-requires-clause-room
put_children-requires-clause-room c =
    let out : is_met c.args.self.now.tree c.next_file-file.result ≡ false = search rules in
    step_room c.args.graph.now c.args._source c.args.self.now c.leave_out.new.self c.put.new.self c.next_file-file.result c.next_depth-depth.result c.files-sound.ensures.sound c.requires.walking
    c.requires.going c.next_file-file.ensures c.next_depth-depth.ensures c.leave_out.ensures out c.put.ensures

pub returns-then-not-is_met-clause-walking : goal.returns-then-not-is_met-clause-walking
returns-then-not-is_met-clause-walking c =
    let out : is_met c.args.self.now.tree c.next_file-file.result ≡ false = search rules in
    (step_into c.args.graph.now c.args._source c.args.self.now c.leave_out.new.self c.put.new.self c.put_children.new.self c.next_file-file.result c.next_depth-depth.result c.files-sound.ensures.sound
    c.requires.walking c.requires.going c.next_file-file.ensures c.next_depth-depth.ensures c.leave_out.ensures out c.put.ensures c.put_children.ensures).0

pub returns-then-not-is_met-clause-fewer : goal.returns-then-not-is_met-clause-fewer
returns-then-not-is_met-clause-fewer c =
    let out : is_met c.args.self.now.tree c.next_file-file.result ≡ false = search rules in
    (step_into c.args.graph.now c.args._source c.args.self.now c.leave_out.new.self c.put.new.self c.put_children.new.self c.next_file-file.result c.next_depth-depth.result c.files-sound.ensures.sound
    c.requires.walking c.requires.going c.next_file-file.ensures c.next_depth-depth.ensures c.leave_out.ensures out c.put.ensures c.put_children.ensures).1

pub returns-else-not-is_met-clause-walking : goal.returns-else-not-is_met-clause-walking
returns-else-not-is_met-clause-walking c =
    let met : is_met c.args.self.now.tree c.next_file-file.result ≡ true = search rules in
    step_past c.args.graph.now c.args._source c.args.self.now c.leave_out.new.self c.next_file-file.result c.requires.walking c.requires.going c.next_file-file.ensures c.leave_out.ensures met
