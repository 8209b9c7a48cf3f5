use Rattle.std.proofs.Common.{◌∙◌}
use Rattle.std.proofs.lemmas.Result.{IfOk-weaker}
use Rattle.inc_rules.proofs.BreakingLemmas.{reach_bound}
use Rattle.inc_rules.proofs.breaks.bound_files.Goals as goal

pub returns-in-NotReach : goal.returns-in-NotReach
returns-in-NotReach c layout r is left right =
    IfOk-weaker c.reached_past.result _ _
    (λ bound h. reach_bound layout c.args.graph.now r bound.items c.args.right.now c.args.left.now h.0 c.files-sound.ensures.sound right left h.1 h.2 (is ∙ c.in-NotReach.is))
    c.reached_past.ensures
