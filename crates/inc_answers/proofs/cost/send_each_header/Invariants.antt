use Rattle.std.proofs.Common.{take}
use Rattle.std.specs.Prelude.{flat_map}
use Rattle.inc_answers.specs.CostViews.{seen_amounts}
use Rattle.inc_answers.specs.CostText.{header_line}
use Rattle.inc_answers.specs.Sending.{Sends}
use Rattle.inc_answers.proofs.cost.send_each_header.Given as goal

-- the headers so far are sent
abbrev pub invariant-loop-header : goal.invariant-loop-header
invariant-loop-header g l = Sends l.initial.out l.out (flat_map (header_line l.project (seen_amounts l.brought)) (take l.header-index l.headers))
