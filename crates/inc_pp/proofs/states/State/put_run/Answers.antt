use Rattle.std.proofs.Common.{◌-◌, take, drop}
use Rattle.inc_directive.specs.Parts.{lines_of_parts}
use Rattle.inc_pp.specs.StateViews.{state_of}
use Rattle.inc_pp.proofs.BlankRuns.{blank-read}
use Rattle.inc_pp.proofs.states.State.put_run.Goals as goal

pub returns-then-are_blank-clause-done : goal.returns-then-are_blank-clause-done
returns-then-are_blank-clause-done c = λ f under index. blank-read f (lines_of_parts (take (c.args.to - c.args.from) (drop c.args.from c.args.lines.now))) (state_of c.args.self.now) c.args.here.now (c.are_blank.ensures.0 c.if-are_blank.true)
