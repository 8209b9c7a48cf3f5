use Rattle.std.proofs.Common.{◌≡◌, ◌+◌, [], length, rules}
use Rattle.inc_pp.proofs.MeasureSteps.{counted}
use Rattle.inc_pp.proofs.measures.Measure.count.Goals as goal

pub returns-clause-same : goal.returns-clause-same
returns-clause-same c = λ is.
    let none : c.truncate.new.self ≡ [] = search rules in
    let sum : c.in-Some.bytes ≡ c.args.self.now.bytes + length c.text.result.now = search rules in
    counted c.args.self.now.operators c.truncate.new.self c.args.self.now.bytes c.in-Some.bytes c.text.result.now is none c.text.ensures sum
