use Rattle.std.proofs.Common.{sym, arith}
use Rattle.inc_answers.proofs.FillingLemmas.{length_one, length_two, length_three, length_four}
use Rattle.inc_answers.proofs.filling.short_len.Goals as goal

pub returns-then-n-lt10 : goal.returns-then-n-lt10
returns-then-n-lt10 c = sym (length_one c.args.n (omega (arith, c.if-n-lt10.true)))

pub returns-then-n-lt100 : goal.returns-then-n-lt100
returns-then-n-lt100 c = sym (length_two c.args.n (omega (arith, c.if-n-lt10.false)) (omega (arith, c.if-n-lt100.true)))

pub returns-then-n-lt1000 : goal.returns-then-n-lt1000
returns-then-n-lt1000 c = sym (length_three c.args.n (omega (arith, c.if-n-lt100.false)) (omega (arith, c.if-n-lt1000.true)))

pub returns-else-n-lt1000 : goal.returns-else-n-lt1000
returns-else-n-lt1000 c = sym (length_four c.args.n (omega (arith, c.if-n-lt1000.false)) (omega (arith, c.requires)))
