use Rattle.inc_check.proofs.ChainListLemmas.{open_pushed}
use Rattle.inc_check.proofs.certificates.OpenChains.push.Goals as goal

pub returns : goal.returns
returns c = rw (← c.self.view_is) (open_pushed c.self.inside.marks.items c.push.new.self.items c.args.mark c.self.inside.parts.items c.self.inside.begin c.self.invariant c.in_ok-push.ensures.items)
