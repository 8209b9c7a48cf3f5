use Rattle.inc_check.proofs.ChainListLemmas.{open_cut}
use Rattle.inc_check.proofs.certificates.OpenChains.clear.Goals as goal

pub returns : goal.returns
returns c = rw (← c.self.view_is) (open_cut c.self.inside.marks.items c.truncate.new.self.items c.self.inside.parts.items c.self.inside.begin c.self.invariant c.truncate.ensures.items)
