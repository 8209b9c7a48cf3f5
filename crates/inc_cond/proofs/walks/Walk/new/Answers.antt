use Rattle.std.proofs.Common.{None, ap, sym, ◌∙◌}
use Rattle.inc_cond.specs.Frames.{read, resumed}
use Rattle.inc_cond.specs.Known.{knowns}
use Rattle.inc_cond.proofs.ReaderSteps.{made_of-read}
use Rattle.inc_cond.proofs.walks.Walk.new.Goals as goal

pub returns : goal.returns
returns c ss = ap (λ fs. resumed fs (read knowns 0 None ss)) c.new.ensures ∙ sym (made_of-read knowns ss)
