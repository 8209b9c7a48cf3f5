use Rattle.std.proofs.lemmas.List.{take_rest}
use Rattle.inc_pp.proofs.Prints.{within, rest-kept}
use Rattle.inc_pp.proofs.output.OutTokens.next.Goals as goal

pub text_behind-self-inside-requires : goal.text_behind-self-inside-requires
text_behind-self-inside-requires c = rw c.len-len.ensures (within _ _ _ c.in-len1-up.len_at_least c.self.invariant)

pub invariant_of-self : goal.invariant_of-self
invariant_of-self c =
    rw (take_rest c.self.inside.labels.now 1, c.text_behind-self-inside.ensures, c.len-len.ensures) (rest-kept _ _ _ c.in-len1-up.len_at_least c.self.invariant)
