use Rattle.std.proofs.Common.{◌++◌, ◌∷◌, [], ap, ◌∙◌, rules}
use Rattle.inc_check.specs.declared.certificates.ChainPart.{ChainPart}
use Rattle.inc_check.proofs.ChainListLemmas.{chains_pushed}
use Rattle.inc_check.proofs.certificates.Chains.push.Goals as goal

pub returns-clause-pushed : goal.returns-clause-pushed
returns-clause-pushed c =
    let p : ChainPart = record { begin = c.in-Ok-try_from.begin; len = c.in-Ok.len; count = c.args.count } in
    rw (← c.self.view_is) (chains_pushed c.self.inside.marks.items c.args.marks.now.items c.append.new.self.items c.self.inside.parts.items c.push_reserved.new.self.items p
    c.self.invariant c.in_ok-append.ensures.items (c.push_reserved.ensures.items ∙ ap (λ ps. ps ++ p ∷ []) c.reserve.ensures.items) (search rules) (search rules))
