use Rattle.std.proofs.Common.{◌≡◌, rules, subst, sym}
use Rattle.std.specs.List.{AllByRecursion}
use Rattle.inc_macro.specs.Tables.{IsNamed, Stacks, stack_of}
use Rattle.inc_macro.proofs.stacks.Stacks.take.Goals as goal

pub returns-clause-named : goal.returns-clause-named
returns-clause-named c =
    let name = c.args.name.now in
    let is : c.match-swap_remove.result ≡ stack_of c.args.self.now name = search rules in
    subst (AllByRecursion (IsNamed name)) (sym is)
    (subst (λ (s : Stacks). AllByRecursion (IsNamed name) (stack_of s name)) c.self.view_is (c.self.invariant name))
