use Rattle.std.proofs.Common.{sym, ◌∙◌, rules}
use Rattle.inc_lookup.proofs.ReducedLemmas.{plain_reduced, plain_relative}
use Rattle.inc_lookup.proofs.projects.Project.find_in.Goals as goal

pub returns-then-is_plain-clause-found : goal.returns-then-is_plain-clause-found
returns-then-is_plain-clause-found c =
    let plain = sym c.is_plain.ensures ∙ c.if-is_plain.true in
    let reduced = plain_reduced c.args.name.now plain in
    let relative = plain_relative c.args.name.now plain in
    search rules
