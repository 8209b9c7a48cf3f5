use Rattle.std.proofs.Common.{◌≡◌, rules, Some, true}
use Rattle.inc_pp.specs.Walks.{held_at}
use Rattle.inc_pp.proofs.walks.is_skipped.Goals as goal

pub returns-in-Some : goal.returns-in-Some
returns-in-Some c = λ guarded.
    let here : held_at c.args.files.now c.args.file ≡ Some c.in-Some.held.now = search rules in
    let none : c.none_poisoned.result ≡ true = search rules in
    (c.in-Some.held.now, here, c.is_guarded.ensures guarded, c.none_poisoned.ensures none)
