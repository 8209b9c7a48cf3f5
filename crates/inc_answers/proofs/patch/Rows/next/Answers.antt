use Rattle.std.proofs.Common.{rules, ◌≡◌, length}
use Rattle.inc_answers.proofs.PatchLemmas.{no_rows}
use Rattle.inc_answers.proofs.patch.Rows.next.Goals as goal

pub returns-then-is_empty-2-clause-end : goal.returns-then-is_empty-2-clause-end
returns-then-is_empty-2-clause-end c =
    let none : length c.self.inside.after.now ≡ 0 = search rules in
    rw (← c.self.view_is) (no_rows c.self.inside.before.now c.self.inside.after.now none)
