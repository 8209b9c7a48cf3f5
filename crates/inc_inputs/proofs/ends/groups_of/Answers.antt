use Rattle.std.proofs.Common.{◌≡◌, ◌+◌, Err, ap, map, subst, sym}
use Rattle.inc_inputs.specs.Ends.{groups_of}
use Rattle.inc_inputs.specs.Reports.{report_of}
use Rattle.inc_inputs.proofs.GroupWords.{group_fault, group_more, rest, with_groups}
use Rattle.inc_inputs.proofs.ends.groups_of.Goals as goal

pub returns-in-Err : goal.returns-in-Err
returns-in-Err c not =
    group_fault (λ w. w.now) c.args.project.now c.args.words.now c.loop-word.word-index _ c.loop-word-test.true c.loop-word.groups.items _
    (report_of c.in-Err.failure) (c.in-Err.ensures.fault (λ same. not (ap Err same))) c.loop-word.invariant

pub loop-word-preserved : goal.loop-word-preserved
loop-word-preserved c =
    let all = groups_of c.args.project.now (map (λ w. w.now) c.args.words.now) in
    subst (λ xs. with_groups xs (rest (λ w. w.now) c.args.project.now c.args.words.now (c.loop-word.word-index + 1)) ≡ all) (sym c.in-Ok.ensures.added.2)
    (group_more (λ w. w.now) c.args.project.now c.args.words.now c.loop-word.word-index _ c.loop-word-test.true c.loop-word.groups.items
    c.in-Ok.ensures.added.0 all c.in-Ok.ensures.added.1 c.loop-word.invariant)
