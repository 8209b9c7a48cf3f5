use Rattle.std.proofs.Common.{◌≡◌, ◌<◌, Bool, false, length, replicate, true, ap, ◌∙◌, subst, arith, length-set, rules}
use Rattle.std.proofs.lemmas.List.{length-replicate, take_all}
use Rattle.inc_graph.specs.FileSets.{AreFlags}
use Rattle.inc_graph.proofs.Members.{flags_none, flags_more}
use Rattle.inc_answers.proofs.cost_groups.flags_of.Goals as goal

pub loop-file-init : goal.loop-file-init
loop-file-init c =
    let none : c.in_ok-flags.flags.items ≡ replicate c.args.count false = c.in_ok-flags.ensures.items_if_clones_equal (search rules) in
    (flags_none c.args.count c.in_ok-flags.flags.items none, ap (λ l. length l) none ∙ length-replicate {A = Bool} c.args.count false)

pub loop-file-preserved : goal.loop-file-preserved
loop-file-preserved c =
    let low = c.requires c.loop-file.file-index c.file-item.result c.loop-file-test.true in
    let within : c.file-item.result < length c.loop-file.flags.items = omega (arith, low, c.file-item.is, c.loop-file.invariant.1) in
    rw c.index.ensures (
      flags_more c.args.files.now c.loop-file.file-index c.file-item.result c.loop-file.flags.items c.loop-file-test.true c.file-item.is within c.loop-file.invariant.0,
      length-set c.loop-file.flags.items c.file-item.result true ∙ c.loop-file.invariant.1,
    )

pub returns-clause-flags : goal.returns-clause-flags
returns-clause-flags c = subst (λ l. AreFlags l c.loop-file.flags.items) (take_all c.loop-file.file-index c.args.files.now (omega arith)) c.loop-file.invariant.0
