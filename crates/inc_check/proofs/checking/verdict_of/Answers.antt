use Rattle.std.proofs.Common.{sym, ◌∙◌}
use Rattle.inc_graph.specs.Cuts.{fixed_by, costs_by}
use Rattle.inc_graph.proofs.AmountLists.{costs_most}
use Rattle.inc_check.specs.Checking.{AreSums}
use Rattle.inc_check.proofs.ChainSumLemmas.{at_bad}
use Rattle.inc_check.proofs.CheckLemmas.{IsShown, good_cut, no_editable, mark_repeated, header_reached, no_chain, cost_exceeded, counts_differ, all_shown}
use Rattle.inc_check.proofs.CutLemmas.{known_cut, repeated_cut}
use Rattle.inc_check.proofs.checking.verdict_of.Goals as goal

pub returns-then-not-cut : goal.returns-then-not-cut
returns-then-not-cut c = λ layout k of_cut of_sums.
    no_editable layout c.args.graph.now (fixed_by c.args.fixed.now) (costs_by c.args.fixed.now) k (at_bad c.args.cut.now.editable _ _ c.if-not-cut.true of_cut)

pub returns-then-not-cut-2 : goal.returns-then-not-cut-2
returns-then-not-cut-2 c = λ layout k of_cut of_sums.
    let cut = repeated_cut layout c.args.graph.now c.args.fixed.now k c.args.cut.now c.if-not-cut.false c.if-not-cut-2.true of_cut in
    mark_repeated layout c.args.graph.now (fixed_by c.args.fixed.now) (costs_by c.args.fixed.now) k cut.0 cut.1 cut.2

pub returns-then-branch : goal.returns-then-branch
returns-then-branch c = λ layout k of_cut of_sums.
    let most = costs_most c.args.fixed.now c.edges-within.ensures.within in
    let cut = known_cut layout c.args.graph.now c.args.fixed.now k c.args.cut.now most c.files-sound.ensures.sound.sized c.if-not-cut.false c.if-not-cut-2.false of_cut in
    header_reached layout c.args.graph.now (fixed_by c.args.fixed.now) (costs_by c.args.fixed.now) k cut.edges c.args.cut.now.flags.items cut.set (rw c.deref.ensures.value at (rw c.if-branch.true at c.in_ok-is_header_reached.ensures))

pub returns-in_default : goal.returns-in_default
returns-in_default c = λ layout k of_cut of_sums.
    let most = costs_most c.args.fixed.now c.edges-within.ensures.within in
    let cut = known_cut layout c.args.graph.now c.args.fixed.now k c.args.cut.now most c.files-sound.ensures.sound.sized c.if-not-cut.false c.if-not-cut-2.false of_cut in
    let good = good_cut layout c.args.graph.now (fixed_by c.args.fixed.now) (costs_by c.args.fixed.now) k cut.edges c.deref.result.now c.args.cut.now.flags.items c.deref.ensures.value cut.set (rw c.if-branch.false at c.in_ok-is_header_reached.ensures) in
    no_chain layout c.args.graph.now (fixed_by c.args.fixed.now) (costs_by c.args.fixed.now) k cut.edges c.args.cut.now.flags.items good (rw c.in_default.is at of_sums)

pub returns-then-is_any_over : goal.returns-then-is_any_over
returns-then-is_any_over c = λ layout k of_cut of_sums.
    let most = costs_most c.args.fixed.now c.edges-within.ensures.within in
    let cut = known_cut layout c.args.graph.now c.args.fixed.now k c.args.cut.now most c.files-sound.ensures.sound.sized c.if-not-cut.false c.if-not-cut-2.false of_cut in
    let good = good_cut layout c.args.graph.now (fixed_by c.args.fixed.now) (costs_by c.args.fixed.now) k cut.edges c.deref.result.now c.args.cut.now.flags.items c.deref.ensures.value cut.set (rw c.if-branch.false at c.in_ok-is_header_reached.ensures) in
    let chains : AreSums layout c.args.graph.now k.chains c.in-Some.sums.through c.in-Some.sums.total = rw c.in-Some.is at of_sums in
    cost_exceeded layout c.args.graph.now (fixed_by c.args.fixed.now) (costs_by c.args.fixed.now) k cut.edges c.args.cut.now.flags.items c.in-Some.sums.through c.in-Some.sums.total good chains
    (rw c.if-is_any_over.true at c.is_any_over.ensures)

pub returns-then-sums-cut : goal.returns-then-sums-cut
returns-then-sums-cut c = λ layout k of_cut of_sums.
    let most = costs_most c.args.fixed.now c.edges-within.ensures.within in
    let cut = known_cut layout c.args.graph.now c.args.fixed.now k c.args.cut.now most c.files-sound.ensures.sound.sized c.if-not-cut.false c.if-not-cut-2.false of_cut in
    let good = good_cut layout c.args.graph.now (fixed_by c.args.fixed.now) (costs_by c.args.fixed.now) k cut.edges c.deref.result.now c.args.cut.now.flags.items c.deref.ensures.value cut.set (rw c.if-branch.false at c.in_ok-is_header_reached.ensures) in
    let chains : AreSums layout c.args.graph.now k.chains c.in-Some.sums.through c.in-Some.sums.total = rw c.in-Some.is at of_sums in
    let shown : IsShown layout c.args.graph.now (fixed_by c.args.fixed.now) (costs_by c.args.fixed.now) k cut.edges c.args.cut.now.flags.items c.in-Some.sums.through c.in-Some.sums.total = record {
      good = good;
      sums = chains;
      few = most;
      within = rw c.if-is_any_over.false at c.is_any_over.ensures;
    } in
    counts_differ layout c.args.graph.now (fixed_by c.args.fixed.now) (costs_by c.args.fixed.now) k cut.edges c.args.cut.now.flags.items c.in-Some.sums.through c.in-Some.sums.total shown cut.low (λ same. c.if-sums-cut.true (same ∙ sym cut.cost))

pub returns : goal.returns
returns c = λ layout k of_cut of_sums.
    let most = costs_most c.args.fixed.now c.edges-within.ensures.within in
    let cut = known_cut layout c.args.graph.now c.args.fixed.now k c.args.cut.now most c.files-sound.ensures.sound.sized c.if-not-cut.false c.if-not-cut-2.false of_cut in
    let good = good_cut layout c.args.graph.now (fixed_by c.args.fixed.now) (costs_by c.args.fixed.now) k cut.edges c.deref.result.now c.args.cut.now.flags.items c.deref.ensures.value cut.set (rw c.if-branch.false at c.in_ok-is_header_reached.ensures) in
    let chains : AreSums layout c.args.graph.now k.chains c.in-Some.sums.through c.in-Some.sums.total = rw c.in-Some.is at of_sums in
    let shown : IsShown layout c.args.graph.now (fixed_by c.args.fixed.now) (costs_by c.args.fixed.now) k cut.edges c.args.cut.now.flags.items c.in-Some.sums.through c.in-Some.sums.total = record {
      good = good;
      sums = chains;
      few = most;
      within = rw c.if-is_any_over.false at c.is_any_over.ensures;
    } in
    all_shown layout c.args.graph.now (fixed_by c.args.fixed.now) (costs_by c.args.fixed.now) k cut.edges c.args.cut.now.flags.items c.in-Some.sums.through c.in-Some.sums.total shown cut.low (c.if-sums-cut.false ∙ cut.cost)
