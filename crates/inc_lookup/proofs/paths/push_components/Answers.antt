use Rattle.std.proofs.Common.{◌≡◌, true, false, drop, rules}
use Rattle.std.proofs.lemmas.List.{take_rest}
use Rattle.std.proofs.lemmas.Result.{IfOk-weaker}
use Rattle.inc_lookup.proofs.PathLemmas.{cut_first, cut_none, cut_taken, Continues-more, Continues-climbs, Continues-last}
use Rattle.inc_lookup.proofs.paths.push_components.Goals as goal

pub push_component-requires : goal.push_component-requires
push_component-requires c =
    let cut = cut_first c.args.path.now c.loop-slash.at c.in-Some.slash (rw take_rest at c.in-Some.ensures) in
    rw (cut_taken c.loop-slash.at c.in-Some.slash) cut.1

pub returns-then-not-branch : goal.returns-then-not-branch
returns-then-not-branch c =
    let cut = cut_first c.args.path.now c.loop-slash.at c.in-Some.slash (rw take_rest at c.in-Some.ensures) in
    let fits : c.in_ok-push_component.field-0 ≡ false = search rules in
    let step = rw (fits, cut_taken c.loop-slash.at c.in-Some.slash) at c.in_ok-push_component.ensures.shows in
    Continues-climbs c.args.root c.args.path.now c.args.out.now.items _ _ _ _ _ c.loop-slash.invariant.continues cut.0 cut.1 step

pub loop-slash-preserved : goal.loop-slash-preserved
loop-slash-preserved c =
    let cut = cut_first c.args.path.now c.loop-slash.at c.in-Some.slash (rw take_rest at c.in-Some.ensures) in
    let fits : c.in_ok-push_component.field-0 ≡ true = search rules in
    let step = rw (fits, cut_taken c.loop-slash.at c.in-Some.slash) at c.in_ok-push_component.ensures.shows in
    record {
      within = cut.2;
      continues = Continues-more c.args.root c.args.path.now c.args.out.now.items _ _ _ _ _ c.loop-slash.invariant.continues cut.0 cut.1 step;
    }

pub push_component-requires-2 : goal.push_component-requires-2
push_component-requires-2 c = rw take_rest (cut_none c.args.path.now c.loop-slash.at (rw take_rest at c.in_default.ensures))

pub returns : goal.returns
returns c =
    let bare = cut_none c.args.path.now c.loop-slash.at (rw take_rest at c.in_default.ensures) in
    let step = rw take_rest at c.push_component-2.ensures.shows in
    IfOk-weaker c.push_component-2.result _ _ (λ fits told. Continues-last c.args.root c.args.path.now c.args.out.now.items (drop c.loop-slash.at c.args.path.now) _ _ fits c.loop-slash.invariant.continues bare told) step
