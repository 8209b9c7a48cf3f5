use Rattle.std.proofs.Common.{drop, rules, refl}
use Rattle.std.proofs.lemmas.List.{take_rest}
use Rattle.inc_build.proofs.PathLemmas.{cut_first, cut_none, cut_taken, Continues-more, Continues-last}
use Rattle.inc_build.proofs.paths.push_components.Goals as goal

pub loop-slash-init : goal.loop-slash-init
loop-slash-init c = record { within = search rules; continues = λ parts shows. (parts, shows, refl) }

pub push_component-requires : goal.push_component-requires
push_component-requires c =
    let cut = cut_first c.args.path.now c.loop-slash.at c.in-Some.slash (rw take_rest at c.in-Some.ensures) in
    rw (cut_taken c.loop-slash.at c.in-Some.slash) cut.1

pub loop-slash-preserved : goal.loop-slash-preserved
loop-slash-preserved c =
    let cut = cut_first c.args.path.now c.loop-slash.at c.in-Some.slash (rw take_rest at c.in-Some.ensures) in
    let step = rw (cut_taken c.loop-slash.at c.in-Some.slash) at c.in_ok-push_component.ensures in
    record {
      within = cut.2;
      continues = Continues-more c.args.path.now c.args.out.now.items _ _ _ _ _ c.loop-slash.invariant.continues cut.0 cut.1 step;
    }

pub push_component-requires-2 : goal.push_component-requires-2
push_component-requires-2 c = rw take_rest (cut_none c.args.path.now c.loop-slash.at (rw take_rest at c.in_default.ensures))

pub returns : goal.returns
returns c =
    let bare = cut_none c.args.path.now c.loop-slash.at (rw take_rest at c.in_default.ensures) in
    let step = rw take_rest at c.in_ok-push_component-2.ensures in
    Continues-last c.args.path.now c.args.out.now.items (drop c.loop-slash.at c.args.path.now) _ _ c.loop-slash.invariant.continues bare step
