use Rattle.std.proofs.Common.{◌+◌, [], take, drop, arith}
use Rattle.std.proofs.lemmas.List.{take_rest}
use Rattle.inc_lookup.specs.Paths.{components}
use Rattle.inc_lookup.proofs.PathLemmas.{cut_first, cut_none, cut_taken, components-cut, components_one}
use Rattle.inc_lookup.proofs.ReducedLemmas.{reduced_start}
use Rattle.inc_lookup.proofs.header_names.Reduction.new.Goals as goal

pub loop-slash-init : goal.loop-slash-init
loop-slash-init c = record {
  within = omega arith;
  few = omega arith;
  so_far = reduced_start (components c.args.name.now) c.new.result.items c.new.ensures.items;
}

pub add-requires-clause-bare : goal.add-requires-clause-bare
add-requires-clause-bare c =
    let cut = cut_first c.args.name.now c.loop-slash.at c.in-Some.slash (rw take_rest at c.in-Some.ensures) in
    rw (cut_taken c.loop-slash.at c.in-Some.slash) cut.1

pub loop-slash-preserved : goal.loop-slash-preserved
loop-slash-preserved c =
    let name = c.args.name.now in
    let at = c.loop-slash.at in
    let slash = c.in-Some.slash in
    let cut = cut_first name at slash (rw take_rest at c.in-Some.ensures) in
    let step = rw (cut_taken at slash) at c.in_ok-add.ensures.goes_on in
    let before = rw (components-cut (drop at name) (take slash (drop at name)) (drop (at + (slash + 1)) name) cut.0 cut.1) at c.loop-slash.invariant.so_far in
    record {
      within = cut.2;
      few = omega (arith, c.in_ok-add.ensures.climbs, c.loop-slash.invariant.few);
      so_far = step (components name) (components (drop (at + (slash + 1)) name)) before;
    }

pub add-requires-2-clause-bare : goal.add-requires-2-clause-bare
add-requires-2-clause-bare c = rw take_rest (cut_none c.args.name.now c.loop-slash.at (rw take_rest at c.in_default.ensures))

pub returns : goal.returns
returns c =
    let name = c.args.name.now in
    let at = c.loop-slash.at in
    let bare = cut_none name at (rw take_rest at c.in_default.ensures) in
    let before = rw (components_one (drop at name) bare) at c.loop-slash.invariant.so_far in
    let step = rw take_rest at c.in_ok-add-2.ensures.goes_on in
    step (components name) [] before
