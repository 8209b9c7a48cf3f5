use Rattle.std.proofs.Common.{◌+◌, ◌∙◌, ap, drop, map}
use Rattle.inc_build.specs.Views.{seen_row, seen_rows}
use Rattle.inc_inputs.specs.BuildPaths.{common_of}
use Rattle.inc_inputs.specs.BuildProjects.{own_paths, own_rows}
use Rattle.inc_inputs.proofs.GroundLemmas.{rows_more}
use Rattle.inc_inputs.proofs.build_grounds.narrow_by_configurations.Goals as goal

pub loop-rows-preserved : goal.loop-rows-preserved
loop-rows-preserved c =
    let rest = own_paths (map seen_rows (drop (c.loop-rows.rows-index + 1) c.args.configurations.now)) in
    ap (λ r. common_of r rest) (c.in_ok-narrow_by_rows.ensures ∙ ap (λ rows. common_of c.loop-rows.root.items (own_rows (map seen_row rows))) (c.deref.ensures.value ∙ ap (λ v. v.items) c.rows-item.is))
    ∙ rows_more seen_rows c.loop-rows.root.items c.args.configurations.now c.loop-rows.rows-index _ c.loop-rows-test.true ∙ c.loop-rows.invariant
