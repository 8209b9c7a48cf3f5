use Rattle.std.proofs.Common.{◌≡◌, List, ap, map, rules, ◌∙◌}
use Rattle.inc_args.specs.Views.{seen_files}
use Rattle.inc_build.specs.Configurations.{Row}
use Rattle.inc_build.specs.Views.{seen_row}
use Rattle.inc_inputs.specs.BuildProjects.{added_by, all_dirs, compiled_of, macros_of, other_dirs, rows_at, used_paths}
use Rattle.inc_inputs.specs.Views.{added_in, chosen_in, dirs_in, ground_in, macro_of}
use Rattle.inc_inputs.proofs.ProjectLemmas.{project_made}
use Rattle.inc_inputs.proofs.build_projects.made_project.Goals as goal

pub returns : goal.returns
returns c =
    let g = ground_in c.args.ground.now in
    let words = seen_files c.args.files.now in
    let chosen = chosen_in c.args.choice in
    let files = c.args.found.now in
    let own = dirs_in c.in_ok-dirs.dirs in
    let used = c.in_ok-used.used.keys in
    let rows : map seen_row c.rows_at.result.now ≡ rows_at g.build chosen.uses = search rules in
    let dirs : own ≡ all_dirs g (map seen_row c.rows_at.result.now) words = search rules in
    let numbers : used ≡ used_paths chosen.uses = search rules in
    let macros : map macro_of c.in_ok-macros.macros.items ≡ macros_of g chosen.uses = search rules in
    let added : added_in c.in_ok-added.added ≡ added_by g files chosen own (other_dirs g words used) (compiled_of g used) = search rules in
    project_made g files (map (λ h. h.now) c.args.headers.now) words chosen own used
    c.in_ok-list.list.items (map (λ h. h.items) c.in_ok-headers.headers.items) (map macro_of c.in_ok-macros.macros.items) (added_in c.in_ok-added.added)
    (dirs ∙ ap (λ (rs : List Row). all_dirs g rs words) rows) numbers c.in_ok-list.ensures c.in_ok-headers.ensures macros added
