use Rattle.std.proofs.Common.{map, rules, ◌∙◌}
use Rattle.inc_build.specs.Views.{seen_build, seen_entry, seen_row}
use Rattle.inc_build.proofs.BuildLemmas.{entry_added}
use Rattle.inc_build.proofs.builds.Build.add.Goals as goal

pub returns : goal.returns
returns c =
    c.in_ok-add_rows.ensures
    ∙ entry_added c.args.base.now c.args.number (seen_entry c.args.entry.now) (seen_build c.args.self.now) c.in_ok-directory.directory.items _ (map seen_row c.in_ok-rows.rows.items)
    (search rules) (search rules) (search rules)
