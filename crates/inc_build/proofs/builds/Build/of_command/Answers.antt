use Rattle.std.proofs.Common.{◌∙◌, map, rules}
use Rattle.inc_build.specs.Configurations.{configuration}
use Rattle.inc_build.specs.Views.{seen_build, seen_item}
use Rattle.inc_build.proofs.CommandBuilds.{item_added}
use Rattle.inc_build.proofs.builds.Build.of_command.Goals as goal

pub loop-at-preserved : goal.loop-at-preserved
loop-at-preserved c =
    let rows = configuration c.args.directory.now (map seen_item c.args.items.now) in
    let old = (seen_build c.loop-at.build).sources in
    let more = item_added seen_item c.args.directory.now rows c.args.items.now c.loop-at.at _ old (seen_build c.add_operand.new.self)
    (search rules) (c.in_ok-add_operand.ensures rows old c.loop-at.invariant.made) in
    record { low = search rules; made = more.0; rest = more.1 ∙ c.loop-at.invariant.rest }
