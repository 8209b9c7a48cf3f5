use Rattle.std.proofs.Common.{rules}
use Rattle.inc_rules.proofs.JudgeLemmas.{leaving_within}
use Rattle.inc_rules.proofs.direct_rules.push_across.Goals as goal

pub returns : goal.returns
returns c layout r are =
    let within = leaving_within c.args.graph.now c.args.file c.files-files.ensures.sound in
    search rules
