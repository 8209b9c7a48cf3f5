use Rattle.std.proofs.Common.{◌≡◌, ◌∙◌, ◌+◌, ◌++◌, ◌∷◌, [], ℕ, List, ap, map, sym, arith}
use Rattle.std.specs.List.{range_with_len}
use Rattle.inc_graph.specs.declared.building.Source.{Source}
use Rattle.inc_answers.specs.NamedFiles.{source_of}
use Rattle.inc_answers.proofs.NameLemmas.{range_more}
use Rattle.inc_answers.proofs.SourcePaths.{one_more}
use Rattle.inc_answers.proofs.named_files.add_each.Goals as goal

pub loop-path-preserved : goal.loop-path-preserved
loop-path-preserved c =
    c.in_ok-push.ensures.items ∙ one_more c.loop-path.sources.items c.args.sources.now.items c.args.file c.loop-path.path c.loop-path.invariant
