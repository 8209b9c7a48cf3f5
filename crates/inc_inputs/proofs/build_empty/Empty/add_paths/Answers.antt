use Rattle.std.proofs.Common.{◌∙◌, rules}
use Rattle.inc_inputs.specs.Views.{dirs_in, notes_in}
use Rattle.inc_inputs.proofs.ProjectLemmas.{paths_more}
use Rattle.inc_inputs.proofs.build_empty.Empty.add_paths.Goals as goal

pub loop-at-preserved : goal.loop-at-preserved
loop-at-preserved c = (
  search rules,
  paths_more dirs_in c.args.found.now c.args.paths.now c.loop-at.at c.index-paths-at.result (notes_in c.loop-at.self.notes) (notes_in c.add_path.new.self.notes)
      c.loop-at.self.known.keys c.add_path.new.self.known.keys (search rules) (search rules) c.in_ok-add_path.ensures.notes c.in_ok-add_path.ensures.known
      ∙ c.loop-at.invariant.1,
)
