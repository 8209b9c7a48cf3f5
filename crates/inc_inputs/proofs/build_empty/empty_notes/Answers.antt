use Rattle.std.proofs.Common.{map, rules}
use Rattle.inc_inputs.specs.Views.{dirs_in, notes_in}
use Rattle.inc_inputs.proofs.ProjectLemmas.{paths_noted}
use Rattle.inc_inputs.proofs.build_empty.empty_notes.Goals as goal

pub returns : goal.returns
returns c =
    paths_noted c.args.found.now (dirs_in c.args.own.now) (map dirs_in c.args.others.now) (notes_in c.new-empty.result.notes) (notes_in c.add_path.new.self.notes)
    (notes_in c.add_paths.new.self.notes) c.new-empty.result.known.keys c.add_path.new.self.known.keys
    (search rules) (search rules) (search rules) (search rules) (search rules)
