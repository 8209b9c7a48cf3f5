use Rattle.std.proofs.Common.{rules}
use Rattle.inc_inputs.specs.Views.{dirs_in, notes_in}
use Rattle.inc_inputs.proofs.ProjectLemmas.{path_noted}
use Rattle.inc_inputs.proofs.build_empty.Empty.add_path.Goals as goal

pub returns-clause-notes : goal.returns-clause-notes
returns-clause-notes c =
    path_noted c.args.found.now (dirs_in c.args.dirs.now) (notes_in c.args.self.now.notes) (notes_in c.add_all.new.self.notes)
    (notes_in c.add_all-2.new.self.notes) (notes_in c.add_all-3.new.self.notes) (notes_in c.add_all-4.new.self.notes)
    c.args.self.now.known.keys c.add_all.new.self.known.keys c.add_all-2.new.self.known.keys c.add_all-3.new.self.known.keys
    (search rules) (search rules) (search rules) (search rules) (search rules) (search rules) (search rules)
