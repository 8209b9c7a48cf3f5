use Rattle.std.proofs.Common.{rules}
use Rattle.inc_args.specs.Views.{seen_files}
use Rattle.inc_inputs.specs.Views.{notes_in}
use Rattle.inc_inputs.proofs.WordNotes.{dirs_noted}
use Rattle.inc_inputs.proofs.dir_notes.empty_dirs.Goals as goal

pub returns : goal.returns
returns c =
    dirs_noted c.args.project.now.paths (seen_files c.args.files.now) (notes_in c.new-notes.result) (notes_in c.add_dirs.new.notes) (notes_in c.add_dirs-2.new.notes)
    (notes_in c.add_dirs-3.new.notes) (notes_in c.add_dirs-4.new.notes) c.left_after-most.result c.left_after-most-2.result c.left_after-most-3.result
    (search rules) (search rules) (search rules) (search rules) (search rules) (search rules) (search rules) (search rules)
