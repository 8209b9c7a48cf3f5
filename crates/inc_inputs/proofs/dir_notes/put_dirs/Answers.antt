use Rattle.std.proofs.Common.{◌∙◌, ◌++◌, ℕ, List, ap}
use Rattle.inc_args.specs.Views.{seen_files}
use Rattle.inc_inputs.specs.BuildNotes.{whole}
use Rattle.inc_inputs.specs.DirNotes.{all_dir_lines}
use Rattle.inc_inputs.proofs.NoteLemmas.{whole_some}
use Rattle.inc_inputs.proofs.dir_notes.put_dirs.Goals as goal

pub returns : goal.returns
returns c =
    c.in_ok-put.ensures
    ∙ ap (λ (t : List ℕ). c.args.notes.now.items ++ t) (ap whole c.in_ok-empty.ensures ∙ whole_some (all_dir_lines c.args.project.now.paths (seen_files c.args.files.now)))
