use Rattle.std.proofs.Common.{◌∙◌, ◌++◌, ◌∷◌, [], ℕ, List, ap, map}
use Rattle.inc_inputs.specs.BuildNotes.{whole}
use Rattle.inc_inputs.specs.BuildProjects.{all_empty}
use Rattle.inc_inputs.specs.Views.{dirs_in}
use Rattle.inc_inputs.proofs.NoteLemmas.{whole_some}
use Rattle.inc_inputs.proofs.build_empty.put_empty.Goals as goal

pub returns : goal.returns
returns c =
    c.in_ok-put.ensures
    ∙ ap (λ (t : List ℕ). c.args.notes.now.items ++ t) (ap whole c.in_ok-empty.ensures ∙ whole_some (all_empty c.args.found.now [] (dirs_in c.args.own.now ∷ map dirs_in c.args.others.now)))
