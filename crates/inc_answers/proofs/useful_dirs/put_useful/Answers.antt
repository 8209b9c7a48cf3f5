use Rattle.std.proofs.Common.{◌≡◌, ◌∙◌, ◌++◌, ℕ, List, [], OnOk, ap, subst}
use Rattle.inc_answers.specs.MissingNotes.{best_lines}
use Rattle.inc_answers.specs.UsefulDirs.{Best, best_of, none, with_files}
use Rattle.inc_answers.proofs.useful_dirs.put_useful.Goals as goal

pub returns : goal.returns
returns c =
    let paths = c.args.project.now.paths in
    let counts = c.in_ok-counts.ensures ∙ ap (λ (ns : List (List ℕ)). with_files ns [] paths) c.in_ok-names.ensures in
    subst (λ (b : Best). OnOk c.put_best.result (c.put_best.new.text.items ≡ c.args.text.now.items ++ best_lines b))
    (c.best_of.ensures ∙ ap (λ (ds : List (List ℕ × ℕ)). best_of none ds) counts) c.put_best.ensures
