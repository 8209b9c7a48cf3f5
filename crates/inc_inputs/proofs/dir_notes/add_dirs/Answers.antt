use Rattle.std.proofs.Common.{◌∙◌, ℕ, List, ap, map, sym}
use Rattle.std.proofs.lemmas.List.{take-map}
use Rattle.std.specs.Borrow.{Bor}
use Rattle.std.specs.Prelude.{flat_map}
use Rattle.inc_inputs.specs.BuildNotes.{with_lines}
use Rattle.inc_inputs.specs.DirNotes.{dir_line}
use Rattle.inc_inputs.specs.Views.{notes_in}
use Rattle.inc_inputs.proofs.dir_notes.add_dirs.Goals as goal

pub returns : goal.returns
returns c =
    c.in_ok-add_words.ensures
    ∙ ap (λ (ls : List (List ℕ)). with_lines (notes_in c.args.notes.now) (flat_map (dir_line c.args.project.now.paths c.args.option.now) ls))
    (ap (λ (ws : List (Bor (List ℕ))). map (λ w. w.now) ws) c.first_words.ensures ∙ sym (take-map (λ (w : Bor (List ℕ)). w.now) c.args.most c.args.words.now))
