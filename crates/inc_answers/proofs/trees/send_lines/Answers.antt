use Rattle.std.proofs.Common.{◌∙◌, ap, refl}
use Rattle.inc_answers.specs.Printed.{answered_of, end_of}
use Rattle.inc_answers.specs.TreeText.{tree_text}
use Rattle.inc_answers.specs.declared.outcome.EndKind.TheVariants.{Answered}
use Rattle.inc_answers.proofs.trees.send_lines.Goals as goal

pub returns-clause-sent : goal.returns-clause-sent
returns-clause-sent g c =
    record {
      text = (
        answered_of _ _,
        (_, (c.in_ok-total.total, c.in_ok-total.ensures, ap (tree_text c.args.project.now c.args.graph.now c.in_ok-total.total) c.in_ok-branches.ensures.branches), refl),
        record { ends = c.noted.ensures ∙ ap (λ n. end_of n Answered) c.in_ok-notes.ensures; sent = rw c.deref.ensures.value at c.send_tree.ensures },
      );
      nothing = tt;
    }
