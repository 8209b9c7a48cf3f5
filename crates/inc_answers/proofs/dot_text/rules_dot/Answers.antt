use Rattle.std.proofs.Common.{◌++◌, None, Some, [], map}
use Rattle.std.specs.List.{concat}
use Rattle.inc_answers.specs.RulesDocument.{all_chains}
use Rattle.inc_answers.proofs.DotLemmas.{drawn_as, flags_empty}
use Rattle.inc_rules.specs.Views.{seen_judged}
use Rattle.inc_answers.proofs.dot_text.rules_dot.Goals as goal

pub returns : goal.returns
returns c =
    drawn_as c.dot_text.result c.args.subject.project.now c.args.subject.graph.now c.deref.result.now [] (concat (all_chains (map seen_judged c.args.judged.now))) [] None
    (rw c.deref.ensures.value c.in_ok-flags.ensures) flags_empty c.dot_text.ensures
