use Rattle.std.proofs.Common.{◌≡◌, Ok, Err, refl}
use Rattle.inc_lookup.proofs.GivenLemmas.{given_all}
use Rattle.inc_answers.specs.Terms.{setting_in}
use Rattle.inc_answers.proofs.QuestionLemmas.{of_files, files_of_graph}
use Rattle.inc_answers.proofs.WritingLemmas.{is_of_files}
use Rattle.inc_answers.proofs.questions.graph_of_ends.Goals as goal

pub returns-in-Ok-clause-graph : goal.returns-in-Ok-clause-graph
returns-in-Ok-clause-graph g c p =
    given_all c.in-Ok.ensures.graph (λ given listing laid holds.
    of_files c.args.question.now c.args.project.now p listing laid (λ l h q. h ≡ c.in-Ok.graph) given c.args.ends.now.from.items c.args.ends.now.to.items (Ok c.in-Ok.graph)
    c.requires.from c.requires.to holds.0 refl holds.1)

pub returns-in-Ok-clause-known : goal.returns-in-Ok-clause-known
returns-in-Ok-clause-known g c = record {
  once = c.know.ensures.once;
  sound = c.know.ensures.sound;
  files = files_of_graph _ _ _ c.args.project.now (setting_in c.args.project.now c.args.question.now) c.args.ends.now.from.items c.args.ends.now.to.items c.in-Ok.graph c.in-Ok.ensures.graph;
}

pub returns-in-Err-clause-stopped : goal.returns-in-Err-clause-stopped
returns-in-Err-clause-stopped g c p is =
    given_all (c.in-Err.ensures.refusal (is_of_files c.args.project.now c.in-Err.fault p is)) (λ given listing laid holds.
    of_files c.args.question.now c.args.project.now p listing laid (λ l h q. ⊥) given c.args.ends.now.from.items c.args.ends.now.to.items (Err c.in-Err.fault)
    c.requires.from c.requires.to holds.0 is holds.1)
