use Rattle.std.proofs.Common.{◌≡◌, ◌<◌, List, All, length, is_some, inl, ap, ◌∙◌, arith}
use Rattle.std.specs.Prelude.{IsTrue}
use Rattle.inc_graph.specs.Cuts.{directives_of}
use Rattle.inc_graph.specs.IncludeGraph.{Edge}
use Rattle.inc_lookup.specs.declared.projects.DirectiveId.{DirectiveId}
use Rattle.inc_check.proofs.AcceptedCuts.{all_editable-within}
use Rattle.inc_report.specs.ChangeForms.{text_in}
use Rattle.inc_answers.specs.Changes.{Change, changes}
use Rattle.inc_answers.specs.KeptFiles.{kept_at}
use Rattle.inc_answers.specs.AnswerNotes.{empty_notes}
use Rattle.inc_answers.specs.Printed.{answered_of, end_of}
use Rattle.inc_answers.specs.declared.outcome.EndKind.TheVariants.{Answered}
use Rattle.inc_answers.proofs.CutDirectives.{directives_all, cut_rises}
use Rattle.inc_report.proofs.edits.send_smallest.Goals as goal

pub changes_of-requires-clause-within : goal.changes_of-requires-clause-within
changes_of-requires-clause-within g c =
    let graph = c.args.graph.now in
    let n = length c.args.project.now.paths in
    let same : c.deref-in-Cut.result.now ≡ directives_of graph c.in-Cut.edges.items =
    c.deref-in-Cut.ensures.value ∙ c.in_ok-directives-in-Cut.ensures ∙ ap (directives_of graph) c.deref.ensures.value in
    let inner : All (λ (e : Edge). e.from < n) graph.edges = λ k d low. (let i = c.requires.sound.inner k d low in omega (arith, i.from_within, c.requires.files)) in
    rw same (directives_all graph (λ (e : Edge). e.from < n) (λ (d : DirectiveId). d.file < n) (λ e low. low) inner c.in-Cut.edges.items)

pub changes_of-requires-clause-kept : goal.changes_of-requires-clause-kept
changes_of-requires-clause-kept g c =
    let graph = c.args.graph.now in
    let kept = c.args.files.now in
    let same : c.deref-in-Cut.result.now ≡ directives_of graph c.in-Cut.edges.items =
    c.deref-in-Cut.ensures.value ∙ c.in_ok-directives-in-Cut.ensures ∙ ap (directives_of graph) c.deref.ensures.value in
    rw same (directives_all graph (λ (e : Edge). IsTrue (is_some (kept_at kept e.from))) (λ (d : DirectiveId). IsTrue (is_some (kept_at kept d.file))) (λ e there. there) c.requires.kept c.in-Cut.edges.items)

pub changes_of-requires-clause-rising : goal.changes_of-requires-clause-rising
changes_of-requires-clause-rising g c =
    let graph = c.args.graph.now in
    let answer = rw c.in-Cut.is at c.in_ok-answer.ensures.answer in
    let same : c.deref-in-Cut.result.now ≡ directives_of graph c.in-Cut.edges.items =
    c.deref-in-Cut.ensures.value ∙ c.in_ok-directives-in-Cut.ensures ∙ ap (directives_of graph) c.deref.ensures.value in
    rw same (cut_rises graph c.requires.sound c.in-Cut.edges.items (all_editable-within graph _ c.in-Cut.edges.items answer.nearest.cheapest.separates.editable) answer.by_number)

pub returns-in-Cut-clause-sent : goal.returns-in-Cut-clause-sent
returns-in-Cut-clause-sent g c =
    let graph = c.args.graph.now in
    let answer = rw c.in-Cut.is at c.in_ok-answer.ensures.answer in
    let same : c.deref-in-Cut.result.now ≡ directives_of graph c.in-Cut.edges.items =
    c.deref-in-Cut.ensures.value ∙ c.in_ok-directives-in-Cut.ensures ∙ ap (directives_of graph) c.deref.ensures.value in
    record {
      text = (
        answered_of (empty_notes c.args.project.now graph) (text_in c.args.form c.deref-in-Cut-2.result.now),
        λ listing laid fits. inl (
          c.in-Cut.edges.items,
          answer.nearest,
          ap (λ (cs : List Change). answered_of (empty_notes c.args.project.now graph) (text_in c.args.form cs))
              (c.deref-in-Cut-2.ensures.value ∙ c.in_ok-changes-in-Cut.ensures listing laid fits ∙ ap (changes c.args.language listing) same),
        ),
        record { ends = c.noted.ensures ∙ ap (λ n. end_of n Answered) c.in_ok-notes.ensures; sent = c.send_changes.ensures },
      );
      nothing = tt;
    }
