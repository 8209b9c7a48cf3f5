use Rattle.std.proofs.Common.{◌≡◌, ◌<◌, ◌∙◌, List, suc, true, ap, length, map, subst, sym}
use Rattle.std.specs.List.{All}
use Rattle.inc_graph.specs.IncludeGraph.{are_rising}
use Rattle.inc_graph.specs.declared.building.Source.{Source}
use Rattle.inc_answers.specs.NamedFiles.{sources_of}
use Rattle.inc_answers.specs.Terms.{Question}
use Rattle.inc_answers.proofs.SourcePaths.{none_as_seen, some_sources, sources_paths, sources_rise, sources_within}
use Rattle.inc_answers.proofs.named_files.sources_at.Goals as goal

pub returns-in_ok-sources_of-in-Ok-clause-within : goal.returns-in_ok-sources_of-in-Ok-clause-within
returns-in_ok-sources_of-in-Ok-clause-within c =
    subst (λ (ss : List Source). All (λ (s : Source). s.file < length c.args.project.now.paths) ss) (sym (c.in_ok-sources_of-in-Ok.ensures ∙ ap (sources_of c.args.question.now) c.deref.ensures.value))
    (sources_within c.args.question.now (length c.args.project.now.paths) c.in-Ok.files.items c.in-Ok.ensures.within)

pub returns-in_ok-sources_of-in-Ok-clause-paths : goal.returns-in_ok-sources_of-in-Ok-clause-paths
returns-in_ok-sources_of-in-Ok-clause-paths c =
    subst (λ (ss : List Source). All (λ (s : Source). s.path < suc (length c.args.question.now.others)) ss) (sym (c.in_ok-sources_of-in-Ok.ensures ∙ ap (sources_of c.args.question.now) c.deref.ensures.value))
    (sources_paths c.args.question.now c.in-Ok.files.items)

pub returns-in_ok-sources_of-in-Ok-clause-rise : goal.returns-in_ok-sources_of-in-Ok-clause-rise
returns-in_ok-sources_of-in-Ok-clause-rise c =
    subst (λ (ss : List Source). are_rising ss ≡ true) (sym (c.in_ok-sources_of-in-Ok.ensures ∙ ap (sources_of c.args.question.now) c.deref.ensures.value))
    (sources_rise c.args.question.now c.in-Ok.files.items c.in-Ok.ensures.rise)

pub returns-in_ok-sources_of-in-Ok-clause-some : goal.returns-in_ok-sources_of-in-Ok-clause-some
returns-in_ok-sources_of-in-Ok-clause-some c none =
    subst (λ (ss : List Source). 0 < length ss) (sym (c.in_ok-sources_of-in-Ok.ensures ∙ ap (sources_of c.args.question.now) c.deref.ensures.value))
    (some_sources c.args.question.now c.in-Ok.files.items (c.in-Ok.ensures.some (none_as_seen (λ ps. map (λ p. p.now) ps.now) c.question.inside.to (ap (λ (q : Question). q.to) c.question.view_is ∙ none))))
