use Rattle.std.proofs.Common.{◌≡◌, ◌∙◌, Ok, Err, List, IfOk, IfErr, ap, map, subst, ℕ}
use Rattle.inc_graph.specs.declared.building.Source.{Source}
use Rattle.inc_lookup.specs.Given.{HoldsOfGiven}
use Rattle.inc_lookup.specs.declared.projects.DirectiveId.{DirectiveId}
use Rattle.inc_graph.specs.IncludeGraph.{IsGraphAnswer}
use Rattle.inc_graph.specs.ReadFiles.{IsOfClosure, IsOfFiles}
use Rattle.inc_graph.specs.Settings.{Setting, setting_of, with_paths}
use Rattle.inc_answers.proofs.questions.graph_between.Goals as goal

-- what holds of lists and a setting holds of those that are equal to them
of_parts : (M : (from : List Source) → (to : List ℕ) → Setting → Type 0) (a b : List Source) (c d : List ℕ) (s t : Setting) → a ≡ b → c ≡ d → s ≡ t → M a c s → M b d t
of_parts M a b c d s t from to same m = subst (λ k. M b d k) same (subst (λ k. M b k s) to (subst (λ k. M k c s) from m))

pub returns-clause-graph : goal.returns-clause-graph
returns-clause-graph g c =
    rw (← c.question.view_is)
    (of_parts (λ from to setting. IfOk c.build.result (λ graph. HoldsOfGiven g.S.Sources.gives c.args.sources.now c.build.new.sources c.args.project.now (λ given listing.
    IsGraphAnswer setting listing from to (Ok graph) × IsOfClosure setting from to given listing)))
    _ _ _ _ _ _ c.deref-2.ensures.value c.deref-3.ensures.value
    (c.with_paths-setting.ensures ∙ ap (λ (s : Setting). with_paths s c.question.inside.others.now)
    (c.in_ok-new.ensures ∙ ap (λ (ids : List DirectiveId). setting_of c.question.inside.language ids (map (λ n. n.now) c.question.inside.undefined.now)) (c.deref.ensures.value ∙ c.in_ok-removed.ensures)))
    c.build.ensures.graph)

pub returns-clause-refusal : goal.returns-clause-refusal
returns-clause-refusal g c =
    rw (← c.question.view_is)
    (of_parts (λ from to setting. IfErr c.build.result (λ fault. IsOfFiles fault → HoldsOfGiven g.S.Sources.gives c.args.sources.now c.build.new.sources c.args.project.now (λ given listing.
    IsGraphAnswer setting listing from to (Err fault) × IsOfClosure setting from to given listing)))
    _ _ _ _ _ _ c.deref-2.ensures.value c.deref-3.ensures.value
    (c.with_paths-setting.ensures ∙ ap (λ (s : Setting). with_paths s c.question.inside.others.now)
    (c.in_ok-new.ensures ∙ ap (λ (ids : List DirectiveId). setting_of c.question.inside.language ids (map (λ n. n.now) c.question.inside.undefined.now)) (c.deref.ensures.value ∙ c.in_ok-removed.ensures)))
    c.build.ensures.refusal)
