use Rattle.std.proofs.Common.{◌∙◌, ◌≡◌, ◌≢◌, IfErr, Some, ap, subst, sym}
use Rattle.std.proofs.lemmas.Result.{err_from_is_err_and}
use Rattle.inc_inputs.specs.BuildProjects.{words_fault}
use Rattle.inc_inputs.specs.Reports.{out_of_memory, report_of}
use Rattle.inc_inputs.specs.Views.{project_in}
use Rattle.inc_inputs.proofs.ProjectLemmas.{ends_told}
use Rattle.inc_inputs.proofs.build_projects.BuildProject.preprocessing.Goals as goal

-- a word for a source or a header is no text
pub returns-in_err-sources-clause-fault : goal.returns-in_err-sources-clause-fault
returns-in_err-sources-clause-fault c =
    let p = err_from_is_err_and c.from_residual-in_err-sources.result c.from_residual-in_err-sources.ensures.1 in
    let f = project_in c.args.self.now in
    subst (λ r. IfErr r (λ e. report_of e ≢ out_of_memory → words_fault f ≡ Some (report_of e))) (sym p.1)
    (λ not.
    let told = c.in_err-sources.ensures.fault (λ none. not (ap report_of p.2 ∙ none)) in
    ends_told f told.1 ∙ ap (λ r. Some r) (sym (ap report_of p.2 ∙ told.0)))
