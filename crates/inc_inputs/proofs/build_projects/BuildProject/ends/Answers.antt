use Rattle.std.proofs.Common.{ap, map, subst, sym, ◌∙◌, ◌≡◌, ◌≢◌, ◌&&◌, IfErr, false}
use Rattle.std.proofs.Math.Bool.{and-false}
use Rattle.std.proofs.lemmas.Result.{err_from_is_err_and}
use Rattle.inc_inputs.specs.BuildProjects.{are_ends_utf8, are_utf8}
use Rattle.inc_inputs.specs.Reports.{not_utf8, out_of_memory, report_of}
use Rattle.inc_inputs.specs.Views.{project_in}
use Rattle.inc_inputs.proofs.build_projects.BuildProject.ends.Goals as goal

-- the words for headers hold another text, whatever those for sources hold
pub returns-in_err-headers-clause-fault : goal.returns-in_err-headers-clause-fault
returns-in_err-headers-clause-fault c =
    let p = err_from_is_err_and c.from_residual-in_err-headers.result c.from_residual-in_err-headers.ensures.1 in
    let f = project_in c.args.self.now in
    let read = are_utf8 f.sources in
    subst (λ r. IfErr r (λ f. report_of f ≢ out_of_memory → (report_of f ≡ not_utf8) × (are_ends_utf8 (project_in c.args.self.now) ≡ false))) (sym p.1)
    (λ not.
    let told = c.in_err-headers.ensures.fault (λ none. not (ap report_of p.2 ∙ none)) in (
      ap report_of p.2 ∙ told.0,
      subst (λ ws. (read && are_utf8 (map (λ w. w.items) ws)) ≡ false) c.deref-2.ensures.value
          (ap (λ b. read && b) told.1 ∙ and-false read),
    ))
