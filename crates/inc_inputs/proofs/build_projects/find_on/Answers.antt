use Rattle.inc_args.specs.Views.{seen_files}
use Rattle.inc_inputs.specs.BuildProjects.{chosen, found_by_choice}
use Rattle.inc_inputs.specs.BuildSteps.{files_of}
use Rattle.inc_inputs.specs.Reports.{report_of}
use Rattle.inc_inputs.specs.Steps.{comes_to}
use Rattle.inc_inputs.specs.Views.{ground_in, seen_found, words_in}
use Rattle.inc_inputs.proofs.ComingLemmas.{last_on, next_err}
use Rattle.inc_inputs.proofs.build_projects.find_on.Goals as goal

pub returns-in-Err : goal.returns-in-Err
returns-in-Err g c =
    let d = ground_in c.args.ground.now in
    let f = seen_files c.args.files.now in
    let w = words_in c.args.words.now in
    next_err (files_of g.I.Inputs.gives d f) (λ files. comes_to (found_by_choice d files f w (chosen d files w)))
    c.args.inputs.now c.read_files.new.inputs (report_of c.in-Err.failure) c.in-Err.ensures

pub returns-in-Ok : goal.returns-in-Ok
returns-in-Ok g c =
    let d = ground_in c.args.ground.now in
    let f = seen_files c.args.files.now in
    let w = words_in c.args.words.now in
    last_on (files_of g.I.Inputs.gives d f) (λ files. found_by_choice d files f w (chosen d files w))
    c.args.inputs.now c.read_files.new.inputs c.in-Ok.found (seen_found c.project_by.result) c.in-Ok.ensures c.project_by.ensures
