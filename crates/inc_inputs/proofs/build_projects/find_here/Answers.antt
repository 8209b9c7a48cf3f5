use Rattle.inc_args.specs.Views.{seen_files}
use Rattle.inc_inputs.specs.BuildProjects.{command_ground}
use Rattle.inc_inputs.specs.BuildSteps.{found_on}
use Rattle.inc_inputs.specs.Reports.{report_of}
use Rattle.inc_inputs.specs.Views.{ground_in, seen_found, words_in}
use Rattle.inc_inputs.proofs.ComingLemmas.{known_err, known_on}
use Rattle.inc_inputs.proofs.build_projects.find_here.Goals as goal

pub returns-in-Err : goal.returns-in-Err
returns-in-Err g c =
    let f = seen_files c.args.files.now in
    let w = words_in c.args.words.now in
    known_err (command_ground c.args.here.items f) (λ d. found_on g.I.Inputs.gives d f w)
    c.args.inputs.now (report_of c.in-Err.failure) c.in-Err.ensures

pub returns-in-Ok : goal.returns-in-Ok
returns-in-Ok g c =
    let f = seen_files c.args.files.now in
    let w = words_in c.args.words.now in
    known_on (command_ground c.args.here.items f) (λ d. found_on g.I.Inputs.gives d f w)
    c.args.inputs.now c.find_on.new.inputs (ground_in c.in-Ok.ground) (seen_found c.find_on.result) c.in-Ok.ensures c.find_on.ensures
