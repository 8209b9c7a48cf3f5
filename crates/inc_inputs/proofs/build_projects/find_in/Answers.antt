use Rattle.inc_args.specs.Views.{seen_files}
use Rattle.inc_inputs.specs.BuildSteps.{database_of, found_by}
use Rattle.inc_inputs.specs.Reports.{report_of}
use Rattle.inc_inputs.specs.Views.{database_in, seen_found, words_in}
use Rattle.inc_inputs.proofs.ComingLemmas.{next_err, next_on}
use Rattle.inc_inputs.proofs.build_projects.find_in.Goals as goal

pub returns-in-Err : goal.returns-in-Err
returns-in-Err g c =
    let f = seen_files c.args.files.now in
    let w = words_in c.args.words.now in
    next_err (database_of g.I.Inputs.gives c.args.build.now) (λ d. found_by g.I.Inputs.gives c.args.here.items d f w)
    c.args.inputs.now c.read_named_database.new.inputs (report_of c.in-Err.failure) c.in-Err.ensures

pub returns-in-Ok : goal.returns-in-Ok
returns-in-Ok g c =
    let f = seen_files c.args.files.now in
    let w = words_in c.args.words.now in
    next_on (database_of g.I.Inputs.gives c.args.build.now) (λ d. found_by g.I.Inputs.gives c.args.here.items d f w)
    c.args.inputs.now c.read_named_database.new.inputs c.find_by.new.inputs (database_in c.in-Ok.database) (seen_found c.find_by.result) c.in-Ok.ensures c.find_by.ensures
