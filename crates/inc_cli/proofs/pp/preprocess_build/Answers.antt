use Rattle.std.proofs.Common.{◌≡◌, Err, List, None, Some, ap, map, refl, rules, subst}
use Rattle.std.specs.Io.KnownBytes.{Keeps}
use Rattle.inc_args.specs.Meaning.{Preprocessing}
use Rattle.inc_args.specs.Views.{seen_pp}
use Rattle.inc_cli.specs.Outputs.{IsRun}
use Rattle.inc_cli.specs.Preprocessings.{IsPreprocessed, pp_asked, with_texts}
use Rattle.inc_inputs.specs.BuildProjects.{found_preprocessing, words_fault}
use Rattle.inc_inputs.specs.PpTexts.{pp_texts_beside}
use Rattle.inc_inputs.specs.Reports.{report_of}
use Rattle.inc_inputs.specs.Steps.{next_of, then}
use Rattle.inc_inputs.specs.Views.{macro_of, project_in, seen_pp_texts}
use Rattle.inc_inputs.specs.declared.build_macros.MacroWord.{MacroWord}
use Rattle.inc_cli.specs.Views.{output_of, seen_end}
use Rattle.inc_cli.proofs.RunLemmas.{run_read, run_reported, run_unreported}
use Rattle.inc_cli.proofs.pp.preprocess_build.Goals as goal

pub returns-in-Err : goal.returns-in-Err
returns-in-Err g c not =
    let gives = g.I.Inputs.gives in
    let language = c.args.setup.now.language in
    let f = with_texts c.args.list.items c.args.notes.items (project_in c.args.found.now) in
    let p = found_preprocessing f (seen_pp c.args.args.now) in
    let keeps : Keeps (g.O.ByteSink.written c.args.out) (g.O.ByteSink.written c.args.out) = search rules in
    run_reported (words_fault f) (report_of c.in-Err.failure) (then (pp_texts_beside gives language f.list p) (pp_asked language p f.macros f.added.notes)) _ _ _ _
    (c.in-Err.ensures.fault (λ same. not (ap (λ r. Err r) same))) refl keeps

pub returns : goal.returns
returns g c not =
    let gives = g.I.Inputs.gives in
    let puts = g.I.Inputs.puts in
    let language = c.args.setup.now.language in
    let f = with_texts c.args.list.items c.args.notes.items (project_in c.args.found.now) in
    let step = λ (p : Preprocessing). then (pp_texts_beside gives language f.list p) (pp_asked language p f.macros f.added.notes) in
    let p = seen_pp c.in-Ok.args in
    let macros : c.deref.result.now ≡ c.args.found.now.macros.items = search rules in
    let out = output_of (g.O.ByteSink.written c.args.out) (g.O.ByteSink.written c.preprocess_read.result.1) (g.O.ByteSink.has_failed c.preprocess_read.result.1) in
    let answer = seen_end c.preprocess_read.result.0 in
    let texts = seen_pp_texts c.read_pp_texts_beside-texts.result in
    let came : IsRun (next_of (pp_asked language p f.macros f.added.notes) texts) (IsPreprocessed gives puts p) c.read_pp_texts_beside-texts.new.inputs out answer =
    subst (λ (ms : List MacroWord). IsRun (next_of (pp_asked language p (map macro_of ms) f.added.notes) texts) (IsPreprocessed gives puts p) c.read_pp_texts_beside-texts.new.inputs out answer)
    macros (c.preprocess_read.ensures not) in
    let read =
    run_read (pp_texts_beside gives language f.list p) (pp_asked language p f.macros f.added.notes) (IsPreprocessed gives puts p) c.args.inputs _ out answer
    texts c.read_pp_texts_beside-texts.ensures not came
    in
    run_unreported (words_fault f) (step (found_preprocessing f (seen_pp c.args.args.now))) _ _ _ _ c.in-Ok.ensures.texts
    (subst (λ (q : Preprocessing). IsRun (step q) (IsPreprocessed gives puts q) c.args.inputs out answer) c.in-Ok.ensures.words read)
