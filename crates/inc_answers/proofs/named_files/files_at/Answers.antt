use Rattle.std.proofs.Common.{◌<◌, filter_map, length, map, subst, sym}
use Rattle.std.specs.List.{All}
use Rattle.std.specs.List.Sorted.{IsStrictlyIncreasing}
use Rattle.inc_answers.specs.NamedFiles.{file_at}
use Rattle.inc_answers.proofs.NameLemmas.{among_rise, among_within, flagged_among, flagged_are}
use Rattle.inc_answers.proofs.named_files.files_at.Goals as goal

pub returns-clause-files : goal.returns-clause-files
returns-clause-files c =
    flagged_are c.args.project.now (map (λ p. p.now) c.args.paths.now) c.deref.result.now c.in_ok-flags.flags.items c.in_ok-flagged_files.field-0.items
    c.deref.ensures.value c.in_ok-flags.ensures.flags c.in_ok-flagged_files.ensures c.in_ok-flags.ensures.named

pub returns-clause-within : goal.returns-clause-within
returns-clause-within c =
    let layout = c.args.project.now in
    let among = flagged_among layout (map (λ p. p.now) c.args.paths.now) c.deref.result.now c.in_ok-flags.flags.items c.in_ok-flagged_files.field-0.items
    c.deref.ensures.value c.in_ok-flags.ensures.flags c.in_ok-flagged_files.ensures in
    subst (λ fs. All (λ f. f < length layout.paths) fs) (sym among) (among_within layout (filter_map (file_at layout) (map (λ p. p.now) c.args.paths.now)))

pub returns-clause-rise : goal.returns-clause-rise
returns-clause-rise c =
    let layout = c.args.project.now in
    let among = flagged_among layout (map (λ p. p.now) c.args.paths.now) c.deref.result.now c.in_ok-flags.flags.items c.in_ok-flagged_files.field-0.items
    c.deref.ensures.value c.in_ok-flags.ensures.flags c.in_ok-flagged_files.ensures in
    subst (λ fs. IsStrictlyIncreasing fs) (sym among) (among_rise layout (filter_map (file_at layout) (map (λ p. p.now) c.args.paths.now)))
