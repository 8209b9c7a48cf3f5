use Rattle.std.proofs.Common.{◌≡◌, ◌∙◌, ℕ, List, ap, ap₂, arith, map, drop, take, ◌+◌}
use Rattle.std.proofs.lemmas.List.{take_all}
use Rattle.inc_answers.specs.NearNames.{source_notes}
use Rattle.inc_report.specs.PpViews.{common_of}
use Rattle.inc_answers.specs.Printed.{end_of, with_texts}
use Rattle.inc_report.proofs.PpSections.{front-at, parts-at, sound-after, unread-each, written-all, written-fault, written-more, written-none}
use Rattle.inc_report.proofs.pp.write_each.Goals as goal

pub loop-path-init : goal.loop-path-init
loop-path-init g c = record {
  written = rw (c.new.ensures.items, c.new-2.ensures.items, c.new-3.ensures.items) (written-none g.S.Sources.gives c.args.sources.now (common_of c.args.job.now) _ c.args.files.now c.args.out.now.written c.requires.unread);
  sound = c.requires.sound;
  empty = c.requires.empty;
}

pub returns-in-Err-clause-written : goal.returns-in-Err-clause-written
returns-in-Err-clause-written g c =
    (written-fault g.S.Sources.gives c.args.sources.now (common_of c.args.job.now) _ _ _ _ _ _ _ _ (map (λ p. p.now) (drop (c.loop-path.path-index + 1) c.args.paths.now)) _ _ _ _ _ _ _ _ c.in-Err.fault
    (parts-at (λ p. p.now) c.args.paths.now c.loop-path.path-index _ c.loop-path-test.true) c.loop-path.invariant.written c.in-Err.ensures.written)

pub returns-in-Err-clause-unread : goal.returns-in-Err-clause-unread
returns-in-Err-clause-unread g c =
    (unread-each g.S.Sources.gives c.args.sources.now (common_of c.args.job.now) _ _ _ _ _ _ _ _ (map (λ p. p.now) (drop (c.loop-path.path-index + 1) c.args.paths.now)) _ _ _ _ _ _ _ _ c.in-Err.fault
    (parts-at (λ p. p.now) c.args.paths.now c.loop-path.path-index _ c.loop-path-test.true) c.loop-path.invariant.written c.in-Err.ensures.written c.in-Err.ensures.unread)

pub loop-path-preserved : goal.loop-path-preserved
loop-path-preserved g c = record {
  written = rw c.worse-worst.ensures
      (written-more g.S.Sources.gives c.args.sources.now (common_of c.args.job.now) _ _ _ _ _ _ _ _ _ _ _ _ _ _ _ _ _ _ c.in-Ok.end _
      (front-at (λ p. p.now) c.args.paths.now c.loop-path.path-index _ c.loop-path-test.true) c.in-Ok.ensures.rules c.in-Ok.ensures.endings c.in-Ok.ensures.stops c.loop-path.invariant.written c.in-Ok.ensures.written);
  sound = sound-after _ _ _ _ c.in-Ok.end c.in-Ok.ensures.written;
  empty = c.in-Ok.ensures.empty;
}

pub returns-clause-written : goal.returns-clause-written
returns-clause-written g c =
    let common = common_of c.args.job.now in
    let wanted = c.args.job.now.wanted in
    let notes = source_notes common.layout (map (λ p. p.now) c.args.paths.now) in
    let is : c.ended.result ≡ with_texts c.loop-path.kept.rules.items c.loop-path.kept.endings.items c.loop-path.kept.stops.items (end_of notes c.loop-path.worst) =
    c.ended.ensures ∙ ap₂ (λ (r e : List ℕ). with_texts r e c.of.result (end_of c.args.notes c.loop-path.worst)) c.of-rules.ensures c.of-endings.ensures
    ∙ ap (λ (s : List ℕ). with_texts c.loop-path.kept.rules.items c.loop-path.kept.endings.items s (end_of c.args.notes c.loop-path.worst)) c.of.ensures
    ∙ ap (λ (n : List ℕ). with_texts c.loop-path.kept.rules.items c.loop-path.kept.endings.items c.loop-path.kept.stops.items (end_of n c.loop-path.worst)) c.requires.notes in
    let whole : take c.loop-path.path-index c.args.paths.now ≡ c.args.paths.now =
    take_all c.loop-path.path-index c.args.paths.now (omega (arith, c.loop-path-test.false)) in
    written-all g.S.Sources.gives c.args.sources.now common wanted c.loop-path.sources c.loop-path.files (map (λ p. p.now) c.args.paths.now) c.args.out.now.written c.loop-path.out.written
    c.loop-path.worst c.loop-path.kept.rules.items c.loop-path.kept.endings.items c.loop-path.kept.stops.items c.loop-path.out.failed c.ended.result c.loop-path.invariant.sound is
    (rw whole at c.loop-path.invariant.written)
