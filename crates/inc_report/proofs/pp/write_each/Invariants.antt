use Rattle.std.proofs.Common.{◌≡◌, false, [], map, take}
use Rattle.inc_report.specs.PpViews.{common_of}
use Rattle.inc_report.proofs.PpSections.{AreWritten}
use Rattle.inc_report.proofs.pp.write_each.Given as goal

-- the sources so far are written
abbrev pub invariant-loop-path : goal.invariant-loop-path
invariant-loop-path g l = record {
  written : AreWritten g.S.Sources.gives l.initial.sources l.sources (common_of l.job) l.job.wanted l.files (map (λ p. p.now) (take l.path-index l.paths))
      l.initial.out.written l.out.written l.worst l.kept.rules.items l.kept.endings.items l.kept.stops.items;
  sound : l.out.failed ≡ false;
  empty : l.out.waiting ≡ [];
}
