use Rattle.std.proofs.Common.{◌≡◌, map, take}
use Rattle.inc_lookup.specs.declared.sources.SourceFile.{SourceFile}
use Rattle.inc_lookup.proofs.sources.HeldFiles.paths.Given as goal

-- the paths so far
abbrev pub invariant-loop-file : goal.invariant-loop-file
invariant-loop-file l = map (λ p. p.now) l.paths.items ≡ map (λ (f : SourceFile). f.path.items) (take l.file-index l.self.files.now)
