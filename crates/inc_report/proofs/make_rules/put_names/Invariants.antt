use Rattle.std.proofs.Common.{◌≡◌, ◌++◌, drop, map}
use Rattle.inc_lookup.specs.Projects.{path_at}
use Rattle.inc_report.specs.MakeRules.{escaped, wrapped}
use Rattle.inc_report.proofs.make_rules.put_names.Given as goal

-- what is written and what is left are all names
abbrev pub invariant-loop-file : goal.invariant-loop-file
invariant-loop-file l =
    l.rule.items ++ wrapped l.column (map (λ f. escaped (path_at l.project f)) (drop l.file-index l.files))
    ≡ l.initial.rule.items ++ wrapped l.initial.column (map (λ f. escaped (path_at l.project f)) l.files)
