use Rattle.std.proofs.Common.{◌≡◌, ◌∙◌, ap, List, ℕ}
use Rattle.std.proofs.Math.Path.{fun_ext}
use Rattle.inc_directive.specs.Removal.{is_among}
use Rattle.inc_lookup.specs.DirectiveLists.{is_listed}
use Rattle.inc_pp.proofs.files.held_file.Goals as goal

pub returns-clause-held : goal.returns-clause-held
returns-clause-held c =
    let same : is_among c.deref.result.now ≡ is_listed c.args.removed.now c.args.file = ap (λ (ns : List ℕ). is_among ns) c.deref.ensures.value ∙ fun_ext c.in_ok-lines.ensures in
    rw (← same, ← c.in-Ok.ensures.text) c.new.ensures.held

pub returns-clause-fault : goal.returns-clause-fault
returns-clause-fault c =
    let same : is_among c.deref.result.now ≡ is_listed c.args.removed.now c.args.file = ap (λ (ns : List ℕ). is_among ns) c.deref.ensures.value ∙ fun_ext c.in_ok-lines.ensures in
    rw (← same, ← c.in-Ok.ensures.text) c.new.ensures.fault
