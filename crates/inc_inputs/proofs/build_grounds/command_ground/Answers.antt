use Rattle.std.proofs.Common.{rules, ◌≡◌, ◌==◌, ◌∙◌, ℕ, List, ap, false, length, sym}
use Rattle.inc_args.specs.Views.{seen_files}
use Rattle.inc_build.specs.CompilerCommands.{command_build}
use Rattle.inc_build.specs.CompilerWords.{items}
use Rattle.inc_build.specs.Views.{seen_build, seen_entry}
use Rattle.inc_inputs.specs.Views.{ground_in}
use Rattle.inc_inputs.proofs.GroundLemmas.{command_some}
use Rattle.inc_inputs.proofs.build_grounds.command_ground.Goals as goal

pub returns : goal.returns
returns c not =
    let e = seen_entry c.in_ok-entry.entry in
    let b = seen_build c.in_ok-build.build in
    let some : (length b.sources == 0) ≡ false = search rules in
    sym (command_some c.args.here.items (seen_files c.args.files.now) e b (ground_in c.in_ok-ground_by_entry.field-0) c.in_ok-entry.ensures
    (c.in_ok-build.ensures ∙ ap (λ (h : List ℕ). command_build h (items e.words)) c.deref.ensures.value) some c.in_ok-ground_by_entry.ensures)
