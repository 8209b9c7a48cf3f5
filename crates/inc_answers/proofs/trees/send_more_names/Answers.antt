use Rattle.std.proofs.Common.{◌++◌, List, ℕ, subst, sym}
use Rattle.std.specs.Prelude.{codes, flat_map}
use Rattle.inc_answers.specs.Sending.{Sends}
use Rattle.inc_answers.specs.TreeText.{name_byte, stack_name}
use Rattle.inc_answers.proofs.SendingLemmas.{sends_then}
use Rattle.inc_answers.proofs.WhyLemmas.{flat_map-more}
use Rattle.inc_answers.proofs.trees.send_more_names.Goals as goal

pub loop-file-preserved : goal.loop-file-preserved
loop-file-preserved g c =
    let project = c.args.project.now in
    let name : Sends c.send.new.self c.send_name.new.out (stack_name project c.file-item.result) =
    subst (λ (path : List ℕ). Sends c.send.new.self c.send_name.new.out (flat_map name_byte path)) c.path.ensures.path c.send_name.ensures in
    subst (λ (text : List ℕ). Sends c.args.out.now c.send_name.new.out text)
    (sym (flat_map-more (λ (f : ℕ). codes ";" ++ stack_name project f) c.args.way.now c.loop-file.file-index c.file-item.result c.loop-file-test.true c.file-item.is))
    (sends_then _ _ _ _ _ c.loop-file.invariant (sends_then _ _ _ _ _ c.send.ensures name))
