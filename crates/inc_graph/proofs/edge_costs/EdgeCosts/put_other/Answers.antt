use Rattle.std.proofs.Common.{◌≡◌, false, sym, ap, ◌∙◌}
use Rattle.std.proofs.lemmas.Bool.{not-true, not-false}
use Rattle.inc_graph.specs.declared.edge_costs.MarkKey.{MarkKey}
use Rattle.inc_graph.specs.EdgeCosts.{mark_of}
use Rattle.inc_graph.specs.MarkedEdges.{is_unknown}
use Rattle.inc_graph.proofs.EdgeCostLemmas.{now_unknown, key_twice, key_taken, sound_of, of_sound}
use Rattle.inc_graph.proofs.RepeatedMarks.{key_is}
use Rattle.inc_graph.proofs.edge_costs.EdgeCosts.put_other.Goals as goal

pub returns-then-is_unknown_in_file-clause-taken : goal.returns-then-is_unknown_in_file-clause-taken
returns-then-is_unknown_in_file-clause-taken c costs count are =
    let layout = c.args.project.now in
    let g = c.args.graph.now in
    now_unknown layout g costs c.args.cost.now c.args.index count (sound_of c.args.self.now.trouble layout g costs c.args.self.now c.requires.sound are).known
    (ap (is_unknown layout g) (sym c.mark-mark.ensures) ∙ sym c.is_unknown_in_file.ensures ∙ c.if-is_unknown_in_file.true)

pub returns-then-not-branch-clause-taken : goal.returns-then-not-branch-clause-taken
returns-then-not-branch-clause-taken c costs count are =
    let layout = c.args.project.now in
    let g = c.args.graph.now in
    let self = c.args.self.now in
    let cost = c.args.cost.now in
    let k : MarkKey = record { path = record { bytes = c.path.result }; line = c.line.result } in
    let of : mark_of k ≡ cost.mark = key_is c.path.result.now c.line.result c.mark-mark.result cost.mark c.path.ensures c.line.ensures c.mark-mark.ensures in
    let known : is_unknown layout g cost.mark ≡ false = ap (is_unknown layout g) (sym c.mark-mark.ensures) ∙ sym c.is_unknown_in_file.ensures ∙ c.if-is_unknown_in_file.false in
    key_twice layout g costs cost self.amounts.items self.given.items self.others.keys c.requires.fitted.given (sound_of self.trouble layout g costs self c.requires.sound are) k of c.requires.other.0 known c.args.index count
    (not-false _ (sym c.in_ok-insert.ensures.added ∙ c.if-not-branch.true))

pub returns-else-not-branch-clause-taken : goal.returns-else-not-branch-clause-taken
returns-else-not-branch-clause-taken c costs count are =
    let layout = c.args.project.now in
    let g = c.args.graph.now in
    let self = c.args.self.now in
    let cost = c.args.cost.now in
    let k : MarkKey = record { path = record { bytes = c.path.result }; line = c.line.result } in
    let of : mark_of k ≡ cost.mark = key_is c.path.result.now c.line.result c.mark-mark.result cost.mark c.path.ensures c.line.ensures c.mark-mark.ensures in
    let known : is_unknown layout g cost.mark ≡ false = ap (is_unknown layout g) (sym c.mark-mark.ensures) ∙ sym c.is_unknown_in_file.ensures ∙ c.if-is_unknown_in_file.false in
    of_sound self.trouble layout g _ _ c.requires.sound
    (key_taken layout g costs cost self.amounts.items self.given.items self.others.keys c.requires.fitted.given (sound_of self.trouble layout g costs self c.requires.sound are) k of c.requires.other.0 known c.requires.other.1
    c.insert.new.self.keys (not-true _ (sym c.in_ok-insert.ensures.added ∙ c.if-not-branch.false)) c.in_ok-insert.ensures.keys)
