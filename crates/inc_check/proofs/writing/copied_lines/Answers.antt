use Rattle.std.proofs.Common.{Bool, ◌++◌, ◌∷◌, [], ℕ, List, ap, ◌∙◌, arith}
use Rattle.std.specs.Prelude.{if◌then◌else◌}
use Rattle.std.proofs.lemmas.List.{take_rest, length-drop}
use Rattle.inc_check.specs.Texts.{is_open}
use Rattle.inc_check.proofs.ReturnLemmas.{more_passed, all_passed}
use Rattle.inc_check.proofs.writing.copied_lines.Goals as goal

pub loop-passed-preserved : goal.loop-passed-preserved
loop-passed-preserved c =
    let text = c.args.text.now in
    let at = c.loop-passed.at in
    let n = c.in-Some.passed in
    let found = rw take_rest at c.in-Some.ensures in
    let high = found.0.high in
    let left = length-drop at text in
    record {
      within = omega arith;
      lines = more_passed text c.loop-passed.lines.items c.push_return.new.lines.items at n high (λ k low is. found.0.before k (omega arith) low is) found.1 c.in_ok-push_return.ensures c.loop-passed.invariant.lines;
    }

pub returns : goal.returns
returns c =
    let text = c.args.text.now in
    let none = rw take_rest at c.in_default.ensures in
    let lines = all_passed text c.loop-passed.lines.items c.extend_from_slice.new.self.items c.loop-passed.at (λ k low is. none k (omega arith) low is) c.in_ok-extend_from_slice.ensures.items c.loop-passed.invariant.lines in
    c.in_ok-end_last.ensures ∙ ap (λ (b : Bool). if b then c.extend_from_slice.new.self.items ++ 10 ∷ [] else c.extend_from_slice.new.self.items) c.is_open.ensures
    ∙ ap (λ (l : List ℕ). if is_open c.args.text.now then l ++ 10 ∷ [] else l) lines
