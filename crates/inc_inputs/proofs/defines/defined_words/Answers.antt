use Rattle.std.proofs.Common.{◌≡◌, ◌+◌, ◌-◌, ◌<◌, ◌≤◌, Err, ℕ, drop, length, ap, take, sym, ◌∙◌, arith}
use Rattle.inc_macro.specs.Tables.{table_of}
use Rattle.inc_inputs.specs.Defines.{defined_words, words_in}
use Rattle.inc_inputs.proofs.DefineLemmas.{not_taken, place_low, place_bad, place_done, taken_words, end_bad, end_done}
use Rattle.inc_inputs.proofs.defines.defined_words.Goals as goal

pub returns-then-not-branch-clause-fault : goal.returns-then-not-branch-clause-fault
returns-then-not-branch-clause-fault c = λ line same.
    let is : c.loop-length.line ≡ line = cc in
    let words = words_in (table_of c.args.predefined.now).language c.args.is_compiler in
    let none = not_taken (words c.without_return-piece.result.now) _ _ _ c.in_ok-push_line.ensures c.if-not-branch.true in
    place_bad words (defined_words (table_of c.args.predefined.now).language c.args.is_compiler c.args.text.now) _ c.loop-length.line c.loop-length.at c.args.text.now c.loop-length.invariant.words
    c.in-Some.length c.in-Some.ensures c.without_return-piece.result.now c.without_return-piece.ensures (sym none)
    ∙ ap (λ (l : ℕ). Err l) is

pub loop-length-preserved : goal.loop-length-preserved
loop-length-preserved c =
    let words = words_in (table_of c.args.predefined.now).language c.args.is_compiler in
    let all = defined_words (table_of c.args.predefined.now).language c.args.is_compiler c.args.text.now in
    let taken = taken_words (words c.without_return-piece.result.now) _ _ _ c.in_ok-push_line.ensures c.if-not-branch.false in
    let low : c.loop-length.at + (c.in-Some.length + 1) ≤ length c.args.text.now =
    place_low words all _ c.loop-length.line c.loop-length.at c.args.text.now c.loop-length.invariant.words
    c.in-Some.length c.in-Some.ensures c.without_return-piece.result.now c.without_return-piece.ensures in
    let lines : c.loop-length.line ≤ c.loop-length.at + 1 = c.loop-length.invariant.lines in
    record {
      within = low;
      lines = omega (arith, lines);
      words =
          place_done words all _ c.loop-length.line c.loop-length.at c.args.text.now c.loop-length.invariant.words
          c.in-Some.length c.in-Some.ensures c.without_return-piece.result.now c.without_return-piece.ensures
          taken.0 _ (sym taken.1) taken.2;
    }

pub returns-then-not-branch-2-clause-fault : goal.returns-then-not-branch-2-clause-fault
returns-then-not-branch-2-clause-fault c = λ line same.
    let is : c.loop-length.line ≡ line = cc in
    let words = words_in (table_of c.args.predefined.now).language c.args.is_compiler in
    let none = not_taken (words (take (length c.args.text.now - c.loop-length.at) (drop c.loop-length.at c.args.text.now))) _ _ _ c.in_ok-push_line-2.ensures c.if-not-branch-2.true in
    let within : c.loop-length.at ≤ length c.args.text.now = c.loop-length.invariant.within in
    let low : c.loop-length.at < length c.args.text.now = omega (arith, within, c.if-at-text.false) in
    end_bad words (defined_words (table_of c.args.predefined.now).language c.args.is_compiler c.args.text.now) _ c.loop-length.line c.loop-length.at c.args.text.now c.loop-length.invariant.words
    c.in_default.ensures low (sym none)
    ∙ ap (λ (l : ℕ). Err l) is

pub returns-clause-words : goal.returns-clause-words
returns-clause-words c =
    let words = words_in (table_of c.args.predefined.now).language c.args.is_compiler in
    let taken = taken_words (words (take (length c.args.text.now - c.loop-length.at) (drop c.loop-length.at c.args.text.now))) _ _ _ c.in_ok-push_line-2.ensures c.if-not-branch-2.false in
    let within : c.loop-length.at ≤ length c.args.text.now = c.loop-length.invariant.within in
    let low : c.loop-length.at < length c.args.text.now = omega (arith, within, c.if-at-text.false) in
    end_done words (defined_words (table_of c.args.predefined.now).language c.args.is_compiler c.args.text.now) _ c.loop-length.line c.loop-length.at c.args.text.now c.loop-length.invariant.words
    c.in_default.ensures taken.0 _ low (sym taken.1) taken.2
