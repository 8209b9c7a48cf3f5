use Rattle.std.proofs.Common.{◌≡◌, ℕ, List, Option, Some, true, drop, take, length, refl, sym, ap, ◌∙◌, arith}
use Rattle.std.specs.Prelude.{codes, position, bytes_eq, ◌==◌}
use Rattle.std.specs.Fmt.{digits}
use Rattle.inc_check.specs.Reading.{head_at_blank, head_in}
use Rattle.inc_check.specs.declared.line_parts.ChainHead.{ChainHead}
use Rattle.inc_check.proofs.WordLemmas.{head_line, head_in-line}
use Rattle.inc_check.proofs.line_parts.head_in.Goals as goal

head_from : (word line text : List ℕ) (r : Option ChainHead) → word ≡ codes "chain " → bytes_eq (take (length word) line) word ≡ true → text ≡ drop (length word) line → r ≡ head_at_blank text (position (λ b. b == 32) text) → r ≡ head_in line
head_from word line text r word_is test rest is =
    let test' = rw word_is at test in
    let rest' = rw word_is at rest in is ∙ (rw (rest', test') refl)

pub returns-in-Some : goal.returns-in-Some
returns-in-Some c =
    let p = c.in-Some.ensures.cases in
    head_from c.as_slice.result.now c.args.line.now c.in-Some.text.now c.head_behind.result c.as_slice.ensures p.0 p.1 c.head_behind.ensures

-- the head of a chain of one directive
one_head : (line : List ℕ) → line ≡ codes "chain 1" → Some (record { length = 1; count = 1 }) ≡ head_in line
unfolding digits
one_head line is =
    let same : head_line 1 1 ≡ codes "chain 1" = refl in
    sym (head_in-line 1 1 (omega arith) (omega arith) (omega arith)) ∙ ap head_in (same ∙ sym is)

pub returns-then-is_one : goal.returns-then-is_one
returns-then-is_one c = one_head c.args.line.now (rw c.if-is_one.true at c.is_one.ensures)
