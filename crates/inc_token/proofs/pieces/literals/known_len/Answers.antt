use Rattle.std.proofs.Common.{◌+◌, ◌-◌, ◌≤◌, ◌==◌, not, length, drop, sym, ◌∙◌, subst, arith, rules, length-drop}
use Rattle.std.proofs.lemmas.List.Sums.{prefix_len-le-length}
use Rattle.inc_token.specs.UnmatchedQuotes.{NoneCloses}
use Rattle.inc_token.proofs.UnmatchedQuotes.{unmatched_here, unmatched_to_end}
use Rattle.inc_token.proofs.pieces.literals.known_len.Goals as goal

pub returns-then-at-unmatched-clause-len : goal.returns-then-at-unmatched-clause-len
returns-then-at-unmatched-clause-len c =
    sym (unmatched_here c.args.quote c.args.at c.args.unmatched.now c.args.text.now c.requires.within c.requires.stands c.if-at-unmatched.true c.requires.unmatched)

pub overflow_add-unmatched : goal.overflow_add-unmatched
overflow_add-unmatched c =
    let text = c.args.text.now in
    let at = c.args.at in
    let fits : at + c.line_len.result ≤ length text =
    omega (arith, c.line_len.ensures, c.requires.within, prefix_len-le-length (λ b. not (b == 10)) (drop at text), length-drop at text) in
    search (rules, fits)

pub returns-then-len-eq0-clause-unmatched : goal.returns-then-len-eq0-clause-unmatched
returns-then-len-eq0-clause-unmatched c =
    let text = c.args.text.now in
    let at = c.args.at in
    subst (λ n. NoneCloses c.args.quote (at + n - at) (drop at text)) (sym c.line_len.ensures)
    (unmatched_to_end c.args.quote at text c.requires.within (sym c.searched_len-len.ensures ∙ c.if-len-eq0.true))
