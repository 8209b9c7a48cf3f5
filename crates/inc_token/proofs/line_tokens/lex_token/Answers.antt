use Rattle.std.proofs.Common.{Some, ap, ◌∙◌, subst}
use Rattle.inc_token.specs.Lexing.{Gives}
use Rattle.inc_token.specs.TokenLines.{Tok}
use Rattle.inc_token.specs.declared.lexing.Step.{Step}
use Rattle.inc_token.proofs.LexedLines.{token_there, no_token}
use Rattle.inc_token.proofs.line_tokens.lex_token.Goals as goal

pub returns-then-left-eq0 : goal.returns-then-left-eq0
returns-then-left-eq0 c = λ k ks are.
    let kept = c.steps.invariant in
    let gives = subst (λ (s : Step). Gives c.steps.lexer s c.next.new.self) c.in-Ok-Token.field-0-is c.in-Ok-Token.ensures.gives in
    ap (λ (t : Tok). Some t) c.lent.ensures
    ∙ token_there c.args.language c.args.text.now c.args.at c.args.place c.steps.left c.steps.lexer c.next.new.self kept.0 c.bytes-bytes.result.now c.in-Ok-Token.token k ks
    kept.1 gives c.if-left-eq0.true c.bytes-bytes.ensures.bytes are

pub returns-in-Ok-LineEnd : goal.returns-in-Ok-LineEnd
returns-in-Ok-LineEnd c = λ k ks are.
    let kept = c.steps.invariant in
    let gives = subst (λ (s : Step). Gives c.steps.lexer s c.next.new.self) c.in-Ok-LineEnd.field-0-is c.in-Ok-LineEnd.ensures.gives in
    no_token c.args.language c.args.text.now c.args.at c.args.place c.steps.left c.in-Ok-LineEnd.field-0-0 c.steps.lexer c.next.new.self kept.0 k ks kept.1 gives are
