use Rattle.std.proofs.Common.{◌∷◌, [], ◌++◌, map, ap, ◌∙◌, arith, subst}
use Rattle.std.proofs.lemmas.List.{map-append, length-map}
use Rattle.inc_token.specs.Lexing.{Gives}
use Rattle.inc_token.specs.TokenLines.{Tok}
use Rattle.inc_token.specs.Views.{seen}
use Rattle.inc_token.specs.declared.lexing.Step.{Step}
use Rattle.inc_token.specs.declared.lines.LineEnd.{LineEnd}
use Rattle.inc_token.proofs.Steps.{end_more, token_more}
use Rattle.inc_token.proofs.lexing.lex_into.Goals as goal

pub steps-preserved-in-Continue-branch-3 : goal.steps-preserved-in-Continue-branch-3
steps-preserved-in-Continue-branch-3 c =
    let gives = subst (λ (s : Step). Gives c.steps.lexer s c.next.new.self) c.in-Token.is c.in_ok-token.ensures.gives in
    let pushed = ap (map seen) c.in_ok-push-in-Token.ensures.items ∙ map-append seen c.steps.tokens.items (c.lent.result ∷ [])
    ∙ ap (λ (t : Tok). map seen c.steps.tokens.items ++ t ∷ []) c.lent.ensures in
    token_more c.args.language c.args.text.now c.steps.lexer c.next.new.self (map seen c.steps.tokens.items) (map seen c.push.new.self.items) c.steps.ends.items c.bytes-bytes.result.now c.in-Token.token
    c.steps.invariant gives c.bytes-bytes.ensures.bytes pushed

pub steps-preserved-in-Continue-branch-4 : goal.steps-preserved-in-Continue-branch-4
steps-preserved-in-Continue-branch-4 c =
    let gives = subst (λ (s : Step). Gives c.steps.lexer s c.next.new.self) c.in-LineEnd.is c.in_ok-token.ensures.gives in
    let e : LineEnd = record { tokens = c.len-tokens.result; last_line = c.in-LineEnd.last_line } in
    end_more c.args.language c.args.text.now c.steps.lexer c.next.new.self (map seen c.steps.tokens.items) c.steps.ends.items c.push-in-LineEnd.new.self.items e
    c.steps.invariant gives (omega (arith, c.len-tokens.ensures, c.steps.tokens.ok.0, length-map c.steps.tokens.items seen)) c.in_ok-push-in-LineEnd.ensures.items
