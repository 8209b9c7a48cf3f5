use Rattle.std.proofs.Common.{[], ◌∷◌, ◌++◌, map, ap, ◌∙◌, subst}
use Rattle.std.proofs.lemmas.List.{map-append}
use Rattle.inc_token.specs.Lexing.{Gives, placed}
use Rattle.inc_token.specs.LineWalk.{spaced_token}
use Rattle.inc_token.specs.TokenLines.{Tok}
use Rattle.inc_token.specs.Views.{seen}
use Rattle.inc_token.specs.declared.lexing.Step.{Step}
use Rattle.inc_token.proofs.LexedLines.{none_taken, token_taken}
use Rattle.inc_token.proofs.line_tokens.lex_lines.Goals as goal

pub loop-left-init : goal.loop-left-init
loop-left-init c =
    let lexer = c.at_line-lexer in
    ([], [], none_taken c.args.language c.args.text.now c.args.at c.args.count c.args.is_spaced (map seen c.args.tokens.now.items) lexer.result lexer.ensures.walk lexer.ensures.same lexer.ensures.rest)

pub loop-left-preserved-in-Token-1 : goal.loop-left-preserved-in-Token-1
loop-left-preserved-in-Token-1 c =
    let kept = c.loop-left.invariant in
    let bytes = c.bytes-bytes.result.now in
    let t = c.in-Ok-Token.token in
    let gives = subst (λ (s : Step). Gives c.loop-left.lexer s c.next.new.self) c.in-Ok-Token.field-0-is c.in-Ok-Token.ensures.gives in
    let put = c.spaced.ensures ∙ ap (spaced_token c.loop-left.is_first) c.lent.ensures in
    let is = ap (map seen) c.in_ok-push-in-Ok-Token.ensures.items ∙ map-append seen c.loop-left.tokens.items (c.spaced.result ∷ [])
    ∙ ap (λ (u : Tok). map seen c.loop-left.tokens.items ++ u ∷ []) put in (
      kept.0,
      kept.1 ++ placed bytes t ∷ [],
      token_taken c.args.language c.args.text.now c.args.at c.args.count c.args.is_spaced (map seen c.args.tokens.now.items) c.loop-left.left c.loop-left.is_first
          (map seen c.loop-left.tokens.items) (map seen c.push.new.self.items) c.loop-left.lexer c.next.new.self kept.0 kept.1 bytes t
          kept.2 gives c.loop-left-test.true c.bytes-bytes.ensures.bytes is,
    )
