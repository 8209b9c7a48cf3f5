use Rattle.std.proofs.Common.{◌∷◌, List, ℕ, ap, sym, ◌∙◌, subst}
use Rattle.inc_token.specs.Lexing.{Gives, line_left, placed}
use Rattle.inc_token.specs.TokenLines.{Tok}
use Rattle.inc_token.specs.declared.lexing.Step.{Step}
use Rattle.inc_token.proofs.LineLeft.{none_left, token_less}
use Rattle.inc_token.proofs.lexing.Lexer.next_in_line.Goals as goal

pub returns-in-Ok-Token-clause-some : goal.returns-in-Ok-Token-clause-some
returns-in-Ok-Token-clause-some c =
    let kept = c.steps.invariant in
    let gives = subst (λ (s : Step). Gives c.steps.self s c.next.new.self) c.in-Ok-Token.field-0-is c.in-Ok-Token.ensures.gives in
    let less = token_less c.steps.self c.next.new.self c.in-Ok-Token.token kept.0 gives in (
      less.0,
      sym kept.1
          ∙ less.1
          ∙ ap (λ (bs : List ℕ). placed bs c.in-Ok-Token.token ∷ line_left c.next.new.self) (sym gives.0.bytes)
          ∙ ap (λ (t : Tok). t ∷ line_left c.next.new.self) (sym c.lent.ensures),
    )

pub returns-in-Ok-LineEnd-clause-none : goal.returns-in-Ok-LineEnd-clause-none
returns-in-Ok-LineEnd-clause-none c =
    let kept = c.steps.invariant in
    let gives = subst (λ (s : Step). Gives c.steps.self s c.next.new.self) c.in-Ok-LineEnd.field-0-is c.in-Ok-LineEnd.ensures.gives in
    sym kept.1 ∙ none_left c.steps.self c.next.new.self c.in-Ok-LineEnd.field-0-0 gives
