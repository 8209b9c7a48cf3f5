use Rattle.std.proofs.Common.{sym, arith, Err}
use Rattle.std.proofs.lemmas.Result.{err_from_is_err_and}
use Rattle.inc_expand.specs.Sets.{size}
use Rattle.inc_expand.specs.Arguments.{argument_values}
use Rattle.inc_expand.specs.Joins.{rest_of}
use Rattle.inc_expand.proofs.JoinSteps.{known-at}
use Rattle.inc_expand.proofs.SubstitutionSteps.{word-passed, string-passed, written-passed}
use Rattle.inc_expand.proofs.replacements.pass_element.Goals as goal

pub returns-in_err-token-in-Word-clause-fault : goal.returns-in_err-token-in-Word-clause-fault
returns-in_err-token-in-Word-clause-fault c es =
    let p = err_from_is_err_and c.from_residual.result c.from_residual.ensures.1 in
    rw (p.1, p.2) (λ other. sym (word-passed (rest_of c.args.sets.now c.args.joiner.now) (λ ps. Err _) (argument_values c.args.sets.now c.args.args.now) es _ _ _ _
    c.in-Word.is (c.token_of.ensures.token c.args.sets.now) (λ ps. sym (c.in_err-token-in-Word.ensures.fault ps other))))

pub token-requires-in-StringOf-clause-token : goal.token-requires-in-StringOf-clause-token
token-requires-in-StringOf-clause-token c = known-at _ c.args.at _ c.args.strings.now (omega (arith, c.if-at-strings.false, c.requires.within)) c.requires.strings

pub returns-in_err-token-in-StringOf-clause-fault :
    goal.returns-in_err-token-in-StringOf-clause-fault
returns-in_err-token-in-StringOf-clause-fault c es =
    let p = err_from_is_err_and c.from_residual-in_err-token-in-StringOf.result c.from_residual-in_err-token-in-StringOf.ensures.1 in
    rw (p.1, p.2) (λ other. sym (string-passed (rest_of c.args.sets.now c.args.joiner.now) (λ ps. Err _) (argument_values c.args.sets.now c.args.args.now) es
    c.args.sets.now c.args.strings.now c.args.at _ _ _ _ c.in-StringOf.is (omega (arith, c.if-at-strings.false, c.requires.within)) (λ ps. sym (c.in_err-token-in-StringOf.ensures.fault ps other))))

pub operand-requires-clause-tokens : goal.operand-requires-clause-tokens
operand-requires-clause-tokens c = c.written_at.ensures.known (size c.args.sets.now) c.requires.args

pub returns-in_err-operand-in-AsWritten-clause-fault :
    goal.returns-in_err-operand-in-AsWritten-clause-fault
returns-in_err-operand-in-AsWritten-clause-fault c es =
    let p = err_from_is_err_and c.from_residual-in_err-operand-in-AsWritten.result c.from_residual-in_err-operand-in-AsWritten.ensures.1 in
    rw (p.1, p.2) (λ other. sym (written-passed (rest_of c.args.sets.now c.args.joiner.now) (λ ps. Err _) (argument_values c.args.sets.now c.args.args.now) es _ _ _ _ _
    c.in-AsWritten.is (c.written_at.ensures.tokens c.args.sets.now) (λ ps. sym (c.in_err-operand-in-AsWritten.ensures.fault ps other))))

pub argument-requires-clause-tokens : goal.argument-requires-clause-tokens
argument-requires-clause-tokens c = c.expanded_at.ensures.known (size c.args.sets.now) c.requires.args

pub returns-in_ok-token-in-Word-clause-rest : goal.returns-in_ok-token-in-Word-clause-rest
returns-in_ok-token-in-Word-clause-rest c es =
    word-passed (rest_of c.args.sets.now c.args.joiner.now) (rest_of c.token.new.sets c.token.new.self) (argument_values c.args.sets.now c.args.args.now) es _ _ _ _
    c.in-Word.is (c.token_of.ensures.token c.args.sets.now) c.in_ok-token-in-Word.ensures.rest

pub returns-in-Glue-clause-known : goal.returns-in-Glue-clause-known
returns-in-Glue-clause-known c = c.paste.ensures.known (size c.args.sets.now) c.requires.known

pub operand-requires-in-Kept-clause-tokens : goal.operand-requires-in-Kept-clause-tokens
operand-requires-in-Kept-clause-tokens c = c.expanded_at-in-Kept.ensures.known (size c.args.sets.now) c.requires.args

pub returns-in_ok-placemarker-in-Empty-clause-known : goal.returns-in_ok-placemarker-in-Empty-clause-known
returns-in_ok-placemarker-in-Empty-clause-known c = c.in_ok-placemarker-in-Empty.ensures.known (size c.args.sets.now) c.requires.known
