use Rattle.std.proofs.Common.{◌<◌, ◌++◌, length, map, drop, ap, sym, ◌∙◌, subst, arith, refl}
use Rattle.std.proofs.lemmas.Result.{err_from_is_err_and}
use Rattle.inc_expand.specs.Sets.{size}
use Rattle.inc_expand.specs.Expansion.{as_part}
use Rattle.inc_expand.specs.Carriers.{carriers, AreKnown}
use Rattle.inc_expand.specs.Joins.{rest_of}
use Rattle.inc_expand.specs.Lent.{lent_tokens}
use Rattle.inc_expand.proofs.Tables.{keeps-itself}
use Rattle.inc_expand.proofs.JoinSteps.{known-wider, known-drop, known-with, argument-parts-with, argument-rest-with}
use Rattle.inc_expand.proofs.pastes.Joiner.argument.Goals as goal

pub token-requires-clause-token : goal.token-requires-clause-token
token-requires-clause-token c =
    known-with _ 0 c.at-first.result (lent_tokens c.args.tokens) (omega (arith, c.if-len-eq0.false, c.len-len.ensures.len)) (c.at-first.ensures c.at-first.result) c.requires.tokens

pub returns-in_err-token-clause-fault : goal.returns-in_err-token-clause-fault
returns-in_err-token-clause-fault c parts =
    let p = err_from_is_err_and c.from_residual.result c.from_residual.ensures.1 in
    let ts = lent_tokens c.args.tokens in
    let some : 0 < length ts = omega (arith, c.if-len-eq0.false, c.len-len.ensures.len) in
    rw (p.1, p.2) (λ other.
    ap (rest_of c.args.sets.now c.args.self.now)
    (sym (argument-parts-with c.args.sets.now c.args.sets.now (keeps-itself c.args.sets.now) ts (drop 1 ts) c.at-first.result c.args.space parts some c.requires.tokens refl (c.at-first.ensures c.at-first.result)))
    ∙ c.in_err-token.ensures.fault (map as_part (carriers c.args.sets.now (drop 1 ts)) ++ parts) other)

pub returns-clause-rest : goal.returns-clause-rest
returns-clause-rest c parts =
    argument-rest-with c.args.sets.now c.token.new.sets c.token.ensures.keeps (lent_tokens c.args.tokens) (lent_tokens c.behind.result) c.at-first.result c.args.space
    (rest_of c.args.sets.now c.args.self.now) (rest_of c.token.new.sets c.token.new.self) _ parts
    (omega (arith, c.if-len-eq0.false, c.len-len.ensures.len)) c.requires.tokens c.behind.ensures (c.at-first.ensures c.at-first.result) c.in_ok-token.ensures.rest (c.in_ok-run.ensures.rest c.token.new.sets parts)

pub returns-clause-known : goal.returns-clause-known
returns-clause-known c =
    c.in_ok-run.ensures.known (size c.token.new.sets) c.in_ok-token.ensures.known
    (subst (AreKnown (size c.token.new.sets)) (sym c.behind.ensures) (known-drop _ 1 (lent_tokens c.args.tokens) (known-wider _ _ c.token.ensures.keeps.more _ c.requires.tokens)))
