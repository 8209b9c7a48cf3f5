use Rattle.std.proofs.Common.{◌≡◌, ◌∙◌, ◌-◌, ap, sym, List, length, map, drop, take, Ok, ℕ, Result}
use Rattle.std.proofs.lemmas.Result.{err_from_is_err_and}
use Rattle.inc_token.specs.Views.{seen}
use Rattle.inc_token.specs.TokenLines.{Tok}
use Rattle.inc_token.specs.declared.lines.Token.{Token}
use Rattle.inc_macro.specs.Macros.{BodyToken, Definition, body_fault, body_of, spellings}
use Rattle.inc_macro.specs.Roles.{roles_from}
use Rattle.inc_macro.specs.Views.{spellings_in}
use Rattle.inc_macro.specs.declared.faults.DefineFault.{DefineFault}
use Rattle.inc_macro.specs.declared.roles.Before.TheVariants.{Neither}
use Rattle.inc_macro.proofs.DefinitionSteps.{no_signature, bad_body, good_body}
use Rattle.inc_macro.proofs.TokenTexts.{seen_rest, spellings-body_of}
use Rattle.inc_macro.proofs.define_directives.definition_after.Goals as goal

-- the spellings of the body from one place on
texts_of : (ts : List Token) (at : ℕ) → spellings (body_of (drop at (map seen ts))) ≡ spellings_in (take (length ts - at) (drop at ts))
texts_of ts at =
    ap (λ (rest : List Tok). spellings (body_of rest)) (sym (seen_rest ts at)) ∙ spellings-body_of (take (length ts - at) (drop at ts))

pub returns-in_err-params-clause-fault : goal.returns-in_err-params-clause-fault
returns-in_err-params-clause-fault c =
    let p = err_from_is_err_and c.from_residual.result c.from_residual.ensures.1 in
    rw (p.1, p.2) (λ known. no_signature c.args.language c.args.name.now (map seen c.args.tokens.now) _ (c.in_err-params.ensures.fault known))

pub returns-in_err-body-clause-fault : goal.returns-in_err-body-clause-fault
returns-in_err-body-clause-fault c =
    let ts = c.args.tokens.now in
    let params = c.in_ok-params.params in
    let p = err_from_is_err_and c.from_residual-in_err-body.result c.from_residual-in_err-body.ensures.1 in
    rw (p.1, p.2) (λ known.
    bad_body c.args.language c.args.name.now (map seen ts) (drop c.in_ok-params.at (map seen ts)) params _ c.in_ok-params.ensures.done
    (ap (body_fault c.args.language params) (texts_of ts c.in_ok-params.at) ∙ c.in_err-body.ensures.fault known))

pub new-requires : goal.new-requires
new-requires c =
    let rest : List Token = take (length c.args.tokens.now - c.in_ok-params.at) (drop c.in_ok-params.at c.args.tokens.now) in
    c.in_ok-body.ensures.roles
    ∙ ap (roles_from c.in_ok-params.params Neither) (sym (ap spellings c.in_ok-body.ensures.tokens ∙ spellings-body_of rest))

pub returns-clause-done : goal.returns-clause-done
returns-clause-done c =
    let ts = c.args.tokens.now in
    let at = c.in_ok-params.at in
    let params = c.in_ok-params.params in
    let by_body : List BodyToken → Result Definition DefineFault = λ bs. Ok (record { name = c.args.name.now; params = params; body = bs }) in
    let by_name : List ℕ → Result Definition DefineFault = λ n. Ok (record { name = n; params = params; body = c.in_ok-body.body.tokens }) in
    good_body c.args.language c.args.name.now (map seen ts) (drop at (map seen ts)) params c.in_ok-params.ensures.done
    (ap (body_fault c.args.language params) (texts_of ts at) ∙ c.in_ok-body.ensures.good)
    ∙ ap by_body (ap body_of (sym (seen_rest ts at)) ∙ sym c.in_ok-body.ensures.tokens)
    ∙ ap by_name (sym c.in_ok-body.ensures.name)
    ∙ ap (λ (d : Definition). Ok d) (sym c.new.ensures)
