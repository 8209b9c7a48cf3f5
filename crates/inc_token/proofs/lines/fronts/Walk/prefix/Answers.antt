use Rattle.inc_token.specs.TokenLines.{is_include_name}
use Rattle.std.proofs.Common.{ap, option_map, true, false, sym, ◌∙◌, subst, refl}
use Rattle.std.proofs.lemmas.Result.{err_from_is_err_and}
use Rattle.inc_token.specs.LineFronts.{Hash, Include, TakesToken}
use Rattle.inc_token.specs.Views.{line_in, seen_operand}
use Rattle.inc_token.proofs.FrontPlaces.{name_taken, include_taken}
use Rattle.inc_token.proofs.FrontSteps.{null_brief, name_brief, include_brief}
use Rattle.inc_token.proofs.lines.fronts.Walk.prefix.Goals as goal

pub returns-in_default-clause-prefix : goal.returns-in_default-clause-prefix
returns-in_default-clause-prefix c =
    subst (λ o. TakesToken (Hash (line_in c.args.self.now.cursor c.args.hash)) c.args.self.now o c.next_token.new.self) c.in_default.is (c.in_ok-name.ensures.token (Hash (line_in c.args.self.now.cursor c.args.hash)) refl)

pub returns-then-not-is_include_name-clause-prefix : goal.returns-then-not-is_include_name-clause-prefix
returns-then-not-is_include_name-clause-prefix c =
    let taken = subst (λ o. TakesToken (Hash (line_in c.args.self.now.cursor c.args.hash)) c.args.self.now o c.next_token.new.self) c.in-Some.is (c.in_ok-name.ensures.token (Hash (line_in c.args.self.now.cursor c.args.hash)) refl) in
    name_taken (line_in c.args.self.now.cursor c.args.hash) c.args.self.now c.next_token.new.self c.in-Some.name false taken (ap (λ k. is_include_name k c.in-Some.name.spelling.now) (sym c.next_token.ensures.moved.spoken) ∙ sym c.is_include_name.ensures ∙ c.if-not-is_include_name.true)

pub returns-in_err-operand-clause-fault : goal.returns-in_err-operand-clause-fault
returns-in_err-operand-clause-fault c =
    let taken = subst (λ o. TakesToken (Hash (line_in c.args.self.now.cursor c.args.hash)) c.args.self.now o c.next_token.new.self) c.in-Some.is (c.in_ok-name.ensures.token (Hash (line_in c.args.self.now.cursor c.args.hash)) refl) in
    let p = err_from_is_err_and c.from_residual-in_err-operand.result c.from_residual-in_err-operand.ensures.1 in
    rw (p.1, p.2)
    (name_taken (line_in c.args.self.now.cursor c.args.hash) c.args.self.now c.next_token.new.self c.in-Some.name true taken (ap (λ k. is_include_name k c.in-Some.name.spelling.now) (sym c.next_token.ensures.moved.spoken) ∙ sym c.is_include_name.ensures ∙ c.if-not-is_include_name.false)
    ∙ c.in_err-operand.ensures.fault (Include (line_in c.args.self.now.cursor c.args.hash) c.in-Some.name.spelling.now) refl)

pub returns-clause-prefix : goal.returns-clause-prefix
returns-clause-prefix c =
    let name = c.in-Some.name.spelling.now in
    let taken = subst (λ o. TakesToken (Hash (line_in c.args.self.now.cursor c.args.hash)) c.args.self.now o c.next_token.new.self) c.in-Some.is (c.in_ok-name.ensures.token (Hash (line_in c.args.self.now.cursor c.args.hash)) refl) in
    name_taken (line_in c.args.self.now.cursor c.args.hash) c.args.self.now c.next_token.new.self c.in-Some.name true taken (ap (λ k. is_include_name k c.in-Some.name.spelling.now) (sym c.next_token.ensures.moved.spoken) ∙ sym c.is_include_name.ensures ∙ c.if-not-is_include_name.false)
    ∙ include_taken (line_in c.args.self.now.cursor c.args.hash) name c.next_token.new.self c.next_token-2.new.self c.in_ok-operand.operand (c.in_ok-operand.ensures.token (Include (line_in c.args.self.now.cursor c.args.hash) name) refl)

pub returns-in_default-clause-whole : goal.returns-in_default-clause-whole
returns-in_default-clause-whole c = null_brief c.args.self.now.language (line_in c.args.self.now.cursor c.args.hash)

pub returns-then-not-is_include_name-clause-whole : goal.returns-then-not-is_include_name-clause-whole
returns-then-not-is_include_name-clause-whole c =
    name_brief c.args.self.now.language (line_in c.args.self.now.cursor c.args.hash) c.in-Some.name.spelling.now (ap (λ k. is_include_name k c.in-Some.name.spelling.now) (sym c.next_token.ensures.moved.spoken) ∙ sym c.is_include_name.ensures ∙ c.if-not-is_include_name.true)

pub returns-clause-whole : goal.returns-clause-whole
returns-clause-whole c =
    include_brief c.args.self.now.language (line_in c.args.self.now.cursor c.args.hash) c.in-Some.name.spelling.now (option_map seen_operand c.in_ok-operand.operand) (ap (λ k. is_include_name k c.in-Some.name.spelling.now) (sym c.next_token.ensures.moved.spoken) ∙ sym c.is_include_name.ensures ∙ c.if-not-is_include_name.false)
