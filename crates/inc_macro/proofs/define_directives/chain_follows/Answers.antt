use Rattle.std.proofs.Common.{◌∙◌, ◌+◌, ◌&&◌, ap, sym, drop}
use Rattle.inc_macro.specs.Macros.{begins_with_paste}
use Rattle.inc_macro.specs.Views.{spellings_in}
use Rattle.inc_macro.proofs.BodyCommas.{no-chain, no-link, chain-by}
use Rattle.inc_macro.proofs.define_directives.chain_follows.Goals as goal

pub returns-then-not-comma_follows : goal.returns-then-not-comma_follows
returns-then-not-comma_follows c = no-chain c.args.params.now c.args.tokens.now c.args.at (sym c.comma_follows.ensures ∙ c.if-not-comma_follows.true)

pub returns-then-not-paste_follows : goal.returns-then-not-paste_follows
returns-then-not-paste_follows c =
    no-link c.args.params.now c.args.tokens.now c.args.at (sym c.comma_follows.ensures ∙ c.if-not-comma_follows.false) (sym c.paste_follows.ensures ∙ c.if-not-paste_follows.true)

pub returns-then-parameter_follows : goal.returns-then-parameter_follows
returns-then-parameter_follows c =
    chain-by c.args.params.now c.args.tokens.now c.args.at _ _ (sym c.comma_follows.ensures ∙ c.if-not-comma_follows.false) (sym c.paste_follows.ensures ∙ c.if-not-paste_follows.false)
    c.parameter_follows.ensures
    (c.paste_follows-then-parameter_follows.ensures ∙ ap (λ b. b && begins_with_paste (drop (c.args.at + 3) (spellings_in c.args.tokens.now))) (sym c.if-parameter_follows.true))

pub returns-else-parameter_follows : goal.returns-else-parameter_follows
returns-else-parameter_follows c =
    chain-by c.args.params.now c.args.tokens.now c.args.at _ _ (sym c.comma_follows.ensures ∙ c.if-not-comma_follows.false) (sym c.paste_follows.ensures ∙ c.if-not-paste_follows.false)
    c.parameter_follows.ensures
    (c.if-parameter_follows.false ∙ ap (λ b. b && begins_with_paste (drop (c.args.at + 3) (spellings_in c.args.tokens.now))) (sym c.if-parameter_follows.false))
