use Rattle.std.proofs.Common.{◌∙◌, ◌+◌, ◌&&◌, ap, sym, drop}
use Rattle.inc_macro.specs.Macros.{begins_with_taker}
use Rattle.inc_macro.specs.Views.{spellings_in}
use Rattle.inc_macro.proofs.BodyCommas.{no-taken, taken-by}
use Rattle.inc_macro.proofs.define_directives.taken_follows.Goals as goal

pub returns-then-not-comma_follows : goal.returns-then-not-comma_follows
returns-then-not-comma_follows c = no-taken c.args.params.now c.args.tokens.now c.args.at (sym c.comma_follows.ensures ∙ c.if-not-comma_follows.true)

pub returns-then-paste_follows : goal.returns-then-paste_follows
returns-then-paste_follows c =
    taken-by c.args.params.now c.args.tokens.now c.args.at _ _ (sym c.comma_follows.ensures ∙ c.if-not-comma_follows.false) c.paste_follows.ensures
    (c.taker_follows.ensures ∙ ap (λ b. b && begins_with_taker c.args.params.now (drop (c.args.at + 2) (spellings_in c.args.tokens.now))) (sym c.if-paste_follows.true))

pub returns-else-paste_follows : goal.returns-else-paste_follows
returns-else-paste_follows c =
    taken-by c.args.params.now c.args.tokens.now c.args.at _ _ (sym c.comma_follows.ensures ∙ c.if-not-comma_follows.false) c.paste_follows.ensures
    (c.if-paste_follows.false ∙ ap (λ b. b && begins_with_taker c.args.params.now (drop (c.args.at + 2) (spellings_in c.args.tokens.now))) (sym c.if-paste_follows.false))
