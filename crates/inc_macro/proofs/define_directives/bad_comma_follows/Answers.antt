use Rattle.std.proofs.Common.{◌∙◌, ◌+◌, ◌&&◌, ◌||◌, ap, ap₂, sym, drop, Bool}
use Rattle.inc_macro.specs.Macros.{begins_with_paste, begins_with_taken}
use Rattle.inc_macro.specs.Views.{spellings_in}
use Rattle.inc_macro.proofs.BodyCommas.{bad-by}
use Rattle.inc_macro.proofs.define_directives.bad_comma_follows.Goals as goal

pub returns-then-chain_follows : goal.returns-then-chain_follows
returns-then-chain_follows c =
    let texts = spellings_in c.args.tokens.now in
    bad-by c.args.params.now c.args.tokens.now c.args.at _ _ c.requires c.chain_follows.ensures
    (ap (λ b. b || (begins_with_paste (drop c.args.at texts) && begins_with_taken c.args.params.now (drop (c.args.at + 1) texts))) (sym c.if-chain_follows.true))

pub returns-then-paste_follows : goal.returns-then-paste_follows
returns-then-paste_follows c =
    let texts = spellings_in c.args.tokens.now in
    bad-by c.args.params.now c.args.tokens.now c.args.at _ _ c.requires c.chain_follows.ensures
    (c.taken_follows.ensures
    ∙ ap₂ (λ (a b : Bool). a || (b && begins_with_taken c.args.params.now (drop (c.args.at + 1) texts))) (sym c.if-chain_follows.false) (sym c.if-paste_follows.true ∙ c.paste_follows.ensures))

pub returns-else-paste_follows : goal.returns-else-paste_follows
returns-else-paste_follows c =
    let texts = spellings_in c.args.tokens.now in
    bad-by c.args.params.now c.args.tokens.now c.args.at _ _ c.requires c.chain_follows.ensures
    (c.if-paste_follows.false
    ∙ ap₂ (λ (a b : Bool). a || (b && begins_with_taken c.args.params.now (drop (c.args.at + 1) texts))) (sym c.if-chain_follows.false) (sym c.if-paste_follows.false ∙ c.paste_follows.ensures))
