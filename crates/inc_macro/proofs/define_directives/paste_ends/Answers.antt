use Rattle.std.proofs.Common.{◌≡◌, ◌∙◌, ◌-◌, suc, length, arith}
use Rattle.inc_macro.proofs.TokenTexts.{last_text}
use Rattle.inc_macro.proofs.define_directives.paste_ends.Goals as goal

pub returns-then-len-gt0 : goal.returns-then-len-gt0
returns-then-len-gt0 c =
    let ts = c.args.tokens.now in
    let len : length ts ≡ suc (length ts - 1) = omega (arith, c.if-len-gt0.true) in
    c.is_paste.ensures ∙ last_text ts (length ts - 1) _ len
