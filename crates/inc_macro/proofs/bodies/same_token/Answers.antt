use Rattle.std.proofs.Common.{◌≡◌, ◌∙◌, ◌+◌, ◌&&◌, suc, sym, ap, arith, drop, ℕ}
use mathlib.Core.Bool.{beq}
use Rattle.inc_macro.specs.Macros.{same_body, same_bool}
use Rattle.inc_macro.proofs.SameBodies.{same_body-step, same_body-differ, beq-is}
use Rattle.inc_macro.proofs.bodies.same_token.Goals as goal

pub returns-then-eq : goal.returns-then-eq
returns-then-eq c =
    let a = c.args.old.now.tokens in
    let b = c.args.new.now.tokens in
    let s = c.spelling.result.now in
    let t = c.spelling-2.result.now in
    let u = c.space.result in
    let v = c.space-then-eq.result in
    let i = c.args.i in
    let rest = λ (n : ℕ). same_body (drop n a) (drop n b) in
    let next : suc i ≡ i + 1 = omega arith in
    same_body-step a b i s t u v c.spelling.ensures c.spelling-2.ensures c.space.ensures c.space-then-eq.ensures
    ∙ ap (λ x. x && same_bool u v && rest (suc i)) (sym c.eq.ensures ∙ c.if-eq.true)
    ∙ ap (λ x. x && rest (suc i)) (sym (beq-is u v))
    ∙ ap (λ n. beq u v && rest n) next

pub returns-else-eq : goal.returns-else-eq
returns-else-eq c =
    let a = c.args.old.now.tokens in
    let b = c.args.new.now.tokens in
    let rest = same_body (drop (c.args.i + 1) a) (drop (c.args.i + 1) b) in
    same_body-differ a b c.args.i c.spelling.result.now c.spelling-2.result.now c.spelling.ensures c.spelling-2.ensures (sym c.eq.ensures ∙ c.if-eq.false)
    ∙ ap (λ x. x && rest) (sym c.if-eq.false)
