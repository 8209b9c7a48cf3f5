use Rattle.std.proofs.Common.{◌≡◌, sym, arith, subst, ℕ}
use Rattle.inc_text.specs.declared.origins.Origin.{Origin}
use Rattle.inc_text.specs.Origins.{Passed}
use Rattle.inc_text.proofs.CursorLemmas.{origin_none, origin_some}
use Rattle.inc_text.proofs.origins.origin_at.Goals as goal

pub returns-then-passed-eq0 : goal.returns-then-passed-eq0
returns-then-passed-eq0 c =
    let none : c.args.passed ≡ 0 = omega arith in
    let P : ℕ → Type 0 = λ k. Passed (λ (m : Origin). m.at) c.args.place c.args.origins.now k in
    sym (origin_none _ _ (subst P none c.requires))

pub returns-else-passed-eq0 : goal.returns-else-passed-eq0
returns-else-passed-eq0 c = origin_some _ _ _ _ c.requires (omega arith)
