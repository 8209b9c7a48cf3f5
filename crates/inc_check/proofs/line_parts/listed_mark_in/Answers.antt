use Rattle.std.proofs.Common.{◌≡◌, ◌-◌, ℕ, false, subst, take, arith}
use Rattle.std.specs.Prelude.{◌==◌}
use Rattle.std.specs.List.{list_any}
use Rattle.inc_check.proofs.FrontLemmas.{rest_open}
use Rattle.inc_check.proofs.line_parts.listed_mark_in.Goals as goal

pub placed_mark-requires : goal.placed_mark-requires
placed_mark-requires c =
    let text = c.args.text.now in
    let all : c.args.end - 0 ≡ c.args.end = omega arith in
    subst (λ (n : ℕ). list_any (λ b. b == 10) (take n text) ≡ false) all (rest_open text 0 c.args.end (omega arith) c.requires)
