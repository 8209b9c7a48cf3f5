use Rattle.std.proofs.Common.{refl, sym, ap, ◌∙◌, arith}
use lib.Count.{count_trailing_zeros}
use Rattle.inc_text.specs.Origins.{is_plain, is_special}
use Rattle.inc_text.proofs.Vectors.{run_through, run_stops}
use Rattle.inc_text.proofs.plain_runs.few_plain_end.Goals as goal

pub returns-then-few-eq0 : goal.returns-then-few-eq0
returns-then-few-eq0 c =
    let run = run_through is_plain is_special (λ x. refl) c.args.bytes.now c.args.at 16 (omega (arith, c.requires)) (omega (arith, c.few_specials-few.ensures)) in
    omega (arith, run, c.last_plain_end-then-few-eq0.ensures)

pub returns-else-few-eq0 : goal.returns-else-few-eq0
returns-else-few-eq0 c =
    let few = c.few_specials-few in
    let run = run_stops is_plain is_special (λ x. refl) c.args.bytes.now c.args.at 16 (omega (arith, c.requires)) (omega arith) (omega (arith, few.ensures)) ∙ ap (count_trailing_zeros 64) (sym few.ensures) in
    omega (arith, run)
