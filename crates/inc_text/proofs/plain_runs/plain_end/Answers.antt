use Rattle.std.proofs.Common.{◌≡◌, ◌-◌, ℕ, List, length, drop, refl, sym, ap, ◌∙◌, arith}
use Rattle.std.proofs.lemmas.List.{length-drop}
use Rattle.std.proofs.lemmas.List.Sums.{prefix_len-le-length}
use lib.Count.{count_trailing_zeros}
use Rattle.inc_text.specs.Origins.{is_plain, is_special}
use Rattle.inc_text.proofs.Vectors.{run_through, run_stops}
use Rattle.inc_text.proofs.plain_runs.plain_end.Goals as goal

pub returns-then-specials-ne0 : goal.returns-then-specials-ne0
returns-then-specials-ne0 c =
    let bytes : List ℕ = c.args.bytes.now in
    let at : ℕ = c.loop-at.at in
    let specials = c.specials-specials in
    let run = run_stops is_plain is_special (λ x. refl) bytes at 32 (omega arith) (omega arith) (omega (arith, specials.ensures)) ∙ ap (count_trailing_zeros 64) (sym specials.ensures) in
    let most = prefix_len-le-length is_plain (drop at bytes) in
    let left : length (drop at bytes) ≡ length bytes - at = length-drop at bytes in
    record { end = omega (arith, run, c.loop-at.invariant.rest); within = omega (arith, run, most, left, c.loop-at.invariant.within) }

pub loop-at-preserved : goal.loop-at-preserved
loop-at-preserved c =
    let run = run_through is_plain is_special (λ x. refl) c.args.bytes.now c.loop-at.at 32 (omega arith) (omega (arith, c.specials-specials.ensures)) in
    record { within = omega arith; rest = omega (arith, run, c.loop-at.invariant.rest) }

pub returns-clause-within : goal.returns-clause-within
returns-clause-within c =
    let bytes : List ℕ = c.args.bytes.now in
    let at : ℕ = c.loop-at.at in
    let most = prefix_len-le-length is_plain (drop at bytes) in
    let left : length (drop at bytes) ≡ length bytes - at = length-drop at bytes in
    omega (arith, most, left, c.loop-at.invariant.within, c.few_plain_end.ensures)
