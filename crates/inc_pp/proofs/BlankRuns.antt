-- Runs without tokens change nothing.
use Rattle.std.proofs.Common.{◌≡◌, ℕ, ◌-◌, ◌<◌, ◌≤◌, ◌==◌, Bool, true, false, List, [], Ok, refl, ap, ◌∙◌, length, take, drop, arith}
use Rattle.std.specs.List.{All}
use Rattle.std.proofs.lemmas.Bool.{eqb-true, eqb-false}
use Rattle.inc_directive.specs.Groups.{FileLine}
use Rattle.inc_directive.specs.Parts.{FilePart, IsPart, lines_from, lines_of_parts}
use Rattle.inc_directive.specs.Runs.{run_tokens}
use Rattle.inc_macro.specs.Results.{◌>>=◌}
use Rattle.inc_pp.specs.Runs.{run_read, text_read}
use Rattle.inc_pp.specs.Tasks.{File, State, Here}
use Rattle.inc_pp.specs.Walks.{lines_read}
use Rattle.inc_pp.proofs.LineSteps.{AreText, IsNoText, step-text}

pub blank-read : (f : File) (ls : List FileLine) (s : State) (h : Here) → run_tokens ls ≡ [] → run_read f ls s h ≡ Ok (s, h)
blank-read f ls s h none = ap (λ ts. text_read f ts s h) none

-- a run without tokens, which may have no lines
pub blank-leads : (f : File) (ps : List FilePart) → All IsPart ps → (i j : ℕ) → i ≤ j → j ≤ length ps → AreText (take (j - i) (drop i ps)) → IsNoText ps j
    → run_tokens (lines_of_parts (take (j - i) (drop i ps))) ≡ [] → (s : State) (h : Here) → lines_read f (lines_from i ps) s h ≡ lines_read f (lines_from j ps) s h
blank-leads f ps parts i j low within all other none s h = by (i == j) refl
  where
    by : (b : Bool) → (i == j) ≡ b → lines_read f (lines_from i ps) s h ≡ lines_read f (lines_from j ps) s h
    by true e = ap (λ n. lines_read f (lines_from n ps) s h) (eqb-true i j e)
    by false e =
        let before : i < j = omega (arith, low, eqb-false i j e) in
        step-text f ps parts i j (omega (arith, before, within)) before all other s h
        ∙ ap (λ r. r >>= λ x. lines_read f (lines_from j ps) x.0 x.1) (blank-read f (lines_of_parts (take (j - i) (drop i ps))) s h none)
