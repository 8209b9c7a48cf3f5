-- What holds of a stop, and of the line at a place.
use Rattle.std.proofs.Common.{◌≡◌, ℕ, ◌+◌, List, ◌∷◌, ◌++◌, Some, Result, Ok, length, take, option_map, refl, sym, ap, ◌∙◌, subst}
use Rattle.std.specs.List.{All}
use Rattle.std.specs.Option.{option_map_or}
use Rattle.std.proofs.Math.Seq.{drop-append_seam}
use Rattle.std.specs.Prelude.{slice_get}
use Rattle.std.proofs.lemmas.List.Elements.{All-drop, All-head}
use Rattle.inc_text.specs.declared.languages.Language.{Language}
use Rattle.inc_directive.specs.Groups.{FileLine}
use Rattle.inc_directive.specs.Parts.{FilePart, DirectivePart, first_tokens, lines_from, lines_of_parts, part_kind, part_line}
use Rattle.inc_directive.specs.LineKinds.{LineKind, line_kind, line_of_tokens}
use Rattle.inc_expand.specs.Expansion.{Meter}
use Rattle.inc_pp.specs.declared.causes.Cause.{Cause}
use Rattle.inc_pp.specs.declared.faults.Break.{Break}
use Rattle.inc_pp.specs.declared.faults.Break.TheVariants.{Stop, Unread, NoMemory}
use Rattle.inc_pp.specs.declared.states.State.{State as StateValue}
use Rattle.inc_pp.specs.Runs.{with_meter}
use Rattle.inc_pp.specs.StateViews.{state_of}
use Rattle.inc_pp.specs.Settings.{Settings}
use Rattle.inc_pp.specs.Steps.{place_under}
use Rattle.inc_pp.specs.Stops.{IfStop, IsUnder, AreOf}
use Rattle.inc_pp.specs.Tasks.{File, State, Here, place_of}
use Rattle.inc_pp.proofs.LineSteps.{around-line}
use Rattle.inc_macro.specs.Results.{◌>>=◌}

-- an answer with the state after it
abbrev pub in_state : {A : Type 0} → State → Result (A × Meter) Cause → Result (A × State) Cause
in_state s r = r >>= λ x. Ok (x.0, with_meter x.1 s)

-- what follows of each stop
pub if-stop : (fault : Break) (P Q : ℕ → Cause → Type 0) → ((line : ℕ) (cause : Cause) → P line cause → Q line cause) → IfStop fault P → IfStop fault Q
if-stop (Stop line cause) P Q more p = more line cause p
if-stop (Unread fault) P Q more p = p
if-stop NoMemory P Q more p = p

some-same : {A : Type 0} (x y : A) → Some x ≡ Some y → x ≡ y
some-same x y e = cc

-- the kinds of lines, of which it is one
pub kind-at : (language : Language) (ps : List FilePart) (i : ℕ) (l : FileLine) → slice_get ps i ≡ Some (DirectivePart l) →
    AreOf language (lines_of_parts ps) → l.kind ≡ line_kind language l.tokens
kind-at language ps i l at all =
    let P : FileLine → Type 0 = λ (k : FileLine). k.kind ≡ line_kind language k.tokens in
    let before : List FileLine = lines_of_parts (take i ps) in
    let around : All P (before ++ l ∷ lines_from (i + 1) ps) = subst (All P) (around-line ps i (i + 1) l at refl) all in
    All-head P l (lines_from (i + 1) ps) (subst (All P) (drop-append_seam before (l ∷ lines_from (i + 1) ps)) (All-drop P (length before) (before ++ l ∷ lines_from (i + 1) ps) around))

-- the kind of the directive at a place, as the program reads it
pub kind-read : (ps : List FilePart) (i : ℕ) (l : FileLine) (k : LineKind) → slice_get ps i ≡ Some (DirectivePart l) → option_map part_kind (slice_get ps i) ≡ Some k → l.kind ≡ k
kind-read ps i l k at e = some-same l.kind k (ap (option_map part_kind) (sym at) ∙ e)

-- its first physical line
pub line-at : (ps : List FilePart) (i : ℕ) (l : FileLine) (n : ℕ) → slice_get ps i ≡ Some (DirectivePart l) → n ≡ part_line ps i → n ≡ line_of_tokens l.tokens
line-at ps i l n at e = e ∙ ap (λ o. option_map_or (λ (p : FilePart). line_of_tokens (first_tokens p)) o 0) at

-- where tokens are, by the settings
pub place-is : (f : File) (settings : Settings) (h : Here) → IsUnder settings f → place_of f h ≡ place_under settings h
place-is f settings h u = ap (λ (s : Settings). place_under s h) u

-- the state with the meter that was there
pub meter-back : (s : StateValue) (b : Meter) → b ≡ s.budget → state_of (record s { budget = b }) ≡ state_of s
meter-back s b e = ap (λ u. with_meter u (state_of s)) e
