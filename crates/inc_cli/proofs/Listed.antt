-- Readings of the files of a list are readings of the inputs.
use Rattle.std.proofs.Common.{◌≡◌, ◌∙◌, ℕ, List, [], ◌∷◌, Result, Ok, Err, ap, subst, sym}
use Rattle.inc_text.specs.declared.devices.ReadFault.{ReadFault}
use Rattle.inc_lookup.specs.Given.{FailsAfter, Gave, Given, HoldsOfGiven}
use Rattle.inc_lookup.specs.Projects.{Layout, Listing}
use Rattle.inc_answers.specs.Questions.{FailsAt}
use Rattle.inc_answers.specs.Terms.{Question}
use Rattle.inc_inputs.specs.Inputs.{Gives, listed}

-- each reading is one of the file at its place of the list, which stays
abbrev pub Follow : {X S : Type 0} → Gives S → (inputs : X → S) → (paths : X → List (List ℕ)) → (X → ℕ → Result (List ℕ) ReadFault → X → Type 0) → Type 0
Follow {X} gives inputs paths reading =
    (a b : X) (file : ℕ) (answer : Result (List ℕ) ReadFault) → reading a file answer b
    → (paths b ≡ paths a) × listed gives (paths a) (inputs a) file answer (inputs b)

module _ {X S : Type 0} (gives : Gives S) (inputs : X → S) (paths : X → List (List ℕ)) (reading : X → ℕ → Result (List ℕ) ReadFault → X → Type 0)
    (follow : Follow gives inputs paths reading) where
  gave : (old new : X) (given : List Given) → Gave reading old given new → (paths new ≡ paths old) × Gave (listed gives (paths old)) (inputs old) given (inputs new)
  gave old new [] e = (ap paths (sym e), ap inputs e)
  gave old new (g ∷ gs) (s, before, last) =
      let first = gave old s gs before in
      let step = follow s new g.file (Ok g.bytes) last in
      (step.0 ∙ first.0, (inputs s, first.1, subst (λ ps. listed gives ps (inputs s) g.file (Ok g.bytes) (inputs new)) first.0 step.1))

  pub holds : (old new : X) (layout : Layout) (P : List Given → Listing → Type 0) → HoldsOfGiven reading old new layout P
      → HoldsOfGiven (listed gives (paths old)) (inputs old) (inputs new) layout P
  holds old new layout P h = record {
    given = h.given;
    gave = (gave old new h.given h.gave).1;
    witness = h.witness;
    laid_out = h.laid_out;
    agrees = h.agrees;
    every = h.every;
  }

  pub fails_after : (old new : X) (layout : Layout) (file : ℕ) (fault : ReadFault) (P : List Given → Listing → Type 0)
      → FailsAfter reading old new layout file fault P → FailsAfter (listed gives (paths old)) (inputs old) (inputs new) layout file fault P
  fails_after old new layout file fault P h =
      let same = (gave old h.state h.before.given h.before.gave).0 in
      record {
        state = inputs h.state;
        before = holds old h.state layout P h.before;
        failed = subst (λ ps. listed gives ps (inputs h.state) file (Err fault) (inputs new)) same (follow h.state new file (Err fault) h.failed).1;
      }

  pub fails_at : (old new : X) (layout : Layout) (q : Question) (r : ℕ × ReadFault) → FailsAt reading old new layout q r
      → FailsAt (listed gives (paths old)) (inputs old) (inputs new) layout q r
  fails_at old new layout q r (s, t, source, header, after) = (s, t, source, header, fails_after old new layout r.0 r.1 _ after)
