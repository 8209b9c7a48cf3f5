-- The files of a list, read for a project.
use Rattle.std.proofs.Common.{◌≡◌, ℕ, List, Result, Bor, ap, map}
use Rattle.inc_text.specs.declared.devices.ReadFault.{ReadFault}
use Rattle.inc_lookup.specs.Given.{FailsAfter, Given, HoldsOfGiven}
use Rattle.inc_lookup.specs.Projects.{Layout, Listing}
use Rattle.inc_answers.specs.Printed.{Printed}
use Rattle.inc_answers.specs.Questions.{FailsAt}
use Rattle.inc_answers.specs.Terms.{Question}
use Rattle.inc_answers.specs.Writing.{Writes, unread_of}
use Rattle.inc_answers.specs.declared.outcome.End.{End}
use Rattle.inc_answers.specs.declared.outcome.RunFault.{RunFault}
use Rattle.std.specs.Prelude.{IfErr, IfSome}
use Rattle.inc_inputs.specs.Inputs.{Gives, listed}
use Rattle.inc_cli.specs.Outputs.{Output}
use Rattle.inc_cli.specs.Questions.{Prints}
use Rattle.inc_inputs.specs.declared.inputs.ListedFiles.{ListedFiles}
use Rattle.inc_cli.proofs.Listed as listing
use Rattle.inc_cli.proofs.Listed.{Follow}
use Rattle.inc_cli.proofs.ListedPrints as printing

abbrev pub paths_of : {S T : Type 0} → ListedFiles S T → List (List ℕ)
paths_of f = map (λ p. p.now) f.paths.now

-- what a reading of a project's file may answer
abbrev pub reading : {S T : Type 0} → Gives S → ListedFiles S T → ℕ → Result (List ℕ) ReadFault → ListedFiles S T → Type 0
reading gives old file answer new = (new.paths ≡ old.paths) × listed gives (paths_of old) old.inputs file answer new.inputs

module _ {S T : Type 0} (gives : Gives S) where
  pub follow : Follow gives (λ (f : ListedFiles S T). f.inputs) paths_of (reading gives)
  follow a b file answer r = (ap (λ (p : Bor (List (Bor (List ℕ)))). map (λ q. q.now) p.now) r.0, r.1)

  pub holds : (old new : ListedFiles S T) (layout : Layout) (P : List Given → Listing → Type 0) → HoldsOfGiven (reading gives) old new layout P
      → HoldsOfGiven (listed gives (paths_of old)) old.inputs new.inputs layout P
  holds old new layout P h = listing.holds gives (λ (f : ListedFiles S T). f.inputs) paths_of (reading gives) follow old new layout P h

  pub fails_after : (old new : ListedFiles S T) (layout : Layout) (file : ℕ) (fault : ReadFault) (P : List Given → Listing → Type 0)
      → FailsAfter (reading gives) old new layout file fault P → FailsAfter (listed gives (paths_of old)) old.inputs new.inputs layout file fault P
  fails_after old new layout file fault P h =
      listing.fails_after gives (λ (f : ListedFiles S T). f.inputs) paths_of (reading gives) follow old new layout file fault P h

  abbrev pub prints : (old new : ListedFiles S T) (layout : Layout) (q : Question) (P : Printed → Type 0) (Q : S → Printed → Type 0) (out : Output) (result : Result End RunFault)
      → ((p : Printed) → P p → Q new.inputs p) → Writes P out.before out.after out.failed result
      → IfErr result (λ fault. IfSome (unread_of fault) (FailsAt (reading gives) old new layout q))
      → Prints Q (λ s. FailsAt (listed gives (paths_of old)) old.inputs s layout q) out result
  prints old new layout q P Q out result step writes unread =
      printing.prints gives (λ (f : ListedFiles S T). f.inputs) paths_of (reading gives) follow old new layout q P Q out result step writes unread
