-- Sources that read by other ones: what was given by them was given by those.
use Rattle.std.proofs.Common.{◌≡◌, ◌≢◌, ℕ, ◌==◌, false, List, [], ◌∷◌, Option, Some, Result, Ok, Err, IfErr, IfSome, ap, subst}
use Rattle.std.specs.List.{All, list_any}
use Rattle.std.proofs.lemmas.Bool.{eqb-false, or_parts}
use Rattle.std.proofs.lemmas.List.Elements.{All-cons, All-nil}
use Rattle.inc_text.specs.declared.devices.ReadFault.{ReadFault}
use Rattle.inc_text.specs.declared.devices.ReadFault.TheVariants as read
use Rattle.inc_lookup.specs.Given.{Given, Gave, Agrees, HoldsOfGiven}
use Rattle.inc_lookup.specs.Projects.{Layout, Listing, layout_of}
use Rattle.inc_answers.specs.Questions.{FailsAt, unread_by}
use Rattle.inc_answers.specs.Terms.{Question}
use Rattle.inc_answers.specs.Writing.{unread_of}
use Rattle.inc_answers.specs.declared.outcome.End.{End}
use Rattle.inc_answers.specs.declared.outcome.RunFault.{RunFault}
use Rattle.inc_answers.specs.declared.outcome.RunFault.TheVariants as fault
use Rattle.inc_answers.specs.declared.questions.NoGraph.{NoGraph}

-- a file that is not among those that were given
pub unread_all : (given : List Given) (file : ℕ) → list_any (λ (g : Given). g.file == file) given ≡ false → All (λ (g : Given). g.file ≢ file) given
unread_all [] file none = All-nil (λ (g : Given). g.file ≢ file)
unread_all (g ∷ gs) file none =
    let parts = or_parts (g.file == file) (list_any (λ (x : Given). x.file == file) gs) none in
    All-cons (λ (x : Given). x.file ≢ file) g gs (eqb-false g.file file parts.0) (unread_all gs file parts.1)

module _ {S T : Type 0} (gives : S → ℕ → Result (List ℕ) ReadFault → S → Type 0) (reads : T → ℕ → Result (List ℕ) ReadFault → T → Type 0) (inner : T → S)
    (given_so : (old : T) (file : ℕ) (bytes : List ℕ) (new : T) → reads old file (Ok bytes) new → gives (inner old) file (Ok bytes) (inner new)) where
  pub gave_inner : (old new : T) (given : List Given) → Gave reads old given new → Gave gives (inner old) given (inner new)
  gave_inner old new [] h = ap inner h
  gave_inner old new (g ∷ gs) h = (inner h.0, gave_inner old h.0 gs h.1, given_so h.0 g.file g.bytes new h.2)

  -- what holds of the listings that agree with what was given
  pub holds_inner : (old new : T) (layout : Layout) (P Q : List Given → Listing → Type 0) → HoldsOfGiven reads old new layout P
      → ((given : List Given) (listing : Listing) → Gave reads old given new → layout_of listing ≡ layout → Agrees given listing → P given listing → Q given listing)
      → HoldsOfGiven gives (inner old) (inner new) layout Q
  holds_inner old new layout P Q h then' = record {
    given = h.given;
    gave = gave_inner old new h.given h.gave;
    witness = h.witness;
    laid_out = h.laid_out;
    agrees = h.agrees;
    every = λ listing laid agrees. then' h.given listing h.gave laid agrees (h.every listing laid agrees);
  }

  ---- a file that was not read

  module _ (new : T) (layout : Layout) (q : Question) (old : T)
      (unread_so : (state : T) (file : ℕ) → reads state file (Err read.Read) new → gives (inner state) file (Err read.Read) (inner new))
      (long_so : (state : T) (file : ℕ) → reads state file (Err read.TooLong) new → gives (inner state) file (Err read.TooLong) (inner new)) where
    failed : (file : ℕ) (why : ReadFault) → ((state : T) → reads state file (Err why) new → gives (inner state) file (Err why) (inner new))
        → FailsAt reads old new layout q (file, why) → FailsAt gives (inner old) (inner new) layout q (file, why)
    failed file why so f = (
      f.0,
      f.1,
      f.2,
      f.3,
      record {
        state = inner f.4.state;
        before = holds_inner old f.4.state layout _ _ f.4.before (λ given listing gave laid agrees is. is);
        failed = so f.4.state f.4.failed;
      },
    )

    pub fails_inner : (cause : NoGraph) (result : Result End RunFault) → IfErr result (λ f. IfSome (unread_of f) (λ r. unread_by cause ≡ Some r))
        → IfSome (unread_by cause) (FailsAt reads old new layout q)
        → IfErr result (λ f. IfSome (unread_of f) (FailsAt gives (inner old) (inner new) layout q))
    fails_inner cause (Ok end) is fails = tt
    fails_inner cause (Err (fault.CannotRead file)) is fails =
        failed file read.Read (λ state. unread_so state file) (subst (λ o. IfSome o (FailsAt reads old new layout q)) is fails)
    fails_inner cause (Err (fault.FileTooLong file)) is fails =
        failed file read.TooLong (λ state. long_so state file) (subst (λ o. IfSome o (FailsAt reads old new layout q)) is fails)
    fails_inner cause (Err fault.CannotReadCertificate) is fails = tt
    fails_inner cause (Err fault.Write) is fails = tt
    fails_inner cause (Err fault.NoMemory) is fails = tt
