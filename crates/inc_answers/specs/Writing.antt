-- How a call that prints ends, and what it has written by then.
use Rattle.std.specs.Prelude.{◌≡◌, ◌≢◌, ◌↔◌, ℕ, Bool, true, false, List, [], ◌++◌, Option, Some, None, Result, Err, IfOk, IfErr, IsErrOf, IsTrue}
use Rattle.std.specs.Io.KnownBytes.{Appends, Keeps}
use Rattle.inc_text.specs.Devices.{AppendsFront}
use Rattle.inc_text.specs.declared.devices.ReadFault.{ReadFault}
use Rattle.inc_text.specs.declared.devices.ReadFault.TheVariants as read
use Rattle.inc_answers.specs.Printed.{Printed}
use Rattle.inc_answers.specs.Sending.{Stream, IsSent, Sends}
use Rattle.inc_answers.specs.declared.outcome.End.{End}
use Rattle.inc_answers.specs.declared.outcome.RunFault.{RunFault}
use Rattle.inc_answers.specs.declared.outcome.RunFault.TheVariants.{CannotRead, FileTooLong, CannotReadCertificate, NoMemory, Write}

-- a call wrote a text that P holds of, and nothing else. Where the sink failed it wrote a front of such a text, and after any other
-- fault nothing. `failed`: the sink has failed by the end
pub record Writes (P : Printed → Type 0) (old new : Option (List ℕ)) (failed : Bool) (result : Result End RunFault) : Type 0 where
  -- where it ended well, it wrote such a text and ended as that says
  pub text : IfOk result (λ end. (p : Printed) × P p × (end ≡ p.end) × Appends old new p.text)
  -- where the sink failed, it wrote a front of such a text
  pub front : IsErrOf result Write → (p : Printed) × P p × AppendsFront old new p.text
  -- after any other fault it wrote nothing
  pub nothing : IfErr result (λ fault. fault ≢ Write → Keeps old new)
  -- it reports that the sink failed where it did
  pub failing : IsErrOf result Write ↔ IsTrue failed

-- this text was sent, and the call ends as it says
pub record SendsWhole (p : Printed) (old new : Stream) (end : End) : Type 0 where
  pub ends : end ≡ p.end
  pub sent : Sends old new p.text

-- a text that P holds of was sent, and the call ends as it says; nothing was sent where the call failed
pub record Prints (P : Printed → Type 0) (old new : Stream) (result : Result End RunFault) : Type 0 where
  pub text : IfOk result (λ end. (p : Printed) × P p × SendsWhole p old new end)
  pub nothing : IfErr result (λ fault. (new ≡ old) × (fault ≢ Write))

-- a call that had sent its text, or nothing where it failed, ended: what waited was written, and where that failed the call fails too.
-- `written`, `failed`: what the sink holds then, and whether it has failed
pub record IsFinished (sent : Stream) (ended : Result End RunFault) (written : Option (List ℕ)) (failed : Bool) (result : Result End RunFault) : Type 0 where
  pub text : IfOk ended (λ end. (start : Option (List ℕ)) (p : Printed) → IsSent start p.text sent → end ≡ p.end → Writes (λ q. q ≡ p) start written failed result)
  pub fault : IfOk ended (λ end. IfErr result (λ fault. fault ≡ Write))
  pub nothing : IfErr ended (λ fault. (result ≡ Err fault) × (written ≡ sent.written) × (failed ≡ sent.failed))

-- a call wrote one text after the other, and nothing else: P says of the first of these things, of a text of theirs, and of how far the
-- call had come then. Where the sink failed it wrote a front of the text of some, and after any other fault that of some, but not of all
pub record WritesEach {S X : Type 0} (P : S → List X → Printed → Type 0) (all : List X) (now : S) (old new : Option (List ℕ)) (failed : Bool) (result : Result End RunFault) : Type 0 where
  -- where it ended well, it wrote a text of all, and ended as that says
  pub text : IfOk result (λ end. (p : Printed) × P now all p × (end ≡ p.end) × Appends old new p.text)
  -- where the sink failed, it wrote a front of a text of some
  pub front : IsErrOf result Write → (done more : List X) × (p : Printed) × (all ≡ done ++ more) × P now done p × AppendsFront old new p.text
  -- after any other fault it wrote a text of some, but not of all
  pub part : IfErr result (λ fault. fault ≢ Write → (done more : List X) × (s : S) × (p : Printed) × (all ≡ done ++ more) × (more ≡ [] → all ≡ []) × P s done p × Appends old new p.text)
  -- it reports that the sink failed where it did
  pub failing : IsErrOf result Write ↔ IsTrue failed

-- the file that was not read, and why
abbrev pub unread_of : RunFault → Option (ℕ × ReadFault)
unread_of (CannotRead file) = Some (file, read.Read)
unread_of (FileTooLong file) = Some (file, read.TooLong)
unread_of _ = None

-- it is that the certificate was not read
abbrev pub is_of_certificate : RunFault → Bool
is_of_certificate CannotReadCertificate = true
is_of_certificate _ = false

-- it is one of a call that reads nothing but what it is handed: the sink failed, or memory ran out
abbrev pub is_own : RunFault → Bool
is_own Write = true
is_own NoMemory = true
is_own _ = false
