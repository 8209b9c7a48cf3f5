-- What is written, by what holds of the text.
use Rattle.std.proofs.Common.{◌≡◌, ◌≢◌, ◌↔◌, ℕ, Bool, false, List, [], Option, Some, None, Result, Ok, Err, refl, sym, subst, arith}
use Rattle.std.specs.Prelude.{IfErr, IsErrOf}
use Rattle.std.specs.Io.KnownBytes.{Keeps}
use Rattle.inc_text.specs.declared.devices.ReadFault.{ReadFault}
use Rattle.inc_lookup.specs.Given.{Given, HoldsOfGiven}
use Rattle.inc_lookup.specs.Projects.{Layout, Listing, layout_of}
use Rattle.inc_lookup.proofs.GivenLemmas.{bare_listing, laid_bare}
use Rattle.inc_graph.specs.declared.building.GraphRefusal.{GraphRefusal}
use Rattle.inc_graph.specs.declared.building.GraphRefusal.TheVariants as graph
use Rattle.inc_graph.specs.ReadFiles.{IsOfFiles}
use Rattle.inc_answers.specs.declared.outcome.End.{End}
use Rattle.inc_answers.specs.declared.outcome.RunFault.{RunFault}
use Rattle.inc_answers.specs.declared.outcome.RunFault.TheVariants.{Write}
use Rattle.inc_answers.specs.Printed.{Printed}
use Rattle.inc_answers.specs.Questions.{IsRefusalOf}
use Rattle.inc_answers.specs.Sending.{Stream, stream, IsSent}
use Rattle.inc_answers.specs.Writing.{IsFinished, Prints, SendsWhole, Writes}
use Rattle.inc_answers.proofs.SendingLemmas.{sent_start}

-- a text that P holds of is one that Q holds of
pub writes_all : (P Q : Printed → Type 0) (old new : Option (List ℕ)) (failed : Bool) (result : Result End RunFault) → ((p : Printed) → P p → Q p)
    → Writes P old new failed result → Writes Q old new failed result
writes_all P Q old new failed (Ok end) step w =
    record {
      text = (w.text.0, step w.text.0 w.text.1, w.text.2, w.text.3);
      front = λ is. (let front = w.front is in (front.0, step front.0 front.1, front.2));
      nothing = w.nothing;
      failing = w.failing;
    }
writes_all P Q old new failed (Err fault) step w =
    record {
      text = w.text;
      front = λ is. (let front = w.front is in (front.0, step front.0 front.1, front.2));
      nothing = w.nothing;
      failing = w.failing;
    }

---- what is sent

pub prints_all : (P Q : Printed → Type 0) (old new : Stream) (result : Result End RunFault) → ((p : Printed) → P p → Q p)
    → Prints P old new result → Prints Q old new result
prints_all P Q old new (Ok end) step s = record { text = (s.text.0, step s.text.0 s.text.1, s.text.2); nothing = s.nothing }
prints_all P Q old new (Err fault) step s = record { text = s.text; nothing = s.nothing }

-- a text that is sent whole
pub prints_one : (P : Printed → Type 0) (p : Printed) (old new : Stream) (end : End) → P p → SendsWhole p old new end → Prints P old new (Ok end)
prints_one P p old new end holds sent = record { text = (p, holds, sent); nothing = tt }

---- from the start of a call to its end

keeps_same : (a : Option (List ℕ)) → Keeps a a
keeps_same None = tt
keeps_same (Some xs) = refl

-- nothing is written, for another fault than one of the sink
pub wrote_nothing : (P : Printed → Type 0) (start : Option (List ℕ)) (failed : Bool) (fault : RunFault) → failed ≡ false → fault ≢ Write → Writes P start start failed (Err fault)
wrote_nothing P start failed fault sound other =
    let nothing : Writes P start start false (Err fault) = record {
      text = tt;
      front = λ is. absurd (other (same is));
      nothing = λ k. keeps_same start;
      failing = (λ is. absurd (other (same is)), λ t. cc);
    } in
    subst (λ (b : Bool). Writes P start start b (Err fault)) (sym sound) nothing
  where
    same : IsErrOf {T = End} {E = RunFault} (Err fault) Write → fault ≡ Write
    same is = cc

-- what was sent is written
pub sent_written : (P : Printed → Type 0) (start : Option (List ℕ)) (s : Stream) (end : End) (written : Option (List ℕ)) (failed : Bool) (result : Result End RunFault)
    → Prints P (stream start false []) s (Ok end)
    → ((from : Option (List ℕ)) (p : Printed) → IsSent from p.text s → end ≡ p.end → Writes (λ q. q ≡ p) from written failed result)
    → Writes P start written failed result
sent_written P start s end written failed result prints settled =
    let p = prints.text.0 in
    let sent : IsSent start p.text s = prints.text.2.sent start [] (sent_start start false [] refl refl) in
    writes_all (λ q. q ≡ p) P start written failed result (λ q is. subst P (sym is) prints.text.1) (settled start p sent prints.text.2.ends)

-- a call that begins with nothing sent and ends
pub finished : (P : Printed → Type 0) (start : Option (List ℕ)) (before : Bool) (old s : Stream) (ended : Result End RunFault) (written : Option (List ℕ)) (failed : Bool) (result : Result End RunFault)
    → before ≡ false → old ≡ stream start before [] → Prints P old s ended → IsFinished s ended written failed result → Writes P start written failed result
finished P start before old s (Ok end) written failed result sound is prints done =
    sent_written P start s end written failed result (rw (is, sound) at prints) done.text
finished P start before old s (Err fault) written failed result sound is prints done =
    let same : s ≡ stream start false [] = rw (is, sound) at prints.nothing.0 in
    rw (done.nothing.0, done.nothing.1, done.nothing.2, same) (wrote_nothing P start false fault refl prints.nothing.1)

-- its fault is that of the sink, or one from before
pub finished_fault : (Q : RunFault → Type 0) (s : Stream) (ended : Result End RunFault) (written : Option (List ℕ)) (failed : Bool) (result : Result End RunFault)
    → IsFinished s ended written failed result → Q Write → IfErr ended Q → IfErr result Q
finished_fault Q s (Ok end) written failed (Ok x) done write given = tt
finished_fault Q s (Ok end) written failed (Err fault) done write given = subst Q (sym done.fault) write
finished_fault Q s (Err fault) written failed result done write given = subst (λ r. IfErr r Q) (sym done.nothing.0) given

pub finished_of : (x : RunFault) (B : Type 0) (s : Stream) (ended : Result End RunFault) (written : Option (List ℕ)) (failed : Bool) (result : Result End RunFault)
    → IsFinished s ended written failed result → x ≢ Write → (IsErrOf ended x ↔ B) → (IsErrOf result x ↔ B)
finished_of x B s (Ok end) written failed (Ok e) done other given = (λ is. cc, λ b. absurd (never (given.1 b)))
  where
    never : IsErrOf (Ok end) x → ⊥
    never is = cc
finished_of x B s (Ok end) written failed (Err fault) done other given = (λ is. absurd (other (cc (is, done.fault))), λ b. absurd (never (given.1 b)))
  where
    never : IsErrOf (Ok end) x → ⊥
    never is = cc
finished_of x B s (Err fault) written failed result done other given = subst (λ r. IsErrOf r x ↔ B) (sym done.nothing.0) given

---- what holds of the text

-- where no file is read
pub nothing_given : {S : Type 0} (gives : S → ℕ → Result (List ℕ) ReadFault → S → Type 0) (s : S) (layout : Layout) (P : List Given → Listing → Type 0)
    → ((listing : Listing) → layout_of listing ≡ layout → P [] listing) → HoldsOfGiven gives s s layout P
nothing_given gives s layout P holds = record {
  given = [];
  gave = refl;
  witness = bare_listing layout;
  laid_out = laid_bare layout;
  agrees = λ k d low. absurd (omega (arith, low));
  every = λ listing laid agrees. holds listing laid;
}

-- a refusal that is printed says what the files hold
pub is_of_files : (layout : Layout) (fault : GraphRefusal) (p : Printed) → IsRefusalOf layout fault p → IsOfFiles fault
is_of_files layout (graph.BadFile file fault) p is = tt
is_of_files layout graph.TooManyDirectives p is = tt
is_of_files layout (graph.CannotRead file) p is = absurd is
is_of_files layout (graph.FileTooLong file) p is = absurd is
is_of_files layout graph.NoMemory p is = absurd is
