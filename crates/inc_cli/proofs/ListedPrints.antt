-- What is printed of the files of a list is printed of the inputs.
use Rattle.std.proofs.Common.{ℕ, Bool, List, Option, Some, None, Result, Ok, Err, IfErr, IfSome}
use Rattle.inc_text.specs.declared.devices.ReadFault.{ReadFault}
use Rattle.inc_lookup.specs.Projects.{Layout}
use Rattle.inc_check.specs.Texts.{OfBytes}
use Rattle.inc_answers.specs.Printed.{Printed}
use Rattle.inc_answers.specs.Questions.{FailsAt}
use Rattle.inc_answers.specs.Terms.{Question}
use Rattle.inc_answers.specs.Writing.{Writes, WritesEach, unread_of}
use Rattle.inc_answers.specs.declared.outcome.End.{End}
use Rattle.inc_answers.specs.declared.outcome.RunFault.{RunFault}
use Rattle.inc_answers.proofs.WritingLemmas.{writes_all}
use Rattle.inc_inputs.specs.Inputs.{Gives, listed}
use Rattle.inc_cli.specs.Outputs.{Output}
use Rattle.inc_cli.specs.Questions.{Prints}
use Rattle.inc_cli.proofs.Listed.{Follow, fails_at}

err_all : {T E : Type 0} (r : Result T E) (P Q : E → Type 0) → ((e : E) → P e → Q e) → IfErr r P → IfErr r Q
err_all (Ok x) P Q f h = tt
err_all (Err e) P Q f h = f e h

some_all : {A : Type 0} (o : Option A) (P Q : A → Type 0) → ((a : A) → P a → Q a) → IfSome o P → IfSome o Q
some_all None P Q f h = tt
some_all (Some a) P Q f h = f a h

-- a failed reading
pub unread_all : {T : Type 0} (result : Result T RunFault) (P Q : ℕ × ReadFault → Type 0) → ((r : ℕ × ReadFault) → P r → Q r)
    → IfErr result (λ fault. IfSome (unread_of fault) P) → IfErr result (λ fault. IfSome (unread_of fault) Q)
unread_all result P Q f h =
    err_all result (λ fault. IfSome (unread_of fault) P) (λ fault. IfSome (unread_of fault) Q) (λ fault. some_all (unread_of fault) P Q f) h

-- what holds of a text with P holds with Q
pub of_bytes_all : (left : Option (List ℕ)) (P Q : List ℕ → Type 0) → ((text : List ℕ) → P text → Q text) → OfBytes left P → OfBytes left Q
of_bytes_all (Some text) P Q f h = f text h
of_bytes_all None P Q f (text, h) = (text, f text h)

module _ {X S : Type 0} (gives : Gives S) (inputs : X → S) (paths : X → List (List ℕ)) (reading : X → ℕ → Result (List ℕ) ReadFault → X → Type 0)
    (follow : Follow gives inputs paths reading) where
  -- a question is answered
  abbrev pub prints : (old new : X) (layout : Layout) (q : Question) (P : Printed → Type 0) (Q : S → Printed → Type 0) (out : Output) (result : Result End RunFault)
      → ((p : Printed) → P p → Q (inputs new) p) → Writes P out.before out.after out.failed result
      → IfErr result (λ fault. IfSome (unread_of fault) (FailsAt reading old new layout q))
      → Prints Q (λ s. FailsAt (listed gives (paths old)) (inputs old) s layout q) out result
  prints old new layout q P Q out result step writes unread = record {
    new = inputs new;
    writes = writes_all P (Q (inputs new)) out.before out.after out.failed result step writes;
    unread = unread_all result (FailsAt reading old new layout q) (FailsAt (listed gives (paths old)) (inputs old) (inputs new) layout q)
        (λ r. fails_at gives inputs paths reading follow old new layout q r) unread;
  }

-- sources are preprocessed one after the other
pub each_all : {X S A : Type 0} (inputs : X → S) (P : X → List A → Printed → Type 0) (Q : S → List A → Printed → Type 0) (all : List A) (now : X)
    (before after : Option (List ℕ)) (failed : Bool) (result : Result End RunFault)
    → ((s : X) (done : List A) (p : Printed) → P s done p → Q (inputs s) done p)
    → WritesEach P all now before after failed result → WritesEach Q all (inputs now) before after failed result
each_all inputs P Q all now before after failed (Ok end) step w = record {
  text = (w.text.0, step now all w.text.0 w.text.1, w.text.2, w.text.3);
  front = λ is. (let f = w.front is in (f.0, f.1, f.2, f.3, step now f.0 f.2 f.4, f.5));
  part = w.part;
  failing = w.failing;
}
each_all inputs P Q all now before after failed (Err fault) step w = record {
  text = w.text;
  front = λ is. (let f = w.front is in (f.0, f.1, f.2, f.3, step now f.0 f.2 f.4, f.5));
  part = λ other. (let f = w.part other in (f.0, f.1, inputs f.2, f.3, f.4, f.5, step f.2 f.0 f.3 f.6, f.7));
  failing = w.failing;
}
