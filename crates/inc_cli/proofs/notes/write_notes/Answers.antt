use Rattle.std.proofs.Common.{◌≡◌, ◌++◌, ℕ, List, ap₂, subst}
use Rattle.std.specs.Prelude.{OnErr, OnOk}
use Rattle.std.specs.Io.KnownBytes.{Appends}
use Rattle.inc_text.specs.Devices.{AppendsFront}
use Rattle.inc_cli.specs.Notes.{notes_of, reason_of}
use Rattle.inc_cli.specs.Views.{answer_in}
use Rattle.inc_cli.proofs.notes.write_notes.Goals as goal

pub returns-then-is_quiet-clause-whole : goal.returns-then-is_quiet-clause-whole
returns-then-is_quiet-clause-whole g c =
    rw (c.if-is_quiet.true, ← c.reason_of.ensures, ← c.text-stops.ensures) c.write_both.ensures.whole

pub returns-then-is_quiet-clause-front : goal.returns-then-is_quiet-clause-front
returns-then-is_quiet-clause-front g c =
    rw (c.if-is_quiet.true, ← c.reason_of.ensures, ← c.text-stops.ensures) c.write_both.ensures.front

pub returns-clause-whole : goal.returns-clause-whole
returns-clause-whole g c =
    let is : c.deref.result.now ++ (c.text.result.now ++ c.text-stops.result.now) ≡ notes_of (answer_in c.args.answer.now) =
    ap₂ (λ (xs ys : List ℕ). xs ++ ys) c.deref.ensures.value (ap₂ (λ (xs ys : List ℕ). xs ++ ys) c.text.ensures c.text-stops.ensures) in
    rw c.if-is_quiet.false
    (subst (λ (t : List ℕ). OnOk c.write_three.result (Appends (g.E.ByteSink.written c.args.messages.now) (g.E.ByteSink.written c.write_three.new.messages) t)) is c.write_three.ensures.whole)

pub returns-clause-front : goal.returns-clause-front
returns-clause-front g c =
    let is : c.deref.result.now ++ (c.text.result.now ++ c.text-stops.result.now) ≡ notes_of (answer_in c.args.answer.now) =
    ap₂ (λ (xs ys : List ℕ). xs ++ ys) c.deref.ensures.value (ap₂ (λ (xs ys : List ℕ). xs ++ ys) c.text.ensures c.text-stops.ensures) in
    rw c.if-is_quiet.false
    (subst (λ (t : List ℕ). OnErr c.write_three.result (AppendsFront (g.E.ByteSink.written c.args.messages.now) (g.E.ByteSink.written c.write_three.new.messages) t)) is c.write_three.ensures.front)
