use Rattle.std.proofs.Common.{rules, ◌≡◌, [], ◌++◌, true, false, length, inl, inr, sym, ap, subst, ◌∙◌}
use Rattle.std.specs.Prelude.{◌==◌}
use Rattle.std.proofs.KnownBytes.{Consumes-nil}
use Rattle.std.proofs.lemmas.Bool.{eqb-true, eqb-false}
use Rattle.std.proofs.lemmas.List.{nil_from_length}
use Rattle.inc_check.specs.CertificateText.{CertificateFormat}
use Rattle.inc_check.specs.Texts.{IsMalformed}
use Rattle.inc_check.specs.Reading.{start}
use Rattle.inc_check.proofs.AheadLemmas.{ended_empty, of_front, of_whole, has_read_more, read_piece}
use Rattle.inc_check.proofs.CertificateTexts.{HasRead, begin_reading, read_line, bad_line_more, bad_end, good_end}
use Rattle.inc_check.proofs.LongLines.{long_line}
use Rattle.inc_check.proofs.ChainSumLemmas.{at_good, at_bad}
use Rattle.inc_check.proofs.judging.check_source.Goals as goal

pub loop-ahead-init : goal.loop-ahead-init
loop-ahead-init g c = record {
  of = c.in_ok-judge.ensures.of;
  sound = sym c.failed.ensures ∙ c.if-failed.false;
  read = ([], start, Consumes-nil _, subst (HasRead [] start 1) (sym c.new-ahead.ensures) (begin_reading []), c.in_ok-judge.ensures.start c.args.project.now c.args.fixed.now);
}

pub returns-then-not-branch-clause-fault : goal.returns-then-not-branch-clause-fault
returns-then-not-branch-clause-fault g c line e =
    let read = c.loop-ahead.invariant.read in
    let held = read_piece _ _ _ read.0 c.loop-ahead.ahead c.find_line.new.self read.1 c.loop-ahead.line read.2 read.3 c.in_ok-length.ensures.read in
    let found = sym c.in_ok-length.ensures.line ∙ c.in-Some.is in
    let judged = rw c.text.ensures at (c.in_ok-take_line.ensures.judged read.1 read.4) in
    let bad = at_bad c.in_ok-take_line.field-0 _ _ c.if-not-branch.true judged in
    let same : c.loop-ahead.line ≡ line = cc in
    of_front _ _ held.0 (λ text. IsMalformed CertificateFormat text line) held.1
    (λ more. subst (IsMalformed CertificateFormat _) same (bad_line_more held.0 more read.1 c.loop-ahead.line c.find_line.new.self c.in-Some.length held.2 found bad))

pub loop-ahead-preserved : goal.loop-ahead-preserved
loop-ahead-preserved g c =
    let read = c.loop-ahead.invariant.read in
    let held = read_piece _ _ _ read.0 c.loop-ahead.ahead c.find_line.new.self read.1 c.loop-ahead.line read.2 read.3 c.in_ok-length.ensures.read in
    let found = sym c.in_ok-length.ensures.line ∙ c.in-Some.is in
    let judged = rw c.text.ensures at (c.in_ok-take_line.ensures.judged read.1 read.4) in
    let next = at_good c.in_ok-take_line.field-0 _ _ c.if-not-branch.false judged in
    let more = read_line held.0 read.1 next.0 c.loop-ahead.line c.find_line.new.self c.in-Some.length held.2 found next.1 in
    record {
      of = c.in_ok-take_line.ensures.of;
      sound = search rules;
      read = (held.0, next.0, held.1, rw (c.skip.ensures, c.in_ok-line.ensures.next) more.0, next.2);
    }

pub returns-then-not-is_empty-clause-fault : goal.returns-then-not-is_empty-clause-fault
returns-then-not-is_empty-clause-fault g c line e =
    let read = c.loop-ahead.invariant.read in
    let held = read_piece _ _ _ read.0 c.loop-ahead.ahead c.find_line.new.self read.1 c.loop-ahead.line read.2 read.3 c.in_ok-length.ensures.read in
    let found = sym c.in_ok-length.ensures.line ∙ c.in_default.is in
    let same : c.loop-ahead.line ≡ line = cc in
    let some : (length c.text-2.result.now == 0) ≡ false = sym c.is_empty.ensures ∙ c.if-not-is_empty.true in
    let bad = bad_end held.0 read.1 c.loop-ahead.line c.find_line.new.self held.2 found (λ none. absurd (eqb-false _ 0 some (ap length (c.text-2.ensures ∙ none)))) in
    elim (c.in_ok-length.ensures.ended c.in_default.is) [
      | inl end ↦
          of_whole _ _ held.0 (λ text. IsMalformed CertificateFormat text line) held.1 end
          (subst (IsMalformed CertificateFormat held.0) same bad)
      | inr long ↦
          of_front _ _ held.0 (λ text. IsMalformed CertificateFormat text line) held.1 (λ more.
          let has = has_read_more held.0 read.1 c.loop-ahead.line c.find_line.new.self more held.2 in
          subst (IsMalformed CertificateFormat (held.0 ++ more)) same
          (long_line held.0 more read.1 c.loop-ahead.line c.find_line.new.self has found long))
    ]

pub returns-then-not-finish-clause-fault : goal.returns-then-not-finish-clause-fault
returns-then-not-finish-clause-fault g c line e =
    let read = c.loop-ahead.invariant.read in
    let held = read_piece _ _ _ read.0 c.loop-ahead.ahead c.find_line.new.self read.1 c.loop-ahead.line read.2 read.3 c.in_ok-length.ensures.read in
    let found = sym c.in_ok-length.ensures.line ∙ c.in_default.is in
    let same : c.loop-ahead.line ≡ line = cc in
    let bad = bad_end held.0 read.1 c.loop-ahead.line c.find_line.new.self held.2 found
    (λ none. at_bad c.finish.result _ _ c.if-not-finish.true (c.finish.ensures.whole c.args.project.now c.args.fixed.now read.1 read.4)) in
    let empty : (length c.text-2.result.now == 0) ≡ true = sym c.is_empty.ensures ∙ c.if-not-is_empty.false in
    let none : c.find_line.new.self ≡ [] =
    sym c.text-2.ensures ∙ nil_from_length c.text-2.result.now (eqb-true _ 0 empty) in
    let end = ended_empty _ c.find_line.new.self (c.in_ok-length.ensures.ended c.in_default.is) none in
    of_whole _ _ held.0 (λ text. IsMalformed CertificateFormat text line) held.1 end
    (subst (IsMalformed CertificateFormat held.0) same bad)

pub verdict_of-requires-clause-of : goal.verdict_of-requires-clause-of
verdict_of-requires-clause-of g c =
    let layout = c.args.project.now in
    let read = c.loop-ahead.invariant.read in
    let all = at_good c.finish.result _ _ c.if-not-finish.false (c.finish.ensures.whole layout c.args.fixed.now read.1 read.4) in
    (layout, all.0, c.sums.ensures layout c.args.graph.now all.0.chains all.3)

pub returns-clause-verdict : goal.returns-clause-verdict
returns-clause-verdict g c =
    let layout = c.args.project.now in
    let read = c.loop-ahead.invariant.read in
    let held = read_piece _ _ _ read.0 c.loop-ahead.ahead c.find_line.new.self read.1 c.loop-ahead.line read.2 read.3 c.in_ok-length.ensures.read in
    let all = at_good c.finish.result _ _ c.if-not-finish.false (c.finish.ensures.whole layout c.args.fixed.now read.1 read.4) in
    let empty : (length c.text-2.result.now == 0) ≡ true = sym c.is_empty.ensures ∙ c.if-not-is_empty.false in
    let none : c.find_line.new.self ≡ [] =
    sym c.text-2.ensures ∙ nil_from_length c.text-2.result.now (eqb-true _ 0 empty) in
    let end = ended_empty _ c.find_line.new.self (c.in_ok-length.ensures.ended c.in_default.is) none in
    of_whole _ _ held.0 _ held.1 end (
      all.0,
      good_end held.0 read.1 c.loop-ahead.line c.find_line.new.self all.0 held.2 none all.1,
      c.in_ok-verdict_of.ensures layout all.0 all.2 (c.sums.ensures layout c.args.graph.now all.0.chains all.3),
    )
