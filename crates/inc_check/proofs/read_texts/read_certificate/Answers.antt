use Rattle.std.proofs.Common.{◌≡◌, ◌+◌, ◌-◌, ◌<◌, Bool, true, false, Option, Some, None, length, drop, sym, ap, ◌∙◌, subst, arith}
use Rattle.std.specs.Prelude.{if◌then◌else◌}
use Rattle.std.proofs.lemmas.List.{take_rest, drop-drop, length-drop, drop_all}
use Rattle.inc_check.specs.CertificateText.{CertificateFormat}
use Rattle.inc_check.specs.Texts.{IsMalformed}
use Rattle.inc_check.specs.Reading as spec
use Rattle.inc_check.proofs.CertificateTexts.{HasRead, begin_reading, read_line, bad_line, bad_end, good_end}
use Rattle.inc_check.proofs.read_texts.read_certificate.Goals as goal

-- what a line that is taken, or refused, says
fitted : (fits : Bool) (t : spec.State) (o : Option spec.State) → (if fits then Some t else None) ≡ o → fits ≡ true → o ≡ Some t
fitted fits t o e is = sym (rw is at e)

refused : (fits : Bool) (t : spec.State) (o : Option spec.State) → (if fits then Some t else None) ≡ o → fits ≡ false → o ≡ None
refused fits t o e is = sym (rw is at e)

pub loop-length-init : goal.loop-length-init
loop-length-init c = record {
  within = omega arith;
  low = omega arith;
  read = rw c.new-reading.ensures (begin_reading c.args.text.now);
}

pub returns-then-not-branch-clause-fault : goal.returns-then-not-branch-clause-fault
returns-then-not-branch-clause-fault c line e =
    let text = c.args.text.now in
    let at = c.loop-length.at in
    let n = c.in-Some.length in
    let found = rw take_rest at c.in-Some.ensures in
    let line' = rw take_rest at c.in_ok-take_line.ensures in
    let bad = bad_line text c.loop-length.reading c.loop-length.line (drop at text) n c.loop-length.invariant.read (sym found) (refused c.in_ok-take_line.field-0 _ _ line' c.if-not-branch.true) in
    let same : c.loop-length.line ≡ line = cc in subst (IsMalformed CertificateFormat text) same bad

pub loop-length-preserved : goal.loop-length-preserved
loop-length-preserved c =
    let text = c.args.text.now in
    let at = c.loop-length.at in
    let n = c.in-Some.length in
    let found = rw take_rest at c.in-Some.ensures in
    let line' = rw take_rest at c.in_ok-take_line.ensures in
    let more = read_line text c.loop-length.reading c.take_line.new.self c.loop-length.line (drop at text) n c.loop-length.invariant.read (sym found) (fitted c.in_ok-take_line.field-0 _ _ line' c.if-not-branch.false) in
    let low : n < length text - at = rw length-drop at more.1 in
    record {
      within = omega (arith, low);
      low = omega arith;
      read = subst (HasRead text c.take_line.new.self (c.loop-length.line + 1)) (drop-drop (n + 1) at text) more.0;
    }

pub returns-then-at-text-clause-fault : goal.returns-then-at-text-clause-fault
returns-then-at-text-clause-fault c line e =
    let text = c.args.text.now in
    let at = c.loop-length.at in
    let found = rw take_rest at c.in_default.ensures in
    let left = length-drop at text in
    let bad = bad_end text c.loop-length.reading c.loop-length.line (drop at text) c.loop-length.invariant.read (sym found) (λ none. let zero = ap length none in absurd (omega arith)) in
    let same : c.loop-length.line ≡ line = cc in subst (IsMalformed CertificateFormat text) same bad

pub returns-in-Some-2-clause-read : goal.returns-in-Some-2-clause-read
returns-in-Some-2-clause-read c =
    let text = c.args.text.now in
    let at = c.loop-length.at in
    good_end text c.loop-length.reading c.loop-length.line (drop at text) c.in-Some-2.certificate c.loop-length.invariant.read (drop_all at text c.if-at-text.false)
    (sym c.in_ok-certificate.ensures ∙ c.in-Some-2.is)

pub returns-clause-fault : goal.returns-clause-fault
returns-clause-fault c line e =
    let text = c.args.text.now in
    let at = c.loop-length.at in
    let found = rw take_rest at c.in_default.ensures in
    let bad = bad_end text c.loop-length.reading c.loop-length.line (drop at text) c.loop-length.invariant.read (sym found) (λ none. sym c.in_ok-certificate.ensures ∙ c.in-None.is) in
    let same : c.loop-length.line ≡ line = cc in subst (IsMalformed CertificateFormat text) same bad
