use Rattle.std.proofs.Common.{rules, ◌≡◌, ◌+◌, ℕ, List, ◌++◌, Option, length, take, drop, refl, ap, subst, ◌∙◌, arith}
use Rattle.std.specs.Io.KnownBytes.{Consumes}
use Rattle.std.proofs.KnownBytes.{Consumes-nil}
use Rattle.inc_text.proofs.ReadLemmas.{taken_more}
use Rattle.inc_text.proofs.SpliceLemmas.{lent}
use Rattle.inc_check.proofs.ahead.fill.Goals as goal

pub loop-done-init : goal.loop-done-init
loop-done-init g c = record { long = refl; within = omega arith; read = Consumes-nil _; sound = c.requires }

-- a vector that was lent whole
size_of : (room new old : List ℕ) (len : ℕ) → length new ≡ length room → length room ≡ len → length room ≡ length old → length (take len (new ++ drop (length new) room)) ≡ length old
size_of room new old len size is long = ap length (lent room new len size is) ∙ size ∙ long

pub returns-in_err-count-clause-long : goal.returns-in_err-count-clause-long
returns-in_err-count-clause-long g c =
    size_of c.loop-done.bytes.items c.read_at.new.bytes c.args.bytes.now.items c.loop-done.bytes.len (search rules) (search rules) c.loop-done.invariant.long

pub returns-then-count-eq0-clause-long : goal.returns-then-count-eq0-clause-long
returns-then-count-eq0-clause-long g c =
    size_of c.loop-done.bytes.items c.read_at.new.bytes c.args.bytes.now.items c.loop-done.bytes.len (search rules) (search rules) c.loop-done.invariant.long

-- nothing more came
none_more : (a c : Option (List ℕ)) (ys : List ℕ) (f n : ℕ) → n ≡ 0 → Consumes a c (take (f + n) ys) → Consumes a c (take f ys)
none_more a c ys f n none read = let same : f + n ≡ f = omega arith in subst (λ k. Consumes a c (take k ys)) same read

pub returns-then-count-eq0-clause-read : goal.returns-then-count-eq0-clause-read
returns-then-count-eq0-clause-read g c =
    let l = c.loop-done in
    let read = c.in_ok-count.ensures in
    let room : List ℕ = l.bytes.items in
    let front : take l.done c.read_at.new.bytes ≡ take l.done room = read.front ∙ ap (take l.done) c.deref_mut.ensures.value in
    rw (lent room c.read_at.new.bytes l.bytes.len (search rules) (search rules))
    (none_more _ _ c.read_at.new.bytes l.done _ c.if-count-eq0.true (taken_more _ _ _ room _ l.done _ front l.invariant.read read.bytes))

pub returns-then-count-eq0-clause-failed : goal.returns-then-count-eq0-clause-failed
returns-then-count-eq0-clause-failed g c = search rules

pub loop-done-smaller : goal.loop-done-smaller
loop-done-smaller g c = search rules

pub loop-done-preserved : goal.loop-done-preserved
loop-done-preserved g c =
    let l = c.loop-done in
    let read = c.in_ok-count.ensures in
    let room : List ℕ = l.bytes.items in
    let lend : c.deref_mut.result.now ≡ room = c.deref_mut.ensures.value in
    let size : length c.read_at.new.bytes ≡ length room = search rules in
    let long : length room ≡ l.bytes.len = search rules in
    let whole = lent room c.read_at.new.bytes l.bytes.len size long in
    let front : take l.done c.read_at.new.bytes ≡ take l.done room = read.front ∙ ap (take l.done) lend in
    record {
      long = size_of room c.read_at.new.bytes c.args.bytes.now.items l.bytes.len size long l.invariant.long;
      within = rw whole read.fits;
      read = rw whole (taken_more _ _ _ room _ l.done _ front l.invariant.read read.bytes);
      sound = search rules;
    }

pub returns-clause-long : goal.returns-clause-long
returns-clause-long g c = c.loop-done.invariant.long

pub returns-clause-within : goal.returns-clause-within
returns-clause-within g c = c.loop-done.invariant.within

pub returns-clause-read : goal.returns-clause-read
returns-clause-read g c = c.loop-done.invariant.read

pub returns-clause-failed : goal.returns-clause-failed
returns-clause-failed g c = c.loop-done.invariant.sound
