use Rattle.std.proofs.Common.{arith, refl}
use Rattle.inc_token.specs.Spellings.{is_blank}
use Rattle.inc_token.proofs.FrontPlaces.{placed_at, run_within}
use Rattle.inc_token.proofs.FrontSteps.{ahead-spaces}
use Rattle.inc_token.proofs.Places.{bare_behind}
use Rattle.inc_token.proofs.lines.fronts.Walk.skip_blanks.Goals as goal

pub returns-clause-moved : goal.returns-clause-moved
returns-clause-moved c =
    let w = c.args.self.now in
    let h = c.requires in
    let after = c.skip_blanks-self in
    let run = run_within is_blank w.bytes.now w.at after.result after.ensures (omega (arith, h.len, h.within)) in
    record {
      walk = placed_at w after.result h (omega (arith, run)) (omega (arith, h.len, run));
      same = refl;
      spoken = refl;
      after = omega (arith, run);
    }

pub returns-clause-bare : goal.returns-clause-bare
returns-clause-bare c = λ lt.
    let w = c.args.self.now in
    bare_behind w.bytes.now w.at c.skip_blanks-self.result c.skip_blanks-self.ensures (omega (arith, lt, c.requires.len))

pub returns-clause-ahead : goal.returns-clause-ahead
returns-clause-ahead c = λ begun.
    let w = c.args.self.now in
    ahead-spaces c.args.self.now.language w.bytes.now w.cursor w.at c.skip_blanks-self.result begun c.requires.bytes c.skip_blanks-self.ensures
