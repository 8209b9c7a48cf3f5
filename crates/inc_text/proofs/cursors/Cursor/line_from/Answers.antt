use Rattle.std.proofs.Common.{◌≡◌, ◌+◌, ◌<◌, Some, length, ap, ◌∙◌, sym, arith}
use Rattle.inc_text.proofs.CursorLemmas.{feeds_of-cells, line_read, place_inside, place_short, splices_upto-passed}
use Rattle.inc_text.proofs.LineFeedLemmas.{lines_few}
use Rattle.inc_text.proofs.cursors.Cursor.line_from.Goals as goal

pub overflow_cast-at : goal.overflow_cast-at
overflow_cast-at c = omega (arith, place_short _ _ _ _ _ c.self.view_is c.requires.within c.self.invariant.parts.short)

pub overflow_add-result : goal.overflow_add-result
overflow_add-result c =
    let count = c.requires.counted ∙ feeds_of-cells _ _ _ _ c.args.at c.self.view_is in
    let few = lines_few _ _ _ c.args.at c.args.line_feeds c.splices_on-splices.result c.self.invariant.parts count c.splices_on-splices.ensures.bound in
    omega (arith, few)

pub overflow_add-result-2 : goal.overflow_add-result-2
overflow_add-result-2 c =
    let count = c.requires.counted ∙ feeds_of-cells _ _ _ _ c.args.at c.self.view_is in
    let few = lines_few _ _ _ c.args.at c.args.line_feeds c.splices_on-splices.result c.self.invariant.parts count c.splices_on-splices.ensures.bound in
    omega (arith, few)

pub overflow_cast-result : goal.overflow_cast-result
overflow_cast-result c =
    let count = c.requires.counted ∙ feeds_of-cells _ _ _ _ c.args.at c.self.view_is in
    let few = lines_few _ _ _ c.args.at c.args.line_feeds c.splices_on-splices.result c.self.invariant.parts count c.splices_on-splices.ensures.bound in
    omega (arith, few)

pub invariant_of-self : goal.invariant_of-self
invariant_of-self c =
    let kept = c.self.invariant in
    let ahead = c.if-at-level.false in
    let within : c.args.at < length c.self.inside.bytes.now = place_inside _ _ _ _ _ c.self.view_is c.requires.within in
    record {
      parts = kept.parts;
      counted = kept.counted;
      origins_behind = record { bound = kept.origins_behind.bound; before = λ i d low high. omega (arith, kept.origins_behind.before i d low high, ahead) };
      splices_behind = record { bound = c.splices_on-splices.ensures.bound; before = c.splices_on-splices.ensures.before };
      stretch = record {
        within = omega (arith, within);
        line_feeds = c.requires.counted ∙ feeds_of-cells _ _ _ _ c.args.at c.self.view_is;
        ahead = kept.stretch.ahead;
        some = λ place low high. absurd (omega (arith, low, high));
        each = λ place low high. absurd (omega (arith, low, high));
      };
    }

pub returns-clause-line : goal.returns-clause-line
returns-clause-line c =
    let count = c.requires.counted ∙ feeds_of-cells _ _ _ _ c.args.at c.self.view_is in
    let lines = c.args.line_feeds in
    let splices = c.splices_on-splices.result in
    line_read _ _ _ _ _ lines splices c.self.view_is c.requires.within (sym count) (splices_upto-passed _ _ _ c.splices_on-splices.ensures)
    ∙ (let e : 1 + (lines + splices) ≡ 1 + lines + splices = omega arith in ap (λ n. Some n) e)
