use Rattle.inc_directive.specs.Removal.{is_among}
use Rattle.std.proofs.Common.{ap}
use Rattle.inc_token.specs.LineWalk.{Place}
use Rattle.inc_directive.proofs.SplitParts.{found_begun, found_end, found_stretch}
use Rattle.inc_directive.proofs.file_lines.split.Goals as goal

pub lines-init : goal.lines-init
lines-init c =
    let begun = c.text_lines-walk.ensures in
    record {
      spoken = ap (λ (p : Place). p.language) begun.lines;
      text = ap (λ (p : Place). p.text) begun.lines;
      short = begun.short;
      found = found_begun c.args.language c.args.text.now (is_among c.args.removed.now) c.text_lines-walk.result.at c.new-parts.result.items c.new-inclusions.result.items
          (ap (λ (p : Place). p.at) begun.lines) c.new-parts.ensures.items c.new-inclusions.ensures.items;
    }

pub lines-preserved : goal.lines-preserved
lines-preserved c =
    let old = c.lines in
    let h = old.invariant in
    let made = c.part_of-inclusion in
    let found = found_stretch c.args.language c.args.text.now (is_among c.args.removed.now) old.walk c.next.new.self c.in_ok-next.next old.parts.items c.push_text.new.parts.items old.inclusions.items h.found.0
    h.spoken h.text h.found.1 c.in_ok-next.ensures.next c.in_ok-push_text.ensures
    c.in-Some.line c.in-Some.is made.result.0 made.result.1 made.ensures.part made.ensures.start made.new.walk made.ensures.same c.push.new.self.items c.push_inclusion.new.inclusions.items
    c.in_ok-push.ensures.items c.in_ok-push_inclusion.ensures in
    record { spoken = found.0; text = found.1; short = h.short; found = found.2 }

pub returns-clause-lines : goal.returns-clause-lines
returns-clause-lines c =
    let old = c.lines in
    let h = old.invariant in
    found_end c.args.language c.args.text.now (is_among c.args.removed.now) old.walk c.next.new.self c.in_ok-next.next old.parts.items c.push_text.new.parts.items old.inclusions.items h.found.0
    h.spoken h.text h.found.1 c.in_ok-next.ensures.next c.in_ok-push_text.ensures c.in_default.is h.short c.shrink_to_fit.new.self.items c.shrink_to_fit-2.new.self.items c.shrink_to_fit.ensures.items c.shrink_to_fit-2.ensures.items
