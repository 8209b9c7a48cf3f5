use Rattle.std.proofs.Common.{◌≡◌, ◌+◌, Some, take, count_by, ap, ◌∙◌, sym, arith}
use Rattle.inc_text.proofs.CursorLemmas.{place_inside, place_read, place_short, splices_upto-passed}
use Rattle.inc_text.proofs.LineFeedLemmas.{count_on}
use Rattle.inc_text.proofs.PhaseLemmas.{lf}
use Rattle.inc_text.specs.Origins.{splices_upto}
use Rattle.inc_text.proofs.cursors.Cursor.place_by_parts.Goals as goal
use Rattle.inc_text.proofs.cursors.Cursor.place_by_parts.Goals.{then-at-level, else-at-level}

pub overflow_cast-at : goal.overflow_cast-at
overflow_cast-at c = omega (arith, place_short _ _ _ _ _ c.self.view_is c.requires c.self.invariant.parts.short)

pub overflow_cast-at-else-at-level : goal.overflow_cast-at-else-at-level
overflow_cast-at-else-at-level c = omega (arith, place_short _ _ _ _ _ c.self.view_is c.requires c.self.invariant.parts.short)

pub overflow_cast-at-2 : goal.overflow_cast-at-2
overflow_cast-at-2 c = omega (arith, place_short _ _ _ _ _ c.self.view_is c.requires c.self.invariant.parts.short)

pub range_by-first-requires-clause-short : goal.range_by-first-requires-clause-short
range_by-first-requires-clause-short c = omega (arith, place_short _ _ _ _ _ c.self.view_is c.requires c.self.invariant.parts.short)

pub line_feeds_between-requires-clause-within : goal.line_feeds_between-requires-clause-within
line_feeds_between-requires-clause-within c = omega (arith, place_inside _ _ _ _ _ c.self.view_is c.requires)

pub level_from-level-requires-clause-before : goal.level_from-level-requires-clause-before
level_from-level-requires-clause-before c =
    elim c.if-at-level.branch [
      | then-at-level w ↦ rw w.before-is w.before_by_search-before.ensures
      | else-at-level w ↦
          rw w.before-is (record {
            origins_passed = w.origins_on.ensures;
            splices_passed = w.splices_on.ensures;
            line_feeds = count_on c.self.inside.bytes.now c.self.inside.level.to c.args.at c.self.inside.level.line_feeds w.line_feeds_between.result (omega (arith, w.if-at-level.false)) c.self.invariant.stretch.line_feeds w.line_feeds_between.ensures;
          })
    ]

pub level_from-level-requires-clause-within : goal.level_from-level-requires-clause-within
level_from-level-requires-clause-within c = place_inside _ _ _ _ _ c.self.view_is c.requires

pub returns-clause-place : goal.returns-clause-place
returns-clause-place c =
    let passed = c.if-at-level.before in
    let splices : splices_upto c.self.inside.splices.now c.args.at ≡ passed.splices =
    elim c.if-at-level.branch [
      | then-at-level w ↦ rw w.before-is (splices_upto-passed _ _ _ w.before_by_search-before.ensures.splices_passed)
      | else-at-level w ↦ rw w.before-is (splices_upto-passed _ _ _ w.splices_on.ensures)
    ] in
    let before : count_by lf (take c.args.at c.self.inside.bytes.now) ≡ passed.line_feeds =
    elim c.if-at-level.branch [
      | then-at-level w ↦ rw w.before-is (sym w.before_by_search-before.ensures.line_feeds)
      | else-at-level w ↦ rw w.before-is (sym (count_on c.self.inside.bytes.now c.self.inside.level.to c.args.at c.self.inside.level.line_feeds w.line_feeds_between.result (omega (arith, w.if-at-level.false)) c.self.invariant.stretch.line_feeds w.line_feeds_between.ensures))
    ] in
    let line : 1 + (passed.line_feeds + passed.splices) ≡ c.level_from-level.result.line = omega (arith, c.level_from-level.ensures.line) in
    place_read _ _ _ _ _ _ _ _ _ c.self.view_is c.requires c.range_by-first.ensures.first c.range_by-first.ensures.last before splices
    ∙ ap (λ n. Some (c.range_by-first.result.0, c.range_by-first.result.1, n)) line
