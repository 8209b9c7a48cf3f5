use Rattle.std.proofs.Common.{◌-◌, length, refl, arith}
use Rattle.std.proofs.lemmas.Option.{slice_get_read}
use Rattle.inc_cut.proofs.NextStepLemmas.{step_ahead_at, step_back_at, place_low}
use Rattle.inc_cut.proofs.searches.next_steps.step_at.Goals as goal

pub overflow_add-place : goal.overflow_add-place
overflow_add-place c =
    let low = place_low c.args.graph.now c.args.file c.first_leaving.result c.args.index c.args.ahead.now c.requires.sound c.requires.ahead c.first_leaving.ensures c.if-index-ahead.true in
    let most = low.1 in
    omega arith

pub id-requires : goal.id-requires
id-requires c =
    (place_low c.args.graph.now c.args.file c.first_leaving.result c.args.index c.args.ahead.now c.requires.sound c.requires.ahead c.first_leaving.ensures c.if-index-ahead.true).0

pub returns-then-index-ahead-clause-within : goal.returns-then-index-ahead-clause-within
returns-then-index-ahead-clause-within c =
    (step_ahead_at c.args.graph.now c.args.file c.first_leaving.result c.args.index c.id.result c.args.ahead.now c.ahead.result c.requires.sound c.requires.ahead
    c.first_leaving.ensures c.if-index-ahead.true c.id.ensures c.ahead.ensures).within

pub returns-then-index-ahead-clause-from : goal.returns-then-index-ahead-clause-from
returns-then-index-ahead-clause-from c =
    (step_ahead_at c.args.graph.now c.args.file c.first_leaving.result c.args.index c.id.result c.args.ahead.now c.ahead.result c.requires.sound c.requires.ahead
    c.first_leaving.ensures c.if-index-ahead.true c.id.ensures c.ahead.ensures).from

pub returns-then-index-ahead-clause-at : goal.returns-then-index-ahead-clause-at
returns-then-index-ahead-clause-at c =
    (step_ahead_at c.args.graph.now c.args.file c.first_leaving.result c.args.index c.id.result c.args.ahead.now c.ahead.result c.requires.sound c.requires.ahead
    c.first_leaving.ensures c.if-index-ahead.true c.id.ensures c.ahead.ensures).at

pub returns-clause-within : goal.returns-clause-within
returns-clause-within c =
    let items = c.args.back.now in
    let k = c.args.index - length c.args.ahead.now in
    let over = c.if-index-ahead.false in
    let at = slice_get_read items (length items) k c.index-back-index.result refl (omega (arith, c.requires.within, over)) c.index-back-index.is in
    (step_back_at c.args.graph.now c.args.file k c.args.index c.index-back-index.result c.args.ahead.now items c.back.result c.requires.sound c.requires.ahead c.requires.back
    (omega arith) at c.back.ensures).within

pub returns-clause-from : goal.returns-clause-from
returns-clause-from c =
    let items = c.args.back.now in
    let k = c.args.index - length c.args.ahead.now in
    let over = c.if-index-ahead.false in
    let at = slice_get_read items (length items) k c.index-back-index.result refl (omega (arith, c.requires.within, over)) c.index-back-index.is in
    (step_back_at c.args.graph.now c.args.file k c.args.index c.index-back-index.result c.args.ahead.now items c.back.result c.requires.sound c.requires.ahead c.requires.back
    (omega arith) at c.back.ensures).from

pub returns-clause-at : goal.returns-clause-at
returns-clause-at c =
    let items = c.args.back.now in
    let k = c.args.index - length c.args.ahead.now in
    let over = c.if-index-ahead.false in
    let at = slice_get_read items (length items) k c.index-back-index.result refl (omega (arith, c.requires.within, over)) c.index-back-index.is in
    (step_back_at c.args.graph.now c.args.file k c.args.index c.index-back-index.result c.args.ahead.now items c.back.result c.requires.sound c.requires.ahead c.requires.back
    (omega arith) at c.back.ensures).at
