use Rattle.std.proofs.Common.{List, Some, length, option_map, set, arith, ap, sym, ◌∙◌}
use Rattle.std.proofs.lemmas.Bool.{eqb-true}
use Rattle.std.proofs.lemmas.List.{nil_from_length}
use Rattle.std.proofs.lemmas.Result.{err_from_is_err_and}
use Rattle.inc_graph.specs.Nexts.{Next}
use Rattle.inc_graph.proofs.GivenSearch.{given_from, given_wide, given_past, given_again, given_found, given_further, given_listed, given_read, given_end, given_unsearched, search_refused, is_none}
use Rattle.inc_graph.proofs.building.closures.search_path.Goals as goal

pub returns-then-is_empty-clause-searched : goal.returns-then-is_empty-clause-searched
returns-then-is_empty-clause-searched g c = λ first layout all path is before.
    given_unsearched g.S.Sources.gives c.args.setting.now layout all c.args.headers.now path c.args.lookup.now c.args.from.now is first c.args.sources.now c.args.known.now.states c.args.known.now.directs
    (nil_from_length c.args.from.now (eqb-true (length c.args.from.now) 0 (sym c.is_empty.ensures ∙ c.if-is_empty.true))) before

pub loop-taken-init : goal.loop-taken-init
loop-taken-init g c = record {
  search = λ first layout all path is before.
      given_from g.S.Sources.gives c.args.setting.now layout all c.args.headers.now path c.args.lookup.now c.args.from.now is first c.args.sources.now c.count-2.result c.in_ok-places.places.found c.args.known.now.states c.args.known.now.directs c.in_ok-nexts.nexts before
      c.count-2.ensures c.in_ok-places.ensures.found c.in_ok-nexts.ensures;
  files = c.in_ok-places.ensures.files ∙ c.count.ensures;
}

pub loop-taken-preserved-then-contains : goal.loop-taken-preserved-then-contains
loop-taken-preserved-then-contains g c = record {
  search = λ first layout all path is before.
      given_past g.S.Sources.gives c.args.setting.now layout all c.args.headers.now path c.args.lookup.now c.args.from.now is first c.loop-taken.sources c.loop-taken.places.found c.loop-taken.known.states c.loop-taken.known.directs c.loop-taken.nexts c.loop-taken.taken (c.loop-taken.invariant.search first layout all path is before) c.at.result c.at.ensures.at (sym c.contains.ensures ∙ c.if-contains.true);
  files = c.loop-taken.invariant.files;
}

pub of-requires : goal.of-requires
of-requires g c =
    let wide = given_wide g.S.Sources.gives c.args.setting.now c.requires.before.layout c.requires.before.sources c.args.headers.now c.requires.before.path c.args.lookup.now c.args.from.now c.requires.before.is c.requires.before.first c.loop-taken.sources c.loop-taken.places.found c.loop-taken.known.states c.loop-taken.known.directs c.loop-taken.nexts c.loop-taken.taken (c.loop-taken.invariant.search c.requires.before.first c.requires.before.layout c.requires.before.sources c.requires.before.path c.requires.before.is c.requires.before.searched) in
    let within = c.at.ensures.within in
    omega (arith, wide.1, within, c.loop-taken.invariant.files)

pub follow_nexts-requires-clause-found : goal.follow_nexts-requires-clause-found
follow_nexts-requires-clause-found g c =
    rw c.loop-taken.invariant.files
    (given_found g.S.Sources.gives c.args.setting.now c.requires.before.layout c.requires.before.sources c.args.headers.now c.requires.before.path c.args.lookup.now c.args.from.now c.requires.before.is c.requires.before.first c.loop-taken.sources c.loop-taken.places.found c.loop-taken.known.states c.loop-taken.known.directs c.loop-taken.nexts c.loop-taken.taken (c.loop-taken.invariant.search c.requires.before.first c.requires.before.layout c.requires.before.sources c.requires.before.path c.requires.before.is c.requires.before.searched) c.at.result c.in-Some.own.now c.at.ensures.at (sym c.contains.ensures ∙ c.if-contains.false) (sym c.of.ensures ∙ ap (option_map (λ l. l.now)) c.in-Some.is))

pub follow_nexts-requires-clause-file : goal.follow_nexts-requires-clause-file
follow_nexts-requires-clause-file g c =
    let wide = given_wide g.S.Sources.gives c.args.setting.now c.requires.before.layout c.requires.before.sources c.args.headers.now c.requires.before.path c.args.lookup.now c.args.from.now c.requires.before.is c.requires.before.first c.loop-taken.sources c.loop-taken.places.found c.loop-taken.known.states c.loop-taken.known.directs c.loop-taken.nexts c.loop-taken.taken (c.loop-taken.invariant.search c.requires.before.first c.requires.before.layout c.requires.before.sources c.requires.before.path c.requires.before.is c.requires.before.searched) in
    let within = c.at.ensures.within in
    omega (arith, wide.0, within, c.loop-taken.invariant.files)

pub loop-taken-preserved-in-Some : goal.loop-taken-preserved-in-Some
loop-taken-preserved-in-Some g c =
    let followed = c.in_ok-follow_nexts.ensures in
    let within = c.at.ensures.within in
    record {
      search = λ first layout all path is before.
          given_again g.S.Sources.gives c.args.setting.now layout all c.args.headers.now path c.args.lookup.now c.args.from.now is first c.loop-taken.sources c.loop-taken.places.found c.loop-taken.known.states c.loop-taken.known.directs c.loop-taken.nexts c.loop-taken.taken (c.loop-taken.invariant.search first layout all path is before) c.follow_nexts.new.places.found c.follow_nexts.new.states c.at.result c.in-Some.own.now c.at.ensures.at
          (sym c.contains.ensures ∙ c.if-contains.false) (omega (arith, within, c.loop-taken.invariant.files)) (sym c.of.ensures ∙ ap (option_map (λ l. l.now)) c.in-Some.is) followed.places followed.states;
      files = followed.files ∙ c.loop-taken.invariant.files;
    }

pub is_read-requires : goal.is_read-requires
is_read-requires g c =
    let wide = given_wide g.S.Sources.gives c.args.setting.now c.requires.before.layout c.requires.before.sources c.args.headers.now c.requires.before.path c.args.lookup.now c.args.from.now c.requires.before.is c.requires.before.first c.loop-taken.sources c.loop-taken.places.found c.loop-taken.known.states c.loop-taken.known.directs c.loop-taken.nexts c.loop-taken.taken (c.loop-taken.invariant.search c.requires.before.first c.requires.before.layout c.requires.before.sources c.requires.before.path c.requires.before.is c.requires.before.searched) in
    let within = c.at.ensures.within in
    omega (arith, wide.0, within, c.loop-taken.invariant.files)

pub of-directs-requires : goal.of-directs-requires
of-directs-requires g c =
    let within = c.at.ensures.within in
    given_listed g.S.Sources.gives c.args.setting.now c.requires.before.layout c.requires.before.sources c.args.headers.now c.requires.before.path c.args.lookup.now c.args.from.now c.requires.before.is c.requires.before.first c.loop-taken.sources c.loop-taken.places.found c.loop-taken.known.states c.loop-taken.known.directs c.loop-taken.nexts c.loop-taken.taken (c.loop-taken.invariant.search c.requires.before.first c.requires.before.layout c.requires.before.sources c.requires.before.path c.requires.before.is c.requires.before.searched) c.at.result c.at.ensures.at
    (sym c.contains.ensures ∙ c.if-contains.false) (omega (arith, within, c.loop-taken.invariant.files)) (sym c.of.ensures ∙ ap (option_map (λ l. l.now)) c.in_default.is) (sym c.is_read.ensures ∙ c.if-is_read.true)

pub set-requires : goal.set-requires
set-requires g c =
    let wide = given_wide g.S.Sources.gives c.args.setting.now c.requires.before.layout c.requires.before.sources c.args.headers.now c.requires.before.path c.args.lookup.now c.args.from.now c.requires.before.is c.requires.before.first c.loop-taken.sources c.loop-taken.places.found c.loop-taken.known.states c.loop-taken.known.directs c.loop-taken.nexts c.loop-taken.taken (c.loop-taken.invariant.search c.requires.before.first c.requires.before.layout c.requires.before.sources c.requires.before.path c.requires.before.is c.requires.before.searched) in
    let within = c.at.ensures.within in
    omega (arith, wide.1, within, c.loop-taken.invariant.files)

pub loop-taken-preserved-then-is_read : goal.loop-taken-preserved-then-is_read
loop-taken-preserved-then-is_read g c =
    let followed = c.in_ok-follow_directs.ensures in
    let within = c.at.ensures.within in
    record {
      search = λ first layout all path is before.
          given_further g.S.Sources.gives c.args.setting.now layout all c.args.headers.now path c.args.lookup.now c.args.from.now is first c.loop-taken.sources c.loop-taken.places.found c.loop-taken.known.states c.loop-taken.known.directs c.loop-taken.nexts c.loop-taken.taken (c.loop-taken.invariant.search first layout all path is before) c.follow_directs.new.places.found c.follow_directs.new.states c.set.new.self c.at.result c.in_ok-own.own.items c.at.ensures.at
          (sym c.contains.ensures ∙ c.if-contains.false) (omega (arith, within, c.loop-taken.invariant.files)) (sym c.of.ensures ∙ ap (option_map (λ l. l.now)) c.in_default.is) (sym c.is_read.ensures ∙ c.if-is_read.true)
          (rw (← c.of-directs.ensures) followed.places) (rw (← c.of-directs.ensures) followed.states) (rw (← c.of-directs.ensures) c.in_ok-own.ensures) c.in_ok-set.ensures;
      files = followed.files ∙ c.loop-taken.invariant.files;
    }

pub returns-in_err-bytes-clause-unread : goal.returns-in_err-bytes-clause-unread
returns-in_err-bytes-clause-unread g c =
    let p = err_from_is_err_and c.from_residual-in_err-bytes.result c.from_residual-in_err-bytes.ensures.1 in
    rw (p.1, p.2)
    (search_refused g.S.Sources.gives c.args.sources.now c.loop-taken.sources c.args.setting.now c.args.headers.now c.args.lookup.now c.args.from.now c.args.known.now.states c.args.known.now.directs
    c.loop-taken.places.found c.loop-taken.known.states c.loop-taken.known.directs c.loop-taken.nexts c.loop-taken.taken c.loop-taken.invariant.search _ c.at.result _ c.at.ensures.at
    (sym c.contains.ensures ∙ c.if-contains.false) (is_none _ (sym c.is_read.ensures ∙ c.if-is_read.false)) c.in_err-bytes.ensures.unread)

pub set-requires-in-loop-taken : goal.set-requires-in-loop-taken
set-requires-in-loop-taken g c =
    let wide = given_wide g.S.Sources.gives c.args.setting.now c.requires.before.layout c.requires.before.sources c.args.headers.now c.requires.before.path c.args.lookup.now c.args.from.now c.requires.before.is c.requires.before.first c.loop-taken.sources c.loop-taken.places.found c.loop-taken.known.states c.loop-taken.known.directs c.loop-taken.nexts c.loop-taken.taken (c.loop-taken.invariant.search c.requires.before.first c.requires.before.layout c.requires.before.sources c.requires.before.path c.requires.before.is c.requires.before.searched) in
    let within = c.at.ensures.within in
    omega (arith, wide.0, within, c.loop-taken.invariant.files)

pub set-requires-in-loop-taken-3 : goal.set-requires-in-loop-taken-3
set-requires-in-loop-taken-3 g c =
    let wide = given_wide g.S.Sources.gives c.args.setting.now c.requires.before.layout c.requires.before.sources c.args.headers.now c.requires.before.path c.args.lookup.now c.args.from.now c.requires.before.is c.requires.before.first c.loop-taken.sources c.loop-taken.places.found c.loop-taken.known.states c.loop-taken.known.directs c.loop-taken.nexts c.loop-taken.taken (c.loop-taken.invariant.search c.requires.before.first c.requires.before.layout c.requires.before.sources c.requires.before.path c.requires.before.is c.requires.before.searched) in
    let within = c.at.ensures.within in
    omega (arith, wide.1, within, c.loop-taken.invariant.files)

pub loop-taken-preserved : goal.loop-taken-preserved
loop-taken-preserved g c =
    let within = c.at.ensures.within in
    let read = c.in_ok-read.ensures in
    record {
      search = λ first layout all path is before.
          given_read g.S.Sources.gives c.args.setting.now layout all c.args.headers.now path c.args.lookup.now c.args.from.now is first c.loop-taken.sources c.loop-taken.places.found c.loop-taken.known.states c.loop-taken.known.directs c.loop-taken.nexts c.loop-taken.taken (c.loop-taken.invariant.search first layout all path is before) c.read_source.new.sources c.read_file.new.places.found c.set-in-loop-taken.new.self c.set-in-loop-taken-2.new.self c.set-in-loop-taken-3.new.self
          c.at.result c.in_ok-bytes.bytes.items c.at.ensures.at (sym c.contains.ensures ∙ c.if-contains.false) (omega (arith, within, c.loop-taken.invariant.files))
          (is_none _ (sym c.is_read.ensures ∙ c.if-is_read.false)) c.in_ok-bytes.ensures.gives read.places
          (c.in_ok-set-2.ensures ∙ ap (set c.loop-taken.known.states c.at.result.file) read.state)
          (λ several. c.in_ok-set-3.ensures ∙ ap (set c.loop-taken.known.directs c.at.result.file) (read.directs several))
          (c.in_ok-set-4.ensures ∙ ap (λ (l : List Next). set c.loop-taken.nexts c.at.result.file (Some l)) read.nexts);
      files = read.files ∙ c.loop-taken.invariant.files;
    }

pub returns-clause-searched : goal.returns-clause-searched
returns-clause-searched g c = λ first layout all path is before.
    given_end g.S.Sources.gives c.args.setting.now layout all c.args.headers.now path c.args.lookup.now c.args.from.now is first c.loop-taken.sources c.loop-taken.places.found c.loop-taken.known.states c.loop-taken.known.directs c.loop-taken.nexts c.loop-taken.taken (c.loop-taken.invariant.search first layout all path is before) (omega (arith, c.len.ensures.count, c.loop-taken-test.false))
