use Rattle.std.proofs.Common.{◌<◌, ◌∙◌, [], get_or, length, map, rules}
use Rattle.std.proofs.lemmas.Option.{slice_get-get_or}
use Rattle.inc_inputs.specs.Views.{ground_in, source_in}
use Rattle.inc_inputs.proofs.SourceLemmas.{source_more}
use Rattle.inc_inputs.proofs.build_sources.sources_of.Goals as goal

pub loop-number-preserved : goal.loop-number-preserved
loop-number-preserved c =
    let d = ground_in c.args.ground.now in
    let n = c.loop-number.number in
    let sources = d.build.sources in
    let low : n < length sources = search rules in
    source_more d c.args.used.now.keys n sources (map source_in c.loop-number.sources.items) (map source_in c.add_source.new.sources.items) low
    (c.in_ok-add_source.ensures (get_or sources n []) (slice_get-get_or sources n [] low))
    ∙ c.loop-number.invariant
