use Rattle.std.proofs.Common.{length, map}
use Rattle.inc_directive.specs.KindViews.{seen_kind}
use Rattle.inc_answers.specs.DefinitionPlaces.{kept_place}
use Rattle.inc_answers.specs.KeptFiles.{kept_at}
use Rattle.inc_answers.specs.NamedReasons.{is_made_by}
use Rattle.inc_answers.proofs.DefinitionLemmas.{place_low}
use Rattle.inc_answers.proofs.NamedReasonLemmas.{made_low}
use Rattle.inc_answers.proofs.named_reasons.put_blocker.Goals as goal

pub put_words-requires : goal.put_words-requires
put_words-requires c =
    let names = c.args.names.now in
    let count = length c.args.project.now.paths in
    let kind = seen_kind c.kind-seen.result in
    made_low (kept_place names.language names.kept count) count (λ name d is. place_low names.language (kept_at names.kept) count name d is)
    (is_made_by (map (λ n. n.now) c.args.undefined.now) kind) kind c.definition_of-definition.result
    (c.definition_of-definition.ensures (kept_place names.language names.kept count) c.requires.placed)
