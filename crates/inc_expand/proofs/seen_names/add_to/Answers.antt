use Rattle.std.proofs.Common.{map, ap, ◌∙◌}
use Rattle.inc_expand.proofs.Tables.{names-inserted, place-map}
use Rattle.inc_expand.proofs.seen_names.add_to.Goals as goal

pub returns-clause-place : goal.returns-clause-place
returns-clause-place c = c.in_ok-place.ensures.index ∙ place-map c.args.name.now c.args.names.now.keys

pub returns-clause-names : goal.returns-clause-names
returns-clause-names c =
    ap (λ ks. map (λ n. n.bytes.now) ks) c.in_ok-place.ensures.keys ∙ names-inserted c.args.names.now.keys (record { bytes = c.args.name })
