use Rattle.std.proofs.Common.{◌∙◌, [], ap, map, unwrap_or}
use Rattle.std.proofs.lemmas.Result.{IfOk-weaker}
use Rattle.clap.specs.Words.{found_of}
use Rattle.inc_args.proofs.Rows.{raw_values-rows}
use Rattle.inc_args.proofs.reading.values.Goals as goal

pub returns-in-Some : goal.returns-in-Some
returns-in-Some c =
    IfOk-weaker c.from_slice.result _ _
    (λ v e. ap (map (λ s. s.now)) e ∙ ap (λ o. unwrap_or o []) (c.in-Some.ensures ∙ raw_values-rows (found_of c.args.matches.now) c.args.name.now))
    c.from_slice.ensures.items

pub returns-in-None : goal.returns-in-None
returns-in-None c =
    ap (map (λ s. s.now)) c.new.ensures.items ∙ ap (λ o. unwrap_or o []) (c.in-None.ensures ∙ raw_values-rows (found_of c.args.matches.now) c.args.name.now)
