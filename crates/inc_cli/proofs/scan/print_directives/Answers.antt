use Rattle.std.proofs.Common.{◌≡◌, ◌∙◌, ℕ, List, [], ap, codes, option_map, refl, subst, sym}
use Rattle.inc_lookup.specs.Views.{seen_answer}
use Rattle.inc_answers.specs.ScanForms.{scan}
use Rattle.inc_answers.specs.Writing.{Writes}
use Rattle.inc_cli.specs.Outputs as outputs
use Rattle.inc_cli.specs.Scans.{IsScanOf, scanned_name, scanned_title}
use Rattle.inc_cli.specs.Views.{output_of, seen_end}
use Rattle.inc_cli.proofs.Names.{named_or}
use Rattle.inc_cli.proofs.scan.print_directives.Goals as goal

pub returns-in-Ok : goal.returns-in-Ok
returns-in-Ok g c not =
    let path = option_map (λ p. p.now) c.args.path in
    let language = c.args.setup.now.language in
    let before = g.O.ByteSink.written c.args.out in
    let after = g.O.ByteSink.written c.run_scan_owned-ended.result.1 in
    let failed = g.O.ByteSink.has_failed c.run_scan_owned-ended.result.1 in
    let ended = c.run_scan_owned-ended.result.0 in
    let bytes = c.in-Ok.source.items in
    let name : c.as_bytes-name.result.now ≡ scanned_name path =
    c.as_bytes-name.ensures.value ∙ named_or c.args.path c.unwrap_or.result _ (codes "-") c.unwrap_or.ensures refl in
    let title : c.as_bytes-title.result.now ≡ scanned_title path =
    c.as_bytes-title.ensures.value ∙ named_or c.args.path c.unwrap_or-2.result _ (codes "<stdin>") c.unwrap_or-2.ensures refl in
    let writes =
    subst (λ t. Writes (λ p. p ≡ scan c.args.form language (scanned_name path) t bytes) before after failed ended) title
    (subst (λ n. Writes (λ p. p ≡ scan c.args.form language n c.as_bytes-title.result.now bytes) before after failed ended) name c.run_scan_owned-ended.ensures.written)
    in
    subst (λ s. IsScanOf language c.args.form path (seen_answer s) (output_of before after failed) (seen_end c.end_of.result)) (sym c.in-Ok.is)
    (ended, c.end_of.ensures not ∙ ap (λ (n : List ℕ). outputs.ended n [] [] ended) c.new.ensures.items, writes, c.run_scan_owned-ended.ensures.own)
