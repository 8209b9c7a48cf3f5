use Rattle.std.proofs.Common.{Some, refl, sym}
use Rattle.inc_lookup.proofs.ListingLemmas.{good_form, good_dir}
use Rattle.inc_lookup.proofs.SimplePaths.{simple_file}
use Rattle.inc_lookup.proofs.listings.next_good_form.Goals as goal

pub returns-clause-good : goal.returns-clause-good
returns-clause-good c =
    let form = c.in_ok-form.form.now in
    let is = c.in_ok-form.ensures in
    good_dir c.args.path.now form (Some form) (good_form c.args.path.now (Some form) is.form.0 c.if-path-gt-LONGEST_PATH.false (sym is.form.1)) refl (simple_file form is.simple)
