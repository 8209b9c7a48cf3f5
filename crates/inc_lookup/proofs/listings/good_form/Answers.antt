use Rattle.std.proofs.Common.{Some, refl, sym, ◌∙◌}
use Rattle.inc_lookup.proofs.ListingLemmas.{good_form, good_dir}
use Rattle.inc_lookup.proofs.listings.good_form.Goals as goal

pub returns-clause-good : goal.returns-clause-good
returns-clause-good c =
    let form = c.in_ok-form.form.now in
    good_dir c.args.path.now form (Some form)
    (good_form c.args.path.now (Some form) c.in_ok-form.ensures.form.0 c.if-path-gt-LONGEST_PATH.false (sym c.in_ok-form.ensures.form.1)) refl (sym c.is_no_file.ensures ∙ c.if-is_no_file.false)
