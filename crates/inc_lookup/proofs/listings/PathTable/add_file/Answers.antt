use Rattle.std.proofs.Common.{ap, sym, ◌∙◌}
use Rattle.std.specs.Prelude.{option_map}
use Rattle.inc_lookup.proofs.ListingLemmas.{good_dir}
use Rattle.inc_lookup.proofs.listings.PathTable.add_file.Goals as goal

pub returns : goal.returns
returns c = (
  c.in-Some-2.form.items,
  good_dir c.args.path.now c.in-Some-2.form.items _ c.in_ok-form.ensures (ap (option_map (λ v. v.items)) c.in-Some-2.is) (rw c.deref.ensures.value at (sym c.is_no_file.ensures ∙ c.if-is_no_file.false)),
  rw c.deref-2.ensures.value at c.in_ok-add-2.ensures,
)
