use Rattle.std.proofs.Common.{◌≡◌, sym, ◌∙◌}
use Rattle.std.specs.Prelude.{false}
use Rattle.std.proofs.lemmas.Result.{IfOk-weaker}
use Rattle.inc_lookup.proofs.ListingLemmas.{has_end, has_end-is, good_form}
use Rattle.inc_lookup.proofs.listings.dir_path.Goals as goal

pub returns : goal.returns
returns c =
    let fine : has_end c.args.path.now ≡ false = has_end-is c.args.path.now c.memchr2.result c.memchr2.ensures ∙ sym c.if-is_some.ensures in
    IfOk-weaker c.normalise.result _ _ (λ form is. good_form c.args.path.now _ fine c.if-path-gt-LONGEST_PATH.false is) c.normalise.ensures
