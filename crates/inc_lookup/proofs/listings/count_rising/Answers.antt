use Rattle.std.proofs.Common.{◌≡◌, ℕ, Bor, List, [], Some, length, map, take, get_or, sym, ap, subst, ◌∙◌, arith}
use Rattle.std.proofs.lemmas.Bool.{false≢true}
use Rattle.std.proofs.lemmas.List.{map_more}
use Rattle.inc_lookup.specs.Invariants.{IsGoodForm}
use Rattle.inc_lookup.specs.PathLists.{kept_form, is_before}
use Rattle.inc_lookup.specs.Paths.{normal_form}
use Rattle.inc_lookup.specs.Projects.{is_bad_file_path}
use Rattle.inc_lookup.proofs.RisingLists.{rising_begun, rising_more}
use Rattle.inc_lookup.proofs.listings.count_rising.Goals as goal

pub loop-index-init : goal.loop-index-init
loop-index-init c = record {
  rising = rising_begun;
  known = λ yes. absurd (false≢true yes);
}

pub next_form-requires : goal.next_form-requires
next_form-requires c = c.loop-index.invariant.known

pub returns-in_default-clause-rises : goal.returns-in_default-clause-rises
returns-in_default-clause-rises c = c.loop-index.invariant.rising.rises

pub returns-in_default-clause-tabled : goal.returns-in_default-clause-tabled
returns-in_default-clause-tabled c = c.loop-index.invariant.rising.tabled

pub loop-index-preserved : goal.loop-index-preserved
loop-index-preserved c =
    let none : Bor (List ℕ) = record { ref_ptr = (0, 0); now = [] } in
    let path = (get_or c.args.paths.now c.loop-index.index none).now in
    let form = c.in-Some.next.form.now in
    let last = c.loop-index.last.form.now in
    let kept : form ≡ kept_form path = c.in-Some.ensures.kept in
    let good : IsGoodForm (is_bad_file_path path) (normal_form path) (Some (kept_form path)) =
    subst (λ (form : List ℕ). IsGoodForm (is_bad_file_path path) (normal_form path) (Some form)) kept c.in-Some.ensures.good in
    record {
      rising = rw (map_more (λ p. p.now) c.args.paths.now c.loop-index.index none c.loop-index-test.true, kept)
          (rising_more (map (λ p. p.now) (take c.loop-index.index c.args.paths.now)) last path c.loop-index.invariant.rising good
          (ap (is_before last) (sym kept) ∙ c.in-Some.ensures.after));
      known = c.in-Some.ensures.simple;
    }

pub returns-clause-rises : goal.returns-clause-rises
returns-clause-rises c =
    let at : c.loop-index.index ≡ length c.args.paths.now = omega (arith, c.loop-index-test.false) in
    rw (← at) c.loop-index.invariant.rising.rises

pub returns-clause-tabled : goal.returns-clause-tabled
returns-clause-tabled c =
    let at : c.loop-index.index ≡ length c.args.paths.now = omega (arith, c.loop-index-test.false) in
    rw (← at) c.loop-index.invariant.rising.tabled
