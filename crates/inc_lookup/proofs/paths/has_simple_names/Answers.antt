use Rattle.std.proofs.Common.{◌≡◌, true, drop, sym, ◌∙◌}
use Rattle.std.proofs.lemmas.Bool.{cond-true, cond-false}
use Rattle.std.proofs.lemmas.List.{take_rest}
use Rattle.inc_lookup.specs.SimpleNames.{is_simple, is_simple_path}
use Rattle.inc_lookup.proofs.SimplePaths.{simple_path}
use Rattle.inc_lookup.proofs.paths.has_simple_names.Goals as goal

pub returns-then-is_absolute : goal.returns-then-is_absolute
returns-then-is_absolute c =
    let path = c.args.path.now in
    let name = rw take_rest at c.is_simple.ensures in
    let simple : c.is_simple.result ≡ true → is_simple_path path ≡ true = λ yes. cond-true _ (is_simple (drop 1 path)) (is_simple path) (sym c.is_absolute.ensures ∙ c.if-is_absolute.true) ∙ name yes in
    record {
      form = λ yes. (simple_path path (simple yes)).1;
      line = λ yes. (simple_path path (simple yes)).0;
      simple = simple;
    }

pub returns : goal.returns
returns c =
    let path = c.args.path.now in
    let simple : c.is_simple-2.result ≡ true → is_simple_path path ≡ true = λ yes. cond-false _ (is_simple (drop 1 path)) (is_simple path) (sym c.is_absolute.ensures ∙ c.if-is_absolute.false) ∙ c.is_simple-2.ensures yes in
    record {
      form = λ yes. (simple_path path (simple yes)).1;
      line = λ yes. (simple_path path (simple yes)).0;
      simple = simple;
    }
