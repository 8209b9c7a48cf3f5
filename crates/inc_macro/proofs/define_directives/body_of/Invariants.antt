use Rattle.std.proofs.Common.{◌≡◌, ◌++◌, drop, map}
use Rattle.inc_token.specs.Views.{seen}
use Rattle.inc_macro.specs.Macros.{body_of}
use Rattle.inc_macro.specs.Roles.{roles_from}
use Rattle.inc_macro.specs.Views.{spellings_in}
use Rattle.inc_macro.specs.declared.roles.Before.TheVariants.{Neither}
use Rattle.inc_macro.proofs.BodyTokens.{body_rest}
use Rattle.inc_macro.proofs.define_directives.body_of.Given as goal

abbrev pub invariant-loop-i : goal.invariant-loop-i
invariant-loop-i l = record {
  name : l.body.name ≡ l.name;
  tokens : body_of (map seen l.tokens) ≡ l.body.tokens ++ body_rest l.i (drop l.i (map seen l.tokens));
  roles : roles_from l.params Neither (spellings_in l.tokens) ≡ l.body.roles ++ roles_from l.params l.before (drop l.i (spellings_in l.tokens));
}
