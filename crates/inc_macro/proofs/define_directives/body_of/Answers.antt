use Rattle.std.proofs.Common.{◌∙◌, ap}
use Rattle.inc_macro.specs.Roles.{before_after}
use Rattle.inc_macro.proofs.BodyTokens.{body_rest-at, roles_from-at, snoc}
use Rattle.inc_macro.proofs.define_directives.body_of.Goals as goal

pub loop-i-preserved : goal.loop-i-preserved
loop-i-preserved c = record {
  name = c.in_ok-push.ensures.name ∙ c.loop-i.invariant.name;
  tokens =
      snoc c.loop-i.body.tokens c.push.new.self.tokens _ _ _ _ c.loop-i.invariant.tokens
      (body_rest-at c.args.tokens.now c.loop-i.i _ c.keeps_space-space.result c.loop-i-test.true c.keeps_space-space.ensures)
      c.in_ok-push.ensures.tokens;
  roles =
      snoc c.loop-i.body.roles c.push.new.self.roles _ _ _ _ c.loop-i.invariant.roles
      (roles_from-at c.args.params.now c.loop-i.before c.before_after-before.result c.paste_follows.result c.comma_at-comma.result c.role_at-role.result c.comma_role.result c.args.tokens.now c.loop-i.i _
      c.loop-i-test.true c.comma_at-comma.ensures c.paste_follows.ensures c.role_at-role.ensures c.comma_role.ensures (c.before_after-before.ensures ∙ ap (before_after c.comma_at-comma.result) c.before_next.ensures))
      c.in_ok-push.ensures.roles;
}
