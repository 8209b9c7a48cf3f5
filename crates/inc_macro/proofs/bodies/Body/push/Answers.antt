use Rattle.std.proofs.Common.{◌≡◌, ◌∙◌, ◌++◌, ◌∷◌, [], ap, arith, length, List}
use Rattle.std.proofs.lemmas.List.{length-append}
use Rattle.inc_macro.specs.Bodies.{Kept}
use Rattle.inc_macro.specs.Macros.{BodyToken}
use Rattle.inc_macro.specs.declared.bodies.Part.{Part}
use Rattle.inc_macro.proofs.KeptBodies.{pushed_end, pushed_name, pushed_plain, pushed_tokens}
use Rattle.inc_macro.proofs.bodies.Body.push.Goals as goal

-- the part that is pushed
abbrev part : goal.After-self-1 → Part
part c = record { end = c.in_ok-end.end; kind = c.args.kind; space = c.args.space; role = c.args.role }

texts : (c : goal.After-self-1) → c.extend_from_slice.new.self.items ≡ c.self.inside.spellings.items ++ c.args.spelling.now
texts c = c.in_ok-extend_from_slice.ensures.items

parts : (c : goal.After-self-1) → c.push.new.self.items ≡ c.self.inside.parts.items ++ part c ∷ []
parts c = c.in_ok-push.ensures.items ∙ ap (λ (ps : List Part). ps ++ part c ∷ []) c.in_ok-reserve.ensures.items

end : (c : goal.After-self-1) → c.in_ok-end.end ≡ length c.extend_from_slice.new.self.items
end c =
    let all = ap length (texts c) in
    omega (arith, all, length-append c.self.inside.spellings.items c.args.spelling.now, c.in_ok-end.ensures, c.len.ensures, c.self.inside.spellings.ok.0)

pub invariant_of-self-2 : goal.invariant_of-self-2
invariant_of-self-2 c = (
  pushed_end c.self.inside.name_len c.self.inside.spellings.items c.args.spelling.now c.extend_from_slice.new.self.items c.self.inside.parts.items c.push.new.self.items (part c)
      c.self.invariant.0 (texts c) (parts c) (end c),
  pushed_plain c.self.inside.parts.items c.push.new.self.items (part c) c.self.inside.is_plain c.stays_plain-is_plain.result (parts c) c.self.invariant.1 c.stays_plain-is_plain.ensures,
)

pub returns-clause-tokens : goal.returns-clause-tokens
returns-clause-tokens c =
    let token : BodyToken = record { kind = c.args.kind; spelling = c.args.spelling.now; space = c.args.space } in
    pushed_tokens c.self.inside.name_len c.self.inside.spellings.items c.args.spelling.now c.extend_from_slice.new.self.items c.self.inside.parts.items c.push.new.self.items (part c)
    c.self.invariant.0 (texts c) (parts c) (end c)
    ∙ ap (λ (b : Kept). b.tokens ++ token ∷ []) c.self.view_is

pub returns-clause-name : goal.returns-clause-name
returns-clause-name c =
    pushed_name c.self.inside.name_len c.self.inside.spellings.items c.args.spelling.now c.extend_from_slice.new.self.items c.self.inside.parts.items c.self.invariant.0 (texts c)
    ∙ ap (λ (b : Kept). b.name) c.self.view_is
