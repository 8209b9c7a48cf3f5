use Rattle.std.proofs.Common.{◌≡◌, ◌≢◌, ◌∙◌, ◌+◌, ◌++◌, ◌∷◌, [], ℕ, List, Option, Some, Ok, Err, IfOk, IfErr, length, ◌≤◌, drop, map, get_or, ap, ap₂, sym, subst, arith, None, Bool}
use Rattle.std.proofs.lemmas.List.{length-drop, length-map}
use Rattle.std.specs.Bool.{OnTrue}
use Rattle.inc_token.specs.Views.{seen}
use Rattle.inc_token.specs.TokenLines.{Tok}
use Rattle.inc_macro.specs.Macros.{Params, Variable}
use Rattle.inc_macro.specs.NameLists.{counted, names_from, named_with, parameters_with}
use Rattle.inc_macro.specs.declared.faults.DefineFault.{DefineFault}
use Rattle.inc_macro.specs.declared.faults.DefineFault.TheVariants.{NoMemory}
use Rattle.inc_macro.proofs.TokenTexts.{pair_at, no_token}
use Rattle.inc_macro.proofs.NameSteps.{names_in-empty, names_from-short, variadic_end, stray_dots, named_end, after-drop, bad_name, last_name, next_name, no_comma}
use Rattle.inc_macro.proofs.parameters.parameters_in.Goals as goal

pub returns-then-stands_at-clause-done : goal.returns-then-stands_at-clause-done
returns-then-stands_at-clause-done c =
    let all : List Tok = map seen c.args.tokens.now in
    let read = names_in-empty c.args.language all (sym c.stands_at.ensures ∙ c.if-stands_at.true)
    ∙ ap (λ (ns : List (List ℕ)). parameters_with ns None (drop 1 all)) (sym c.new-names.ensures) in
    subst (λ (o : Option (Params × List Tok)). IfOk c.finish.result (λ r. counted o ≡ Ok (r.0, drop r.1 all))) (sym read) (c.finish.ensures.done all)

pub returns-then-stands_at-clause-fault : goal.returns-then-stands_at-clause-fault
returns-then-stands_at-clause-fault c =
    let all : List Tok = map seen c.args.tokens.now in
    let read = names_in-empty c.args.language all (sym c.stands_at.ensures ∙ c.if-stands_at.true)
    ∙ ap (λ (ns : List (List ℕ)). parameters_with ns None (drop 1 all)) (sym c.new-names.ensures) in
    subst (λ (o : Option (Params × List Tok)). IfErr c.finish.result (λ (fault : DefineFault). fault ≢ NoMemory → counted o ≡ Err fault)) (sym read) (c.finish.ensures.fault _)

pub returns-then-closes-clause-done : goal.returns-then-closes-clause-done
returns-then-closes-clause-done c =
    let all : List Tok = map seen c.args.tokens.now in
    let done = c.loop-at.list.names in
    let t : Tok = seen (get_or c.args.tokens.now c.loop-at.at no_token) in
    let u : Tok = seen (get_or c.args.tokens.now (c.loop-at.at + 1) no_token) in
    let rest : List Tok = drop (c.loop-at.at + 2) all in
    let here = c.loop-at.invariant.answer ∙ ap (names_from c.args.language done) (pair_at c.args.tokens.now c.loop-at.at no_token no_token c.loop-at-test.true) in
    let read = here ∙ variadic_end c.args.language done t u rest (sym c.is_spelled.ensures ∙ c.if-is_spelled.true) (sym c.is_spelled-closes.ensures ∙ c.if-closes.true) ∙ ap (λ (v : Variable). parameters_with done (Some v) rest) (sym c.unnamed.ensures) in
    subst (λ (o : Option (Params × List Tok)). IfOk c.finish-then-closes.result (λ r. counted o ≡ Ok (r.0, drop r.1 all))) (sym read) (c.finish-then-closes.ensures.done all)

pub returns-then-closes-clause-fault : goal.returns-then-closes-clause-fault
returns-then-closes-clause-fault c =
    let all : List Tok = map seen c.args.tokens.now in
    let done = c.loop-at.list.names in
    let t : Tok = seen (get_or c.args.tokens.now c.loop-at.at no_token) in
    let u : Tok = seen (get_or c.args.tokens.now (c.loop-at.at + 1) no_token) in
    let rest : List Tok = drop (c.loop-at.at + 2) all in
    let here = c.loop-at.invariant.answer ∙ ap (names_from c.args.language done) (pair_at c.args.tokens.now c.loop-at.at no_token no_token c.loop-at-test.true) in
    let read = here ∙ variadic_end c.args.language done t u rest (sym c.is_spelled.ensures ∙ c.if-is_spelled.true) (sym c.is_spelled-closes.ensures ∙ c.if-closes.true) ∙ ap (λ (v : Variable). parameters_with done (Some v) rest) (sym c.unnamed.ensures) in
    subst (λ (o : Option (Params × List Tok)). IfErr c.finish-then-closes.result (λ (fault : DefineFault). fault ≢ NoMemory → counted o ≡ Err fault)) (sym read) (c.finish-then-closes.ensures.fault _)

pub returns-else-closes-clause-fault : goal.returns-else-closes-clause-fault
returns-else-closes-clause-fault c =
    let all : List Tok = map seen c.args.tokens.now in
    let done = c.loop-at.list.names in
    let t : Tok = seen (get_or c.args.tokens.now c.loop-at.at no_token) in
    let u : Tok = seen (get_or c.args.tokens.now (c.loop-at.at + 1) no_token) in
    let rest : List Tok = drop (c.loop-at.at + 2) all in
    let here = c.loop-at.invariant.answer ∙ ap (names_from c.args.language done) (pair_at c.args.tokens.now c.loop-at.at no_token no_token c.loop-at-test.true) in
    let read = here ∙ stray_dots c.args.language done t u rest (sym c.is_spelled.ensures ∙ c.if-is_spelled.true) (sym c.is_spelled-closes.ensures ∙ c.if-closes.false) in
    λ _. ap counted read

pub returns-then-is_dots-clause-done : goal.returns-then-is_dots-clause-done
returns-then-is_dots-clause-done c =
    let all : List Tok = map seen c.args.tokens.now in
    let done = c.loop-at.list.names in
    let t : Tok = seen (get_or c.args.tokens.now c.loop-at.at no_token) in
    let u : Tok = seen (get_or c.args.tokens.now (c.loop-at.at + 1) no_token) in
    let rest : List Tok = drop (c.loop-at.at + 2) all in
    let here = c.loop-at.invariant.answer ∙ ap (names_from c.args.language done) (pair_at c.args.tokens.now c.loop-at.at no_token no_token c.loop-at-test.true) in
    let read = here ∙ named_end c.args.language done t u rest (sym c.is_spelled.ensures ∙ c.if-is_spelled.false) (sym c.is_dots.ensures ∙ c.if-is_dots.true)
    ∙ ap₂ (λ (b : Bool) (ts : List Tok). named_with done t b ts) (sym c.stands_at-then-is_dots.ensures) (after-drop (c.loop-at.at + 2) (c.loop-at.at + 3) all (omega arith)) in
    subst (λ (o : Option (Params × List Tok)). IfOk c.finish_named.result (λ r. counted o ≡ Ok (r.0, drop r.1 all))) (sym read) (c.finish_named.ensures.done all)

pub returns-then-is_dots-clause-fault : goal.returns-then-is_dots-clause-fault
returns-then-is_dots-clause-fault c =
    let all : List Tok = map seen c.args.tokens.now in
    let done = c.loop-at.list.names in
    let t : Tok = seen (get_or c.args.tokens.now c.loop-at.at no_token) in
    let u : Tok = seen (get_or c.args.tokens.now (c.loop-at.at + 1) no_token) in
    let rest : List Tok = drop (c.loop-at.at + 2) all in
    let here = c.loop-at.invariant.answer ∙ ap (names_from c.args.language done) (pair_at c.args.tokens.now c.loop-at.at no_token no_token c.loop-at-test.true) in
    let read = here ∙ named_end c.args.language done t u rest (sym c.is_spelled.ensures ∙ c.if-is_spelled.false) (sym c.is_dots.ensures ∙ c.if-is_dots.true)
    ∙ ap₂ (λ (b : Bool) (ts : List Tok). named_with done t b ts) (sym c.stands_at-then-is_dots.ensures) (after-drop (c.loop-at.at + 2) (c.loop-at.at + 3) all (omega arith)) in
    subst (λ (o : Option (Params × List Tok)). IfErr c.finish_named.result (λ (fault : DefineFault). fault ≢ NoMemory → counted o ≡ Err fault)) (sym read) (c.finish_named.ensures.fault _)

pub returns-then-not-branch-clause-fault : goal.returns-then-not-branch-clause-fault
returns-then-not-branch-clause-fault c =
    let all : List Tok = map seen c.args.tokens.now in
    let done = c.loop-at.list.names in
    let t : Tok = seen (get_or c.args.tokens.now c.loop-at.at no_token) in
    let u : Tok = seen (get_or c.args.tokens.now (c.loop-at.at + 1) no_token) in
    let rest : List Tok = drop (c.loop-at.at + 2) all in
    let here = c.loop-at.invariant.answer ∙ ap (names_from c.args.language done) (pair_at c.args.tokens.now c.loop-at.at no_token no_token c.loop-at-test.true) in
    let read = here ∙ bad_name c.args.language done t u rest (sym c.is_spelled.ensures ∙ c.if-is_spelled.false) (sym c.is_dots.ensures ∙ c.if-is_dots.false) (sym c.in_ok-add.ensures.new ∙ c.if-not-branch.true) in
    λ _. ap counted read

pub returns-then-closes-2-clause-done : goal.returns-then-closes-2-clause-done
returns-then-closes-2-clause-done c =
    let all : List Tok = map seen c.args.tokens.now in
    let done = c.loop-at.list.names in
    let t : Tok = seen (get_or c.args.tokens.now c.loop-at.at no_token) in
    let u : Tok = seen (get_or c.args.tokens.now (c.loop-at.at + 1) no_token) in
    let rest : List Tok = drop (c.loop-at.at + 2) all in
    let here = c.loop-at.invariant.answer ∙ ap (names_from c.args.language done) (pair_at c.args.tokens.now c.loop-at.at no_token no_token c.loop-at-test.true) in
    let keys = subst (λ b. OnTrue b (c.add.new.self.names ≡ done ++ t.spelling ∷ [])) c.if-not-branch.false c.in_ok-add.ensures.name in
    let read = here ∙ last_name c.args.language done t u rest (sym c.is_spelled.ensures ∙ c.if-is_spelled.false) (sym c.is_dots.ensures ∙ c.if-is_dots.false) (sym c.in_ok-add.ensures.new ∙ c.if-not-branch.false) (sym c.is_spelled-closes.ensures ∙ c.if-closes-2.true) ∙ ap (λ (ns : List (List ℕ)). parameters_with ns None (drop (c.loop-at.at + 2) all)) (sym keys) in
    subst (λ (o : Option (Params × List Tok)). IfOk c.finish-then-closes-2.result (λ r. counted o ≡ Ok (r.0, drop r.1 all))) (sym read) (c.finish-then-closes-2.ensures.done all)

pub returns-then-closes-2-clause-fault : goal.returns-then-closes-2-clause-fault
returns-then-closes-2-clause-fault c =
    let all : List Tok = map seen c.args.tokens.now in
    let done = c.loop-at.list.names in
    let t : Tok = seen (get_or c.args.tokens.now c.loop-at.at no_token) in
    let u : Tok = seen (get_or c.args.tokens.now (c.loop-at.at + 1) no_token) in
    let rest : List Tok = drop (c.loop-at.at + 2) all in
    let here = c.loop-at.invariant.answer ∙ ap (names_from c.args.language done) (pair_at c.args.tokens.now c.loop-at.at no_token no_token c.loop-at-test.true) in
    let keys = subst (λ b. OnTrue b (c.add.new.self.names ≡ done ++ t.spelling ∷ [])) c.if-not-branch.false c.in_ok-add.ensures.name in
    let read = here ∙ last_name c.args.language done t u rest (sym c.is_spelled.ensures ∙ c.if-is_spelled.false) (sym c.is_dots.ensures ∙ c.if-is_dots.false) (sym c.in_ok-add.ensures.new ∙ c.if-not-branch.false) (sym c.is_spelled-closes.ensures ∙ c.if-closes-2.true) ∙ ap (λ (ns : List (List ℕ)). parameters_with ns None (drop (c.loop-at.at + 2) all)) (sym keys) in
    subst (λ (o : Option (Params × List Tok)). IfErr c.finish-then-closes-2.result (λ (fault : DefineFault). fault ≢ NoMemory → counted o ≡ Err fault)) (sym read) (c.finish-then-closes-2.ensures.fault _)

pub returns-then-not-is_spelled-clause-fault : goal.returns-then-not-is_spelled-clause-fault
returns-then-not-is_spelled-clause-fault c =
    let all : List Tok = map seen c.args.tokens.now in
    let done = c.loop-at.list.names in
    let t : Tok = seen (get_or c.args.tokens.now c.loop-at.at no_token) in
    let u : Tok = seen (get_or c.args.tokens.now (c.loop-at.at + 1) no_token) in
    let rest : List Tok = drop (c.loop-at.at + 2) all in
    let here = c.loop-at.invariant.answer ∙ ap (names_from c.args.language done) (pair_at c.args.tokens.now c.loop-at.at no_token no_token c.loop-at-test.true) in
    let read = here ∙ no_comma c.args.language done t u rest (sym c.is_spelled.ensures ∙ c.if-is_spelled.false) (sym c.is_dots.ensures ∙ c.if-is_dots.false) (sym c.in_ok-add.ensures.new ∙ c.if-not-branch.false) (sym c.is_spelled-closes.ensures ∙ c.if-closes-2.false) (sym c.is_spelled-in-loop-at.ensures ∙ c.if-not-is_spelled.true) in
    λ _. ap counted read

pub loop-at-preserved : goal.loop-at-preserved
loop-at-preserved c =
    let all : List Tok = map seen c.args.tokens.now in
    let done = c.loop-at.list.names in
    let t : Tok = seen (get_or c.args.tokens.now c.loop-at.at no_token) in
    let u : Tok = seen (get_or c.args.tokens.now (c.loop-at.at + 1) no_token) in
    let rest : List Tok = drop (c.loop-at.at + 2) all in
    let here = c.loop-at.invariant.answer ∙ ap (names_from c.args.language done) (pair_at c.args.tokens.now c.loop-at.at no_token no_token c.loop-at-test.true) in
    let keys = subst (λ b. OnTrue b (c.add.new.self.names ≡ done ++ t.spelling ∷ [])) c.if-not-branch.false c.in_ok-add.ensures.name in
    record {
      within = omega (arith, c.loop-at-test.true);
      answer =
          here ∙ next_name c.args.language done t u rest (sym c.is_spelled.ensures ∙ c.if-is_spelled.false) (sym c.is_dots.ensures ∙ c.if-is_dots.false) (sym c.in_ok-add.ensures.new ∙ c.if-not-branch.false) (sym c.is_spelled-closes.ensures ∙ c.if-closes-2.false)
          (sym c.is_spelled-in-loop-at.ensures ∙ c.if-not-is_spelled.false)
          ∙ ap (λ (ns : List (List ℕ)). names_from c.args.language ns (drop (c.loop-at.at + 2) all)) (sym keys);
    }

pub returns-clause-fault : goal.returns-clause-fault
returns-clause-fault c =
    let all : List Tok = map seen c.args.tokens.now in
    let short : length (drop c.loop-at.at all) ≤ 1 = omega (arith, length-drop c.loop-at.at all, length-map c.args.tokens.now seen, c.loop-at-test.false) in
    λ _. ap counted (c.loop-at.invariant.answer ∙ names_from-short c.args.language c.loop-at.list.names (drop c.loop-at.at all) short)
