use Rattle.std.proofs.Common.{Ok, ℕ, List, ap, false, refl, true}
use Rattle.inc_inputs.specs.MarkLists.{MarkList}
use Rattle.inc_args.specs.Meaning.{Preprocessing}
use Rattle.inc_args.specs.Views.{seen_pp}
use Rattle.inc_inputs.specs.Inputs.{Gives}
use Rattle.inc_inputs.specs.PpTexts.{Defined, PpTexts, defined_by}
use Rattle.inc_inputs.specs.Texts.{marks_of}
use Rattle.inc_inputs.specs.Steps.{Step, comes_to, then}
use Rattle.inc_inputs.specs.Views.{defined_in, mark_list_in, pp_texts_in, seen_defined, seen_mark_list}
use Rattle.inc_text.specs.declared.languages.Language.{Language}
use Rattle.inc_inputs.proofs.StepLemmas.{comes_err, comes_on, passed}
use Rattle.inc_inputs.proofs.pp_texts.read_pp_texts_beside.Goals as goal

-- what is left to read after the compiler, after the definitions, and after the removed directives
abbrev with_without : {S : Type 0} → List ℕ → (compiler defines : Defined) → MarkList → Step S PpTexts
with_without list compiler defines without = comes_to (Ok (record { list = list; compiler = compiler; defines = defines.words; without = without.marks }))

abbrev with_defines : {S : Type 0} → Gives S → Preprocessing → List ℕ → (compiler defines : Defined) → Step S PpTexts
with_defines gives p list compiler defines = then (marks_of gives p.without) (with_without list compiler defines)

abbrev with_compiler : {S : Type 0} → Gives S → Language → Preprocessing → List ℕ → (compiler : Defined) → Step S PpTexts
with_compiler gives language p list compiler = then (defined_by gives language false p.defines) (with_defines gives p list compiler)

pub returns-in_err-compiler : goal.returns-in_err-compiler
returns-in_err-compiler g c =
    let p = seen_pp c.args.args.now in
    let gives = g.I.Inputs.gives in
    let language = c.args.language in
    let told = passed pp_texts_in c.from_residual.result c.in_err-compiler.field-0.0 c.from_residual.ensures.1 in
    let list = c.args.list.items in
    comes_err (defined_by gives language true p.compiler) (with_compiler gives language p list) c.args.inputs.now c.read_defined.new.inputs _ _ _ (ap seen_defined c.in_err-compiler.was) told c.read_defined.ensures

pub returns-in_err-defines : goal.returns-in_err-defines
returns-in_err-defines g c =
    let p = seen_pp c.args.args.now in
    let gives = g.I.Inputs.gives in
    let language = c.args.language in
    let told = passed pp_texts_in c.from_residual-in_err-defines.result c.in_err-defines.field-0.0 c.from_residual-in_err-defines.ensures.1 in
    let list = c.args.list.items in
    let compiler = defined_in c.in_ok-compiler.compiler in
    comes_on (defined_by gives language true p.compiler) (with_compiler gives language p list) c.args.inputs.now c.read_defined.new.inputs _ _ compiler _ (ap seen_defined c.in_ok-compiler.was) c.read_defined.ensures
    (comes_err (defined_by gives language false p.defines) (with_defines gives p list compiler) c.read_defined.new.inputs c.read_defined-2.new.inputs _ _ _ (ap seen_defined c.in_err-defines.was) told c.read_defined-2.ensures)

pub returns-in_err-without : goal.returns-in_err-without
returns-in_err-without g c =
    let p = seen_pp c.args.args.now in
    let gives = g.I.Inputs.gives in
    let language = c.args.language in
    let told = passed pp_texts_in c.from_residual-in_err-without.result c.in_err-without.field-0.0 c.from_residual-in_err-without.ensures.1 in
    let list = c.args.list.items in
    let compiler = defined_in c.in_ok-compiler.compiler in
    let defines = defined_in c.in_ok-defines.field-0 in
    comes_on (defined_by gives language true p.compiler) (with_compiler gives language p list) c.args.inputs.now c.read_defined.new.inputs _ _ compiler _ (ap seen_defined c.in_ok-compiler.was) c.read_defined.ensures
    (comes_on (defined_by gives language false p.defines) (with_defines gives p list compiler) c.read_defined.new.inputs c.read_defined-2.new.inputs _ _ defines _ (ap seen_defined c.in_ok-defines.was) c.read_defined-2.ensures
    (comes_err (marks_of gives p.without) (with_without list compiler defines) c.read_defined-2.new.inputs c.read_directives.new.inputs _ _ _ (ap seen_mark_list c.in_err-without.was) told c.read_directives.ensures))

pub returns : goal.returns
returns g c not =
    let p = seen_pp c.args.args.now in
    let gives = g.I.Inputs.gives in
    let language = c.args.language in
    let list = c.args.list.items in
    let compiler = defined_in c.in_ok-compiler.compiler in
    let defines = defined_in c.in_ok-defines.field-0 in
    let without = mark_list_in c.in_ok-without.without in
    comes_on (defined_by gives language true p.compiler) (with_compiler gives language p list) c.args.inputs.now c.read_defined.new.inputs _ _ compiler _ (ap seen_defined c.in_ok-compiler.was) c.read_defined.ensures
    (comes_on (defined_by gives language false p.defines) (with_defines gives p list compiler) c.read_defined.new.inputs c.read_defined-2.new.inputs _ _ defines _ (ap seen_defined c.in_ok-defines.was) c.read_defined-2.ensures
    (comes_on (marks_of gives p.without) (with_without list compiler defines) c.read_defined-2.new.inputs c.read_directives.new.inputs _ _ without _ (ap seen_mark_list c.in_ok-without.was) c.read_directives.ensures
    (λ _. (refl, refl)))) not
