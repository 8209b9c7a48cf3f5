use Rattle.std.proofs.Common.{◌∙◌, ap, codes, map}
use Rattle.inc_inputs.specs.Questions.{with_default}
use Rattle.inc_inputs.specs.Views.{macro_of}
use Rattle.inc_inputs.proofs.questions.add_questions.Goals as goal

pub returns : goal.returns
returns c =
    let ms = map macro_of c.args.macros.now in
    let one = c.in_ok-add_default.ensures in
    let two = c.in_ok-add_default-2.ensures ∙ ap (λ words. with_default ms words (codes "__has_attribute_(x)=__has_attribute_##x")) one in
    let three = c.in_ok-add_default-3.ensures ∙ ap (λ words. with_default ms words (codes "__has_builtin(x)=__has_builtin_(x)")) two in
    let four = c.in_ok-add_default-4.ensures ∙ ap (λ words. with_default ms words (codes "__has_builtin_(x)=__has_builtin_##x")) three in
    let five = c.in_ok-add_default-5.ensures ∙ ap (λ words. with_default ms words (codes "__has_c_attribute(x)=__has_c_attribute_(x)")) four in
    let six = c.in_ok-add_default-6.ensures ∙ ap (λ words. with_default ms words (codes "__has_c_attribute_(x)=__has_c_attribute_##x")) five in
    let seven = c.in_ok-add_default-7.ensures ∙ ap (λ words. with_default ms words (codes "__has_cpp_attribute(x)=__has_cpp_attribute_(x)")) six in
    c.in_ok-add_default-8.ensures ∙ ap (λ words. with_default ms words (codes "__has_cpp_attribute_(x)=__has_cpp_attribute_##x")) seven
