use Rattle.std.proofs.Common.{◌≡◌, ◌∙◌, ℕ, List, [], ◌∷◌, ◌++◌, ap, ap₂, codes, sym, subst}
use Rattle.std.specs.Io.KnownBytes.{Appends}
use Rattle.std.proofs.lemmas.List.{append_assoc}
use Rattle.inc_text.specs.Devices.{AppendsFront}
use Rattle.inc_answers.proofs.SendingLemmas.{appends_then, front_then}
use Rattle.inc_inputs.specs.Reports.{hindrance_name, hindrance_number, hindrance_of, report_of}
use Rattle.inc_inputs.specs.declared.failures.Hindrance.{Hindrance}
use Rattle.inc_cli.proofs.Fronts.{front_longer, on_err, on_err_then, on_ok_then}
use Rattle.inc_cli.proofs.reports.write_report.Goals as goal

-- three texts after three others are a line
line_of : (s m n d l : List ℕ) → (s ++ m) ++ (n ++ (d ++ l)) ≡ s ++ ((m ++ (n ++ d)) ++ l)
line_of s m n d l =
    append_assoc s m (n ++ (d ++ l))
    ∙ ap (λ (t : List ℕ). s ++ t) (ap (λ (t : List ℕ). m ++ t) (sym (append_assoc n d l)) ∙ sym (append_assoc m (n ++ d) l))

pub returns-in_err-write_three-clause-front : goal.returns-in_err-write_three-clause-front
returns-in_err-write_three-clause-front g c =
    let w0 = g.E.ByteSink.written c.args.messages.now in
    let w1 = g.E.ByteSink.written c.write_three.new.messages in
    let s : List ℕ = codes "incut: " in
    let m : List ℕ = (report_of c.args.failure.now).message in
    let h : Hindrance = hindrance_of c.args.hindrance (report_of c.args.failure.now) in
    let n : List ℕ = hindrance_name h in
    let d : List ℕ = hindrance_number h in
    let is : AppendsFront w0 w1 (s ++ m) = subst (λ (t : List ℕ). AppendsFront w0 w1 (s ++ t)) c.message.ensures c.in_err-write_three.ensures.front in
    on_err c.from_residual.result _
    (subst (AppendsFront w0 w1) (line_of s m n d (10 ∷ [])) (front_longer w0 w1 (s ++ m) (n ++ (d ++ 10 ∷ [])) is))

pub returns-clause-whole : goal.returns-clause-whole
returns-clause-whole g c =
    let w0 = g.E.ByteSink.written c.args.messages.now in
    let w1 = g.E.ByteSink.written c.write_three.new.messages in
    let w2 = g.E.ByteSink.written c.write_three-2.new.messages in
    let s : List ℕ = codes "incut: " in
    let m : List ℕ = (report_of c.args.failure.now).message in
    let h : Hindrance = hindrance_of c.args.hindrance (report_of c.args.failure.now) in
    let n : List ℕ = hindrance_name h in
    let d : List ℕ = hindrance_number h in
    let is : Appends w0 w1 (s ++ m) = subst (λ (t : List ℕ). Appends w0 w1 (s ++ t)) c.message.ensures c.in_ok-write_three.ensures.whole in
    let rest : c.name.result.now ++ (c.number.result.now ++ 10 ∷ []) ≡ n ++ (d ++ 10 ∷ []) =
    ap₂ (λ (x y : List ℕ). x ++ (y ++ 10 ∷ [])) (c.name.ensures ∙ ap hindrance_name c.hindrance-hindrance.ensures) (c.number.ensures ∙ ap hindrance_number c.hindrance-hindrance.ensures) in
    on_ok_then c.write_three-2.result (Appends w1 w2 (c.name.result.now ++ (c.number.result.now ++ 10 ∷ []))) _ (λ last.
    subst (Appends w0 w2) (line_of s m n d (10 ∷ [])) (appends_then w0 w1 w2 (s ++ m) (n ++ (d ++ 10 ∷ [])) is (subst (Appends w1 w2) rest last)))
    c.write_three-2.ensures.whole

pub returns-clause-front : goal.returns-clause-front
returns-clause-front g c =
    let w0 = g.E.ByteSink.written c.args.messages.now in
    let w1 = g.E.ByteSink.written c.write_three.new.messages in
    let w2 = g.E.ByteSink.written c.write_three-2.new.messages in
    let s : List ℕ = codes "incut: " in
    let m : List ℕ = (report_of c.args.failure.now).message in
    let h : Hindrance = hindrance_of c.args.hindrance (report_of c.args.failure.now) in
    let n : List ℕ = hindrance_name h in
    let d : List ℕ = hindrance_number h in
    let is : Appends w0 w1 (s ++ m) = subst (λ (t : List ℕ). Appends w0 w1 (s ++ t)) c.message.ensures c.in_ok-write_three.ensures.whole in
    let rest : c.name.result.now ++ (c.number.result.now ++ 10 ∷ []) ≡ n ++ (d ++ 10 ∷ []) =
    ap₂ (λ (x y : List ℕ). x ++ (y ++ 10 ∷ [])) (c.name.ensures ∙ ap hindrance_name c.hindrance-hindrance.ensures) (c.number.ensures ∙ ap hindrance_number c.hindrance-hindrance.ensures) in
    on_err_then c.write_three-2.result (AppendsFront w1 w2 (c.name.result.now ++ (c.number.result.now ++ 10 ∷ []))) _ (λ last.
    subst (AppendsFront w0 w2) (line_of s m n d (10 ∷ [])) (front_then w0 w1 w2 (s ++ m) (n ++ (d ++ 10 ∷ [])) is (subst (AppendsFront w1 w2) rest last)))
    c.write_three-2.ensures.front
