use Rattle.std.proofs.Common.{◌≡◌, false, ◌++◌, ◌∷◌, [], map, length, sym, ap, subst, ◌∙◌}
use Rattle.std.specs.Prelude.{◌==◌}
use Rattle.std.proofs.lemmas.Bool.{eqb-true}
use Rattle.std.proofs.lemmas.List.{length-map, map-append}
use Rattle.std.specs.String.{string_bytes}
use Rattle.clap.specs.Words.{found_of, rows_of}
use Rattle.inc_args.specs.Meaning as meaning
use Rattle.inc_args.specs.Views.{seen_question}
use Rattle.inc_args.proofs.AllSources.{from_all, from_words}
use Rattle.inc_args.proofs.reading.read_who.Goals as goal
use Rattle.inc_args.proofs.reading.read_who.Goals.{then-is_empty+in_ok-push, else-is_empty}

pub returns : goal.returns
returns c =
    let q = seen_question c.in_ok-question.question in
    let command = map string_bytes c.args.compiler.now in
    let rows = rows_of (found_of c.args.matches.now) in
    let long : c.in_ok-question.question.from.len ≡ length q.from =
    c.in_ok-question.question.from.ok.0 ∙ sym (length-map c.in_ok-question.question.from.items (λ f. f.now)) in
    elim c.if-is_empty.branch [
      | then-is_empty+in_ok-push w ↦
          let none : length q.from ≡ 0 = sym long ∙ eqb-true _ 0 (sym c.is_empty.ensures ∙ w.if-is_empty.true) in
          let all : map (λ f. f.now) w.push.new.self.items ≡ q.from ++ meaning.all_sources (meaning.has_build q.files.build command) ∷ [] =
          ap (map (λ f. f.now)) w.in_ok-push.ensures.items ∙ map-append (λ f. f.now) c.in_ok-question.question.from.items (w.all_sources-all.result ∷ [])
          ∙ ap (λ t. q.from ++ t ∷ []) (w.all_sources-all.ensures ∙ ap meaning.all_sources w.has_build.ensures) in
          ap seen_question w.question-is ∙ from_all q rows command (map (λ f. f.now) w.push.new.self.items) c.in_ok-question.ensures none all
      | else-is_empty w ↦
          let some = subst (λ n. (n == 0) ≡ false) long (sym c.is_empty.ensures ∙ w.if-is_empty.false) in
          ap seen_question w.question-is ∙ from_words q rows command c.in_ok-question.ensures some
    ]
