use Rattle.std.proofs.Common.{◌≡◌, ◌∙◌, ◌++◌, ap, ap₂, false, map, option_map, sym, true}
use Rattle.inc_token.specs.TokenLines.{Tok}
use Rattle.inc_token.specs.Views.{seen}
use Rattle.inc_directive.specs.LineKinds.{line_of_tokens}
use Rattle.inc_expand.specs.Expansion.{item_of, of_source}
use Rattle.inc_expand.specs.Places.{place_value}
use Rattle.inc_pp.specs.LineMarkers.{own_line}
use Rattle.inc_pp.specs.Pragmas.{put_pragma}
use Rattle.inc_pp.specs.StateViews.{state_of}
use Rattle.inc_pp.proofs.MeasureSteps.{pragma-back, pragma-put}
use Rattle.inc_pp.proofs.states.State.put_pragma.Goals as goal

pub returns-then-is_too_much-clause-stop : goal.returns-then-is_too_much-clause-stop
returns-then-is_too_much-clause-stop c =
    let ts = map seen c.args.tokens.now in
    let marks = option_map place_value c.args.marks.now in
    let s = state_of c.args.self.now in
    let put = c.in_ok-put_own_line.ensures
    ∙ ap (λ us. s.output ++ own_line c.language-language.result marks c.first_line-line.result (map (λ (t : Tok). item_of (of_source t)) us)) c.put_tokens-put.ensures
    ∙ ap₂ (λ l n. s.output ++ put_pragma l marks n ts) c.language-language.ensures c.first_line-line.ensures in (
      c.first_line-line.ensures,
      pragma-put c.args.most marks ts s c.put_own_line.new.self c.text.result.now true put c.text.ensures (sym c.is_too_much.ensures ∙ c.if-is_too_much.true),
      pragma-back s (put_pragma s.table.language marks (line_of_tokens ts) ts) c.put_own_line.new.self c.truncate.new.self c.count-already.result c.count-already.ensures put c.truncate.ensures,
    )

pub returns-clause-done : goal.returns-clause-done
returns-clause-done c =
    let ts = map seen c.args.tokens.now in
    let marks = option_map place_value c.args.marks.now in
    let s = state_of c.args.self.now in
    let put = c.in_ok-put_own_line.ensures
    ∙ ap (λ us. s.output ++ own_line c.language-language.result marks c.first_line-line.result (map (λ (t : Tok). item_of (of_source t)) us)) c.put_tokens-put.ensures
    ∙ ap₂ (λ l n. s.output ++ put_pragma l marks n ts) c.language-language.ensures c.first_line-line.ensures in
    pragma-put c.args.most marks ts s c.put_own_line.new.self c.text.result.now false put c.text.ensures (sym c.is_too_much.ensures ∙ c.if-is_too_much.false)
