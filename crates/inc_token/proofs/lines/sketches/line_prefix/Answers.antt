use Rattle.inc_text.specs.declared.languages.Language.{Language}
use Rattle.inc_token.specs.Prefixes.{prefix_of}
use Rattle.std.proofs.Common.{◌≡◌, ◌∷◌, ℕ, List, Ok, drop, option_map, ap, sym, ◌∙◌}
use Rattle.inc_text.specs.PhaseText.{Cell}
use Rattle.inc_token.specs.LineFronts.{Known, ahead, Brief, seen_brief}
use Rattle.inc_token.specs.LineWalk.{lines_at}
use Rattle.inc_token.specs.TokenLines.{TokenLine}
use Rattle.inc_token.specs.Views.{seen_prefix}
use Rattle.inc_token.proofs.FrontSteps.{brief_there, no_fault_there}
use Rattle.inc_token.proofs.lines.sketches.line_prefix.Goals as goal

-- the line is that at the place of the walk
here : (cells text : List Cell) (place at : ℕ) (l : TokenLine) (ls : List TokenLine) (one two : Language) → two ≡ one → cells ≡ text → place ≡ at → lines_at one text at ≡ Ok (l ∷ ls) → lines_at two cells place ≡ Ok (l ∷ ls)
here cells text place at l ls one two spoken same is lines = ap (λ (w : Language). lines_at w cells place) spoken ∙ ap (λ (cs : List Cell). lines_at one cs place) same ∙ ap (lines_at one text) is ∙ lines

pub unreachable-requires : goal.unreachable-requires
unreachable-requires c =
    let w = c.new-walk.result in
    let line = c.requires.line in
    no_fault_there w.language line.0 line.1 (drop w.at w.cursor) c.in-Err.field-0 (here w.cursor c.args.text.now w.at c.args.at line.0 line.1 c.args.language w.language c.new-walk.ensures.spoken c.new-walk.ensures.same c.new-walk.ensures.at line.2) c.in-Err.ensures.fault

pub returns : goal.returns
returns c = λ l ls lines.
    let w = c.new-walk.result in
    let new = c.sketch.new.self in
    let told = brief_there w.language (seen_brief w.cursor c.in-Ok.line) l ls (drop w.at w.cursor) (drop new.at new.cursor) (here w.cursor c.args.text.now w.at c.args.at l ls c.args.language w.language c.new-walk.ensures.spoken c.new-walk.ensures.same c.new-walk.ensures.at lines)
    (c.in-Ok.ensures.ahead ∙ ap (λ k. ahead k (Known (seen_brief w.cursor c.in-Ok.line)) (drop new.at new.cursor)) c.sketch.ensures.moved.spoken) in
    ap (λ (cells : List Cell). option_map (seen_prefix cells) c.in-Ok.line.prefix) (sym c.new-walk.ensures.same) ∙ sym (ap (λ (b : Brief). b.prefix) told) ∙ ap (λ k. prefix_of k l.tokens) c.new-walk.ensures.spoken
