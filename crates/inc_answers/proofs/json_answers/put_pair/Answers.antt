use Rattle.std.proofs.Common.{Bor, List, ℕ, ◌∙◌, ap, codes}
use Rattle.std.specs.Prelude.{option_map}
use Rattle.inc_answers.specs.JsonAnswers.{file_member, found_text, puts}
use Rattle.inc_answers.proofs.JsonSteps.{ends_then, puts_about, puts_then}
use Rattle.inc_answers.proofs.json_answers.put_pair.Goals as goal

pub returns : goal.returns
returns c =
    let old = c.args.json.now in
    let found =
    puts_about (λ a. found_text a (option_map (λ (b : Bor (List ℕ)). b.now) c.args.shortest)) old c.put_file.new.self c.put_found.new.json _ c.in_ok-put_file.ensures
    c.in_ok-put_found.ensures in
    let comma = puts_then old c.put_found.new.json c.put.new.self _ _ found c.in_ok-put.ensures in
    let source = puts_about (λ a. file_member (codes "source") a c.args.source) old c.put.new.self c.put_file-2.new.self _ comma c.in_ok-put_file-2.ensures in
    let status =
    puts_then old c.put_file-2.new.self c.put-2.new.self _ _ source (c.in_ok-put-2.ensures ∙ ap (λ (text : List ℕ). puts c.put_file-2.new.self text) c.status_text.ensures) in
    ends_then c.put-3.result old c.put-2.new.self c.put-3.new.self _ _ status c.put-3.ensures
