use Rattle.std.proofs.Common.{rules, ◌+◌, ◌++◌, ◌∷◌, [], ◌∙◌, ap, drop}
use Rattle.inc_inputs.specs.BuildProjects.{nul_ended}
use Rattle.inc_inputs.proofs.FrontLemmas.{put_more}
use Rattle.inc_inputs.proofs.build_files.BuildFiles.put_path.Goals as goal

pub returns : goal.returns
returns c =
    let list = c.args.list.now.items in
    let key = c.in-Some.key.now in
    let longer = c.in_ok-push.ensures.items ∙ ap (λ l. l ++ 0 ∷ []) (c.in_ok-extend_from_slice.ensures.items ∙ ap (λ k. list ++ k) c.bytes.ensures) in
    ap (λ l. l ++ nul_ended (drop (c.args.at + 1) c.args.self.now)) longer
    ∙ put_more list c.args.self.now c.args.at key (search rules)
