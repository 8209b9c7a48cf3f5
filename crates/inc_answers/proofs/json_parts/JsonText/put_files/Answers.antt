use Rattle.std.proofs.Common.{rules}
use Rattle.inc_answers.specs.JsonAnswers.{file_item}
use Rattle.inc_answers.proofs.JsonSteps.{item_at, list_ended}
use Rattle.inc_answers.proofs.json_parts.JsonText.put_files.Goals as goal

pub loop-place-preserved : goal.loop-place-preserved
loop-place-preserved c =
    item_at file_item c.loop-place.self c.put_comma.new.self c.put_path.new.self _ c.loop-place.place c.index-files-place.result c.args.files.now c.loop-place-test.true c.index-files-place.is c.in_ok-put_comma.ensures c.in_ok-put_path.ensures c.loop-place.invariant

pub returns : goal.returns
returns c =
    list_ended file_item _ c.args.self.now c.put.new.self c.loop-place.self c.put-2.new.self c.loop-place.place c.args.files.now c.in_ok-put.ensures (search rules) c.loop-place.invariant c.put-2.ensures
