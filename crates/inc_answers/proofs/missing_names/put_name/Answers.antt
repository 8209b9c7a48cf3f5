use Rattle.std.proofs.Common.{refl}
use Rattle.inc_answers.specs.Views.{seen_name}
use Rattle.inc_answers.proofs.MissingNameLemmas.{put_among, put_within}
use Rattle.inc_answers.proofs.missing_names.put_name.Goals as goal

pub returns-clause-names : goal.returns-clause-names
returns-clause-names c = λ ms.
    put_among ms c.args.first.now.items c.deref.result.now c.insert.new.self.items c.truncate.new.self.items c.place_of-place.result c.args.name c.deref.ensures.value
    (c.place_of-place.ensures.place ms (seen_name ms c.args.name) refl) c.in_ok-insert.ensures.items c.truncate.ensures.items

pub returns-clause-within : goal.returns-clause-within
returns-clause-within c = λ count are is.
    put_within count c.args.first.now.items c.insert.new.self.items c.truncate.new.self.items c.place_of-place.result c.args.name
    c.in_ok-insert.ensures.items c.truncate.ensures.items are is
