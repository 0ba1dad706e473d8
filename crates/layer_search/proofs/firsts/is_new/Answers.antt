use Rattle.layer_search.proofs.FirstOnes.{new_is}
use Rattle.layer_search.proofs.firsts.is_new.Goals as goal

pub returns : goal.returns
returns c = new_is c.args.text.now c.in_ok-kept.kept c.args.seen.now c.insert.new.self c.in_ok-new.new c.in_ok-kept.ensures.ok c.in_ok-new.ensures.added c.in_ok-new.ensures.updates
