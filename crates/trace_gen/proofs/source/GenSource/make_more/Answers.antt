use Rattle.trace_gen.specs.Left.{calls_left}
use Rattle.trace_gen.proofs.TextLemmas.{made_more}
use Rattle.trace_gen.proofs.source.GenSource.make_more.Goals as goal

pub returns-in-Some-clause-left : goal.returns-in-Some-clause-left
returns-in-Some-clause-left c =
    let old = c.args.self.now in
    made_more old.text.items c.clear.new.self.items c.put_begin.new.out.items c.put.new.out.items old.at (calls_left old.generator) (calls_left c.next_call.new.self) c.in-Some.call c.requires c.clear.ensures.items c.put_begin.ensures.text c.put.ensures.text c.in-Some.ensures
