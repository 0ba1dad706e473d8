use Rattle.std.proofs.Common.{map}
use Rattle.trace_format.specs.Content.{content}
use Rattle.stream_plans.proofs.AddedLemmas.{added_part}
use Rattle.stream_plans.proofs.adding.add_part.Goals as goal

pub returns : goal.returns
returns c =
    added_part c.args.plans.now.items c.args.number c.index_mut.result.now c.add_stream.new.plan (record { thread = c.args.thread; events = map content c.args.part.items }) c.index_mut.ensures.value c.in_ok-add_stream.ensures
