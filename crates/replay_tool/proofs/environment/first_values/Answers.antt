use Rattle.replay_tool.proofs.FirstValues.{next_of, none_yet}
use Rattle.replay_tool.proofs.environment.first_values.Goals as goal

pub loop-entry-init : goal.loop-entry-init
loop-entry-init c = none_yet _ c.new-variables.ensures

pub loop-entry-preserved : goal.loop-entry-preserved
loop-entry-preserved c =
    next_of (λ e. e.items) c.args.entries.now c.loop-entry.entry-index c.entry-item.result c.loop-entry-test.true c.entry-item.is
    _ c.deref.ensures.value _ _ c.loop-entry.invariant c.in_ok-put_entry.ensures.taken
