use Rattle.std.proofs.Common.{subst, sym}
use Rattle.replay_base.specs.Changes.{changed}
use Rattle.replay_core.specs.declared.error.ReplayError.{ReplayError}
use Rattle.replay_tool.specs.Said.{Said}
use Rattle.replay_tool.specs.Statuses.{line_of}
use Rattle.replay_tool.proofs.finish.refuse.Goals as goal

pub returns-in-Trace-clause-line : goal.returns-in-Trace-clause-line
returns-in-Trace-clause-line g c =
    subst (λ (e : ReplayError). Said (line_of e) (changed (g.L.Sink.held c.args.errs.now) (g.L.Sink.held c.say_fault.new.errs) (g.L.Sink.faults c.args.errs.now) (g.L.Sink.faults c.say_fault.new.errs))) (sym c.in-Trace.is) c.say_fault.ensures

pub returns-in-NoMemory-clause-line : goal.returns-in-NoMemory-clause-line
returns-in-NoMemory-clause-line g c =
    subst (λ (e : ReplayError). Said (line_of e) (changed (g.L.Sink.held c.args.errs.now) (g.L.Sink.held c.say-in-NoMemory.new.errs) (g.L.Sink.faults c.args.errs.now) (g.L.Sink.faults c.say-in-NoMemory.new.errs))) (sym c.in-NoMemory.is)
    c.say-in-NoMemory.ensures
