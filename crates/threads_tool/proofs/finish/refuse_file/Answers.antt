use Rattle.std.proofs.Common.{subst, sym}
use Rattle.replay_base.specs.Changes.{changed}
use Rattle.replay_tool.specs.Said.{Said}
use Rattle.threaded_replay.specs.declared.error.StreamError.{StreamError}
use Rattle.threads_tool.specs.Stops.{refused_line}
use Rattle.threads_tool.proofs.finish.refuse_file.Goals as goal

pub returns-in-Trace-clause-line : goal.returns-in-Trace-clause-line
returns-in-Trace-clause-line g c = subst (λ (e : StreamError). Said (refused_line e) (changed (g.L.Sink.held c.args.errs.now) (g.L.Sink.held c.say_fault.new.errs) (g.L.Sink.faults c.args.errs.now) (g.L.Sink.faults c.say_fault.new.errs))) (sym c.in-Trace.is) c.say_fault.ensures

pub returns-in-Section-clause-line : goal.returns-in-Section-clause-line
returns-in-Section-clause-line g c = subst (λ (e : StreamError). Said (refused_line e) (changed (g.L.Sink.held c.args.errs.now) (g.L.Sink.held c.say_kind.new.errs) (g.L.Sink.faults c.args.errs.now) (g.L.Sink.faults c.say_kind.new.errs))) (sym c.in-Section.is) c.say_kind.ensures

pub returns-in-NoDevice-clause-line : goal.returns-in-NoDevice-clause-line
returns-in-NoDevice-clause-line g c = subst (λ (e : StreamError). Said (refused_line e) (changed (g.L.Sink.held c.args.errs.now) (g.L.Sink.held c.say_kind-in-NoDevice.new.errs) (g.L.Sink.faults c.args.errs.now) (g.L.Sink.faults c.say_kind-in-NoDevice.new.errs))) (sym c.in-NoDevice.is) c.say_kind-in-NoDevice.ensures

pub returns-in-CrossDevice-clause-line : goal.returns-in-CrossDevice-clause-line
returns-in-CrossDevice-clause-line g c = subst (λ (e : StreamError). Said (refused_line e) (changed (g.L.Sink.held c.args.errs.now) (g.L.Sink.held c.say_kind-in-CrossDevice.new.errs) (g.L.Sink.faults c.args.errs.now) (g.L.Sink.faults c.say_kind-in-CrossDevice.new.errs))) (sym c.in-CrossDevice.is) c.say_kind-in-CrossDevice.ensures

pub returns-in-NotInStream-clause-line : goal.returns-in-NotInStream-clause-line
returns-in-NotInStream-clause-line g c = subst (λ (e : StreamError). Said (refused_line e) (changed (g.L.Sink.held c.args.errs.now) (g.L.Sink.held c.say_kind-in-NotInStream.new.errs) (g.L.Sink.faults c.args.errs.now) (g.L.Sink.faults c.say_kind-in-NotInStream.new.errs))) (sym c.in-NotInStream.is) c.say_kind-in-NotInStream.ensures

pub returns-in-NoMemory-clause-line : goal.returns-in-NoMemory-clause-line
returns-in-NoMemory-clause-line g c = subst (λ (e : StreamError). Said (refused_line e) (changed (g.L.Sink.held c.args.errs.now) (g.L.Sink.held c.say-in-NoMemory.new.errs) (g.L.Sink.faults c.args.errs.now) (g.L.Sink.faults c.say-in-NoMemory.new.errs))) (sym c.in-NoMemory.is) c.say-in-NoMemory.ensures
