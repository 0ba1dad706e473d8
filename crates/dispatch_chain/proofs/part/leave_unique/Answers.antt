use Rattle.command_tables.specs.Calls.{call_content}
use Rattle.dispatch_chain.proofs.Lasting.{unique_rises}
use Rattle.dispatch_chain.proofs.part.leave_unique.Goals as goal

pub returns-clause-kept : goal.returns-clause-kept
returns-clause-kept g c = unique_rises c.args.unique.now.ids c.leave_unique.new.unique.ids (call_content c.args.form.now) c.args.results.now c.leave_unique.new.results c.in_default.ensures.left
