use Rattle.command_tables.specs.Calls.{call_content}
use Rattle.chain_session.specs.Opened.{opened_of}
use Rattle.chain_session.proofs.Fresh.{has_no_params, new_held, new_states}
use Rattle.chain_session.proofs.starting.take_in.Goals as goal

pub walk_enter-requires-clause-shape : goal.walk_enter-requires-clause-shape
walk_enter-requires-clause-shape g c = has_no_params (opened_of c.args.call.now) c.put_instance.new.form c.requires.starts c.in_ok-put_instance.ensures

pub returns-clause-states : goal.returns-clause-states
returns-clause-states g c =
    new_states (opened_of c.args.call.now) (call_content c.put_instance.new.form) c.args.table.now.rows c.args.states.now.kept c.walk_enter.new.states.kept c.requires.starts c.in_ok-put_instance.ensures c.requires.fresh
    c.in_ok-walk_enter.ensures.states

pub returns-clause-held : goal.returns-clause-held
returns-clause-held g c =
    new_held (opened_of c.args.call.now) (call_content c.put_instance.new.form) c.args.table.now.rows c.args.states.now.kept c.walk_enter.new.held c.requires.starts c.in_ok-put_instance.ensures c.requires.fresh
    c.in_ok-walk_enter.ensures.held
