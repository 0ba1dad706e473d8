use Rattle.std.proofs.Common.{◌≡◌, rules}
use Rattle.command_tables.specs.Calls.{call_content}
use Rattle.chain_model.specs.Chained.{form_by}
use Rattle.chain_model.specs.Handed.{handle_in}
use Rattle.chain_model.specs.Simulated.{base_of}
use Rattle.session_tables.specs.Shown.{args_shown}
use Rattle.session_parts.specs.Opening.{begin_content, opened_read}
use Rattle.session_parts.proofs.Fitting.{has_few_places, has_params}
use Rattle.session_parts.proofs.judging.walk_down.Goals as goal

pub walk_enter-requires-clause-shape : goal.walk_enter-requires-clause-shape
walk_enter-requires-clause-shape g c =
    let e : call_content c.put_call.new.form ≡ form_by (handle_in c.args.handed.now.handed) (base_of (opened_read c.args.number (begin_content c.args.begin) (args_shown c.args.args.now))) (args_shown c.args.args.now) = search rules in
    has_params (handle_in c.args.handed.now.handed) (opened_read c.args.number (begin_content c.args.begin) (args_shown c.args.args.now)) c.put_call.new.form c.requires.fits e

pub walk_enter-requires-clause-few : goal.walk_enter-requires-clause-few
walk_enter-requires-clause-few g c =
    let e : call_content c.put_call.new.form ≡ form_by (handle_in c.args.handed.now.handed) (base_of (opened_read c.args.number (begin_content c.args.begin) (args_shown c.args.args.now))) (args_shown c.args.args.now) = search rules in
    has_few_places (handle_in c.args.handed.now.handed) (opened_read c.args.number (begin_content c.args.begin) (args_shown c.args.args.now)) c.put_call.new.form c.requires.fits e
