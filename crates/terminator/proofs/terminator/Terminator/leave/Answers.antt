use Rattle.std.proofs.Common.{◌≡◌, List, map, subst}
use Rattle.std.specs.Prelude.{OnOk}
use Rattle.command_tables.specs.Calls.{call_content}
use Rattle.layer_model.specs.Ids.{IssuedAll}
use Rattle.model_driver.specs.Driver.{reply_shown}
use Rattle.object_model.specs.Values.{Value}
use Rattle.object_model.specs.declared.Routed.{Routed}
use Rattle.terminator.specs.Shown.{key_asked, drivers_named}
use Rattle.terminator.proofs.Leaving.{key_type_read, leaves_bare, leaves_bare_routes, leaves_plain, leaves_plain_routes, not_devices}
use Rattle.terminator.proofs.terminator.Terminator.leave.Goals as goal

pub returns-in-Some-clause-ids : goal.returns-in-Some-clause-ids
returns-in-Some-clause-ids c =
    subst (λ (all : IssuedAll (List Value)). OnOk c.issue_all.result (record { results = c.issue_all.new.results; ids = c.issue_all.new.self.ids } ≡ all))
    (leaves_bare c.args.self.now (call_content c.args.call.now) (map reply_shown c.args.replies.now) c.args.results.now (drivers_named c.receivers.result) c.in-Some.ty (key_asked c.key_of.result) c.in-Some.ensures.made c.in-Some.ensures.bare c.receivers.ensures c.key_of.ensures)
    c.issue_all.ensures.ids

pub returns-in-Some-clause-routes : goal.returns-in-Some-clause-routes
returns-in-Some-clause-routes c =
    subst (λ (routes : List Routed). OnOk c.issue_all.result (c.issue_all.new.self.routes ≡ routes))
    (leaves_bare_routes c.args.self.now (call_content c.args.call.now) c.issue_all.new.results (drivers_named c.receivers.result) c.in-Some.ty c.in-Some.ensures.made c.receivers.ensures)
    c.issue_all.ensures.routes

pub returns-in-None-clause-ids : goal.returns-in-None-clause-ids
returns-in-None-clause-ids c = leaves_plain c.args.self.now (call_content c.args.call.now) (map reply_shown c.args.replies.now) c.args.results.now c.hand_up.new.results (drivers_named c.receivers.result) c.in-None.ensures.none c.receivers.ensures c.hand_up.ensures

pub returns-in-None-clause-routes : goal.returns-in-None-clause-routes
returns-in-None-clause-routes c = leaves_plain_routes c.args.self.now (call_content c.args.call.now) c.hand_up.new.results c.in-None.ensures.none

pub issue_all-requires-clause-key : goal.issue_all-requires-clause-key
issue_all-requires-clause-key c = key_type_read (call_content c.args.call.now) (key_asked c.key_of.result) c.in-Some.ty c.in-Some.ensures.made c.key_of.ensures

pub hand_up-requires-clause-plain : goal.hand_up-requires-clause-plain
hand_up-requires-clause-plain c = not_devices c.args.call.now.cmd c.in-None.ensures.none
