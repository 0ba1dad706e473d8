use Rattle.std.proofs.Common.{◌≡◌, ◌∙◌, ap, map, refl, rules, List, ℕ, subst}
use Rattle.command_tables.specs.Calls.{DriverCallContent, call_content}
use Rattle.model_driver.specs.Driver.{call_shown, reply_shown}
use Rattle.terminator.specs.Calls.{targets_of}
use Rattle.chain_session.specs.Opened.{opened_of}
use Rattle.chain_session.specs.Sending.{drivers_told}
use Rattle.chain_session.specs.Telling.{AreAsked}
use Rattle.chain_session.proofs.Sent.{drivers_of_targets, sent_so}
use Rattle.chain_session.proofs.sending.tell.Goals as goal

pub returns-clause-ok : goal.returns-clause-ok
returns-clause-ok g c =
    let told : map call_shown c.deref.result.now ≡ targets_of c.args.terminator.now (call_content c.args.call.now.bottom) = search rules in
    let asked : map call_shown c.deref-2.result.now ≡ targets_of c.args.terminator.now (call_content c.args.call.now.bottom) = search rules in
    let drivers = c.in_ok-put_drivers.ensures ∙ (ap drivers_told told ∙ drivers_of_targets c.args.terminator.now (call_content c.args.call.now.bottom)) in
    sent_so c.args.terminator.now c.args.call.now _ (g.D.Driver.log c.args.driver.now) (g.D.Driver.log c.ask_each.new.driver) c.requires.sent
    (ap (λ (ds : List ℕ). record (opened_of c.args.call.now) { drivers = ds }) drivers)
    (subst (λ (cs : List DriverCallContent). AreAsked cs (map reply_shown c.ask_each.new.replies.items) (g.D.Driver.log c.args.driver.now) (g.D.Driver.log c.ask_each.new.driver)) asked c.in_ok-ask_each.ensures.ok)
    refl refl refl refl
