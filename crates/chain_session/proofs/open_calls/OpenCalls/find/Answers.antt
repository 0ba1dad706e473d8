use Rattle.std.proofs.Common.{◌∙◌, None, Some, ap, box_value}
use Rattle.std.specs.List.{find}
use Rattle.replay_model.specs.Past.{is_of}
use Rattle.chain_session.specs.declared.call.OpenCall.{OpenCall}
use Rattle.chain_session.specs.Opened.{opened_of}
use Rattle.chain_session.proofs.OpenCalls.{value_found}
use Rattle.chain_session.proofs.open_calls.OpenCalls.find.Goals as goal

pub returns-in-None : goal.returns-in-None
returns-in-None c =
    value_found (λ (x : OpenCall). is_of c.args.thread (opened_of x)) c.self.inside.calls.items None (c.in-None.ensures ∙ ap (find (λ b. is_of c.args.thread (opened_of (box_value b)))) c.deref.ensures.value)
    ∙ ap (find (λ (x : OpenCall). is_of c.args.thread (opened_of x))) c.self.view_is

pub returns-in-Some : goal.returns-in-Some
returns-in-Some c =
    ap Some c.deref-in-Some.ensures
    ∙ (value_found (λ (x : OpenCall). is_of c.args.thread (opened_of x)) c.self.inside.calls.items (Some c.in-Some.call.now) (c.in-Some.ensures ∙ ap (find (λ b. is_of c.args.thread (opened_of (box_value b)))) c.deref.ensures.value)
    ∙ ap (find (λ (x : OpenCall). is_of c.args.thread (opened_of x))) c.self.view_is)
