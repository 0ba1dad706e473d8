use Rattle.std.proofs.Common.{◌∙◌, ap, box_value, filter, map, not}
use Rattle.replay_model.specs.Past.{is_of}
use Rattle.chain_session.specs.declared.call.OpenCall.{OpenCall}
use Rattle.chain_session.specs.Opened.{opened_of}
use Rattle.chain_session.proofs.OpenCalls.{values_left}
use Rattle.chain_session.proofs.open_calls.OpenCalls.close.Goals as goal

pub returns : goal.returns
returns c =
    ap (map box_value) (c.leave_others.ensures ∙ c.take_first-closed.ensures)
    ∙ (values_left (λ (x : OpenCall). not (is_of c.args.thread (opened_of x))) c.self.inside.calls.items ∙ ap (filter (λ (x : OpenCall). not (is_of c.args.thread (opened_of x)))) c.self.view_is)
