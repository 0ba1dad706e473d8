use Rattle.std.proofs.Common.{◌≡◌, ◌<◌, ◌∙◌, ap, not, false, filter, length, get_or, rules, Vec, Box, Global, box_value}
use Rattle.replay_model.specs.Past.{is_of}
use Rattle.chain_session.specs.Opened.{opened_of}
use Rattle.chain_session.specs.declared.call.OpenCall.{OpenCall}
use Rattle.chain_session.proofs.OpenCalls.{kept_without}
use Rattle.chain_session.proofs.open_calls.take_first.Goals as goal

pub returns-then-deref-thread : goal.returns-then-deref-thread
returns-then-deref-thread c =
    let less : c.loop-at.at < length c.loop-at.calls.items = search rules in
    let refused : not (is_of c.args.thread (opened_of (box_value (get_or c.loop-at.calls.items c.loop-at.at c.index.result.now)))) ≡ false = search rules in
    ap (filter (λ x. not (is_of c.args.thread (opened_of (box_value x))))) c.remove.ensures.items
    ∙ kept_without (λ x. not (is_of c.args.thread (opened_of (box_value x)))) c.loop-at.calls.items c.loop-at.at c.index.result.now less refused
    ∙ ap (λ (v : Vec (Box OpenCall Global) Global). filter (λ x. not (is_of c.args.thread (opened_of (box_value x)))) v.items) c.loop-at.invariant
