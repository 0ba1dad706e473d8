use Rattle.std.proofs.Common.{◌≡◌, ap, map, subst, sym}
use Rattle.trace_format.specs.Content.{BeginEvent, Begin, arg_content, content}
use Rattle.stream_crew.specs.Needs.{IsBelowAt}
use Rattle.stream_crew.proofs.needs.with_event.Goals as goal

pub returns-in_ok-more-in-Begin-clause-below : goal.returns-in_ok-more-in-Begin-clause-below
returns-in_ok-more-in-Begin-clause-below c =
    let b : BeginEvent =
    record { thread = c.in-Begin.thread; cmd = c.in-Begin.cmd; args = map arg_content c.in-Begin.args.items; results = c.in-Begin.results.items; code = c.in-Begin.code; payload = c.in-Begin.payload.items } in
    let now : content c.args.event.now ≡ Begin b = ap content c.in-Begin.is in
    subst (IsBelowAt c.in_ok-more-in-Begin.more) (sym now)
    (c.in_ok-more-in-Begin.ensures.below b (ap (map arg_content) (sym c.deref.ensures.value)) (sym c.deref-in-Begin.ensures.value) (sym c.deref-in-Begin-2.ensures.value))
