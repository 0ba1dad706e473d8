use Rattle.std.proofs.Common.{◌∙◌, ap, sym}
use Rattle.trace_format.specs.Content.{content}
use Rattle.stream_plans.specs.Dealt.{dealt_to, events_in}
use Rattle.stream_plans.proofs.DealtLemmas.{part_more}
use Rattle.stream_plans.proofs.dealing.deal_event.Goals as goal

pub returns-in_ok-add_copy-in-Some : goal.returns-in_ok-add_copy-in-Some
returns-in_ok-add_copy-in-Some c =
    let e = content c.args.event.now in
    part_more c.args.parts.now.items c.in-Some.number c.index_mut.result.now c.add_copy.new.part e (c.requires c.in-Some.number c.in-Some.is) c.index_mut.ensures.value c.in_ok-add_copy-in-Some.ensures
    ∙ ap (λ o. dealt_to o e (events_in c.args.parts.now.items)) (sym c.in-Some.is)
