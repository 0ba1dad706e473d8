use Rattle.std.proofs.Common.{◌∙◌, ◌+◌, [], ◌∷◌, ap, drop, map, refl, subst, sym, take}
use Rattle.std.proofs.lemmas.Result.{err_from_is_err_and}
use Rattle.std.specs.List.{list_any}
use Rattle.std.specs.Option.{option_map}
use Rattle.trace_format.specs.Content.{content}
use Rattle.replay_model.specs.Stop.{exceeds_layers}
use Rattle.chain_build.specs.Setup.{setup_content}
use Rattle.report_text.specs.Setups.{trace_setup}
use Rattle.event_replay.specs.Through.{GoesThrough}
use Rattle.event_replay.proofs.Lists.{none_more, one_more, parted}
use Rattle.event_replay.proofs.Onward.{can_next, goes_nowhere, goes_on, long_among}
use Rattle.event_replay.proofs.replaying.replay_events.Goals as goal

pub loop-event-init : goal.loop-event-init
loop-event-init g c = record {
  goes = goes_nowhere (trace_setup (setup_content c.args.setup.now)) (option_map (λ x. x.value.kept) c.args.session.now.started) (g.D.Driver.log c.args.driver.now) c.args.lines.now.items;
  within = refl;
  policy = refl;
}

pub replay_event-requires-clause-can : goal.replay_event-requires-clause-can
replay_event-requires-clause-can g c =
    let all = c.args.events.now in
    let i = c.loop-event.event-index in
    can_next (trace_setup (setup_content c.args.setup.now)) (option_map (λ x. x.value.kept) c.args.session.now.started) (option_map (λ x. x.value.kept) c.loop-event.session.started) (map content all) (map content (take i all)) (content c.event-item.result)
    (map content (drop (i + 1) all))
    (record { old_log = g.D.Driver.log c.args.driver.now; log = g.D.Driver.log c.loop-event.driver; old_lines = c.args.lines.now.items; lines = c.loop-event.lines.items })
    (parted content all i c.event-item.result c.loop-event-test.true c.event-item.is) c.requires.can c.loop-event.invariant.goes

pub returns-in_err-replay_event-clause-fault : goal.returns-in_err-replay_event-clause-fault
returns-in_err-replay_event-clause-fault g c =
    let all = c.args.events.now in
    let i = c.loop-event.event-index in
    let p = err_from_is_err_and c.from_residual.result c.from_residual.ensures.1 in
    rw (p.1, p.2)
    (long_among (trace_setup (setup_content c.args.setup.now)) (map content all) (map content (take i all)) (content c.event-item.result) (map content (drop (i + 1) all)) c.in_err-replay_event.field-0.0
    (parted content all i c.event-item.result c.loop-event-test.true c.event-item.is) c.in_err-replay_event.ensures.fault)

pub loop-event-preserved : goal.loop-event-preserved
loop-event-preserved g c =
    let all = c.args.events.now in
    let i = c.loop-event.event-index in
    let s = trace_setup (setup_content c.args.setup.now) in
    let old = option_map (λ x. x.value.kept) c.args.session.now.started in
    let new = option_map (λ x. x.value.kept) c.replay_event.new.session.started in
    let more = sym (one_more content all i c.event-item.result c.loop-event-test.true c.event-item.is) in
    record {
      goes = subst (λ es. GoesThrough s old new es (record { old_log = g.D.Driver.log c.args.driver.now; log = g.D.Driver.log c.replay_event.new.driver; old_lines = c.args.lines.now.items; lines = c.replay_event.new.lines.items })) more
          (goes_on s old (option_map (λ x. x.value.kept) c.loop-event.session.started) new (map content (take i all)) (content c.event-item.result ∷ []) (g.D.Driver.log c.args.driver.now) (g.D.Driver.log c.loop-event.driver) (g.D.Driver.log c.replay_event.new.driver)
          c.args.lines.now.items c.loop-event.lines.items c.replay_event.new.lines.items c.loop-event.invariant.goes c.in_ok-replay_event.ensures.ok);
      within = sym (ap (list_any (exceeds_layers s)) more) ∙ none_more (exceeds_layers s) (map content (take i all)) (content c.event-item.result) c.loop-event.invariant.within c.in_ok-replay_event.ensures.within;
      policy = c.replay_event.ensures.policy ∙ c.loop-event.invariant.policy;
    }
