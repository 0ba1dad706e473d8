use Rattle.std.proofs.Common.{◌≡◌, ◌+◌, ◌++◌, ◌∙◌, ap, length, map, refl, reverse, subst, sym, arith}
use Rattle.std.specs.Prelude.{option_to_list}
use Rattle.std.proofs.lemmas.List.{length_push, reverse-reverse}
use Rattle.std.proofs.lemmas.Option.{slice_get-get_or}
use Rattle.stream_log.specs.Clock.{TickView, tick_view}
use Rattle.device_shard.specs.Plans.{plan_content}
use Rattle.stream_crew.specs.Crews.{HaveThreads}
use Rattle.stream_crew.specs.Dealing.{items_of}
use Rattle.stream_crew.specs.Making.{HasLot, lots_of}
use Rattle.stream_crew.proofs.Places.{at_more, draws_left, map_by, some_left, taken_at}
use Rattle.stream_crew.proofs.Readied.{are_ready, are_unused, lot_of, names_count, slots_count}
use Rattle.stream_crew.proofs.crew.make_workers.Goals as goal

pub unwrap-own-requires : goal.unwrap-own-requires
unwrap-own-requires g c =
    let some = some_left c.args.places.items c.loop-number.places.items c.loop-number.number c.loop-number.invariant.places (omega (arith, c.loop-number-test.true, c.requires.places)) in
    c.pop.ensures.variant.1 (omega (arith, some, c.loop-number.places.ok.0))

pub unwrap-held-requires : goal.unwrap-held-requires
unwrap-held-requires g c =
    let t = c.requires.tokens in
    let back = ap (λ xs. reverse xs) c.reverse.ensures.items ∙ reverse-reverse c.in_ok-slots.slots.items in
    let dealt = c.in_ok-slots.ensures t.0 c.args.threads.now (names_count t.0 c.args.plans.now t.1) refl (subst (HaveThreads c.args.threads.now) (sym t.1) c.requires.threads) t.2 in
    let many = slots_count c.in_ok-slots.slots.items t.0 c.args.threads.now dealt in
    let some = some_left (reverse c.reverse.new.self.items) c.loop-number.slots.items c.loop-number.number c.loop-number.invariant.slots (omega (arith, c.loop-number-test.true, many, ap (λ xs. length xs) back)) in
    c.pop-in-loop-number.ensures.variant.1 (omega (arith, some, c.loop-number.slots.ok.0))

pub unwrap-seat-requires : goal.unwrap-seat-requires
unwrap-seat-requires g c =
    let some = some_left c.args.seats.items c.loop-number.seats.items c.loop-number.number c.loop-number.invariant.seats (omega (arith, c.loop-number-test.true, c.requires.seats)) in
    c.pop-in-loop-number-2.ensures.variant.1 (omega (arith, some, c.loop-number.seats.ok.0))

pub loop-number-preserved : goal.loop-number-preserved
loop-number-preserved g c =
    let i = c.loop-number.number in
    let clock = c.args.clock.now in
    let plans = map plan_content c.args.plans.now in
    let slots = reverse c.reverse.new.self.items in
    let worker = c.in_ok-worker.worker in
    let own = taken_at c.args.places.items c.loop-number.places.items c.pop.new.self.items i c.unwrap-own.result (c.pop.ensures.items ∙ ap (λ o. c.pop.new.self.items ++ option_to_list o) c.unwrap-own.ensures) c.loop-number.invariant.places in
    let held =
    taken_at slots c.loop-number.slots.items c.pop-in-loop-number.new.self.items i c.unwrap-held.result (c.pop-in-loop-number.ensures.items ∙ ap (λ o. c.pop-in-loop-number.new.self.items ++ option_to_list o) c.unwrap-held.ensures) c.loop-number.invariant.slots in
    let seat =
    taken_at c.args.seats.items c.loop-number.seats.items c.pop-in-loop-number-2.new.self.items i c.unwrap-seat.result (c.pop-in-loop-number-2.ensures.items ∙ ap (λ o. c.pop-in-loop-number-2.new.self.items ++ option_to_list o) c.unwrap-seat.ensures)
    c.loop-number.invariant.seats in
    let long : length c.deref.result.now ≡ length c.unwrap-own.result.items = ap (λ xs. length xs) c.deref.ensures.value in
    let kept = c.draws_for-share.ensures.kept in
    let draws = length c.unwrap-own.result.items in
    let tick =
    c.in_ok-worker.ensures.given.2
    ∙ (c.draws_for-share.ensures.given ∙ (ap (λ n. tick_view clock (n + n) c.loop-number.tick.seen) long ∙ ap (λ s. tick_view clock (draws + draws) s) c.loop-number.invariant.seen)) in
    let lot =
    lot_of plans clock c.args.tick.now.seen c.args.threads.now c.args.places.items slots c.args.seats.items i c.in_ok-most.most worker c.unwrap-own.result c.unwrap-held.result c.unwrap-seat.result _ c.in_ok-worker.ensures.stream.1
    c.in_ok-worker.ensures.stream.0 (slice_get-get_or c.args.threads.now i 0 c.loop-number-test.true) c.in_ok-worker.ensures.given.0 own.at c.in_ok-worker.ensures.given.1 held.at c.in_ok-worker.ensures.given.3 seat.at tick c.in_ok-most.ensures
    c.in_ok-worker.ensures.made in
    record {
      count = omega (arith, ap (λ ws. length ws) c.in_ok-push.ensures.items, length_push c.loop-number.workers.items worker, c.loop-number.invariant.count);
      places = own.left;
      seats = seat.left;
      slots = held.left;
      lots = at_more (HasLot plans clock c.args.tick.now.seen (lots_of c.args.threads.now c.args.places.items slots c.args.seats.items)) c.loop-number.workers.items c.push.new.self.items worker i c.in_ok-push.ensures.items c.loop-number.invariant.count
          c.loop-number.invariant.lots lot;
      clock = ap (λ (t : TickView). t.clock) kept;
      seen = ap (λ (t : TickView). t.seen) kept ∙ c.loop-number.invariant.seen;
      left = omega (arith, ap (λ (t : TickView). t.left) kept, long, draws_left c.args.places.items i c.unwrap-own.result c.loop-number.tick.left own.at c.loop-number.invariant.left);
    }

pub returns-clause-ready : goal.returns-clause-ready
returns-clause-ready g c = λ room names calls course given planned places fits.
    let plans = map plan_content c.args.plans.now in
    let slots = reverse c.reverse.new.self.items in
    let back = ap (λ xs. reverse xs) c.reverse.ensures.items ∙ reverse-reverse c.in_ok-slots.slots.items in
    let dealt = c.in_ok-slots.ensures names c.args.threads.now (names_count names c.args.plans.now (sym course.plans)) refl (subst (HaveThreads c.args.threads.now) course.plans c.requires.threads) given in
    are_ready room names c.args.clock.now plans c.args.tick.now.seen (lots_of c.args.threads.now c.args.places.items slots c.args.seats.items) calls c.loop-number.workers.items course
    (omega (arith, c.loop-number.invariant.count, c.loop-number-test.false, c.loop-number.auto.number-end)) c.loop-number.invariant.lots c.requires.threads (ap (λ xs. items_of xs) back ∙ dealt) planned places fits

pub returns-clause-threads : goal.returns-clause-threads
returns-clause-threads g c =
    map_by (λ w. w.thread) c.loop-number.workers.items c.args.threads.now (omega (arith, c.loop-number.invariant.count, c.loop-number-test.false, c.loop-number.auto.number-end)) (λ k w at. (c.loop-number.invariant.lots k w at).thread)

pub returns-clause-seats : goal.returns-clause-seats
returns-clause-seats g c =
    map_by (λ w. w.seat) c.loop-number.workers.items c.args.seats.items (omega (arith, c.loop-number.invariant.count, c.loop-number-test.false, c.loop-number.auto.number-end, c.requires.seats)) (λ k w at. (c.loop-number.invariant.lots k w at).seat)

pub returns-clause-unused : goal.returns-clause-unused
returns-clause-unused g c =
    let t = c.requires.tokens in
    let back = ap (λ xs. reverse xs) c.reverse.ensures.items ∙ reverse-reverse c.in_ok-slots.slots.items in
    let dealt = c.in_ok-slots.ensures t.0 c.args.threads.now (names_count t.0 c.args.plans.now t.1) refl (subst (HaveThreads c.args.threads.now) (sym t.1) c.requires.threads) t.2 in
    are_unused t.0 (map plan_content c.args.plans.now) c.args.clock.now c.args.tick.now.seen (lots_of c.args.threads.now c.args.places.items (reverse c.reverse.new.self.items) c.args.seats.items) c.loop-number.workers.items
    c.loop-number.invariant.lots (ap (λ xs. items_of xs) back ∙ dealt)
