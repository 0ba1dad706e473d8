use Rattle.std.proofs.Common.{◌≡◌, ◌∙◌, ℕ, List, ap, length, map, subst, sym, arith}
use Rattle.std.proofs.lemmas.List.{with_items_is}
use Rattle.stream_log.specs.Clock.{TickView}
use Rattle.device_shard.specs.declared.plan.Plan.{Plan}
use Rattle.device_shard.specs.Plans.{plan_content}
use Rattle.stream_workers.specs.Work.{course}
use Rattle.stream_run.specs.Preparing.{calls_of_file}
use Rattle.stream_run.specs.Working.{AllDone}
use Rattle.stream_run.proofs.Answering.{map_of_seats, policies_same}
use Rattle.stream_run.proofs.Handed.{course_at, cut_at, done_of, few_at, named_at, planned_at, ready_each, ready_of, seats_count, sum_seen, threads_at}
use Rattle.stream_run.proofs.run.work_on.Goals as goal

pub new-requires-clause-few : goal.new-requires-clause-few
new-requires-clause-few g c = few_at _ _ _ _ c.deref.result.now c.requires.can.2 c.deref.ensures.value

pub new-requires-clause-file : goal.new-requires-clause-file
new-requires-clause-file g c = cut_at _ _ _ _ c.deref.result.now c.requires.can.2 c.deref.ensures.value

pub new-requires-clause-names : goal.new-requires-clause-names
new-requires-clause-names g c = named_at _ _ _ _ c.deref.result.now c.requires.can.2 c.deref.ensures.value

pub new-requires-clause-logs : goal.new-requires-clause-logs
new-requires-clause-logs g c = c.requires.can.2.logs

pub new-requires-clause-tick : goal.new-requires-clause-tick
new-requires-clause-tick g c = (ap (λ (t : TickView). t.clock) c.requires.can.1.tick, ap (λ (t : TickView). t.seen) c.requires.can.1.tick)

pub make_workers-requires-clause-threads : goal.make_workers-requires-clause-threads
make_workers-requires-clause-threads g c = threads_at _ _ _ _ c.deref-2.result.now c.deref-3.result.now c.requires.can.2 c.deref-2.ensures.value c.deref-3.ensures.value

pub make_workers-requires-clause-places : goal.make_workers-requires-clause-places
make_workers-requires-clause-places g c = c.requires.can.2.places ∙ ap (λ (ts : List ℕ). length ts) (sym c.deref-3.ensures.value)

pub make_workers-requires-clause-seats : goal.make_workers-requires-clause-seats
make_workers-requires-clause-seats g c =
    seats_count g.D.SharedDriver.room c.requires.can.0 c.args.prepared c.args.seats.items c.requires.can.1 c.requires.can.3 ∙ ap (λ (ts : List ℕ). length ts) (sym c.deref-3.ensures.value)

pub make_workers-requires-clause-tokens : goal.make_workers-requires-clause-tokens
make_workers-requires-clause-tokens g c = (g.N.ShardNames.shards, c.requires.can.2.plans ∙ ap (λ (ps : List Plan). map plan_content ps) (sym c.deref-2.ensures.value), c.in_ok-set.ensures.tokens)

pub make_workers-requires-clause-tick : goal.make_workers-requires-clause-tick
make_workers-requires-clause-tick g c =
    let tick = c.new.ensures.tick ∙ c.requires.can.1.tick in
    (ap (λ (t : TickView). t.clock) tick, omega (arith, sum_seen c.args.prepared.places.items, ap (λ (t : TickView). t.left) tick))

pub run_all-requires-clause-course : goal.run_all-requires-clause-course
run_all-requires-clause-course g c κs within =
    (course_at _ _ _ _ g.N.ShardNames.clock c.deref-4.result.now c.requires.can.2 c.deref-4.ensures.value, c.requires.can.2.rows c.table.result.now.rows c.table.ensures, sym c.requires.clock)

pub run_all-requires-clause-ready : goal.run_all-requires-clause-ready
run_all-requires-clause-ready g c κs within =
    let r = c.requires.can in
    let names = g.N.ShardNames.shards in
    let plans = map plan_content c.args.prepared.plans.items in
    let workers = c.in_ok-workers.workers.items in
    let made = c.in_ok-workers.ensures.ready g.D.SharedDriver.room names (calls_of_file r.0) (course_at _ _ _ _ c.args.prepared.clock c.deref-2.result.now r.2 c.deref-2.ensures.value) c.in_ok-set.ensures.tokens
    (planned_at _ _ _ _ c.deref-2.result.now c.deref-3.result.now r.2 c.deref-2.ensures.value c.deref-3.ensures.value) (sym r.1.places) r.3 in
    let ready = ready_of g.D.SharedDriver.room names g.N.ShardNames.clock c.args.prepared.clock plans (map plan_content c.deref-2.result.now) (calls_of_file r.0) workers (sym c.requires.clock) (ap (λ (ps : List Plan). map plan_content ps) c.deref-2.ensures.value) made in
    ready_each g.D.SharedDriver.room names g.N.ShardNames.clock plans (map plan_content c.deref-4.result.now) (calls_of_file r.0) workers c.deref_mut.result.now (ap (λ (ps : List Plan). map plan_content ps) c.deref-4.ensures.value) c.deref_mut.ensures.value ready

pub returns-clause-worked : goal.returns-clause-worked
returns-clause-worked g c = λ file prepared can seats.
    let names = g.N.ShardNames.shards in
    let plans = map plan_content c.args.prepared.plans.items in
    let workers = c.in_ok-workers.workers.items in
    let made = c.in_ok-workers.ensures.ready g.D.SharedDriver.room names (calls_of_file file) (course_at _ _ _ _ c.args.prepared.clock c.deref-2.result.now can c.deref-2.ensures.value) c.in_ok-set.ensures.tokens
    (planned_at _ _ _ _ c.deref-2.result.now c.deref-3.result.now can c.deref-2.ensures.value c.deref-3.ensures.value) (sym prepared.places) seats in
    let ready = ready_of g.D.SharedDriver.room names g.N.ShardNames.clock c.args.prepared.clock plans (map plan_content c.deref-2.result.now) (calls_of_file file) workers (sym c.requires.clock) (ap (λ (ps : List Plan). map plan_content ps) c.deref-2.ensures.value) made in
    let new = c.run_all.new.workers in
    let done = done_of g.D.SharedDriver.room g.D.SharedDriver.log names g.N.ShardNames.clock plans (map plan_content c.deref-4.result.now) (calls_of_file file) workers c.deref_mut.result.now new (ap (λ (ps : List Plan). map plan_content ps) c.deref-4.ensures.value)
    c.deref_mut.ensures.value ready c.run_all.ensures.len c.run_all.ensures.done in
    let count : length new ≡ c.in_ok-workers.workers.len = c.run_all.ensures.len ∙ (ap (λ ws. length ws) c.deref_mut.ensures.value ∙ sym c.in_ok-workers.workers.ok.0) in
    record {
      old = workers;
      own = record { threads = c.in_ok-workers.ensures.threads ∙ (c.deref-3.ensures.value ∙ prepared.threads); seats_are = c.in_ok-workers.ensures.seats; unused = c.in_ok-workers.ensures.unused };
      done = subst (λ ws. AllDone g.D.SharedDriver.room g.D.SharedDriver.log (course names g.N.ShardNames.clock plans) (calls_of_file file) workers ws) (sym (with_items_is c.in_ok-workers.workers new count)) done;
    }

-- each seat answers as it did
pub returns-clause-policy : goal.returns-clause-policy
returns-clause-policy g c =
    let answers_by = g.D.SharedDriver.answers_by in
    let workers = c.in_ok-workers.workers.items in
    let new = c.run_all.new.workers in
    let count : length new ≡ c.in_ok-workers.workers.len = c.run_all.ensures.len ∙ (ap (λ ws. length ws) c.deref_mut.ensures.value ∙ sym c.in_ok-workers.workers.ok.0) in
    ap (map (λ w. answers_by w.seat)) (with_items_is c.in_ok-workers.workers new count)
    ∙ (policies_same answers_by c.deref_mut.result.now new c.run_all.ensures.len c.run_all.ensures.policy
    ∙ (ap (map (λ w. answers_by w.seat)) c.deref_mut.ensures.value ∙ (sym (map_of_seats answers_by workers) ∙ ap (map answers_by) c.in_ok-workers.ensures.seats)))
