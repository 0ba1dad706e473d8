use Rattle.std.proofs.Common.{◌≡◌, ◌∙◌, ℕ, Global, List, Vec, ap, length, map, subst, sym}
use Rattle.stream_log.specs.Clock.{tick_view}
use Rattle.trace_format.specs.declared.event.Event.{Event}
use Rattle.stream_model.specs.FileParts.{StreamPart}
use Rattle.stream_model.specs.Plans.{device_written}
use Rattle.merge_model.specs.Planned.{calls_planned}
use Rattle.threaded_replay.specs.Files.{file_parts, stream_part}
use Rattle.device_shard.specs.declared.plan.Plan.{Plan}
use Rattle.device_shard.specs.Plans.{plan_content}
use Rattle.device_shard.specs.Shards.{threads_of}
use Rattle.stream_crew.specs.Crews.{HaveThreads, places_of}
use Rattle.stream_plans.specs.Cuts.{devices_cut}
use Rattle.stream_plans.proofs.CutLemmas.{map_both}
use Rattle.stream_run.specs.Preparing.{steps_of}
use Rattle.stream_run.proofs.Ready.{have_threads}
use Rattle.stream_run.proofs.prepare.prepare.Goals as goal

pub make_logs-requires-clause-threads : goal.make_logs-requires-clause-threads
make_logs-requires-clause-threads c =
    let file = file_parts c.args.file.now in
    let own : c.in_ok-threads.threads.items ≡ threads_of file.streams = c.in_ok-threads.ensures ∙ ap (λ (ss : List (ℕ × Vec Event Global)). threads_of (map (stream_part {A = Global}) ss)) c.deref.ensures.value in
    subst (λ (ps : List Plan). HaveThreads c.deref-3.result.now (map plan_content ps)) (sym c.deref-2.ensures.value)
    (have_threads file c.deref-3.result.now (map plan_content c.in_ok-plans.field-0.plans.items) (c.deref-3.ensures.value ∙ own) c.in_ok-plans.ensures.cut)

pub returns : goal.returns
returns c =
    let file = file_parts c.args.file.now in
    record {
      cut = c.in_ok-plans.ensures.cut;
      devices = c.in_ok-plans.ensures.devices;
      places = c.in_ok-plans.ensures.places ∙ map_both (λ (s : StreamPart). calls_planned (device_written file) (devices_cut file) s.events) places_of file.streams;
      threads = c.in_ok-threads.ensures ∙ ap (λ (ss : List (ℕ × Vec Event Global)). threads_of (map (stream_part {A = Global}) ss)) c.deref.ensures.value;
      logs = λ names plans logs. c.in_ok-logs.ensures.logs names (plans ∙ ap (λ (ps : List Plan). map plan_content ps) (sym c.deref-2.ensures.value)) logs;
      count = c.in_ok-logs.ensures.count ∙ ap length c.deref-2.ensures.value;
      tick = c.in_ok-clock.ensures
          ∙ ap (λ (n : ℕ). tick_view c.in_ok-clock.clock n 0) (c.in_ok-steps.ensures ∙ ap (λ (vs : List (Vec ℕ Global)). steps_of (map (λ (v : Vec ℕ Global). v.items) vs)) c.deref-4.ensures.value);
    }
