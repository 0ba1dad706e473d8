use Rattle.std.proofs.Common.{◌≡◌, ◌∙◌, Bool, Global, Some, Vec, List, ap, map, subst, sym}
use Rattle.std.specs.List.{AllByRecursion}
use Rattle.stream_log.specs.declared.entry.Entry.{Entry}
use Rattle.stream_log.specs.Log.{SeenView}
use Rattle.trace_format.specs.declared.event.Name.{Name}
use Rattle.trace_format.specs.Content.{content}
use Rattle.model_driver.specs.Driver.{reply_shown}
use Rattle.threaded_replay.specs.Files.{file_parts}
use Rattle.device_shard.specs.Closing.{IsSeenIn, closed_in}
use Rattle.device_shard.specs.Plans.{plan_content}
use Rattle.device_shard.specs.Sets.{log_of}
use Rattle.stream_workers.specs.declared.worker.Worker.{Worker}
use Rattle.log_merge.specs.Numbered.{closed_lines}
use Rattle.stream_run.specs.Gathering.{IsGathered}
use Rattle.stream_run.specs.Working.{IsLeft}
use Rattle.stream_run.proofs.Ran.{rises_all}
use Rattle.stream_run.proofs.run.close_all.Goals as goal

pub close-requires : goal.close-requires
close-requires g c = subst (AllByRecursion (λ (t : Name × SeenView). log_of g.N.ShardNames.shards t.0 ≡ Some t.1.log)) (sym c.in_ok-spent.ensures.tokens) c.requires

pub merged_of-requires : goal.merged_of-requires
merged_of-requires g c = rises_all g.N.ShardNames.shards (map closed_lines c.in_ok-closed.closed.items) c.in_ok-closed.ensures.follows

pub returns-clause-left : goal.returns-clause-left
returns-clause-left g c =
    let closed = c.in_ok-closed.closed in
    let left : IsLeft g.N.ShardNames.shards (map plan_content c.args.plans.now) c.args.workers.items closed.items = record {
      devices = c.in_ok-closed.ensures.devices;
      past = subst (AllByRecursion (λ (t : Name × SeenView). IsSeenIn (closed_in closed.items t.0) t.1)) c.in_ok-spent.ensures.tokens c.in_ok-closed.ensures.past;
      follows = c.in_ok-closed.ensures.follows;
    } in
    subst (λ (v : Vec (Name × Vec Entry Global) Global). IsLeft g.N.ShardNames.shards (map plan_content c.args.plans.now) c.args.workers.items v.items) (sym c.in_ok-merged.ensures.logs) left

pub returns-clause-gathered : goal.returns-clause-gathered
returns-clause-gathered g c =
    let streams = (file_parts c.args.file.now).streams in
    let events = map content c.in_ok-merged.merged.events.items in
    let replies = map reply_shown c.in_ok-merged.merged.replies.items in
    let marks = ap (map (λ (v : Vec Bool Global). v.items)) c.deref.ensures.value ∙ c.in_ok-spent.ensures.sent in
    subst (λ (v : Vec (Name × Vec Entry Global) Global). IsGathered streams (map (λ (w : Worker g.row.S.Denot). w.sent.items) c.args.workers.items) (map closed_lines v.items) events replies) (sym c.in_ok-merged.ensures.logs)
    (subst (λ (bs : List (List Bool)). IsGathered streams bs (map closed_lines c.in_ok-closed.closed.items) events replies) marks c.in_ok-merged.ensures.gathered)
