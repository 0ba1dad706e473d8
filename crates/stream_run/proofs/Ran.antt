-- The workers of a file are done, and their logs are closed: the file has run.
use Rattle.std.proofs.Common.{◌≡◌, ◌∙◌, ℕ, Bool, Option, Some, Global, Vec, List, [], ◌∷◌, map, refl, sym, ap, subst}
use Rattle.std.specs.Prelude.{reverse, slice_get}
use Rattle.std.specs.List.{AllByRecursion, AllZip, IsDistinct, slice_index_or}
use Rattle.command_tables.specs.Calls.{ReplyContent}
use Rattle.atomic_table.specs.Seated.{TableId}
use Rattle.stream_log.specs.declared.entry.Entry.{Entry}
use Rattle.stream_log.specs.declared.line.Line.{Line}
use Rattle.stream_log.specs.Log.{RisesFrom}
use Rattle.trace_format.specs.declared.event.Name.{Name}
use Rattle.trace_format.specs.Accepting.{same_name}
use Rattle.trace_format.specs.Content.{TraceEvent}
use Rattle.model_driver.specs.Logs.{Log}
use Rattle.model_driver.specs.Seats.{SeatRoom}
use Rattle.chain_session.specs.declared.kept.Kept.{Kept}
use Rattle.stream_model.specs.FileParts.{FileParts}
use Rattle.stream_model.specs.Plans.{DevicePlan, device_written, events_along, plan_cut}
use Rattle.merge_model.specs.Merges.{IsMerge, events_on}
use Rattle.device_shard.specs.Closing.{IsClosed}
use Rattle.device_shard.specs.Making.{AreNamedBy}
use Rattle.device_shard.specs.Sets.{devices_of}
use Rattle.device_shard.specs.Shards.{ShardName}
use Rattle.stream_plans.specs.Cuts.{devices_cut}
use Rattle.stream_workers.specs.declared.worker.Worker.{Worker}
use Rattle.stream_workers.specs.Calls.{MadeCall}
use Rattle.stream_workers.specs.Work.{course}
use Rattle.log_merge.specs.Numbered.{closed_lines}
use Rattle.stream_run.specs.Gathering.{IsGathered}
use Rattle.stream_run.specs.Preparing.{calls_of_file}
use Rattle.stream_run.specs.Running.{AllMade, HasRun, HaveTold, IsReadyToRun, marks_of}
use Rattle.stream_run.specs.Working.{AllDone, AreOf, IsLeft}
use Rattle.stream_run.proofs.Done.{calls_done, done_made, done_planned, done_sent, done_told}
use Rattle.stream_run.proofs.Seen.{all_see}

-- the devices of names are those of their plans
pub devices_named_by : (k : Option Kept) (plans : List DevicePlan) (names : List ShardName) → AreNamedBy k plans names → map (λ (p : DevicePlan). p.device) plans ≡ devices_of names
devices_named_by k [] [] named = refl
devices_named_by k [] (n ∷ names) named = absurd named
devices_named_by k (p ∷ plans) [] named = absurd named
devices_named_by k (p ∷ plans) (n ∷ names) named =
    ap (λ (q : DevicePlan). q.device ∷ map (λ (r : DevicePlan). r.device) plans) (sym named.0.0) ∙ ap (λ (ds : List Name). n.plan.device ∷ ds) (devices_named_by k plans names named.1)

-- the times of each closed log rise
pub rises_all : (names : List ShardName) (lists : List (List Line)) → AllZip IsClosed names lists → AllByRecursion (RisesFrom 0) lists
rises_all [] [] closed = tt
rises_all [] (l ∷ lists) closed = absurd closed
rises_all (n ∷ names) [] closed = absurd closed
rises_all (n ∷ names) (l ∷ lists) closed = (closed.0.rises, rises_all names lists closed.1)

module _ {S : Type 0} (room : S → SeatRoom) (log : S → Log) (k : Option Kept) (file : FileParts) (names : List ShardName) (clock : TableId) (plans : List DevicePlan) (old new : List (Worker S)) (seats : List S) (closed : List (Name × Vec Entry Global)) where
  -- the calls that were made
  abbrev pub made_of : AllDone room log (course names clock plans) (calls_of_file file) old new → List (List MadeCall)
  made_of done = calls_done room log (course names clock plans) (calls_of_file file) old new done

  pub all_made : (done : AllDone room log (course names clock plans) (calls_of_file file) old new) → AreNamedBy k plans names → plans ≡ map (plan_cut file) (devices_cut file) → IsDistinct same_name (map (λ (p : DevicePlan). p.device) plans) → AreOf file seats old
      → IsLeft names plans new closed → AllMade k file (map closed_lines closed) (made_of done)
  all_made done named are apart own left =
      let sees = all_see room log (course names clock plans) (map (λ (p : DevicePlan). p.device) plans) closed (calls_of_file file) old new done apart (devices_named_by k plans names named) left.devices left.past in
      record {
        names = names;
        named = subst (λ (ps : List DevicePlan). AreNamedBy k ps names) are named;
        closed = left.follows;
        are = done_planned room log (course names clock plans) (calls_of_file file) old new done;
        threads = done_made room log (course names clock plans) (map closed_lines closed) file.streams (calls_of_file file) old new done own.threads own.unused sees;
      }

  pub gathered_of : (done : AllDone room log (course names clock plans) (calls_of_file file) old new) (events : List TraceEvent) (replies : List ReplyContent) (sent : List (List Bool)) → AreOf file seats old → sent ≡ map (λ (w : Worker S). w.sent.items) new
      → IsGathered file.streams sent (map closed_lines closed) events replies → IsGathered file.streams (marks_of (made_of done)) (map closed_lines closed) events replies
  gathered_of done events replies sent own marks gathered =
      subst (λ (bs : List (List Bool)). IsGathered file.streams bs (map closed_lines closed) events replies) (marks ∙ done_sent room log (course names clock plans) (calls_of_file file) old new done own.unused) gathered

  pub told_of : (done : AllDone room log (course names clock plans) (calls_of_file file) old new) (after : List S) → AreOf file seats old → after ≡ map (λ (w : Worker S). w.seat) new → HaveTold log (made_of done) seats after
  told_of done after own are =
      subst (λ (ss : List S). HaveTold log (made_of done) ss after) own.seats_are
      (subst (λ (ss : List S). HaveTold log (made_of done) (map (λ (w : Worker S). w.seat) old) ss) (sym are) (done_told room log (course names clock plans) (calls_of_file file) old new done))

  pub devices_of_logs : AreNamedBy k plans names → map (λ (p : DevicePlan). p.device) plans ≡ devices_cut file → IsLeft names plans new closed → map (λ (x : Name × Vec Entry Global). x.0) closed ≡ devices_cut file
  devices_of_logs named devices left = left.devices ∙ (sym (devices_named_by k plans names named) ∙ devices)

  -- all of it, by the laws of what was made
  pub has_run : (events : List TraceEvent) (replies : List ReplyContent) (after : List S) (sent : List (List Bool)) (done : AllDone room log (course names clock plans) (calls_of_file file) old new) → IsReadyToRun k file → AreNamedBy k plans names
      → plans ≡ map (plan_cut file) (devices_cut file) → map (λ (p : DevicePlan). p.device) plans ≡ devices_cut file → IsDistinct same_name (map (λ (p : DevicePlan). p.device) plans) → AreOf file seats old → IsLeft names plans new closed
      → sent ≡ map (λ (w : Worker S). w.sent.items) new → after ≡ map (λ (w : Worker S). w.seat) new → IsGathered file.streams sent (map closed_lines closed) events replies
      → ((k : Option Kept) (file : FileParts) (logs : List (List Line)) (made : List (List MadeCall)) (events : List TraceEvent) (replies : List ReplyContent) → IsReadyToRun k file → AllMade k file logs made → IsGathered file.streams (marks_of made) logs events replies
      → IsMerge file.streams events)
      → ((k : Option Kept) (file : FileParts) (logs : List (List Line)) (made : List (List MadeCall)) (events : List TraceEvent) (replies : List ReplyContent) (number : ℕ) (device : Name) → IsReadyToRun k file → AllMade k file logs made
      → IsGathered file.streams (marks_of made) logs events replies → slice_get (devices_cut file) number ≡ Some device
      → events_on (device_written file) device (reverse events) ≡ events_along (plan_cut file device).streams (reverse (map (λ (e : Line). e.thread) (slice_index_or logs number []))))
      → HasRun log k file seats events replies closed after
  has_run events replies after sent done ready named are devices apart own left marks kept gathered merges eaches =
      let all = all_made done named are apart own left in
      let gained = gathered_of done events replies sent own marks gathered in
      record {
        made = made_of done;
        all = all;
        told = told_of done after own kept;
        devices = devices_of_logs named devices left;
        gathered = gained;
        merge = merges k file (map closed_lines closed) (made_of done) events replies ready all gained;
        each = λ number device at. eaches k file (map closed_lines closed) (made_of done) events replies number device ready all gained at;
      }
