-- A worker as it is made. Source: this project.
use Rattle.std.specs.Prelude.{◌≡◌, ◌+◌, ◌≤◌, ℕ, Some, Option, Vec, List, [], length, replicate, slice_get, vec_capacity}
use Rattle.atomic_table.specs.Seated.{TableId}
use Rattle.command_tables.specs.Handles.{HasRoom}
use Rattle.stream_log.specs.Clock.{tick_view}
use Rattle.stream_log.specs.Log.{SeenView}
use Rattle.stream_model.specs.Plans.{DevicePlan}
use Rattle.stream_crew.specs.declared.needs.Most.{Most}
use Rattle.stream_crew.specs.Dealing.{items_of}
use Rattle.stream_crew.specs.Needs.{AreBelow}
use Rattle.stream_workers.specs.declared.worker.Worker.{Worker}

-- a worker has made nothing, and has room for its calls, of which none has more than this
pub record IsNewWorker {S : Type 0} (m : Most) (w : Worker S) : Type 0 where
  pub made : w.made.items ≡ replicate (length w.tokens.items) 0
  pub unsent : w.sent.items ≡ []
  pub sent : length w.places.items ≤ vec_capacity w.sent
  pub handles : HasRoom w.call.body.args 6 m.handles
  pub bytes : m.bytes ≤ vec_capacity w.call.body.payload
  pub results : m.results ≤ vec_capacity w.reply.handles

-- of each stream its thread, the places of its calls, its tokens and its seat
pub record Lots (S : Type 0) : Type 0 where
  pub threads : List ℕ
  pub places : List (List ℕ)
  pub slots : List (List (Option SeenView))
  pub seats : List S

-- a worker has what its stream has, by the stream's number, and two draws for each call
pub record HasLot {S : Type 0} (plans : List DevicePlan) (clock : TableId) (seen : ℕ) (lots : Lots S) (number : ℕ) (w : Worker S) : Type 0 where
  pub stream : w.stream ≡ number
  pub thread : slice_get lots.threads number ≡ Some w.thread
  pub places : slice_get lots.places number ≡ Some w.places.items
  pub tokens : slice_get lots.slots number ≡ Some w.tokens.items
  pub seat : slice_get lots.seats number ≡ Some w.seat
  pub tick : w.tick ≡ tick_view clock (length w.places.items + length w.places.items) seen
  pub most : Most
  pub below : AreBelow most number plans
  pub made : IsNewWorker most w

-- so it is for each of these workers
abbrev pub HaveLots : {S : Type 0} → List DevicePlan → TableId → ℕ → Lots S → List (Worker S) → Type 0
HaveLots {S = S} plans clock seen lots workers = (k : ℕ) (w : Worker S) → slice_get workers k ≡ Some w → HasLot plans clock seen lots k w

-- what there is for each stream
abbrev pub lots_of : {S A B : Type 0} → List ℕ → List (Vec ℕ A) → List (Vec (Option SeenView) B) → List S → Lots S
lots_of threads places slots seats = record { threads = threads; places = items_of places; slots = items_of slots; seats = seats }
