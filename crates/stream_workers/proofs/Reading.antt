-- What a worker's step reads at a plan with a number.
use Rattle.std.proofs.Common.{◌≡◌, ◌+◌, ◌<◌, ◌^◌, ℕ, Bool, true, false, cond, nat_lt, Option, Some, None, List, ◌∷◌, ◌++◌, [], length, map, get_or, IsSome, refl, sym, ◌∙◌, ap, subst, arith}
use Rattle.std.specs.Prelude.{slice_get}
use Rattle.std.specs.Option.{option_map}
use Rattle.std.proofs.lemmas.Bool.{lt-ltb}
use Rattle.std.proofs.lemmas.List.{get_or_default}
use Rattle.std.proofs.lemmas.Option.{slice_get-map, slice_get_read, slice_get_within}
use Rattle.atomic_table.specs.Seated.{TableId}
use Rattle.stream_log.specs.Log.{SeenView, seen_view}
use Rattle.trace_format.specs.Content.{TraceEvent, Begin, Return}
use Rattle.model_driver.specs.Driver.{reply_shown}
use Rattle.model_driver.specs.Seats.{SeatRoom}
use Rattle.stream_model.specs.FileParts.{StreamPart}
use Rattle.stream_model.specs.Order.{event_thread}
use Rattle.stream_model.specs.Plans.{DevicePlan}
use Rattle.shard_model.specs.Followed.{next_event}
use Rattle.device_shard.specs.declared.plan.Plan.{Plan}
use Rattle.device_shard.specs.Plans.{plan_content}
use Rattle.device_shard.specs.Shards.{ShardName}
use Rattle.device_shard.specs.Steps.{IsReplied}
use Rattle.device_shard.proofs.Lists.{one, within}
use Rattle.stream_workers.specs.declared.worker.Worker.{Worker}
use Rattle.merge_model.specs.Planned.{PlannedCall}
use Rattle.stream_workers.specs.Calls.{BegunCall}
use Rattle.stream_workers.specs.Held.{token_at}
use Rattle.stream_workers.specs.Opens.{IsToReturn}
use Rattle.stream_workers.specs.Work.{Course, IsCourse, IsReady}
use Rattle.stream_workers.proofs.Holding.{next_seen}
use Rattle.stream_workers.proofs.Opening.{as_many, coming, few_made, plan_is}
use Rattle.stream_workers.proofs.Returning.{ending, next_back, replied, few_back}

-- ---- of a set

-- the lock with a number is that with the number
pub number_is : {R : Type 0} (f : R → ℕ) (o : Option R) (r : R) (number count : ℕ) → option_map f o ≡ cond (nat_lt number count) (Some number) None → o ≡ Some r → f r ≡ number
number_is {R = R} f o r number count at is = go (nat_lt number count) (sym (ap (option_map f) is) ∙ at)
  where
    go : (u : Bool) → Some (f r) ≡ cond u (Some number) None → f r ≡ number
    go true e = cc e
    go false e = cc e

-- there is a lock with each number of a shard
pub is_there : {R : Type 0} (f : R → ℕ) (o : Option R) (number count : ℕ) → option_map f o ≡ cond (nat_lt number count) (Some number) None → number < count → IsSome o
is_there {R = R} f (Some r) number count at less = refl
is_there {R = R} f None number count at less = cc (at ∙ ap (λ (u : Bool). cond u (Some number) None) (lt-ltb number count less))

-- and a log
pub log_there : {L : Type 0} (f : L → TableId) (o : Option L) (names : List ShardName) (k : ℕ) (n : ShardName) → option_map f o ≡ slice_get (map (λ (m : ShardName). m.log) names) k → slice_get names k ≡ Some n → IsSome o
log_there {L = L} f (Some l) names k n at here = refl
log_there {L = L} f None names k n at here = cc (at ∙ (slice_get-map (λ (m : ShardName). m.log) names k ∙ ap (option_map (λ (m : ShardName). m.log)) here))

-- the log with a number is that of the shard with the number
pub log_is : {L : Type 0} (f : L → TableId) (o : Option L) (l : L) (names : List ShardName) (k : ℕ) (n : ShardName) → option_map f o ≡ slice_get (map (λ (m : ShardName). m.log) names) k → o ≡ Some l → slice_get names k ≡ Some n → f l ≡ n.log
log_is f o l names k n at is here = one (f l) n.log (sym (ap (option_map f) is) ∙ (at ∙ (slice_get-map (λ (m : ShardName). m.log) names k ∙ ap (option_map (λ (m : ShardName). m.log)) here)))

-- the plan with a number
pub plan_read : (plans : List Plan) (names : List ShardName) (k place : ℕ) (plan : Plan) (n : ShardName) → map plan_content plans ≡ map (λ (m : ShardName). m.plan) names → k ≡ place → slice_get names k ≡ Some n → plan ≡ get_or plans place plan → plan_content plan ≡ n.plan
plan_read plans names k place plan n same here at is =
    let far = slice_get_within names k n at in
    let many = as_many plan_content plans names same in
    let plan_there : slice_get plans place ≡ Some plan = slice_get_read plans (length plans) place plan refl (omega (arith, far, many, here)) is in
    plan_is plan_content plans names k plan n same (ap (slice_get plans) here ∙ plan_there) at

-- there is a plan with each number of a shard
pub plan_within : (plans : List Plan) (names : List ShardName) (k place : ℕ) (n : ShardName) → map plan_content plans ≡ map (λ (m : ShardName). m.plan) names → k ≡ place → slice_get names k ≡ Some n → place < length plans
plan_within plans names k place n same here at =
    let far = slice_get_within names k n at in
    let many = as_many plan_content plans names same in
    omega (arith, far, many, here)

-- how many steps a worker has made there
pub count_read : (made : List ℕ) (names : List ShardName) (k place count : ℕ) (n : ShardName) → length made ≡ length names → k ≡ place → slice_get names k ≡ Some n → count ≡ get_or made place count → count ≡ get_or made k 0
count_read made names k place count n many here at is =
    let far = slice_get_within names k n at in is ∙ (ap (λ i. get_or made i count) (sym here) ∙ get_or_default made k count 0 (omega (arith, far, many)))

-- ---- of the next call

module _ {S : Type 0} (room : S → SeatRoom) (c : Course) (p : PlannedCall) (rest : List PlannedCall) (w : Worker S) (ready : IsReady room c (p ∷ rest) w) (place : ℕ) (place_is : p.place ≡ place) where
  pub name_is : (k : ℕ) (n : ShardName) → k ≡ place → slice_get c.names k ≡ Some n → (coming room c p rest w ready).name ≡ n
  name_is k n number here = let x = coming room c p rest w ready in one x.name n (sym x.here ∙ (ap (slice_get c.names) (place_is ∙ sym number) ∙ here))

  pub here_at : (k : ℕ) → k ≡ place → slice_get c.names k ≡ Some (coming room c p rest w ready).name
  here_at k number = ap (slice_get c.names) (number ∙ sym place_is) ∙ (coming room c p rest w ready).here

  -- there is an event
  pub event_needs : (plan : Plan) (k : ℕ) → plan_content plan ≡ (coming room c p rest w ready).name.plan → k ≡ get_or w.made.items p.place 0 → (s : StreamPart) × (slice_get (plan_content plan).streams w.stream ≡ Some s) × (k < length s.events)
  event_needs plan k plan_is count_is =
      let x = coming room c p rest w ready in
      let far = within x.part.events (get_or w.made.items p.place 0) (Begin p.begin) x.event in
      (x.part, subst (λ (q : DevicePlan). slice_get q.streams w.stream ≡ Some x.part) (sym plan_is) x.part_at, omega (arith, far, count_is))

  -- which is the begin
  pub event_is : (plan : Plan) (k : ℕ) (e : TraceEvent) → plan_content plan ≡ (coming room c p rest w ready).name.plan → k ≡ get_or w.made.items p.place 0
      → (s : StreamPart) × (slice_get (plan_content plan).streams w.stream ≡ Some s) × (slice_get s.events k ≡ Some e) → e ≡ Begin p.begin
  event_is plan k e plan_is count_is read =
      let x = coming room c p rest w ready in
      let part : read.0 ≡ x.part = one read.0 x.part (sym read.1 ∙ (ap (λ (q : DevicePlan). slice_get q.streams w.stream) plan_is ∙ x.part_at)) in
      one e (Begin p.begin) (sym read.2 ∙ (ap (λ (s : StreamPart). slice_get s.events k) part ∙ (ap (slice_get x.part.events) count_is ∙ x.event)))

  pub token_needs : (s : SeenView) × (token_at w.tokens.items place ≡ Some s)
  token_needs = let x = coming room c p rest w ready in (seen_view x.name.log w.thread x.list, subst (λ i. token_at w.tokens.items i ≡ Some (seen_view x.name.log w.thread x.list)) place_is x.token)

  pub token_is : (s : SeenView) → token_at w.tokens.items place ≡ Some s → s ≡ seen_view (coming room c p rest w ready).name.log w.thread (coming room c p rest w ready).list
  token_is s at = let x = coming room c p rest w ready in one s (seen_view x.name.log w.thread x.list) (sym at ∙ (ap (token_at w.tokens.items) (sym place_is) ∙ x.token))

  pub next_is : (n : ShardName) (s : SeenView) (e : TraceEvent) → (coming room c p rest w ready).name ≡ n → s ≡ seen_view (coming room c p rest w ready).name.log w.thread (coming room c p rest w ready).list → e ≡ Begin p.begin
      → next_event n.plan.streams s.thread s.list ≡ Some e
  next_is n s e name seen event =
      let x = coming room c p rest w ready in
      ap (λ (t : SeenView). next_event n.plan.streams t.thread t.list) seen
      ∙ (ap (λ (m : ShardName). next_event m.plan.streams w.thread x.list) (sym name)
      ∙ (next_seen x.name w.thread x.list (get_or w.made.items p.place 0) (Begin p.begin) _ x.seen ∙ ap (λ (f : TraceEvent). Some f) (sym event)))

  pub own_thread : (e : TraceEvent) → e ≡ Begin p.begin → w.thread ≡ event_thread e
  own_thread e event = sym (ap event_thread event ∙ ready.holds.own.0)

  pub count_fits : (k : ℕ) → IsCourse c → k ≡ get_or w.made.items p.place 0 → k + 1 < 2 ^ 64
  count_fits k is count = let few = few_made room c p rest w ready is in omega (arith, few, count)

-- ---- of an open call

module _ {S : Type 0} (room : S → SeatRoom) (c : Course) (b : BegunCall) (rest : List PlannedCall) (w : Worker S) (open_ : IsToReturn room c b rest w) (place : ℕ) (place_is : b.place ≡ place) where
  pub open_name : (k : ℕ) (n : ShardName) → k ≡ place → slice_get c.names k ≡ Some n → open_.opened.begun.name ≡ n
  open_name k n number here = one open_.opened.begun.name n (sym open_.opened.begun.is ∙ (ap (slice_get c.names) (place_is ∙ sym number) ∙ here))

  pub open_here : (k : ℕ) → k ≡ place → slice_get c.names k ≡ Some open_.opened.begun.name
  open_here k number = ap (slice_get c.names) (number ∙ sym place_is) ∙ open_.opened.begun.is

  pub open_token_needs : (s : SeenView) × (token_at w.tokens.items place ≡ Some s)
  open_token_needs =
      (seen_view open_.opened.begun.name.log w.thread (b.before ++ b.entry ∷ []), subst (λ i. token_at w.tokens.items i ≡ Some (seen_view open_.opened.begun.name.log w.thread (b.before ++ b.entry ∷ []))) place_is (ending room c b rest w open_).token)

  pub open_token : (s : SeenView) → token_at w.tokens.items place ≡ Some s → s ≡ seen_view open_.opened.begun.name.log w.thread (b.before ++ b.entry ∷ [])
  open_token s at = one s (seen_view open_.opened.begun.name.log w.thread (b.before ++ b.entry ∷ [])) (sym at ∙ (ap (token_at w.tokens.items) (sym place_is) ∙ (ending room c b rest w open_).token))

  pub open_next : (n : ShardName) (s : SeenView) → open_.opened.begun.name ≡ n → s ≡ seen_view open_.opened.begun.name.log w.thread (b.before ++ b.entry ∷ []) → next_event n.plan.streams w.thread s.list ≡ Some (Return w.thread)
  open_next n s name seen =
      ap (λ (t : SeenView). next_event n.plan.streams w.thread t.list) seen
      ∙ (ap (λ (m : ShardName). next_event m.plan.streams w.thread (b.before ++ b.entry ∷ [])) (sym name) ∙ next_back room c b rest w open_)

  pub open_replied : (n : ShardName) (s : SeenView) → open_.opened.begun.name ≡ n → s ≡ seen_view open_.opened.begun.name.log w.thread (b.before ++ b.entry ∷ []) → IsReplied n s (reply_shown w.reply)
  open_replied n s name seen =
      subst (λ (m : ShardName). IsReplied m s (reply_shown w.reply)) name (subst (λ (t : SeenView). IsReplied open_.opened.begun.name t (reply_shown w.reply)) (sym seen) (replied room c b rest w open_))

  pub open_fits : (k : ℕ) → IsCourse c → k ≡ get_or w.made.items b.place 0 → k + 1 < 2 ^ 64
  open_fits k is count = let few = few_back room c b rest w open_ is in omega (arith, few, count)
