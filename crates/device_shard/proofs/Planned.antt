-- What comes next for a thread, by its place in the plan.
use Rattle.std.proofs.Common.{◌≡◌, ◌==◌, ◌+◌, ℕ, zero, suc, Bool, false, cond, nat_eq, Option, Some, None, List, [], ◌∷◌, length, refl, sym, ◌∙◌, ap, subst, arith}
use Rattle.std.specs.Prelude.{drop, find, slice_get}
use Rattle.std.specs.List.{AllByRecursion, IsDistinct, sum_by}
use Rattle.std.specs.Option.{option_map_or}
use Rattle.std.proofs.lemmas.Bool.{eq-eqb}
use Rattle.std.proofs.lemmas.List.Sums.{sum_by-cons}
use Rattle.std.proofs.lemmas.Map.Keys.{IsDistinct-head, IsDistinct-tail}
use Rattle.stream_log.specs.declared.line.Line.{Line}
use Rattle.trace_format.specs.Content.{BeginEvent, TraceEvent, Begin, Return}
use Rattle.stream_model.specs.FileParts.{StreamPart}
use Rattle.stream_model.specs.Plans.{events_planned, turns_of}
use Rattle.shard_model.specs.Followed.{next_event, turns_in}
use Rattle.shard_start.specs.Starting.{ArePairs}
use Rattle.device_shard.specs.declared.lane.Lane.{Lane}
use Rattle.device_shard.specs.Shards.{due_to, last_made, results_at, results_of, threads_of, to_come}
use Rattle.device_shard.proofs.Lists.{drop_here, one, within}

-- ---- the stream of a thread

apart_from : (t : ℕ) (streams : List StreamPart) (i : ℕ) (s : StreamPart) → AllByRecursion (λ y. nat_eq t y ≡ false) (threads_of streams) → slice_get streams i ≡ Some s → (t == s.thread) ≡ false
apart_from t [] i s apart here = cc here
apart_from t (u ∷ streams) zero s apart here = subst (λ (v : StreamPart). (t == v.thread) ≡ false) (one u s here) apart.0
apart_from t (u ∷ streams) (suc i) s apart here = apart_from t streams i s apart.1 here

found_at : (streams : List StreamPart) (i : ℕ) (s : StreamPart) → IsDistinct nat_eq (threads_of streams) → slice_get streams i ≡ Some s → find (λ (p : StreamPart). p.thread == s.thread) streams ≡ Some s
found_at [] i s apart here = cc here
found_at (u ∷ streams) zero s apart here =
    let same : u ≡ s = one u s here in
    ap (λ (b : Bool). cond b (Some u) (find (λ (p : StreamPart). p.thread == s.thread) streams)) (eq-eqb u.thread s.thread (ap (λ v. v.thread) same)) ∙ ap Some same
found_at (u ∷ streams) (suc i) s apart here =
    ap (λ (b : Bool). cond b (Some u) (find (λ (p : StreamPart). p.thread == s.thread) streams)) (apart_from u.thread streams i s (IsDistinct-head nat_eq u.thread (threads_of streams) apart) here) ∙ found_at streams i s (IsDistinct-tail nat_eq u.thread (threads_of streams) apart) here

pub planned_at : (streams : List StreamPart) (i : ℕ) (s : StreamPart) (thread : ℕ) → IsDistinct nat_eq (threads_of streams) → slice_get streams i ≡ Some s → s.thread ≡ thread → events_planned streams thread ≡ s.events
planned_at streams i s thread apart here own =
    ap (events_planned streams) (sym own) ∙ ap (λ (o : Option StreamPart). option_map_or (λ (p : StreamPart). p.events) o []) (found_at streams i s apart here)

-- the event that comes next stands in the stream behind the steps so far
pub next_at : (streams : List StreamPart) (i : ℕ) (s : StreamPart) (thread : ℕ) (list : List Line) (steps : ℕ) (e : TraceEvent) → IsDistinct nat_eq (threads_of streams) → slice_get streams i ≡ Some s → s.thread ≡ thread
    → steps ≡ turns_of s.thread (turns_in list) → next_event streams thread list ≡ Some e → slice_get s.events steps ≡ Some e
next_at streams i s thread list steps e apart here own made next =
    ap (slice_get s.events) (made ∙ ap (λ t. turns_of t (turns_in list)) own) ∙ ap (λ es. slice_get es (turns_of thread (turns_in list))) (sym (planned_at streams i s thread apart here own)) ∙ next

-- ---- pairs

-- no begin comes behind a begin
pub begin_alone : (events : List TraceEvent) (k : ℕ) (b c : BeginEvent) → ArePairs events → slice_get events (suc k) ≡ Some (Begin b) → slice_get events k ≡ Some (Begin c) → ⊥
begin_alone [] k b c pairs next last = cc last
begin_alone (Return t ∷ events) k b c pairs next last = absurd pairs
begin_alone (Begin d ∷ []) k b c pairs next last = absurd pairs
begin_alone (Begin d ∷ Begin f ∷ events) k b c pairs next last = absurd pairs
begin_alone (Begin d ∷ Return t ∷ events) zero b c pairs next last = cc next
begin_alone (Begin d ∷ Return t ∷ events) (suc zero) b c pairs next last = cc last
begin_alone (Begin d ∷ Return t ∷ events) (suc (suc k)) b c pairs next last = begin_alone events k b c pairs next last

-- the begin before a return
pub record BeginBefore (events : List TraceEvent) (k : ℕ) : Type 0 where
  pub begin : BeginEvent
  pub place : ℕ
  pub before : k ≡ suc place
  pub at : slice_get events place ≡ Some (Begin begin)

pub return_behind : (events : List TraceEvent) (k t : ℕ) → ArePairs events → slice_get events k ≡ Some (Return t) → BeginBefore events k
return_behind [] k t pairs next = cc next
return_behind (Return u ∷ events) k t pairs next = absurd pairs
return_behind (Begin d ∷ []) k t pairs next = absurd pairs
return_behind (Begin d ∷ Begin f ∷ events) k t pairs next = absurd pairs
return_behind (Begin d ∷ Return u ∷ events) zero t pairs next = cc next
return_behind (Begin d ∷ Return u ∷ events) (suc zero) t pairs next = record { begin = d; place = zero; before = refl; at = refl }
return_behind (Begin d ∷ Return u ∷ events) (suc (suc k)) t pairs next =
    let rest = return_behind events k t pairs next in record { begin = rest.begin; place = suc (suc rest.place); before = ap (λ n. suc (suc n)) rest.before; at = rest.at }

-- the last event that was made before a begin is none, or a return
pub last_before : (P : Option TraceEvent → Type 0) (Q : Type 0) (s : StreamPart) (steps : ℕ) (b : BeginEvent) → ArePairs s.events → slice_get s.events steps ≡ Some (Begin b) → (P None → Q) → ((t : ℕ) → P (Some (Return t)) → Q) → P (last_made s steps) → Q
last_before P Q s zero b pairs next none some have = none have
last_before P Q s (suc k) b pairs next none some have = go (slice_get s.events k) refl have
  where
    go : (o : Option TraceEvent) → slice_get s.events k ≡ o → P o → Q
    go None is h = none h
    go (Some (Return t)) is h = some t h
    go (Some (Begin c)) is h = absurd (begin_alone s.events k b c pairs next is)

-- ---- what is to come

-- a step more of what a thread makes
pub less_to_come : (s : StreamPart) (l new : Lane) (e : TraceEvent) → slice_get s.events l.steps ≡ Some e → new.steps ≡ l.steps + 1 → to_come s l ≡ suc (to_come s new)
less_to_come s l new e here more = let far = within s.events l.steps e here in omega (arith, far, more)

one_more : (k m : ℕ) → m ≡ k + 1 → m ≡ suc k
one_more k m e = omega (arith, e)

-- a begin leaves as many results due
pub due_at_begin : (s : StreamPart) (l new : Lane) (b : BeginEvent) → ArePairs s.events → slice_get s.events l.steps ≡ Some (Begin b) → new.steps ≡ l.steps + 1 → due_to s l ≡ due_to s new
due_at_begin s l new b pairs here more =
    let none : results_of (last_made s l.steps) ≡ 0 =
    last_before (λ (o : Option TraceEvent). results_of (last_made s l.steps) ≡ results_of o) (results_of (last_made s l.steps) ≡ 0) s l.steps b pairs here (λ e. e) (λ t e. e) refl in
    let dropped : sum_by results_at (drop l.steps s.events) ≡ length b.results + sum_by results_at (drop (suc l.steps) s.events) = ap (sum_by results_at) (drop_here s.events l.steps (Begin b) here) ∙ sum_by-cons results_at (Begin b) (drop (suc l.steps) s.events) in
    let now : due_to s new ≡ sum_by results_at (drop (suc l.steps) s.events) + results_of (last_made s (suc l.steps)) =
    ap (λ n. sum_by results_at (drop n s.events) + results_of (last_made s n)) (one_more l.steps new.steps more) in
    let made : results_of (last_made s (suc l.steps)) ≡ length b.results = ap results_of here in
    omega (arith, none, dropped, now, made)

-- a return leaves those of its call no longer due
pub due_at_return : (s : StreamPart) (l new : Lane) (b : BeginEvent) (t : ℕ) → last_made s l.steps ≡ Some (Begin b) → slice_get s.events l.steps ≡ Some (Return t) → new.steps ≡ l.steps + 1 → due_to s l ≡ length b.results + due_to s new
due_at_return s l new b t last here more =
    let dropped : sum_by results_at (drop l.steps s.events) ≡ sum_by results_at (drop (suc l.steps) s.events) = ap (sum_by results_at) (drop_here s.events l.steps (Return t) here) in
    let now : due_to s new ≡ sum_by results_at (drop (suc l.steps) s.events) + results_of (last_made s (suc l.steps)) =
    ap (λ n. sum_by results_at (drop n s.events) + results_of (last_made s n)) (one_more l.steps new.steps more) in
    let made : results_of (last_made s (suc l.steps)) ≡ 0 = ap results_of here in
    let was : results_of (last_made s l.steps) ≡ length b.results = ap results_of last in
    omega (arith, dropped, now, made, was)
