-- The calls that a thread has made, among those of all streams.
use Rattle.std.proofs.Common.{◌≡◌, ◌∙◌, ◌==◌, ◌+◌, ℕ, zero, suc, Bool, true, false, cond, not, ◌||◌, Option, Some, None, List, [], ◌∷◌, map, refl, sym, ap, subst, arith}
use Rattle.std.specs.Prelude.{find, is_some, nat_eq, slice_get}
use Rattle.std.specs.List.{AllByRecursion, AllZip, IsDistinct, list_any, position_from, slice_index_or}
use Rattle.std.specs.Option.{option_map_or}
use Rattle.std.proofs.lemmas.Bool.{eq-eqb, eqb-true}
use Rattle.std.proofs.lemmas.Iterator.Adapters.{position_from-zero}
use Rattle.std.proofs.lemmas.Map.Keys.{IsDistinct-head, IsDistinct-tail}
use Rattle.stream_log.specs.declared.line.Line.{Line}
use Rattle.trace_format.specs.declared.event.Name.{Name}
use Rattle.trace_format.specs.Content.{TraceEvent}
use Rattle.chain_session.specs.declared.kept.Kept.{Kept}
use Rattle.stream_model.specs.FileParts.{FileParts, StreamPart}
use Rattle.stream_model.specs.Plans.{device_written, events_planned, next_turn, plan_cut, turns_of}
use Rattle.merge_model.specs.Planned.{AreCallsOf, PlannedCall, calls_planned, events_of_calls}
use Rattle.device_shard.specs.Closing.{IsClosed}
use Rattle.device_shard.specs.Making.{AreNamedBy, IsStartOf}
use Rattle.device_shard.specs.Shards.{ShardName}
use Rattle.stream_merge.specs.Gathered.{was_sent}
use Rattle.stream_workers.specs.Calls.{MadeCall, planned_of}
use Rattle.stream_run.specs.Running.{AreMadeBy, IsMadeBy, marks_of}

-- the calls of a thread: none where it has no stream
abbrev pub calls_in : List StreamPart → List (List MadeCall) → ℕ → List MadeCall
calls_in [] made t = []
calls_in (s ∷ streams) [] t = []
calls_in (s ∷ streams) (cs ∷ made) t = cond (s.thread == t) cs (calls_in streams made t)

-- a call was sent
abbrev pub was_made_sent : MadeCall → Bool
was_made_sent m = not m.begun.skip

-- ---- which were sent

next_place : (p : StreamPart → Bool) (f : ℕ → Bool) (i : ℕ) (streams : List StreamPart) → option_map_or f (position_from p (i + 1) streams) false ≡ option_map_or (λ (j : ℕ). f (suc j)) (position_from p i streams) false
next_place p f i [] = refl
next_place p f i (s ∷ streams) = go (p s) (next_place p f (i + 1) streams)
  where
    one : i + 1 ≡ suc i
    one = omega arith

    go : (u : Bool) → option_map_or f (position_from p (i + 1 + 1) streams) false ≡ option_map_or (λ (j : ℕ). f (suc j)) (position_from p (i + 1) streams) false
        → option_map_or f (cond u (Some (i + 1)) (position_from p (i + 1 + 1) streams)) false ≡ option_map_or (λ (j : ℕ). f (suc j)) (cond u (Some i) (position_from p (i + 1) streams)) false
    go true rest = ap f one
    go false rest = rest

abbrev no_marks : List (List Bool)
no_marks = []

none_marked : (n : ℕ) (o : Option ℕ) → option_map_or (λ (i : ℕ). slice_index_or (slice_index_or no_marks i []) n false) o false ≡ false
none_marked n None = refl
none_marked n (Some i) = refl

sent_there : (t n : ℕ) (streams : List StreamPart) (made : List (List MadeCall))
    → option_map_or (λ (i : ℕ). slice_index_or (slice_index_or (marks_of made) i []) n false) (position_from (λ (s : StreamPart). s.thread == t) 0 streams) false ≡ slice_index_or (map was_made_sent (calls_in streams made t)) n false
sent_there t n [] made = refl
sent_there t n (s ∷ streams) [] = none_marked n (position_from (λ (x : StreamPart). x.thread == t) 0 (s ∷ streams))
sent_there t n (s ∷ streams) (cs ∷ made) =
    go (s.thread == t) (next_place (λ (x : StreamPart). x.thread == t) (λ (i : ℕ). slice_index_or (slice_index_or (marks_of (cs ∷ made)) i []) n false) 0 streams ∙ sent_there t n streams made)
  where
    go : (u : Bool)
        → option_map_or (λ (i : ℕ). slice_index_or (slice_index_or (marks_of (cs ∷ made)) i []) n false) (position_from (λ (x : StreamPart). x.thread == t) (0 + 1) streams) false
        ≡ slice_index_or (map was_made_sent (calls_in streams made t)) n false
        → option_map_or (λ (i : ℕ). slice_index_or (slice_index_or (marks_of (cs ∷ made)) i []) n false) (cond u (Some 0) (position_from (λ (x : StreamPart). x.thread == t) (0 + 1) streams)) false
        ≡ slice_index_or (map was_made_sent (cond u cs (calls_in streams made t))) n false
    go true rest = refl
    go false rest = rest

marked_there : (calls : List MadeCall) (n : ℕ) (m : MadeCall) → slice_get calls n ≡ Some m → slice_index_or (map was_made_sent calls) n false ≡ not m.begun.skip
marked_there [] n m is = cc is
marked_there (c ∷ calls) zero m is = let one : c ≡ m = cc in ap was_made_sent one
marked_there (c ∷ calls) (suc n) m is = marked_there calls n m is

pub sent_marked : (streams : List StreamPart) (made : List (List MadeCall)) (t n : ℕ) (m : MadeCall) → slice_get (calls_in streams made t) n ≡ Some m → was_sent streams (marks_of made) t n ≡ not m.begun.skip
sent_marked streams made t n m is =
    ap (λ (o : Option ℕ). option_map_or (λ (i : ℕ). slice_index_or (slice_index_or (marks_of made) i []) n false) o false) (position_from-zero (λ (s : StreamPart). s.thread == t) streams)
    ∙ (sent_there t n streams made ∙ marked_there (calls_in streams made t) n m is)

-- ---- a thread with a turn has a stream

nothing_at : (n : ℕ) → slice_get {X = TraceEvent} [] n ≡ None
nothing_at zero = refl
nothing_at (suc n) = refl

not_found : (streams : List StreamPart) (t : ℕ) → list_any (λ (s : StreamPart). s.thread == t) streams ≡ false → find (λ (s : StreamPart). s.thread == t) streams ≡ None
not_found [] t none = refl
not_found (s ∷ streams) t none = go (s.thread == t) none (not_found streams t)
  where
    go : (u : Bool) → (u || list_any (λ (x : StreamPart). x.thread == t) streams) ≡ false → (list_any (λ (x : StreamPart). x.thread == t) streams ≡ false → find (λ (x : StreamPart). x.thread == t) streams ≡ None)
        → cond u (Some s) (find (λ (x : StreamPart). x.thread == t) streams) ≡ None
    go true any rest = cc any
    go false any rest = rest any

pub has_stream_of : (streams : List StreamPart) (t : ℕ) (turns : List ℕ) → is_some (next_turn streams t turns) ≡ true → list_any (λ (s : StreamPart). s.thread == t) streams ≡ true
has_stream_of streams t turns some = go (list_any (λ (s : StreamPart). s.thread == t) streams) refl
  where
    go : (u : Bool) → list_any (λ (s : StreamPart). s.thread == t) streams ≡ u → u ≡ true
    go true any = refl
    go false any =
        let planned : events_planned streams t ≡ [] = ap (λ (o : Option StreamPart). option_map_or (λ (s : StreamPart). s.events) o []) (not_found streams t any) in
        let none : next_turn streams t turns ≡ None = ap (λ (es : List TraceEvent). slice_get es (turns_of t turns)) planned ∙ nothing_at (turns_of t turns) in
        let bad : false ≡ true = subst (λ (o : Option TraceEvent). is_some o ≡ true) none some in
        cc bad

-- ---- what is known of a thread's calls

pub record ThreadHas (device_of : Name → Option Name) (devices : List Name) (names : List ShardName) (logs : List (List Line)) (cs : List MadeCall) (es : List TraceEvent) (t : ℕ) : Type 0 where
  pub by : IsMadeBy names logs t cs
  pub planned : map planned_of cs ≡ calls_planned device_of devices es
  pub events : events_of_calls t (map planned_of cs) ≡ es
  pub own : AllByRecursion (λ (c : PlannedCall). c.begin.thread ≡ t) (map planned_of cs)

module _ (file : FileParts) (devices : List Name) (names : List ShardName) (logs : List (List Line)) where
  pub thread_has : (streams : List StreamPart) (made : List (List MadeCall)) (t : ℕ) → AreMadeBy names logs streams made
      → map (map planned_of) made ≡ map (λ (s : StreamPart). calls_planned (device_written file) devices s.events) streams
      → AllByRecursion (λ (s : StreamPart). AreCallsOf file devices s (calls_planned (device_written file) devices s.events)) streams
      → list_any (λ (s : StreamPart). s.thread == t) streams ≡ true
      → ThreadHas (device_written file) devices names logs (calls_in streams made t) (events_planned streams t) t
  thread_has [] made t by are plans has = cc has
  thread_has (s ∷ streams) [] t by are plans has = absurd by
  thread_has (s ∷ streams) (cs ∷ made) t by are plans has = go (s.thread == t) refl has (thread_has streams made t by.1 rest plans.1)
    where
      here : map planned_of cs ≡ calls_planned (device_written file) devices s.events
      here = cc are

      rest : map (map planned_of) made ≡ map (λ (x : StreamPart). calls_planned (device_written file) devices x.events) streams
      rest = cc are

      first : ThreadHas (device_written file) devices names logs cs s.events s.thread
      first = record {
        by = by.0;
        planned = here;
        events = ap (events_of_calls s.thread) here ∙ plans.0.events;
        own = subst (AllByRecursion (λ (c : PlannedCall). c.begin.thread ≡ s.thread)) (sym here) plans.0.own;
      }

      go : (u : Bool) → (s.thread == t) ≡ u → (u || list_any (λ (x : StreamPart). x.thread == t) streams) ≡ true
          → (list_any (λ (x : StreamPart). x.thread == t) streams ≡ true → ThreadHas (device_written file) devices names logs (calls_in streams made t) (events_planned streams t) t)
          → ThreadHas (device_written file) devices names logs (cond u cs (calls_in streams made t))
          (option_map_or (λ (x : StreamPart). x.events) (cond u (Some s) (find (λ (x : StreamPart). x.thread == t) streams)) []) t
      go true same any more = subst (ThreadHas (device_written file) devices names logs cs s.events) (eqb-true s.thread t same) first
      go false other any more = more any

-- ---- the calls of each stream

others_same : (s : StreamPart) (cs : List MadeCall) (streams : List StreamPart) (made : List (List MadeCall)) (xs : List StreamPart) → AllByRecursion (λ (t : ℕ). nat_eq s.thread t ≡ false) (map (λ (x : StreamPart). x.thread) xs)
    → map (λ (x : StreamPart). calls_in (s ∷ streams) (cs ∷ made) x.thread) xs ≡ map (λ (x : StreamPart). calls_in streams made x.thread) xs
others_same s cs streams made [] apart = refl
others_same s cs streams made (x ∷ xs) apart =
    ap (λ (u : Bool). cond u cs (calls_in streams made x.thread) ∷ map (λ (y : StreamPart). calls_in (s ∷ streams) (cs ∷ made) y.thread) xs) apart.0
    ∙ ap (λ (ys : List (List MadeCall)). calls_in streams made x.thread ∷ ys) (others_same s cs streams made xs apart.1)

pub each_has_its_own : (names : List ShardName) (logs : List (List Line)) (streams : List StreamPart) (made : List (List MadeCall)) → AreMadeBy names logs streams made → IsDistinct nat_eq (map (λ (s : StreamPart). s.thread) streams)
    → map (λ (x : StreamPart). calls_in streams made x.thread) streams ≡ made
each_has_its_own names logs [] [] by apart = refl
each_has_its_own names logs [] (cs ∷ made) by apart = absurd by
each_has_its_own names logs (s ∷ streams) [] by apart = absurd by
each_has_its_own names logs (s ∷ streams) (cs ∷ made) by apart =
    ap (λ (u : Bool). cond u cs (calls_in streams made s.thread) ∷ map (λ (y : StreamPart). calls_in (s ∷ streams) (cs ∷ made) y.thread) streams) (eq-eqb s.thread s.thread refl)
    ∙ ap (λ (ys : List (List MadeCall)). cs ∷ ys)
    (others_same s cs streams made streams (IsDistinct-head nat_eq s.thread (map (λ (x : StreamPart). x.thread) streams) apart)
    ∙ each_has_its_own names logs streams made by.1 (IsDistinct-tail nat_eq s.thread (map (λ (x : StreamPart). x.thread) streams) apart))

-- ---- the device of a log

pub record NamedAt (k : Option Kept) (file : FileParts) (devices : List Name) (place : ℕ) (n : ShardName) : Type 0 where
  pub device : Name
  pub there : slice_get devices place ≡ Some device
  pub plan : n.plan ≡ plan_cut file device
  pub start : IsStartOf k n.start

pub named_at : (k : Option Kept) (file : FileParts) (devices : List Name) (names : List ShardName) (place : ℕ) (n : ShardName) → AreNamedBy k (map (plan_cut file) devices) names → slice_get names place ≡ Some n → NamedAt k file devices place n
named_at k file [] [] place n named is = cc is
named_at k file [] (m ∷ names) place n named is = absurd named
named_at k file (d ∷ devices) [] place n named is = absurd named
named_at k file (d ∷ devices) (m ∷ names) zero n named is =
    let one : m ≡ n = cc in
    subst (NamedAt k file (d ∷ devices) zero) one (record { device = d; there = refl; plan = named.0.0; start = named.0.1 })
named_at k file (d ∷ devices) (m ∷ names) (suc place) n named is =
    let rest = named_at k file devices names place n named.1 is in record { device = rest.device; there = rest.there; plan = rest.plan; start = rest.start }

pub closed_at : (names : List ShardName) (logs : List (List Line)) (place : ℕ) (n : ShardName) → AllZip IsClosed names logs → slice_get names place ≡ Some n → IsClosed n (slice_index_or logs place [])
closed_at [] logs place n closed is = cc is
closed_at (m ∷ names) [] place n closed is = absurd closed
closed_at (m ∷ names) (l ∷ logs) zero n closed is = let one : m ≡ n = cc in subst (λ (x : ShardName). IsClosed x l) one closed.0
closed_at (m ∷ names) (l ∷ logs) (suc place) n closed is = closed_at names logs place n closed.1 is

pub all_there : {X : Type 0} (P : X → Type 0) (xs : List X) (n : ℕ) (x : X) → AllByRecursion P xs → slice_get xs n ≡ Some x → P x
all_there P [] n x all is = cc is
all_there P (y ∷ xs) zero x all is = let one : y ≡ x = cc in subst P one all.0
all_there P (y ∷ xs) (suc n) x all is = all_there P xs n x all.1 is

pub planned_there : (calls : List MadeCall) (n : ℕ) (m : MadeCall) → slice_get calls n ≡ Some m → slice_get (map planned_of calls) n ≡ Some (planned_of m)
planned_there [] n m is = cc is
planned_there (c ∷ calls) zero m is = let one : c ≡ m = cc in ap (λ (x : MadeCall). Some (planned_of x)) one
planned_there (c ∷ calls) (suc n) m is = planned_there calls n m is
