-- What a thread holds at the logs of all plans, as it makes one step more.
use Rattle.std.proofs.Common.{◌≡◌, ◌≢◌, ◌==◌, ◌+◌, ◌<◌, ℕ, zero, suc, Bool, true, false, cond, Option, Some, None, List, [], ◌∷◌, ◌++◌, drop, length, get_or, set, append-nil, append_assoc, refl, sym, ◌∙◌, ap, subst, arith, ne_eqb}
use Rattle.std.specs.Prelude.{All, slice_get}
use Rattle.std.specs.Option.{option_map_or}
use Rattle.std.proofs.lemmas.Bool.{eq-eqb, eqb-false, eqb-true}
use Rattle.std.proofs.lemmas.List.{get_or-set_other, get_or-set_same, length-set}
use Rattle.std.proofs.lemmas.List.Concat.{flat_map-cons}
use Rattle.std.proofs.lemmas.List.Elements.{filter-append}
use Rattle.std.proofs.lemmas.Option.{slice_get_within}
use Rattle.stream_log.specs.declared.line.Line.{Line}
use Rattle.stream_log.specs.Log.{IsPast, SeenView, seen_view}
use Rattle.trace_format.specs.Content.{TraceEvent, Begin, Return}
use Rattle.stream_model.specs.FileParts.{StreamPart}
use Rattle.stream_model.specs.Plans.{events_planned}
use Rattle.shard_model.specs.Followed.{next_event}
use Rattle.device_shard.specs.Shards.{ShardName}
use Rattle.device_shard.proofs.Lists.{one}
use Rattle.device_shard.proofs.Past.{step_more}
use Rattle.device_shard.proofs.Steps.{steps_past}
use Rattle.merge_model.specs.Planned.{PlannedCall, calls_at, events_of_calls}
use Rattle.stream_workers.specs.Calls.{BegunCall}
use Rattle.stream_workers.specs.Held.{EndsIn, GoesOn, HasSeen, HaveGrown, Holds, HoldsOpen, events_behind, lines_of_thread, list_at, token_at}
use Rattle.stream_workers.specs.Opens.{HaveGainedOne}

-- ---- lists

pub there : {X : Type 0} (xs : List X) (k : ℕ) → k < length xs → (x : X) × (slice_get xs k ≡ Some x)
there [] k far = absurd (omega (arith, far))
there (x ∷ xs) zero far = (x, refl)
there (x ∷ xs) (suc k) far = there xs k (omega (arith, far))

pub drop_after : {X : Type 0} (xs : List X) (n : ℕ) (x : X) (ys : List X) → drop n xs ≡ x ∷ ys → drop (suc n) xs ≡ ys
drop_after [] zero x ys e = cc e
drop_after [] (suc n) x ys e = cc e
drop_after (z ∷ xs) zero x ys e = cc e
drop_after (z ∷ xs) (suc n) x ys e = drop_after xs n x ys e

pub drop_first : {X : Type 0} (xs : List X) (n : ℕ) (x : X) (ys : List X) → drop n xs ≡ x ∷ ys → slice_get xs n ≡ Some x
drop_first [] zero x ys e = cc e
drop_first [] (suc n) x ys e = cc e
drop_first {X = X} (z ∷ xs) zero x ys e = let same : z ≡ x = cc e in ap (λ (y : X). Some y) same
drop_first (z ∷ xs) (suc n) x ys e = drop_first xs n x ys e

-- ---- one token

-- an event more was made a step
pub seen_more : (n : ShardName) (thread : ℕ) (list before : List Line) (e : Line) (made : ℕ) (event : TraceEvent) (rest : List TraceEvent) → HasSeen n thread list made (event ∷ rest) → IsPast thread list before → e.thread ≡ thread
    → HasSeen n thread (before ++ e ∷ []) (made + 1) rest
seen_more n thread list before e made event rest seen past own =
    let more = step_more thread before e (eq-eqb e.thread thread own) in
    let same = steps_past thread list before past in
    let was = seen.made_is in
    let next : suc made ≡ made + 1 = omega arith in
    record { made_is = omega (arith, more, same, was); left = subst (λ k. drop k (events_planned n.plan.streams thread) ≡ rest) next (drop_after (events_planned n.plan.streams thread) made event rest seen.left) }

-- which event is next
pub next_seen : (n : ShardName) (thread : ℕ) (list : List Line) (made : ℕ) (event : TraceEvent) (rest : List TraceEvent) → HasSeen n thread list made (event ∷ rest) → next_event n.plan.streams thread list ≡ Some event
next_seen n thread list made event rest seen = ap (slice_get (events_planned n.plan.streams thread)) (sym seen.made_is) ∙ drop_first (events_planned n.plan.streams thread) made event rest seen.left

-- the stream in which it stands
pub stream_there : (streams : List StreamPart) (number : ℕ) (events : List TraceEvent) (m : ℕ) (e : TraceEvent) → option_map_or (λ (s : StreamPart). s.events) (slice_get streams number) [] ≡ events → slice_get events m ≡ Some e
    → (s : StreamPart) × (slice_get streams number ≡ Some s) × (slice_get s.events m ≡ Some e)
stream_there streams number events m e owns at = go (slice_get streams number) refl owns
  where
    nothing : slice_get {X = TraceEvent} [] m ≡ Some e → ⊥
    nothing none = cc none

    go : (o : Option StreamPart) → slice_get streams number ≡ o → option_map_or (λ (s : StreamPart). s.events) o [] ≡ events → (s : StreamPart) × (slice_get streams number ≡ Some s) × (slice_get s.events m ≡ Some e)
    go None is own = absurd (nothing (ap (λ (es : List TraceEvent). slice_get es m) own ∙ at))
    go (Some s) is own = (s, is, ap (λ (es : List TraceEvent). slice_get es m) own ∙ at)

-- ---- which calls are at a plan

pub own_events : (t k : ℕ) (p : PlannedCall) (rest : List PlannedCall) → p.place ≡ k → events_of_calls t (calls_at k (p ∷ rest)) ≡ Begin p.begin ∷ Return t ∷ events_of_calls t (calls_at k rest)
own_events t k p rest here =
    ap (λ (u : Bool). events_of_calls t (cond u (p ∷ calls_at k rest) (calls_at k rest))) (eq-eqb p.place k here) ∙ flat_map-cons (λ (c : PlannedCall). Begin c.begin ∷ Return t ∷ []) p (calls_at k rest)

pub other_calls : (k : ℕ) (p : PlannedCall) (rest : List PlannedCall) → (p.place == k) ≡ false → calls_at k (p ∷ rest) ≡ calls_at k rest
other_calls k p rest off = ap (λ (u : Bool). cond u (p ∷ calls_at k rest) (calls_at k rest)) off

pub own_behind : (t place k : ℕ) (rest : List PlannedCall) → (place == k) ≡ true → events_behind t place k rest ≡ Return t ∷ events_of_calls t (calls_at k rest)
own_behind t place k rest here = ap (λ (u : Bool). cond u (Return t ∷ events_of_calls t (calls_at k rest)) (events_of_calls t (calls_at k rest))) here

pub other_behind : (t place k : ℕ) (rest : List PlannedCall) → (place == k) ≡ false → events_behind t place k rest ≡ events_of_calls t (calls_at k rest)
other_behind t place k rest off = ap (λ (u : Bool). cond u (Return t ∷ events_of_calls t (calls_at k rest)) (events_of_calls t (calls_at k rest))) off

-- ---- slots

pub token_same : (slots : List (Option SeenView)) (k : ℕ) (s : Option SeenView) → k < length slots → token_at (set slots k s) k ≡ s
token_same [] k s far = absurd (omega (arith, far))
token_same (x ∷ slots) zero s far = refl
token_same (x ∷ slots) (suc k) s far = token_same slots k s (omega (arith, far))

pub token_other : (slots : List (Option SeenView)) (k j : ℕ) (s : Option SeenView) → j ≢ k → token_at (set slots k s) j ≡ token_at slots j
token_other [] k j s off = refl
token_other (x ∷ slots) zero zero s off = absurd (off refl)
token_other (x ∷ slots) zero (suc j) s off = refl
token_other (x ∷ slots) (suc k) zero s off = refl
token_other (x ∷ slots) (suc k) (suc j) s off = token_other slots k j s (λ e. off (ap suc e))

-- what is held at one plan
abbrev pub HoldsAt : ShardName → ℕ → List (Option SeenView) → List ℕ → ℕ → List TraceEvent → Type 0
HoldsAt n thread slots made k events = (list : List Line) × (token_at slots k ≡ Some (seen_view n.log thread list)) × HasSeen n thread list (get_or made k 0) events

module _ (thread : ℕ) (slots : List (Option SeenView)) (made : List ℕ) (place : ℕ) (n : ShardName) (list : List Line) where
  -- behind a step at the plan itself
  pub at_own : (j : ℕ) (m : ShardName) (events : List TraceEvent) → j ≡ place → n ≡ m → place < length slots → place < length made → HasSeen n thread list (get_or made place 0 + 1) events
      → (token_at (set slots place (Some (seen_view n.log thread list))) j ≡ Some (seen_view m.log thread list)) × HasSeen m thread list (get_or (set made place (get_or made place 0 + 1)) j 0) events
  at_own j m events same name there_ enough seen =
      let token : token_at (set slots place (Some (seen_view n.log thread list))) place ≡ Some (seen_view n.log thread list) = token_same slots place (Some (seen_view n.log thread list)) there_ in
      let count : get_or (set made place (get_or made place 0 + 1)) place 0 ≡ get_or made place 0 + 1 = get_or-set_same made place (get_or made place 0 + 1) 0 enough in (
        ap (token_at (set slots place (Some (seen_view n.log thread list)))) same ∙ (token ∙ ap (λ (q : ShardName). Some (seen_view q.log thread list)) name),
        subst (λ (q : ShardName). HasSeen q thread list (get_or (set made place (get_or made place 0 + 1)) j 0) events) name (
            subst (λ k. HasSeen n thread list k events) (sym (ap (λ i. get_or (set made place (get_or made place 0 + 1)) i 0) same ∙ count)) seen),
      )

  -- and at another
  pub at_other : (x : Option SeenView) (more j : ℕ) (m : ShardName) (l : List Line) (events : List TraceEvent) → (place == j) ≡ false → token_at slots j ≡ Some (seen_view m.log thread l) → HasSeen m thread l (get_or made j 0) events
      → (token_at (set slots place x) j ≡ Some (seen_view m.log thread l)) × HasSeen m thread l (get_or (set made place more) j 0) events
  at_other x more j m l events off token seen =
      let apart : j ≢ place = λ e. eqb-false place j off (sym e) in (
        token_other slots place j x apart ∙ token,
        subst (λ k. HasSeen m thread l k events) (sym (get_or-set_other made place j more 0 apart)) seen,
      )

-- ---- the next call

-- the begin that comes next of a stream's calls, at its plan
pub record Comes (names : List ShardName) (thread stream : ℕ) (p : PlannedCall) (rest : List PlannedCall) (slots : List (Option SeenView)) (made : List ℕ) : Type 0 where
  pub name : ShardName
  pub here : slice_get names p.place ≡ Some name
  pub list : List Line
  pub token : token_at slots p.place ≡ Some (seen_view name.log thread list)
  pub seen : HasSeen name thread list (get_or made p.place 0) (Begin p.begin ∷ Return thread ∷ events_of_calls thread (calls_at p.place rest))
  pub part : StreamPart
  pub part_at : slice_get name.plan.streams stream ≡ Some part
  pub event : slice_get part.events (get_or made p.place 0) ≡ Some (Begin p.begin)

pub comes : (names : List ShardName) (thread stream : ℕ) (p : PlannedCall) (rest : List PlannedCall) (slots : List (Option SeenView)) (made : List ℕ) → Holds names thread (p ∷ rest) slots made
    → ((n : ShardName) → slice_get names p.place ≡ Some n → option_map_or (λ (s : StreamPart). s.events) (slice_get n.plan.streams stream) [] ≡ events_planned n.plan.streams thread) → Comes names thread stream p rest slots made
comes names thread stream p rest slots made holds owns =
    let it = there names p.place holds.planned.0 in
    let held = holds.each p.place it.0 it.1 in
    let seen = subst (λ (es : List TraceEvent). HasSeen it.0 thread held.0 (get_or made p.place 0) es) (own_events thread p.place p rest refl) held.2 in
    let stands = stream_there it.0.plan.streams stream (events_planned it.0.plan.streams thread) (get_or made p.place 0) (Begin p.begin) (owns it.0 it.1)
    (drop_first (events_planned it.0.plan.streams thread) (get_or made p.place 0) (Begin p.begin) (Return thread ∷ events_of_calls thread (calls_at p.place rest)) seen.left) in
    record { name = it.0; here = it.1; list = held.0; token = held.1; seen = seen; part = stands.0; part_at = stands.1; event = stands.2 }

-- it has begun
pub begun_holds : (names : List ShardName) (thread stream : ℕ) (p : PlannedCall) (rest : List PlannedCall) (slots : List (Option SeenView)) (made : List ℕ) (c : BegunCall) → Holds names thread (p ∷ rest) slots made
    → (x : Comes names thread stream p rest slots made) → c.place ≡ p.place → IsPast thread x.list c.before → c.entry.thread ≡ thread
    → HoldsOpen names thread c rest (set slots p.place (Some (seen_view x.name.log thread (c.before ++ c.entry ∷ [])))) (set made p.place (get_or made p.place 0 + 1))
begun_holds names thread stream p rest slots made c holds x same past own =
    let long = length-set slots p.place (Some (seen_view x.name.log thread (c.before ++ c.entry ∷ []))) in
    let many = length-set made p.place (get_or made p.place 0 + 1) in
    let inside = holds.planned.0 in
    let slots_are = holds.slots_are in
    let made_are = holds.made_are in
    let enough : p.place < length slots = omega (arith, inside, slots_are) in
    let counted : p.place < length made = omega (arith, inside, made_are) in
    record {
      slots_are = long ∙ holds.slots_are;
      made_are = many ∙ holds.made_are;
      own = holds.own.1;
      planned = holds.planned.1;
      each = λ j m at. go enough counted j m at (p.place == j) refl;
    }
  where
    more : HasSeen x.name thread (c.before ++ c.entry ∷ []) (get_or made p.place 0 + 1) (Return thread ∷ events_of_calls thread (calls_at p.place rest))
    more = seen_more x.name thread x.list c.before c.entry (get_or made p.place 0) (Begin p.begin) (Return thread ∷ events_of_calls thread (calls_at p.place rest)) x.seen past own

    go : p.place < length slots → p.place < length made → (j : ℕ) (m : ShardName) → slice_get names j ≡ Some m → (u : Bool) → (p.place == j) ≡ u
        → (list : List Line) × (token_at (set slots p.place (Some (seen_view x.name.log thread (c.before ++ c.entry ∷ [])))) j ≡ Some (seen_view m.log thread list))
        × HasSeen m thread list (get_or (set made p.place (get_or made p.place 0 + 1)) j 0) (events_behind thread c.place j rest) × EndsIn c j list
    go enough counted j m at true is =
        let here : p.place ≡ j = eqb-true p.place j is in
        let name : x.name ≡ m = one x.name m (sym x.here ∙ (ap (slice_get names) here ∙ at)) in
        let behind : Return thread ∷ events_of_calls thread (calls_at p.place rest) ≡ events_behind thread c.place j rest =
        ap (λ k. Return thread ∷ events_of_calls thread (calls_at k rest)) here ∙ sym (own_behind thread c.place j rest (ap (λ k. k == j) same ∙ is)) in
        let both = at_own thread slots made p.place x.name (c.before ++ c.entry ∷ []) j m (events_behind thread c.place j rest) (sym here) name enough counted
        (subst (λ (es : List TraceEvent). HasSeen x.name thread (c.before ++ c.entry ∷ []) (get_or made p.place 0 + 1) es) behind more) in
        (c.before ++ c.entry ∷ [], both.0, both.1, λ e. refl)
    go enough counted j m at false is =
        let held = holds.each j m at in
        let behind : events_of_calls thread (calls_at j (p ∷ rest)) ≡ events_behind thread c.place j rest =
        ap (events_of_calls thread) (other_calls j p rest is) ∙ sym (other_behind thread c.place j rest (ap (λ k. k == j) same ∙ is)) in
        let both = at_other thread slots made p.place x.name x.list (Some (seen_view x.name.log thread (c.before ++ c.entry ∷ []))) (get_or made p.place 0 + 1) j m held.0 (events_behind thread c.place j rest) is held.1
        (subst (λ (es : List TraceEvent). HasSeen m thread held.0 (get_or made j 0) es) behind held.2) in
        (held.0, both.0, both.1, λ e. absurd (eqb-false p.place j is (sym same ∙ e)))

-- ---- its return

-- the return that comes next, at the call's plan
pub record Ends (names : List ShardName) (thread : ℕ) (c : BegunCall) (rest : List PlannedCall) (slots : List (Option SeenView)) (made : List ℕ) (n : ShardName) : Type 0 where
  pub token : token_at slots c.place ≡ Some (seen_view n.log thread (c.before ++ c.entry ∷ []))
  pub seen : HasSeen n thread (c.before ++ c.entry ∷ []) (get_or made c.place 0) (Return thread ∷ events_of_calls thread (calls_at c.place rest))

pub ends : (names : List ShardName) (thread : ℕ) (c : BegunCall) (rest : List PlannedCall) (slots : List (Option SeenView)) (made : List ℕ) (n : ShardName) → HoldsOpen names thread c rest slots made → slice_get names c.place ≡ Some n
    → Ends names thread c rest slots made n
ends names thread c rest slots made n holds at =
    let held = holds.each c.place n at in
    let list : held.0 ≡ c.before ++ c.entry ∷ [] = held.3 refl in
    record {
      token = held.1 ∙ ap (λ (l : List Line). Some (seen_view n.log thread l)) list;
      seen = subst (λ (l : List Line). HasSeen n thread l (get_or made c.place 0) (Return thread ∷ events_of_calls thread (calls_at c.place rest))) list
          (subst (λ (es : List TraceEvent). HasSeen n thread held.0 (get_or made c.place 0) es) (own_behind thread c.place c.place rest (eq-eqb c.place c.place refl)) held.2);
    }

pub ended_holds : (names : List ShardName) (thread : ℕ) (c : BegunCall) (rest : List PlannedCall) (slots : List (Option SeenView)) (made : List ℕ) (n : ShardName) (until : List Line) (e : Line) → HoldsOpen names thread c rest slots made
    → slice_get names c.place ≡ Some n → IsPast thread (c.before ++ c.entry ∷ []) until → e.thread ≡ thread
    → Holds names thread rest (set slots c.place (Some (seen_view n.log thread (until ++ e ∷ [])))) (set made c.place (get_or made c.place 0 + 1))
ended_holds names thread c rest slots made n until e holds here past own =
    let long = length-set slots c.place (Some (seen_view n.log thread (until ++ e ∷ []))) in
    let many = length-set made c.place (get_or made c.place 0 + 1) in
    let inside = slice_get_within names c.place n here in
    let slots_are = holds.slots_are in
    let made_are = holds.made_are in
    let enough : c.place < length slots = omega (arith, inside, slots_are) in
    let counted : c.place < length made = omega (arith, inside, made_are) in
    record {
      slots_are = long ∙ holds.slots_are;
      made_are = many ∙ holds.made_are;
      own = holds.own;
      planned = holds.planned;
      each = λ j m at. go enough counted j m at (c.place == j) refl;
    }
  where
    more : HasSeen n thread (until ++ e ∷ []) (get_or made c.place 0 + 1) (events_of_calls thread (calls_at c.place rest))
    more = seen_more n thread (c.before ++ c.entry ∷ []) until e (get_or made c.place 0) (Return thread) (events_of_calls thread (calls_at c.place rest)) (ends names thread c rest slots made n holds here).seen past own

    go : c.place < length slots → c.place < length made → (j : ℕ) (m : ShardName) → slice_get names j ≡ Some m → (u : Bool) → (c.place == j) ≡ u
        → (list : List Line) × (token_at (set slots c.place (Some (seen_view n.log thread (until ++ e ∷ [])))) j ≡ Some (seen_view m.log thread list))
        × HasSeen m thread list (get_or (set made c.place (get_or made c.place 0 + 1)) j 0) (events_of_calls thread (calls_at j rest))
    go enough counted j m at true is =
        let same : c.place ≡ j = eqb-true c.place j is in
        let name : n ≡ m = one n m (sym here ∙ (ap (slice_get names) same ∙ at)) in
        let both = at_own thread slots made c.place n (until ++ e ∷ []) j m (events_of_calls thread (calls_at j rest)) (sym same) name enough counted
        (subst (λ k. HasSeen n thread (until ++ e ∷ []) (get_or made c.place 0 + 1) (events_of_calls thread (calls_at k rest))) same more) in
        (until ++ e ∷ [], both.0, both.1)
    go enough counted j m at false is =
        let held = holds.each j m at in
        let both = at_other thread slots made c.place n until (Some (seen_view n.log thread (until ++ e ∷ []))) (get_or made c.place 0 + 1) j m held.0 (events_of_calls thread (calls_at j rest)) is held.1
        (subst (λ (es : List TraceEvent). HasSeen m thread held.0 (get_or made j 0) es) (other_behind thread c.place j rest is) held.2) in
        (held.0, both.0, both.1)

-- ---- what the logs gain

none_of : (b : Bool) (y : Line) (fs : List Line) → b ≡ false → fs ≡ [] → cond b (y ∷ fs) fs ≡ []
none_of true y fs off none = cc off
none_of false y fs off none = none

lines_none : (t : ℕ) (ys : List Line) → All (λ (e : Line). e.thread ≢ t) ys → lines_of_thread t ys ≡ []
lines_none t [] h = refl
lines_none t (y ∷ ys) h = none_of (y.thread == t) y (lines_of_thread t ys) (ne_eqb y.thread t (h 0 y (omega arith))) (lines_none t ys (λ k d lt. h (suc k) d (omega (arith, lt))))

pub lines_past : (t : ℕ) (seen list : List Line) → IsPast t seen list → lines_of_thread t list ≡ lines_of_thread t seen
lines_past t seen list past =
    ap (lines_of_thread t) past.1 ∙ (filter-append (λ (e : Line). e.thread == t) seen past.0 ∙ (ap (λ (es : List Line). lines_of_thread t seen ++ es) (lines_none t past.0 past.2) ∙ append-nil (lines_of_thread t seen)))

pub lines_more : (t : ℕ) (seen before : List Line) (e : Line) → IsPast t seen before → e.thread ≡ t → lines_of_thread t (before ++ e ∷ []) ≡ lines_of_thread t seen ++ e ∷ []
lines_more t seen before e past own =
    let last : lines_of_thread t (e ∷ []) ≡ e ∷ [] = ap (λ (u : Bool). cond u (e ∷ []) []) (eq-eqb e.thread t own) in
    filter-append (λ (x : Line). x.thread == t) before (e ∷ []) ∙ (ap (λ (es : List Line). es ++ lines_of_thread t (e ∷ [])) (lines_past t seen before past) ∙ ap (λ (es : List Line). lines_of_thread t seen ++ es) last)

pub gained_one : (thread place : ℕ) (e : Line) (slots : List (Option SeenView)) (n : ShardName) (list before : List Line) → token_at slots place ≡ Some (seen_view n.log thread list) → IsPast thread list before → e.thread ≡ thread → place < length slots
    → HaveGainedOne thread place e slots (set slots place (Some (seen_view n.log thread (before ++ e ∷ []))))
gained_one thread place e slots n list before token past own inside k = go (place == k) refl
  where
    go : (u : Bool) → (place == k) ≡ u → lines_of_thread thread (list_at (set slots place (Some (seen_view n.log thread (before ++ e ∷ [])))) k) ≡ lines_of_thread thread (list_at slots k) ++ cond u (e ∷ []) []
    go true is =
        let here : place ≡ k = eqb-true place k is in
        let now : list_at (set slots place (Some (seen_view n.log thread (before ++ e ∷ [])))) k ≡ before ++ e ∷ [] = ap (list_at (set slots place (Some (seen_view n.log thread (before ++ e ∷ []))))) (sym here) ∙ ap (λ (o : Option SeenView). option_map_or (λ (s : SeenView). s.list) o []) (token_same slots place (Some (seen_view n.log thread (before ++ e ∷ []))) inside) in
        let was : list_at slots k ≡ list = ap (list_at slots) (sym here) ∙ ap (λ (o : Option SeenView). option_map_or (λ (s : SeenView). s.list) o []) token in
        ap (lines_of_thread thread) now ∙ (lines_more thread list before e past own ∙ ap (λ (l : List Line). lines_of_thread thread l ++ e ∷ []) (sym was))
    go false is =
        let apart : k ≢ place = λ f. eqb-false place k is (sym f) in
        let same : list_at (set slots place (Some (seen_view n.log thread (before ++ e ∷ [])))) k ≡ list_at slots k = ap (λ (o : Option SeenView). option_map_or (λ (s : SeenView). s.list) o []) (token_other slots place k (Some (seen_view n.log thread (before ++ e ∷ []))) apart) in
        ap (lines_of_thread thread) same ∙ sym (append-nil (lines_of_thread thread (list_at slots k)))

-- ---- how the lists go on

pub goes_same : (old new : List Line) → new ≡ old → GoesOn old new
goes_same old new same = ([], same ∙ sym (append-nil old))

pub goes_through : (first next last : List Line) → GoesOn first next → GoesOn next last → GoesOn first last
goes_through first next last one_ two = (one_.0 ++ two.0, two.1 ∙ (ap (λ (l : List Line). l ++ two.0) one_.1 ∙ append_assoc first one_.0 two.0))

-- what a slot has seen that was set
pub list_set : (slots : List (Option SeenView)) (place : ℕ) (s : SeenView) → place < length slots → list_at (set slots place (Some s)) place ≡ s.list
list_set slots place s inside = ap (λ (o : Option SeenView). option_map_or (λ (t : SeenView). t.list) o []) (token_same slots place (Some s) inside)

pub grown_one : (thread place : ℕ) (e : Line) (slots : List (Option SeenView)) (n : ShardName) (list before : List Line) → token_at slots place ≡ Some (seen_view n.log thread list) → IsPast thread list before → place < length slots
    → HaveGrown slots (set slots place (Some (seen_view n.log thread (before ++ e ∷ []))))
grown_one thread place e slots n list before token past inside k = go (place == k) refl
  where
    go : (u : Bool) → (place == k) ≡ u → GoesOn (list_at slots k) (list_at (set slots place (Some (seen_view n.log thread (before ++ e ∷ [])))) k)
    go true is =
        let here : place ≡ k = eqb-true place k is in
        let now : list_at (set slots place (Some (seen_view n.log thread (before ++ e ∷ [])))) k ≡ before ++ e ∷ [] = ap (list_at (set slots place (Some (seen_view n.log thread (before ++ e ∷ []))))) (sym here) ∙ list_set slots place (seen_view n.log thread (before ++ e ∷ [])) inside in
        let was : list_at slots k ≡ list = ap (list_at slots) (sym here) ∙ ap (λ (o : Option SeenView). option_map_or (λ (s : SeenView). s.list) o []) token in
        (past.0 ++ e ∷ [], now ∙ (ap (λ (l : List Line). l ++ e ∷ []) past.1 ∙ (append_assoc list past.0 (e ∷ []) ∙ ap (λ (l : List Line). l ++ (past.0 ++ e ∷ [])) (sym was))))
    go false is =
        let apart : k ≢ place = λ f. eqb-false place k is (sym f) in
        goes_same (list_at slots k) (list_at (set slots place (Some (seen_view n.log thread (before ++ e ∷ [])))) k)
        (ap (λ (o : Option SeenView). option_map_or (λ (s : SeenView). s.list) o []) (token_other slots place k (Some (seen_view n.log thread (before ++ e ∷ []))) apart))
