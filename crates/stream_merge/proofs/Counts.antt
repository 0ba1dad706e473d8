-- How far each stream is, and the events of entries.
use Rattle.std.proofs.Common.{◌≡◌, ◌∙◌, ◌==◌, ◌+◌, ◌<◌, ◌≤◌, ◌≢◌, ℕ, suc, min, nat_lt, Bool, true, false, cond, not, Option, Some, None, Vec, List, [], ◌∷◌, ◌++◌, length, get_or, set, map, replicate, take, drop, reverse, position, filter, slice_get, option_map, true≢false, refl, sym, ap, ap₂, subst, arith, append-nil}
use Rattle.std.specs.List.{prefix_len}
use Rattle.std.specs.Option.{option_map_or}
use Rattle.std.proofs.lemmas.Bool.{eq-eqb, eqb-true, ltb-true, ltb-false}
use Rattle.std.proofs.lemmas.List.{get_or-replicate, get_or-set_other, get_or-set_same, get_or_past, length-map, length-replicate, length-set, map-append, reverse-append}
use Rattle.std.proofs.lemmas.List.Folds.{find_at}
use Rattle.std.proofs.lemmas.List.Quantifiers.{position-Some}
use Rattle.std.proofs.lemmas.Option.{get_or_from_slice_get, slice_get-map, slice_get_past, slice_get_read}
use Rattle.stream_log.specs.declared.line.Line.{Line}
use Rattle.trace_format.specs.Content.{TraceEvent, content}
use Rattle.trace_format.specs.declared.event.Event.{Event}
use Rattle.stream_model.specs.FileParts.{StreamPart}
use Rattle.stream_model.specs.Plans.{events_along, events_planned, next_turn, turns_of, with_event}
use Rattle.threaded_replay.specs.Files.{stream_part}
use Rattle.stream_merge.specs.Gathered.{events_gathered, turns_taken}
use Rattle.stream_merge.specs.Passing.{TurnAt, Turned, advanced, events_at, place_of}

-- ---- places

-- a stream is of the thread
abbrev pub is_of : ℕ → StreamPart → Bool
is_of t s = s.thread == t

no_part : StreamPart
no_part = record { thread = 0; events = [] }

pub place_is : (streams : List StreamPart) (t i : ℕ) → position (is_of t) streams ≡ Some i → place_of streams t ≡ i
place_is streams t i is = go (nat_lt (place_of streams t) (length streams)) is
  where
    go : (u : Bool) → cond u (Some (place_of streams t)) None ≡ Some i → place_of streams t ≡ i
    go true e = cc e
    go false e = cc e

pub place_within : (streams : List StreamPart) (t i : ℕ) → position (is_of t) streams ≡ Some i → i < length streams
place_within streams t i is = (position-Some (is_of t) streams i no_part is).0

-- one place is of one thread
pub one_thread : (streams : List StreamPart) (t u i : ℕ) → position (is_of t) streams ≡ Some i → position (is_of u) streams ≡ Some i → t ≡ u
one_thread streams t u i at other =
    sym (eqb-true (get_or streams i no_part).thread t (position-Some (is_of t) streams i no_part at).1)
    ∙ eqb-true (get_or streams i no_part).thread u (position-Some (is_of u) streams i no_part other).1

pub planned_at : (streams : List StreamPart) (t i : ℕ) → position (is_of t) streams ≡ Some i → events_planned streams t ≡ events_at streams i
planned_at streams t i is =
    ap (λ o. option_map_or (λ (s : StreamPart). s.events) o []) (find_at (is_of t) streams) ∙ ap (events_at streams) (place_is streams t i is)

-- a thread without a stream has no events
pub planned_nowhere : (streams : List StreamPart) (t : ℕ) → position (is_of t) streams ≡ None → events_planned streams t ≡ []
planned_nowhere streams t is =
    ap (λ o. option_map_or (λ (s : StreamPart). s.events) o []) (find_at (is_of t) streams ∙ slice_get_past streams (place_of streams t) (go (nat_lt (place_of streams t) (length streams)) refl is))
  where
    go : (u : Bool) → nat_lt (place_of streams t) (length streams) ≡ u → cond u (Some (place_of streams t)) None ≡ None → length streams ≤ place_of streams t
    go true e h = cc h
    go false e h = ltb-false (place_of streams t) (length streams) e

prefix_map : {X Y : Type 0} (f : X → Y) (q : Y → Bool) (xs : List X) → prefix_len q (map f xs) ≡ prefix_len (λ x. q (f x)) xs
prefix_map f q [] = refl
prefix_map f q (x ∷ xs) = ap (λ n. cond (q (f x)) (1 + n) 0) (prefix_map f q xs)

-- a place among what a function makes of elements
pub position_map : {X Y : Type 0} (f : X → Y) (q : Y → Bool) (xs : List X) → position q (map f xs) ≡ position (λ x. q (f x)) xs
position_map f q xs = ap₂ (λ n l. cond (nat_lt n l) (Some n) None) (prefix_map f (λ y. not (q y)) xs) (length-map xs f)

-- ---- counts

pub capped_get : {X : Type 0} (xs : List X) (k : ℕ) → slice_get xs (min k (length xs)) ≡ slice_get xs k
capped_get xs k = go (nat_lt k (length xs)) refl
  where
    go : (u : Bool) → nat_lt k (length xs) ≡ u → slice_get xs (min k (length xs)) ≡ slice_get xs k
    go true e = let below : k < length xs = ltb-true k (length xs) e in let same : min k (length xs) ≡ k = omega arith in ap (slice_get xs) same
    go false e =
        let past : length xs ≤ k = ltb-false k (length xs) e in
        slice_get_past xs (min k (length xs)) (omega arith) ∙ sym (slice_get_past xs k past)

pub capped_or : {X : Type 0} (xs : List X) (k : ℕ) (d : X) → get_or xs (min k (length xs)) d ≡ get_or xs k d
capped_or xs k d = go (nat_lt k (length xs)) refl
  where
    go : (u : Bool) → nat_lt k (length xs) ≡ u → get_or xs (min k (length xs)) d ≡ get_or xs k d
    go true e = let below : k < length xs = ltb-true k (length xs) e in let same : min k (length xs) ≡ k = omega arith in ap (λ n. get_or xs n d) same
    go false e =
        let past : length xs ≤ k = ltb-false k (length xs) e in
        get_or_past xs (min k (length xs)) d (omega arith) ∙ sym (get_or_past xs k d past)

pub capped_zero : (n : ℕ) → 0 ≡ min 0 n
capped_zero n = omega arith

-- one more is counted
pub counts_more : (k n : ℕ) → advanced (min k n) n ≡ min (suc k) n
counts_more k n = go (nat_lt (min k n) n) refl
  where
    go : (u : Bool) → nat_lt (min k n) n ≡ u → cond u (min k n + 1) (min k n) ≡ min (suc k) n
    go true e = let below : min k n < n = ltb-true (min k n) n e in omega arith
    go false e = let past : n ≤ min k n = ltb-false (min k n) n e in omega arith

pub turn_more : (t u : ℕ) (turns : List ℕ) → (u == t) ≡ true → turns_of t (u ∷ turns) ≡ suc (turns_of t turns)
turn_more t u turns is = ap (λ b. length (cond b (u ∷ rest) rest)) is
  where
    rest : List ℕ
    rest = filter (λ x. x == t) turns

pub turn_other : (t u : ℕ) (turns : List ℕ) → (u == t) ≡ false → turns_of t (u ∷ turns) ≡ turns_of t turns
turn_other t u turns is = ap (λ b. length (cond b (u ∷ filter (λ x. x == t) turns) (filter (λ x. x == t) turns))) is

-- ---- slices of vectors

-- a vector whose slice was written as a whole
pub whole_slice : {X : Type 0} (n : ℕ) (written before : List X) → length written ≡ n → length before ≡ n → take n (written ++ drop (length written) before) ≡ written
whole_slice n written before is was = ap (λ k. take k (written ++ drop (length written) before)) (sym is) ∙ go written (drop (length written) before)
  where
    go : {X : Type 0} (xs ys : List X) → take (length xs) (xs ++ ys) ≡ xs
    go [] ys = refl
    go (x ∷ xs) ys = ap (λ zs. x ∷ zs) (go xs ys)

-- an element that was read, by any default
pub read_or : {X : Type 0} (xs : List X) (i : ℕ) (x d : X) → i < length xs → x ≡ get_or xs i x → x ≡ get_or xs i d
read_or xs i x d within is = sym (get_or_from_slice_get xs i x d (slice_get_read xs (length xs) i x refl within is))

pub events_here : {A : Type 0} (streams : List (ℕ × Vec Event A)) (place : ℕ) (x : ℕ × Vec Event A) → place < length streams → x ≡ get_or streams place x → events_at (map stream_part streams) place ≡ map content x.1.items
events_here streams place x within is =
    ap (λ o. option_map_or (λ (s : StreamPart). s.events) o []) (slice_get-map stream_part streams place ∙ ap (option_map stream_part) (slice_get_read streams (length streams) place x refl within is))

-- ---- events

pub turn_at : {A : Type 0} (streams : List (ℕ × Vec Event A)) (place : ℕ) (x : ℕ × Vec Event A) (counts : List ℕ) (count : ℕ) (events more : List TraceEvent) (evs : List Event) (o : Option TraceEvent)
    → place < length streams → x ≡ get_or streams place x → evs ≡ x.1.items → count ≡ advanced (get_or counts place 0) (length evs) → o ≡ slice_get (map content evs) (get_or counts place 0)
    → more ≡ events ++ with_event o [] → TurnAt (map stream_part streams) place counts events (set counts place count) more
turn_at streams place x counts count events more evs o within is at counted next added = record {
  counts_are = ap (set counts place) (counted ∙ ap (advanced (get_or counts place 0)) (sym (length-map evs content) ∙ ap length here));
  events_are = added ∙ ap (λ y. events ++ with_event y []) (next ∙ ap (λ es. slice_get es (get_or counts place 0)) here);
}
  where
    here : map content evs ≡ events_at (map stream_part streams) place
    here = ap (map content) at ∙ sym (events_here streams place x within is)

-- the events of entries so far, and how many each stream had
pub record EventsPassed (streams : List StreamPart) (done : List Line) (counts : List ℕ) (events : List TraceEvent) : Type 0 where
  pub events_are : events ≡ events_gathered streams done
  pub size : length counts ≡ length streams
  pub counted : (t i : ℕ) → position (is_of t) streams ≡ Some i → get_or counts i 0 ≡ min (turns_of t (reverse (turns_taken done))) (length (events_at streams i))

pub events_start : (streams : List StreamPart) (n : ℕ) → n ≡ length streams → EventsPassed streams [] (replicate n 0) []
events_start streams n is = record {
  events_are = refl;
  size = length-replicate n 0 ∙ is;
  counted = λ t i at. let within : i < n = omega (arith, place_within streams t i at, is) in
      get_or-replicate n i 0 0 within ∙ capped_zero (length (events_at streams i));
}

reverse_with : (o : Option TraceEvent) (es : List TraceEvent) → reverse (with_event o es) ≡ reverse es ++ with_event o []
reverse_with None es = sym (append-nil (reverse es))
reverse_with (Some e) es = reverse-append (e ∷ []) es

turns_more : (done : List Line) (e : Line) → reverse (turns_taken (done ++ e ∷ [])) ≡ e.thread ∷ reverse (turns_taken done)
turns_more done e = ap reverse (map-append (λ (x : Line). x.thread) done (e ∷ [])) ∙ reverse-append (turns_taken done) (e.thread ∷ [])

events_more : (streams : List StreamPart) (done : List Line) (e : Line)
    → events_gathered streams (done ++ e ∷ []) ≡ events_gathered streams done ++ with_event (next_turn streams e.thread (reverse (turns_taken done))) []
events_more streams done e =
    ap (λ ts. reverse (events_along streams ts)) (turns_more done e)
    ∙ reverse_with (next_turn streams e.thread (reverse (turns_taken done))) (events_along streams (reverse (turns_taken done)))

module _ (streams : List StreamPart) (done : List Line) (e : Line) (counts next : List ℕ) (events more : List TraceEvent) (p : EventsPassed streams done counts events) where
  events_none : position (is_of e.thread) streams ≡ None → next ≡ counts → more ≡ events → EventsPassed streams (done ++ e ∷ []) next more
  events_none at same still = record {
    events_are =
        still ∙ (p.events_are ∙ (sym (append-nil (events_gathered streams done))
        ∙ (ap (λ es. events_gathered streams done ++ with_event (slice_get es (turns_of e.thread (reverse (turns_taken done)))) []) (sym (planned_nowhere streams e.thread at))
        ∙ sym (events_more streams done e))));
    size = ap length same ∙ p.size;
    counted = λ t i here. ap (λ cs. get_or cs i 0) same ∙ (p.counted t i here ∙ ap (λ k. min k (length (events_at streams i))) (sym (ap (turns_of t) (turns_more done e) ∙ other t i here (e.thread == t) refl)));
  }
    where
      other : (t i : ℕ) → position (is_of t) streams ≡ Some i → (u : Bool) → (e.thread == t) ≡ u → turns_of t (e.thread ∷ reverse (turns_taken done)) ≡ turns_of t (reverse (turns_taken done))
      other t i here true is = let both : position (is_of e.thread) streams ≡ Some i = subst (λ x. position (is_of x) streams ≡ Some i) (sym (eqb-true e.thread t is)) here in cc (at, both)
      other t i here false is = turn_other t e.thread (reverse (turns_taken done)) is

  events_some : (place : ℕ) → position (is_of e.thread) streams ≡ Some place → TurnAt streams place counts events next more → EventsPassed streams (done ++ e ∷ []) next more
  events_some place at m = record {
    events_are =
        m.events_are ∙ (ap (λ es. es ++ with_event (slice_get (events_at streams place) (get_or counts place 0)) []) p.events_are
        ∙ (ap (λ o. events_gathered streams done ++ with_event o []) found ∙ sym (events_more streams done e)));
    size = ap length m.counts_are ∙ (length-set counts place (advanced (get_or counts place 0) (length (events_at streams place))) ∙ p.size);
    counted = λ t i here. ap (λ cs. get_or cs i 0) m.counts_are ∙ (turned t i here (e.thread == t) refl ∙ ap (λ k. min k (length (events_at streams i))) (sym (ap (turns_of t) (turns_more done e))));
  }
    where
      found : slice_get (events_at streams place) (get_or counts place 0) ≡ next_turn streams e.thread (reverse (turns_taken done))
      found =
          ap (slice_get (events_at streams place)) (p.counted e.thread place at)
          ∙ (capped_get (events_at streams place) (turns_of e.thread (reverse (turns_taken done)))
          ∙ ap (λ es. slice_get es (turns_of e.thread (reverse (turns_taken done)))) (sym (planned_at streams e.thread place at)))

      turned : (t i : ℕ) → position (is_of t) streams ≡ Some i → (u : Bool) → (e.thread == t) ≡ u
          → get_or (set counts place (advanced (get_or counts place 0) (length (events_at streams place)))) i 0 ≡ min (turns_of t (e.thread ∷ reverse (turns_taken done))) (length (events_at streams i))
      turned t i here true is =
          let same : e.thread ≡ t = eqb-true e.thread t is in
          let both : position (is_of t) streams ≡ Some place = subst (λ x. position (is_of x) streams ≡ Some place) same at in
          let one : place ≡ i = cc (here, both) in
          let within : place < length counts = omega (arith, place_within streams e.thread place at, p.size) in
          subst (λ k. get_or (set counts place (advanced (get_or counts place 0) (length (events_at streams place)))) k 0 ≡ min (turns_of t (e.thread ∷ reverse (turns_taken done))) (length (events_at streams k))) one
          (get_or-set_same counts place (advanced (get_or counts place 0) (length (events_at streams place))) 0 within
          ∙ (ap (λ k. advanced k (length (events_at streams place))) (p.counted t place both)
          ∙ (counts_more (turns_of t (reverse (turns_taken done))) (length (events_at streams place))
          ∙ ap (λ k. min k (length (events_at streams place))) (sym (turn_more t e.thread (reverse (turns_taken done)) is)))))
      turned t i here false is =
          let apart : i ≢ place = λ one. true≢false (sym (eq-eqb e.thread t (one_thread streams e.thread t i (at ∙ ap Some (sym one)) here)) ∙ is) in
          get_or-set_other counts place i (advanced (get_or counts place 0) (length (events_at streams place))) 0 apart
          ∙ (p.counted t i here ∙ ap (λ k. min k (length (events_at streams i))) (sym (turn_other t e.thread (reverse (turns_taken done)) is)))

pub events_step : (streams : List StreamPart) (done : List Line) (e : Line) (counts next : List ℕ) (events more : List TraceEvent) → EventsPassed streams done counts events
    → Turned (position (is_of e.thread) streams) streams counts events next more → EventsPassed streams (done ++ e ∷ []) next more
events_step streams done e counts next events more p m = go (position (is_of e.thread) streams) refl m
  where
    go : (o : Option ℕ) → position (is_of e.thread) streams ≡ o → Turned o streams counts events next more → EventsPassed streams (done ++ e ∷ []) next more
    go None at m = events_none streams done e counts next events more p at m.0 m.1
    go (Some place) at m = events_some streams done e counts next events more p place at m
