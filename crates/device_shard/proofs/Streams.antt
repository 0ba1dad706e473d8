-- The stream of a thread in a plan as it is kept.
use Rattle.std.proofs.Common.{◌≡◌, ◌==◌, ◌<◌, ℕ, Bool, true, false, cond, Option, Some, None, List, [], ◌∷◌, length, map, refl, sym, ◌∙◌, ap, subst}
use Rattle.std.specs.Prelude.{IsSome, Vec, find, nat_lt, position, slice_get}
use Rattle.std.specs.List.{position_or_len}
use Rattle.std.specs.Option.{option_map, option_map_or}
use Rattle.std.proofs.lemmas.Bool.{eqb-true, lt-ltb}
use Rattle.std.proofs.lemmas.List.Folds.{find_at}
use Rattle.std.proofs.lemmas.Option.{slice_get-map, slice_get_within}
use Rattle.stream_log.specs.declared.line.Line.{Line}
use Rattle.trace_format.specs.declared.event.Event.{Event}
use Rattle.trace_format.specs.Content.{TraceEvent}
use Rattle.stream_model.specs.FileParts.{StreamPart}
use Rattle.stream_model.specs.Plans.{turns_of}
use Rattle.shard_model.specs.Followed.{next_event, turns_in}
use Rattle.device_shard.specs.Plans.{stream_planned}
use Rattle.device_shard.specs.Shards.{ShardName}
use Rattle.device_shard.specs.Turns.{IsNextAt}

-- ---- places

is_some_of : {X : Type 0} (o : Option X) → IsSome o → (x : X) × (o ≡ Some x)
is_some_of None some = cc some
is_some_of (Some x) some = (x, refl)

some_is : {X : Type 0} (o : Option X) (x : X) → o ≡ Some x → IsSome o
some_is None x e = cc e
some_is (Some y) x e = refl

-- the first place of what is found
pub found_place : {X : Type 0} (p : X → Bool) (xs : List X) → IsSome (find p xs) → IsSome (position p xs)
found_place p xs some =
    let it = is_some_of (find p xs) some in
    let far : position_or_len p xs < length xs = slice_get_within xs (position_or_len p xs) it.0 (sym (find_at p xs) ∙ it.1) in
    some_is (position p xs) (position_or_len p xs) (ap (λ (b : Bool). cond b (Some (position_or_len p xs)) None) (lt-ltb (position_or_len p xs) (length xs) far))

pub is_placed : {X : Type 0} (p : X → Bool) (xs : List X) (i : ℕ) → position p xs ≡ Some i → slice_get xs i ≡ find p xs
is_placed p xs i at = ap (slice_get xs) (go (nat_lt (position_or_len p xs) (length xs)) at) ∙ sym (find_at p xs)
  where
    go : (b : Bool) → cond b (Some (position_or_len p xs)) None ≡ Some i → i ≡ position_or_len p xs
    go true e = cc e
    go false e = cc e

-- ---- the stream

find_planned : {A : Type 0} (t : ℕ) (xs : List (ℕ × Vec Event A)) → find (λ (p : StreamPart). p.thread == t) (map stream_planned xs) ≡ option_map stream_planned (find (λ s. s.0 == t) xs)
find_planned t [] = refl
find_planned {A = A} t (x ∷ xs) = go (find_planned t xs) (x.0 == t)
  where
    go : find (λ (p : StreamPart). p.thread == t) (map stream_planned xs) ≡ option_map stream_planned (find (λ s. s.0 == t) xs) → (b : Bool) → cond b (Some (stream_planned x)) (find (λ (p : StreamPart). p.thread == t) (map stream_planned xs)) ≡ option_map stream_planned (cond b (Some x) (find (λ s. s.0 == t) xs))
    go rest true = refl
    go rest false = rest

found_true : {X : Type 0} (p : X → Bool) (xs : List X) (x : X) → find p xs ≡ Some x → p x ≡ true
found_true p [] x e = cc e
found_true {X = X} p (y ∷ xs) x e = go (found_true p xs x) (p y) refl e
  where
    go : (find p xs ≡ Some x → p x ≡ true) → (b : Bool) → p y ≡ b → cond b (Some y) (find p xs) ≡ Some x → p x ≡ true
    go rest true h e = let same : y ≡ x = cc e in subst (λ z. p z ≡ true) same h
    go rest false h e = rest e

-- the place in a plan as it is kept
pub planned_place : {A : Type 0} (t : ℕ) (xs : List (ℕ × Vec Event A)) → IsSome (find (λ (p : StreamPart). p.thread == t) (map stream_planned xs)) → IsSome (position (λ s. s.0 == t) xs)
planned_place {A = A} t xs some = found_place (λ s. s.0 == t) xs (go (find (λ s. s.0 == t) xs) (find_planned t xs))
  where
    go : (o : Option (ℕ × Vec Event A)) → find (λ (p : StreamPart). p.thread == t) (map stream_planned xs) ≡ option_map stream_planned o → IsSome o
    go None is = subst IsSome is some
    go (Some s) is = refl

pub is_planned : {A : Type 0} (t i : ℕ) (xs : List (ℕ × Vec Event A)) → position (λ s. s.0 == t) xs ≡ Some i → slice_get (map stream_planned xs) i ≡ find (λ (p : StreamPart). p.thread == t) (map stream_planned xs)
is_planned t i xs at = slice_get-map stream_planned xs i ∙ (ap (option_map stream_planned) (is_placed (λ s. s.0 == t) xs i at) ∙ sym (find_planned t xs))

-- ---- what comes next

-- a thread with a next event has a stream
pub has_stream : (streams : List StreamPart) (t : ℕ) (list : List Line) (e : TraceEvent) → next_event streams t list ≡ Some e → IsSome (find (λ (p : StreamPart). p.thread == t) streams)
has_stream streams t list e next = go (find (λ (p : StreamPart). p.thread == t) streams) next
  where
    go : (o : Option StreamPart) → slice_get (option_map_or (λ (p : StreamPart). p.events) o []) (turns_of t (turns_in list)) ≡ Some e → IsSome o
    go None is = cc is
    go (Some s) is = refl

-- and its next event stands there
pub next_there : (n : ShardName) (t i : ℕ) (list : List Line) (e : TraceEvent) → slice_get n.plan.streams i ≡ find (λ (p : StreamPart). p.thread == t) n.plan.streams → next_event n.plan.streams t list ≡ Some e
    → (s : StreamPart) × IsNextAt n list t e i s
next_there n t i list e at next =
    let it = is_some_of (find (λ (p : StreamPart). p.thread == t) n.plan.streams) (has_stream n.plan.streams t list e next) in (
      it.0,
      record { here = at ∙ it.1; own = eqb-true it.0.thread t (found_true (λ (p : StreamPart). p.thread == t) n.plan.streams it.0 it.1); next = next },
    )
