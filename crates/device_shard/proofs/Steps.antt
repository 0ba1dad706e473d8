-- How many steps a thread has made.
use Rattle.std.proofs.Common.{◌≡◌, ◌≢◌, ◌==◌, ℕ, suc, ◌+◌, Bool, true, false, true≢false, cond, List, [], ◌∷◌, ◌++◌, length, refl, ap, arith, ne_eqb}
use Rattle.std.proofs.lemmas.List.{reverse-append}
use Rattle.std.specs.Prelude.{All, filter, reverse, slice_get}
use Rattle.stream_log.specs.declared.line.Line.{Line}
use Rattle.stream_log.specs.Log.{IsPast}
use Rattle.stream_model.specs.FileParts.{StreamPart}
use Rattle.stream_model.specs.Plans.{events_planned, turns_of}
use Rattle.shard_model.specs.Followed.{next_event, turns_in}

-- how many of these entries are the thread's
abbrev pub steps_of : ℕ → List Line → ℕ
steps_of t entries = turns_of t (turns_in entries)

count_cons : (b : Bool) (x : ℕ) (fs gs hs : List ℕ) → length hs ≡ length fs + length gs → length (cond b (x ∷ hs) hs) ≡ length (cond b (x ∷ fs) fs) + length gs
count_cons true x fs gs hs e = omega (arith, e)
count_cons false x fs gs hs e = e

-- the steps of two lists add up
pub steps_append : (t : ℕ) (xs ys : List Line) → steps_of t (xs ++ ys) ≡ steps_of t xs + steps_of t ys
steps_append t [] ys = omega arith
steps_append t (x ∷ xs) ys =
    count_cons (x.thread == t) x.thread (filter (λ u. u == t) (turns_in xs)) (filter (λ u. u == t) (turns_in ys)) (filter (λ u. u == t) (turns_in (xs ++ ys))) (steps_append t xs ys)

no_step : (b : Bool) (y : ℕ) (fs : List ℕ) → b ≡ false → length fs ≡ 0 → length (cond b (y ∷ fs) fs) ≡ 0
no_step true y fs e h = absurd (true≢false e)
no_step false y fs e h = h

-- entries of other threads are no steps
pub steps_none : (t : ℕ) (ys : List Line) → All (λ (e : Line). e.thread ≢ t) ys → steps_of t ys ≡ 0
steps_none t [] h = refl
steps_none t (y ∷ ys) h = no_step (y.thread == t) y.thread (filter (λ u. u == t) (turns_in ys)) (ne_eqb y.thread t (h 0 y (omega arith))) (steps_none t ys (λ k d lt. h (suc k) d (omega (arith, lt))))

-- a thread has made no steps behind what its token has seen
pub steps_past : (t : ℕ) (seen list : List Line) → IsPast t seen list → steps_of t list ≡ steps_of t seen
steps_past t seen list h =
    let all = ap (steps_of t) h.1 in let both = steps_append t seen h.0 in let none = steps_none t h.0 h.2 in omega (arith, all, both, none)

-- nor does the order of entries matter
pub steps_reverse : (t : ℕ) (xs : List Line) → steps_of t (reverse xs) ≡ steps_of t xs
steps_reverse t [] = refl
steps_reverse t (x ∷ xs) =
    let turned = ap (steps_of t) (reverse-append (x ∷ []) xs) in
    let both = steps_append t (reverse xs) (x ∷ []) in
    let front = steps_append t (x ∷ []) xs in
    let rest = steps_reverse t xs in
    omega (arith, turned, both, front, rest)

pub next_past : (streams : List StreamPart) (thread : ℕ) (seen list : List Line) → IsPast thread seen list → next_event streams thread list ≡ next_event streams thread seen
next_past streams thread seen list past = ap (slice_get (events_planned streams thread)) (steps_past thread seen list past)

pub next_turned : (streams : List StreamPart) (thread : ℕ) (entries : List Line) → next_event streams thread (reverse entries) ≡ next_event streams thread entries
next_turned streams thread entries = ap (slice_get (events_planned streams thread)) (steps_reverse thread entries)
