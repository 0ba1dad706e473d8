-- Open calls: each thread has at most one, and what is left of them without the skipped ones.
use Rattle.std.proofs.Common.{◌≡◌, ◌==◌, ℕ, Bool, true, false, not, cond, Some, None, List, [], ◌∷◌, ◌++◌, map, refl, sym, ◌∙◌, ap}
use Rattle.std.specs.Prelude.{filter, find, ⊤}
use Rattle.std.specs.Option.{option_map_or}
use Rattle.std.proofs.lemmas.List.{map-append}
use Rattle.std.proofs.lemmas.Bool.Decides.{Decides-eqb}
use Rattle.command_tables.specs.Calls.{ReplyContent}
use Rattle.replay_model.specs.Past.{Opened, Began, Returned, Past, is_skipped, is_of, open_calls}
use Rattle.replay_model.specs.Direct.{Sent, before_call, own_replies, answers_to, sent, answers_of}

-- the call isn't skipped
abbrev pub is_sent : Opened → Bool
is_sent o = not (is_skipped o)

-- the open call isn't skipped
abbrev pub was_sent : Sent → Bool
was_sent c = is_sent c.opened

-- the call isn't of this thread
abbrev pub not_of : ℕ → Opened → Bool
not_of t o = not (is_of t o)

-- the open call isn't of this thread
abbrev pub sent_not_of : ℕ → Sent → Bool
sent_not_of t c = not (is_of t c.opened)

-- no two of these calls are of one thread
abbrev pub OneEach : List Opened → Type 0
OneEach [] = ⊤
OneEach (o ∷ os) = (find (is_of o.thread) os ≡ None) × OneEach os

-- the order of the threads does not matter to the test
same_thread : (a b : ℕ) → a == b ≡ false → b == a ≡ false
same_thread a b e = go (b == a) refl
  where
    go : (t : Bool) → b == a ≡ t → b == a ≡ false
    go false f = f
    go true f = cc ((Decides-eqb a b).1 (sym ((Decides-eqb b a).0 f)))

-- none before, and the last isn't one
none-append : (p : Opened → Bool) (os : List Opened) (o : Opened) → find p os ≡ None → p o ≡ false → find p (os ++ o ∷ []) ≡ None
none-append p [] o n e = rw e
none-append p (h ∷ os) o n e = go (p h) refl n (λ m. none-append p os o m e)
  where
    go : (t : Bool) → p h ≡ t → cond (p h) (Some h) (find p os) ≡ None → (find p os ≡ None → find p (os ++ o ∷ []) ≡ None) → cond (p h) (Some h) (find p (os ++ o ∷ [])) ≡ None
    go true x n ih = cc (rw x at n)
    go false x n ih = rw x (ih (rw x at n))

-- a call of a thread that has none is one more
pub one-append : (os : List Opened) (o : Opened) → OneEach os → find (is_of o.thread) os ≡ None → OneEach (os ++ o ∷ [])
one-append [] o one n = (refl, tt)
one-append (h ∷ os) o one n = go (h.thread == o.thread) refl n (λ m. one-append os o one.1 m)
  where
    go : (t : Bool) → h.thread == o.thread ≡ t → cond (h.thread == o.thread) (Some h) (find (is_of o.thread) os) ≡ None → (find (is_of o.thread) os ≡ None → OneEach (os ++ o ∷ []))
        → OneEach ((h ∷ os) ++ o ∷ [])
    go true x n ih = cc (rw x at n)
    go false x n ih = (none-append (is_of h.thread) os o one.0 (same_thread h.thread o.thread x), ih (rw x at n))

-- none among all is none among some
none-filter : (p q : Opened → Bool) (os : List Opened) → find p os ≡ None → find p (filter q os) ≡ None
none-filter p q [] n = refl
none-filter p q (h ∷ os) n = go (p h) refl n (λ m. none-filter p q os m)
  where
    go : (t : Bool) → p h ≡ t → cond (p h) (Some h) (find p os) ≡ None → (find p os ≡ None → find p (filter q os) ≡ None) → find p (cond (q h) (h ∷ filter q os) (filter q os)) ≡ None
    go true x n ih = cc (rw x at n)
    go false x n ih = elim (q h) as (λ u. find p (cond u (h ∷ filter q os) (filter q os)) ≡ None) [
      | true ↦ rw x (ih (rw x at n))
      | false ↦ ih (rw x at n)
    ]

-- some of them are at most one each
pub one-filter : (q : Opened → Bool) (os : List Opened) → OneEach os → OneEach (filter q os)
one-filter q [] one = tt
one-filter q (h ∷ os) one = elim (q h) as (λ u. OneEach (cond u (h ∷ filter q os) (filter q os))) [
  | true ↦ (none-filter (is_of h.thread) q os one.0, one-filter q os one.1)
  | false ↦ one-filter q os one.1
]

-- what is found is of the thread
pub found_thread : (t : ℕ) (os : List Opened) (o : Opened) → find (is_of t) os ≡ Some o → o.thread ≡ t
found_thread t [] o f = cc
found_thread t (h ∷ os) o f = go (h.thread == t) refl f (λ g. found_thread t os o g)
  where
    go : (u : Bool) → h.thread == t ≡ u → cond (h.thread == t) (Some h) (find (is_of t) os) ≡ Some o → (find (is_of t) os ≡ Some o → o.thread ≡ t) → o.thread ≡ t
    go true x f ih = let e : Some h ≡ Some o = rw x at f in let k : h ≡ o = cc in ap (λ (c : Opened). c.thread) (sym k) ∙ (Decides-eqb h.thread t).0 x
    go false x f ih = ih (rw x at f)

-- ---- what was answered

-- the open calls with what was answered are the open calls
pub opened-sent : (past : Past) (replies : List ReplyContent) → map (λ c. c.opened) (sent past replies) ≡ open_calls past
opened-sent [] replies = refl
opened-sent (Began e o reports ∷ past) replies =
    map-append (λ c. c.opened) (sent past (before_call o replies)) (record { opened = o; answers = answers_to o (own_replies o replies) } ∷ [])
    ∙ ap (λ os. os ++ o ∷ []) (opened-sent past (before_call o replies))
opened-sent (Returned o made ∷ past) replies = kept (sent past replies) ∙ ap (filter (not_of o.thread)) (opened-sent past replies)
  where
    kept : (cs : List Sent) → map (λ c. c.opened) (filter (sent_not_of o.thread) cs) ≡ filter (not_of o.thread) (map (λ c. c.opened) cs)
    kept [] = refl
    kept (c ∷ cs) = elim (not_of o.thread c.opened) as (λ u. map (λ c. c.opened) (cond u (c ∷ filter (sent_not_of o.thread) cs) (filter (sent_not_of o.thread) cs)) ≡ cond u (c.opened ∷ filter (not_of o.thread) (map (λ c. c.opened) cs)) (filter (not_of o.thread) (map (λ c. c.opened) cs))) [
      | true ↦ ap (λ os. c.opened ∷ os) (kept cs)
      | false ↦ kept cs
    ]

-- without the call of a thread that has none, they are the same
none_dropped : (t : ℕ) (cs : List Sent) → find (is_of t) (map (λ c. c.opened) cs) ≡ None → filter (sent_not_of t) cs ≡ cs
none_dropped t [] n = refl
none_dropped t (c ∷ cs) n = go (is_of t c.opened) refl n (λ m. none_dropped t cs m)
  where
    go : (u : Bool) → is_of t c.opened ≡ u → cond (is_of t c.opened) (Some c.opened) (find (is_of t) (map (λ c. c.opened) cs)) ≡ None
        → (find (is_of t) (map (λ c. c.opened) cs) ≡ None → filter (sent_not_of t) cs ≡ cs) → cond (not (is_of t c.opened)) (c ∷ filter (sent_not_of t) cs) (filter (sent_not_of t) cs) ≡ c ∷ cs
    go true x n ih = cc (rw x at n)
    go false x n ih = rw x (ap (λ xs. c ∷ xs) (ih (rw x at n)))

-- where a thread's one open call is skipped, dropping it drops no call that was sent
pub skipped_dropped : (t : ℕ) (cs : List Sent) (o : Opened) → OneEach (map (λ c. c.opened) cs) → find (is_of t) (map (λ c. c.opened) cs) ≡ Some o → is_skipped o ≡ true
    → filter was_sent (filter (sent_not_of t) cs) ≡ filter was_sent cs
skipped_dropped t [] o one f u = refl
skipped_dropped t (c ∷ cs) o one f u = go (is_of t c.opened) refl f (λ g. skipped_dropped t cs o one.1 g u)
  where
    first : c.opened ≡ o → is_of t c.opened ≡ true → filter was_sent (filter (sent_not_of t) cs) ≡ cond (not (is_skipped c.opened)) (c ∷ filter was_sent cs) (filter was_sent cs)
    first k x =
        let s : is_skipped c.opened ≡ true = ap is_skipped k ∙ u in
        let e : c.opened.thread ≡ t = (Decides-eqb c.opened.thread t).0 x in
        let n : find (is_of t) (map (λ c. c.opened) cs) ≡ None = rw e at one.0 in
        rw s (ap (filter was_sent) (none_dropped t cs n))

    go : (v : Bool) → is_of t c.opened ≡ v → cond (is_of t c.opened) (Some c.opened) (find (is_of t) (map (λ c. c.opened) cs)) ≡ Some o
        → (find (is_of t) (map (λ c. c.opened) cs) ≡ Some o → filter was_sent (filter (sent_not_of t) cs) ≡ filter was_sent cs)
        → filter was_sent (cond (not (is_of t c.opened)) (c ∷ filter (sent_not_of t) cs) (filter (sent_not_of t) cs)) ≡ filter was_sent (c ∷ cs)
    go true x f ih = let e : Some c.opened ≡ Some o = rw x at f in let k : c.opened ≡ o = cc in rw x (first k x)
    go false x f ih = rw x (
        elim (was_sent c) as (λ w. cond w (c ∷ filter was_sent (filter (sent_not_of t) cs)) (filter was_sent (filter (sent_not_of t) cs)) ≡ cond w (c ∷ filter was_sent cs) (filter was_sent cs)) [
          | true ↦ ap (λ xs. c ∷ xs) (ih (rw x at f))
          | false ↦ ih (rw x at f)
        ])

-- a thread's call that was sent is found among those that were sent
pub sent_found : (t : ℕ) (cs : List Sent) (o : Opened) → find (is_of t) (map (λ c. c.opened) cs) ≡ Some o → is_skipped o ≡ false
    → find (is_of t) (map (λ c. c.opened) (filter was_sent cs)) ≡ Some o
sent_found t [] o f u = cc
sent_found t (c ∷ cs) o f u = go (is_of t c.opened) refl f (λ g. sent_found t cs o g u)
  where
    go : (v : Bool) → is_of t c.opened ≡ v → cond (is_of t c.opened) (Some c.opened) (find (is_of t) (map (λ c. c.opened) cs)) ≡ Some o
        → (find (is_of t) (map (λ c. c.opened) cs) ≡ Some o → find (is_of t) (map (λ c. c.opened) (filter was_sent cs)) ≡ Some o)
        → find (is_of t) (map (λ c. c.opened) (cond (was_sent c) (c ∷ filter was_sent cs) (filter was_sent cs))) ≡ Some o
    go true x f ih =
        let e : Some c.opened ≡ Some o = rw x at f in let k : c.opened ≡ o = cc in
        let s : is_skipped c.opened ≡ false = ap is_skipped k ∙ u in rw (s, x) e
    go false x f ih =
        elim (was_sent c) as (λ w. find (is_of t) (map (λ c. c.opened) (cond w (c ∷ filter was_sent cs) (filter was_sent cs))) ≡ Some o) [
          | true ↦ rw x (ih (rw x at f))
          | false ↦ ih (rw x at f)
        ]

-- and its answers are the same there
pub sent_answers : (t : ℕ) (cs : List Sent) (o : Opened) → find (is_of t) (map (λ c. c.opened) cs) ≡ Some o → is_skipped o ≡ false → answers_of (filter was_sent cs) t ≡ answers_of cs t
sent_answers t [] o f u = refl
sent_answers t (c ∷ cs) o f u = go (is_of t c.opened) refl f (λ g. sent_answers t cs o g u)
  where
    go : (v : Bool) → is_of t c.opened ≡ v → cond (is_of t c.opened) (Some c.opened) (find (is_of t) (map (λ c. c.opened) cs)) ≡ Some o
        → (find (is_of t) (map (λ c. c.opened) cs) ≡ Some o → answers_of (filter was_sent cs) t ≡ answers_of cs t)
        → answers_of (cond (was_sent c) (c ∷ filter was_sent cs) (filter was_sent cs)) t
        ≡ option_map_or (λ c. c.answers) (cond (is_of t c.opened) (Some c) (find (λ c. is_of t c.opened) cs)) []
    go true x f ih =
        let e : Some c.opened ≡ Some o = rw x at f in let k : c.opened ≡ o = cc in
        let s : is_skipped c.opened ≡ false = ap is_skipped k ∙ u in rw (s, x) refl
    go false x f ih =
        rw x (elim (was_sent c) as (λ w. answers_of (cond w (c ∷ filter was_sent cs) (filter was_sent cs)) t ≡ answers_of cs t) [
          | true ↦ rw x (ih (rw x at f))
          | false ↦ ih (rw x at f)
        ])
