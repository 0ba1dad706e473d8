-- Open calls of distinct threads.
use Rattle.std.proofs.Common.{◌≡◌, ◌==◌, ℕ, Bool, true, false, cond, not, Some, List, [], ◌∷◌, map, refl, sym, ◌∙◌, ap, subst}
use Rattle.std.specs.Prelude.{filter, find}
use Rattle.std.specs.List.{AllByRecursion}
use Rattle.std.proofs.lemmas.Bool.{eqb-true}
use Rattle.command_tables.specs.Calls.{ReplyContent}
use Rattle.session_model.specs.Stands.{AreRepliesTo}
use Rattle.chain_session.specs.PartsStanding.{LeftCall, is_left_by}
use Rattle.replay_model.specs.Past.{Past}
use Rattle.shard_model.specs.Replies.{last_replies}
use Rattle.shard_model.specs.Replays.{AllMay, AreOfThreads, NoneOf, OpenStep, is_step_of, left_of, without_step}

-- what the one of a thread is found to be
pub found_thread : (thread : ℕ) (opens : List OpenStep) (o : OpenStep) → find (is_step_of thread) opens ≡ Some o → is_step_of thread o ≡ true
found_thread thread [] o is = cc is
found_thread thread (q ∷ opens) o is = go (is_step_of thread q) refl (found_thread thread opens o) is
  where
    go : (b : Bool) → is_step_of thread q ≡ b → (find (is_step_of thread) opens ≡ Some o → is_step_of thread o ≡ true) → cond b (Some q) (find (is_step_of thread) opens) ≡ Some o → is_step_of thread o ≡ true
    go true e ih h = let same : q ≡ o = cc in subst (λ (x : OpenStep). is_step_of thread x ≡ true) same e
    go false e ih h = ih h

-- what holds of all holds of it
pub of_found : (P : OpenStep → Type 0) (thread : ℕ) (opens : List OpenStep) (o : OpenStep) → find (is_step_of thread) opens ≡ Some o → AllByRecursion P opens → P o
of_found P thread [] o is all = cc is
of_found P thread (q ∷ opens) o is all = go (is_step_of thread q) (of_found P thread opens o) is
  where
    go : (b : Bool) → (find (is_step_of thread) opens ≡ Some o → AllByRecursion P opens → P o) → cond b (Some q) (find (is_step_of thread) opens) ≡ Some o → P o
    go true ih h = let same : q ≡ o = cc in subst P same all.0
    go false ih h = ih h all.1

-- what holds of all holds of those of the other threads
pub of_others : (P : OpenStep → Type 0) (thread : ℕ) (opens : List OpenStep) → AllByRecursion P opens → AllByRecursion P (without_step thread opens)
of_others P thread [] all = tt
of_others P thread (q ∷ opens) all = go (is_step_of thread q) refl (of_others P thread opens all.1)
  where
    go : (b : Bool) → is_step_of thread q ≡ b → AllByRecursion P (without_step thread opens) → AllByRecursion P (without_step thread (q ∷ opens))
    go true e ih = rw e ih
    go false e ih = rw e ((all.0, ih))

pub still_apart : (thread : ℕ) (opens : List OpenStep) → AreOfThreads opens → AreOfThreads (without_step thread opens)
still_apart thread [] apart = tt
still_apart thread (q ∷ opens) apart = go (is_step_of thread q) refl (still_apart thread opens apart.1)
  where
    go : (b : Bool) → is_step_of thread q ≡ b → AreOfThreads (without_step thread opens) → AreOfThreads (without_step thread (q ∷ opens))
    go true e ih = rw e ih
    go false e ih = rw e ((of_others (λ o. is_step_of q.begin.thread o ≡ false) thread opens apart.0, ih))

pub none_left : (thread : ℕ) (opens : List OpenStep) → NoneOf thread (without_step thread opens)
none_left thread [] = tt
none_left thread (q ∷ opens) = go (is_step_of thread q) refl (none_left thread opens)
  where
    go : (b : Bool) → is_step_of thread q ≡ b → NoneOf thread (without_step thread opens) → NoneOf thread (without_step thread (q ∷ opens))
    go true e ih = rw e ih
    go false e ih = rw e ((e, ih))

-- ---- replies by thread

-- these for one thread, and those for the others
abbrev pub with_own : ℕ → List ReplyContent → (ℕ → List ReplyContent) → ℕ → List ReplyContent
with_own thread own others t = cond (t == thread) own (others t)

may_others : (thread : ℕ) (own : List ReplyContent) (others : ℕ → List ReplyContent) (opens : List OpenStep) → NoneOf thread opens → AllMay others (without_step thread opens) → AllMay (with_own thread own others) opens
may_others thread own others [] none may = tt
may_others thread own others (q ∷ opens) none may =
    let away : (q.begin.thread == thread) ≡ false = none.0 in
    let both : AllMay others (q ∷ without_step thread opens) = subst (λ (b : Bool). AllMay others (cond (not b) (q ∷ without_step thread opens) (without_step thread opens))) away may in
    (rw away both.0, may_others thread own others opens none.1 both.1)

-- open calls may have these
pub may_with : (thread : ℕ) (own : List ReplyContent) (others : ℕ → List ReplyContent) (opens : List OpenStep) (o : OpenStep) → AreOfThreads opens → find (is_step_of thread) opens ≡ Some o → AreRepliesTo o.told own
    → AllMay others (without_step thread opens) → AllMay (with_own thread own others) opens
may_with thread own others [] o apart is may rest = cc is
may_with thread own others (q ∷ opens) o apart is may rest = go (is_step_of thread q) refl (may_with thread own others opens o apart.1) is rest
  where
    go : (b : Bool) → is_step_of thread q ≡ b
        → (find (is_step_of thread) opens ≡ Some o → AreRepliesTo o.told own → AllMay others (without_step thread opens) → AllMay (with_own thread own others) opens)
        → cond b (Some q) (find (is_step_of thread) opens) ≡ Some o → AllMay others (cond (not b) (q ∷ without_step thread opens) (without_step thread opens)) → AllMay (with_own thread own others) (q ∷ opens)
    go true e ih h rest =
        let same : q ≡ o = cc in
        let none : NoneOf thread opens = subst (λ t. NoneOf t opens) (eqb-true q.begin.thread thread e) apart.0 in
        (rw e (subst (λ (x : OpenStep). AreRepliesTo x.told own) (sym same) may), may_others thread own others opens none rest)
    go false e ih h rest = (rw e rest.0, ih h may rest.1)

-- the others have what they had
pub others_have : (thread : ℕ) (own : List ReplyContent) (others f : ℕ → List ReplyContent) (opens : List OpenStep) → AllByRecursion (λ o. f o.begin.thread ≡ with_own thread own others o.begin.thread) opens
    → AllByRecursion (λ o. f o.begin.thread ≡ others o.begin.thread) (without_step thread opens)
others_have thread own others f [] have = tt
others_have thread own others f (q ∷ opens) have = go (is_step_of thread q) refl (others_have thread own others f opens have.1)
  where
    go : (b : Bool) → is_step_of thread q ≡ b → AllByRecursion (λ o. f o.begin.thread ≡ others o.begin.thread) (without_step thread opens)
        → AllByRecursion (λ o. f o.begin.thread ≡ others o.begin.thread) (without_step thread (q ∷ opens))
    go true e ih = rw e ih
    go false e ih = rw e ((have.0 ∙ ap (λ (b : Bool). cond b own (others q.begin.thread)) e, ih))

-- ---- as calls that are left

pub left_same : (past new : Past) (before after : List ReplyContent) (opens : List OpenStep) → AllByRecursion (λ o. last_replies new after o.begin.thread ≡ last_replies past before o.begin.thread) opens
    → map (left_of new after) opens ≡ map (left_of past before) opens
left_same past new before after [] same = refl
left_same past new before after (o ∷ opens) same =
    ap (λ (rs : List ReplyContent). record { begin = o.begin; call = o.call; held = o.held; skip = o.skip; replies = rs } ∷ map (left_of new after) opens) same.0
    ∙ ap (λ (ls : List LeftCall). left_of past before o ∷ ls) (left_same past new before after opens same.1)

pub left_filter : (past : Past) (replies : List ReplyContent) (thread : ℕ) (opens : List OpenStep) → filter (λ l. not (is_left_by thread l)) (map (left_of past replies) opens) ≡ map (left_of past replies) (without_step thread opens)
left_filter past replies thread [] = refl
left_filter past replies thread (q ∷ opens) = go (is_step_of thread q) refl (left_filter past replies thread opens)
  where
    go : (b : Bool) → is_step_of thread q ≡ b → filter (λ l. not (is_left_by thread l)) (map (left_of past replies) opens) ≡ map (left_of past replies) (without_step thread opens)
        → filter (λ l. not (is_left_by thread l)) (map (left_of past replies) (q ∷ opens)) ≡ map (left_of past replies) (without_step thread (q ∷ opens))
    go true e ih = rw e ih
    go false e ih = rw e (ap (λ (ls : List LeftCall). left_of past replies q ∷ ls) ih)

pub left_found : (past : Past) (replies : List ReplyContent) (thread : ℕ) (opens : List OpenStep) (o : OpenStep) → find (is_step_of thread) opens ≡ Some o → find (is_left_by thread) (map (left_of past replies) opens) ≡ Some (left_of past replies o)
left_found past replies thread [] o is = cc is
left_found past replies thread (q ∷ opens) o is = go (is_step_of thread q) refl (left_found past replies thread opens o) is
  where
    go : (b : Bool) → is_step_of thread q ≡ b → (find (is_step_of thread) opens ≡ Some o → find (is_left_by thread) (map (left_of past replies) opens) ≡ Some (left_of past replies o))
        → cond b (Some q) (find (is_step_of thread) opens) ≡ Some o → find (is_left_by thread) (map (left_of past replies) (q ∷ opens)) ≡ Some (left_of past replies o)
    go true e ih h = let same : q ≡ o = cc in rw e (ap (λ (x : OpenStep). Some (left_of past replies x)) same)
    go false e ih h = rw e (ih h)
