-- The lanes of other threads, as a thread makes a step.
use Rattle.std.proofs.Common.{◌≡◌, ◌==◌, ℕ, Bool, true, false, cond, Option, Some, None, List, [], ◌∷◌, ◌++◌, refl, sym, ◌∙◌, ap, ne_eqb}
use Rattle.std.specs.Prelude.{find}
use Rattle.std.proofs.lemmas.Bool.{eqb-false, eqb-true}
use Rattle.std.proofs.lemmas.List.{append_assoc}
use Rattle.stream_log.specs.declared.line.Line.{Line}
use Rattle.trace_format.specs.Content.{BeginEvent, TraceEvent, Begin, Return}
use Rattle.stream_model.specs.FileParts.{StreamPart}
use Rattle.shard_model.specs.Replays.{NoneOf, OpenStep, Start, is_step_of, without_step}
use Rattle.device_shard.specs.declared.lane.Lane.{Lane}
use Rattle.device_shard.specs.Shards.{IsLane, KeepsCall, KeepsLast, last_made}
use Rattle.device_shard.proofs.Past.{step_other}

flipped : (a b : ℕ) → (a == b) ≡ false → (b == a) ≡ false
flipped a b e = ne_eqb b a (λ same. eqb-false a b e (sym same))

-- the open call of another thread is found again, and there is none where there was none, whatever opens are added or taken away of this one
pub record Beside (t : ℕ) (opens new : List OpenStep) : Type 0 where
  pub finds : (u : ℕ) → (u == t) ≡ false → find (is_step_of u) new ≡ find (is_step_of u) opens
  pub none : (u : ℕ) → (u == t) ≡ false → NoneOf u opens → NoneOf u new

-- with one more
pub beside_more : (t : ℕ) (o : OpenStep) (opens : List OpenStep) → o.begin.thread ≡ t → Beside t opens (o ∷ opens)
beside_more t o opens own =
    record {
      finds = λ u off. ap (λ (b : Bool). cond b (Some o) (find (is_step_of u) opens)) (apart u off);
      none = λ u off all. (apart u off, all);
    }
  where
    apart : (u : ℕ) → (u == t) ≡ false → (o.begin.thread == u) ≡ false
    apart u off = ap (λ n. n == u) own ∙ flipped u t off

-- without this thread's
pub beside_less : (t : ℕ) (opens : List OpenStep) → Beside t opens (without_step t opens)
beside_less t opens = record { finds = λ u off. find_less u opens off; none = λ u off. none_less u opens }
  where
    off_too : (u : ℕ) (o : OpenStep) → (u == t) ≡ false → (o.begin.thread == t) ≡ true → (o.begin.thread == u) ≡ false
    off_too u o off is = ap (λ n. n == u) (eqb-true o.begin.thread t is) ∙ flipped u t off

    find_less : (u : ℕ) (os : List OpenStep) → (u == t) ≡ false → find (is_step_of u) (without_step t os) ≡ find (is_step_of u) os
    find_less u [] off = refl
    find_less u (o ∷ os) off = go (is_step_of t o) refl (find_less u os off)
      where
        go : (b : Bool) → is_step_of t o ≡ b → find (is_step_of u) (without_step t os) ≡ find (is_step_of u) os → find (is_step_of u) (without_step t (o ∷ os)) ≡ find (is_step_of u) (o ∷ os)
        go true e ih = rw e (ih ∙ sym (ap (λ (b : Bool). cond b (Some o) (find (is_step_of u) os)) (off_too u o off e)))
        go false e ih = rw e (ap (λ (r : Option OpenStep). cond (is_step_of u o) (Some o) r) ih)

    none_less : (u : ℕ) (os : List OpenStep) → NoneOf u os → NoneOf u (without_step t os)
    none_less u [] all = tt
    none_less u (o ∷ os) all = go (is_step_of t o) refl (none_less u os all.1)
      where
        go : (b : Bool) → is_step_of t o ≡ b → NoneOf u (without_step t os) → NoneOf u (without_step t (o ∷ os))
        go true e ih = rw e ih
        go false e ih = rw e ((all.0, ih))

-- what another thread's lane keeps stays so
module _ (start : Start) (streams : List StreamPart) (list : List Line) (opens new : List OpenStep) (t : ℕ) (e : Line) (own : e.thread ≡ t) (beside : Beside t opens new) where
  off_entry : (u : ℕ) → (u == t) ≡ false → (e.thread == u) ≡ false
  off_entry u off = ap (λ n. n == u) own ∙ flipped u t off

  call_stays : (u : ℕ) (l : Lane) (b : BeginEvent) → (u == t) ≡ false → KeepsCall start streams list opens u l b → KeepsCall start streams (list ++ e ∷ []) new u l b
  call_stays u l b off k =
      record {
        step = k.step;
        found = beside.finds u off ∙ k.found;
        begins = k.begins;
        call = k.call;
        held = k.held;
        skip = k.skip;
        before = k.before;
        entry = k.entry;
        own = k.own;
        later = k.later ++ e ∷ [];
        past = ap (λ (es : List Line). es ++ e ∷ []) k.past ∙ append_assoc (k.before ++ k.entry ∷ []) k.later (e ∷ []);
        apart = step_other u k.later e (off_entry u off) ∙ k.apart;
        came = k.came;
        tells = k.tells;
        silent = k.silent;
        sent = k.sent;
      }

  last_stays : (u : ℕ) (l : Lane) (o : Option TraceEvent) → (u == t) ≡ false → KeepsLast start streams list opens u l o → KeepsLast start streams (list ++ e ∷ []) new u l o
  last_stays u l None off k = beside.none u off k
  last_stays u l (Some (Return r)) off k = beside.none u off k
  last_stays u l (Some (Begin b)) off k = call_stays u l b off k

  pub lane_stays : (s : StreamPart) (l : Lane) → (s.thread == t) ≡ false → IsLane start streams list opens s l → IsLane start streams (list ++ e ∷ []) new s l
  lane_stays s l off is =
      record { steps = is.steps ∙ sym (step_other s.thread list e (off_entry s.thread off)); made = is.made; last = last_stays s.thread l (last_made s l.steps) off is.last }
