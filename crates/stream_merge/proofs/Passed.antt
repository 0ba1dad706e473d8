-- What one pass over entries finds is what the definition of the replies says, which looks ahead.
use Rattle.std.proofs.Common.{◌≡◌, ◌∙◌, ◌==◌, ◌+◌, ◌<◌, ◌≤◌, ◌≢◌, ◌&&◌, ℕ, zero, suc, min, Bool, true, false, cond, Option, Some, None, Vec, List, [], ◌∷◌, ◌++◌, length, get_or, set, map, replicate, reverse, position, filter, slice_get, refl, sym, ap, ap₂, subst, arith, append-nil, append_assoc, true≢false}
use Rattle.std.specs.Bool.{⊤}
use Rattle.std.specs.Option.{option_map_or}
use Rattle.std.proofs.lemmas.Bool.{eq-eqb, eqb-true}
use Rattle.std.proofs.lemmas.List.{get_or-replicate, get_or-set_other, get_or-set_same, length-append, length-replicate, length-set, reverse-append}
use Rattle.command_tables.specs.declared.types.Code.{Code}
use Rattle.command_tables.specs.Calls.{ReplyContent}
use Rattle.stream_log.specs.declared.line.Line.{Line}
use Rattle.model_driver.specs.declared.driver.DriverReply.{DriverReply}
use Rattle.model_driver.specs.Driver.{reply_shown}
use Rattle.trace_format.specs.Content.{content}
use Rattle.trace_format.specs.declared.event.Event.{Event}
use Rattle.stream_model.specs.FileParts.{StreamPart}
use Rattle.stream_model.specs.Plans.{next_turn, turns_of}
use Rattle.stream_merge.specs.declared.cursor.Cursor.{Cursor}
use Rattle.threaded_replay.specs.Files.{stream_part}
use Rattle.stream_merge.specs.Gathered.{begun_by_thread, code_of_event, next_results, replies_behind, replies_gathered, reply_at, turns_taken, was_sent}
use Rattle.stream_merge.specs.Passing.{Moved, MovedAt, advanced, answered, cursor_after, events_at, no_cursor, replies_after, with_handles}
use Rattle.stream_merge.proofs.Counts.{capped_get, capped_or, capped_zero, counts_more, events_here, is_of, one_thread, place_within, planned_at, turn_more, turn_other}

-- ---- replies of entries that others follow

-- the replies of entries, behind those before them, which stand newest first, where others follow
abbrev pub until : List StreamPart → List (List Bool) → List Line → List Line → List Line → List ReplyContent
until S M before [] after = []
until S M before (e ∷ es) after = reply_at S M before e (es ++ after) ++ until S M (e ∷ before) es after

until_all : (S : List StreamPart) (M : List (List Bool)) (before es : List Line) → replies_behind S M before es ≡ until S M before es []
until_all S M before [] = refl
until_all S M before (e ∷ es) =
    ap (λ x. reply_at S M before e x ++ replies_behind S M (e ∷ before) es) (sym (append-nil es)) ∙ ap (λ r. reply_at S M before e (es ++ []) ++ r) (until_all S M (e ∷ before) es)

reverse_onto : {X : Type 0} (x : X) (xs ys : List X) → reverse (x ∷ xs) ++ ys ≡ reverse xs ++ x ∷ ys
reverse_onto x xs ys = ap (λ zs. zs ++ ys) (reverse-append (x ∷ []) xs) ∙ append_assoc (reverse xs) (x ∷ []) ys

until_split : (S : List StreamPart) (M : List (List Bool)) (before xs ys after : List Line)
    → until S M before (xs ++ ys) after ≡ until S M before xs (ys ++ after) ++ until S M (reverse xs ++ before) ys after
until_split S M before [] ys after = refl
until_split S M before (x ∷ xs) ys after =
    ap (λ tail. reply_at S M before x tail ++ until S M (x ∷ before) (xs ++ ys) after) (append_assoc xs ys after)
    ∙ (ap (λ r. reply_at S M before x (xs ++ (ys ++ after)) ++ r)
    (until_split S M (x ∷ before) xs ys after ∙ ap (λ b. until S M (x ∷ before) xs (ys ++ after) ++ until S M b ys after) (sym (reverse_onto x xs before)))
    ∙ sym (append_assoc (reply_at S M before x (xs ++ (ys ++ after))) (until S M (x ∷ before) xs (ys ++ after)) (until S M (reverse (x ∷ xs) ++ before) ys after)))

-- one entry more
until_more : (S : List StreamPart) (M : List (List Bool)) (done : List Line) (e : Line) (after : List Line)
    → until S M [] (done ++ e ∷ []) after ≡ until S M [] done (e ∷ after) ++ reply_at S M (reverse done) e after
until_more S M done e after =
    until_split S M [] done (e ∷ []) after
    ∙ ap (λ r. until S M [] done (e ∷ after) ++ r)
    (append-nil (reply_at S M (reverse done ++ []) e after) ∙ ap (λ b. reply_at S M b e after) (append-nil (reverse done)))

-- ---- results that come next

results_same : (t : ℕ) (es a b : List Line) → next_results t a ≡ next_results t b → next_results t (es ++ a) ≡ next_results t (es ++ b)
results_same t [] a b same = same
results_same t (x ∷ es) a b same = ap (λ r. cond (x.thread == t) (cond x.begins [] x.results) r) (results_same t es a b same)

-- a reply, by whether its call was sent
abbrev reply_if : Bool → Option Code → List ℕ → List ReplyContent
reply_if sent code handles = cond sent (record { code = code; handles = handles } ∷ []) []

-- whether the call of an entry was sent, and its code
abbrev sent_at : List StreamPart → List (List Bool) → List Line → Line → Bool
sent_at S M before e = e.begins && was_sent S M e.thread (begun_by_thread e.thread before)

abbrev code_at : List StreamPart → List Line → Line → Option Code
code_at S before e = code_of_event (next_turn S e.thread (turns_taken before))

reply_is : (S : List StreamPart) (M : List (List Bool)) (before : List Line) (e : Line) (after : List Line)
    → reply_at S M before e after ≡ reply_if (sent_at S M before e) (code_at S before e) (next_results e.thread after)
reply_is S M before e after = refl

reply_same : (S : List StreamPart) (M : List (List Bool)) (before : List Line) (e : Line) (a b : List Line) → next_results e.thread a ≡ next_results e.thread b → reply_at S M before e a ≡ reply_at S M before e b
reply_same S M before e a b same = ap (reply_if (sent_at S M before e) (code_at S before e)) same

-- what follows counts by the results that come next
until_same : (S : List StreamPart) (M : List (List Bool)) (before es a b : List Line) → ((t : ℕ) → next_results t a ≡ next_results t b) → until S M before es a ≡ until S M before es b
until_same S M before [] a b same = refl
until_same S M before (e ∷ es) a b same =
    ap₂ (λ r rs. r ++ rs) (reply_same S M before e (es ++ a) (es ++ b) (results_same e.thread es a b (same e.thread))) (until_same S M (e ∷ before) es a b same)

one_length : (sent : Bool) (code : Option Code) (h k : List ℕ) → length (reply_if sent code h) ≡ length (reply_if sent code k)
one_length true code h k = refl
one_length false code h k = refl

-- how many there are doesn't hang on what follows
until_length : (S : List StreamPart) (M : List (List Bool)) (before es a b : List Line) → length (until S M before es a) ≡ length (until S M before es b)
until_length S M before [] a b = refl
until_length S M before (e ∷ es) a b =
    length-append (reply_at S M before e (es ++ a)) (until S M (e ∷ before) es a)
    ∙ (ap₂ (λ m n. m + n) (one_length (sent_at S M before e) (code_at S before e) (next_results e.thread (es ++ a)) (next_results e.thread (es ++ b))) (until_length S M (e ∷ before) es a b)
    ∙ sym (length-append (reply_at S M before e (es ++ b)) (until S M (e ∷ before) es b)))

-- no entry is of the thread
abbrev pub Lacks : ℕ → List Line → Type 0
Lacks t [] = ⊤
Lacks t (e ∷ es) = ((e.thread == t) ≡ false) × Lacks t es

results_lack : (t : ℕ) (mid after : List Line) → Lacks t mid → next_results t (mid ++ after) ≡ next_results t after
results_lack t [] after lacks = refl
results_lack t (e ∷ mid) after lacks = ap (λ u. cond u (cond e.begins [] e.results) (next_results t (mid ++ after))) lacks.0 ∙ results_lack t mid after lacks.1

-- an entry of another thread at the end doesn't count
results_end : (t : ℕ) (mid : List Line) (h : Line) → (h.thread == t) ≡ false → next_results t (mid ++ h ∷ []) ≡ next_results t mid
results_end t mid h other = results_same t mid (h ∷ []) [] (ap (λ u. cond u (cond h.begins [] h.results) []) other) ∙ ap (next_results t) (append-nil mid)

results_return : (t : ℕ) (mid : List Line) (h : Line) → Lacks t mid → (h.thread == t) ≡ true → h.begins ≡ false → next_results t (mid ++ h ∷ []) ≡ h.results
results_return t mid h lacks own returns =
    results_lack t mid (h ∷ []) lacks ∙ (ap (λ u. cond u (cond h.begins [] h.results) []) own ∙ ap (λ u. cond u [] h.results) returns)

-- a begin at the end doesn't count
results_begin : (t : ℕ) (e : Line) → e.begins ≡ true → next_results t (e ∷ []) ≡ next_results t []
results_begin t e begins = ap (λ u. cond (e.thread == t) (cond u [] e.results) []) begins ∙ go (e.thread == t)
  where
    go : (u : Bool) → cond u [] [] ≡ next_results t []
    go true = refl
    go false = refl

-- ---- handles put into a reply

with_front : (p : ℕ) (handles : List ℕ) (a b : List ReplyContent) → p < length a → with_handles (a ++ b) p handles ≡ with_handles a p handles ++ b
with_front p handles [] b within = absurd (omega arith)
with_front zero handles (r ∷ a) b within = refl
with_front (suc p) handles (r ∷ a) b within = ap (λ rs. r ∷ rs) (with_front p handles a b (omega arith))

with_end : (handles : List ℕ) (a : List ReplyContent) (r : ReplyContent) → with_handles (a ++ r ∷ []) (length a) handles ≡ a ++ record r { handles = handles } ∷ []
with_end handles [] r = refl
with_end handles (x ∷ a) r = ap (λ rs. x ∷ rs) (with_end handles a r)

-- past the end nothing is put
pub with_past : (place : ℕ) (handles : List ℕ) (replies : List ReplyContent) → length replies ≤ place → with_handles replies place handles ≡ replies
with_past place handles [] past = refl
with_past zero handles (r ∷ replies) past = absurd (omega arith)
with_past (suc place) handles (r ∷ replies) past = ap (λ rs. r ∷ rs) (with_past place handles replies (omega arith))

-- a reply is written with other handles
pub with_set : (place : ℕ) (replies : List DriverReply) (r d : DriverReply) (handles : List ℕ) → place < length replies → r.code ≡ (get_or replies place d).code → r.handles.items ≡ handles
    → set (map reply_shown replies) place (reply_shown r) ≡ with_handles (map reply_shown replies) place handles
with_set place [] r d handles within code is = absurd (omega arith)
with_set zero (x ∷ replies) r d handles within code is = ap₂ (λ k hs. record { code = k; handles = hs } ∷ map reply_shown replies) code is
with_set (suc place) (x ∷ replies) r d handles within code is = ap (λ rs. reply_shown x ∷ rs) (with_set place replies r d handles (omega arith) code is)

answered_front : (o : Option ℕ) (handles : List ℕ) (a b : List ReplyContent) → ((p : ℕ) → o ≡ Some p → p < length a) → answered o handles (a ++ b) ≡ answered o handles a ++ b
answered_front None handles a b within = refl
answered_front (Some p) handles a b within = with_front p handles a b (within p refl)

-- ---- the reply that a thread's return will answer

-- a return of the thread behind others answers the reply at this place, or none
pub record IsWaiting (S : List StreamPart) (M : List (List Bool)) (done : List Line) (t : ℕ) (o : Option ℕ) : Type 0 where
  pub within : (p : ℕ) → o ≡ Some p → p < length (until S M [] done [])
  pub fills : (mid : List Line) (h : Line) → Lacks t mid → (h.thread == t) ≡ true → h.begins ≡ false → until S M [] done (mid ++ h ∷ []) ≡ answered o h.results (until S M [] done mid)

waiting_start : (S : List StreamPart) (M : List (List Bool)) (t : ℕ) → IsWaiting S M [] t None
waiting_start S M t = record {
  within = λ p is. cc is;
  fills = λ mid h lacks own returns. refl;
}

-- one thread is another
apart : (t u v : ℕ) → (t == u) ≡ true → (v == u) ≡ false → (t == v) ≡ false
apart t u v same other = go (t == v) refl
  where
    go : (b : Bool) → (t == v) ≡ b → (t == v) ≡ false
    go true is = absurd (true≢false (sym (eq-eqb v u (sym (eqb-true t v is) ∙ eqb-true t u same)) ∙ other))
    go false is = is

module _ (S : List StreamPart) (M : List (List Bool)) (done : List Line) (e : Line) where
  grows : length (until S M [] done []) ≤ length (until S M [] (done ++ e ∷ []) [])
  grows =
      let whole = ap length (until_more S M done e []) ∙ length-append (until S M [] done (e ∷ [])) (reply_at S M (reverse done) e []) in
      let same = until_length S M [] done (e ∷ []) [] in
      omega (arith, whole, same)

  -- an entry of another thread changes nothing of it
  waiting_other : (t : ℕ) (o : Option ℕ) → (e.thread == t) ≡ false → IsWaiting S M done t o → IsWaiting S M (done ++ e ∷ []) t o
  waiting_other t o other w = record {
    within = λ p is. omega (arith, w.within p is, grows);
    fills = λ mid h lacks own returns.
        until_more S M done e (mid ++ h ∷ [])
        ∙ (ap₂ (λ a b. a ++ b) (w.fills (e ∷ mid) h (other, lacks) own returns)
        (reply_same S M (reverse done) e (mid ++ h ∷ []) mid (results_end e.thread mid h (apart h.thread t e.thread own other)))
        ∙ (sym (answered_front o h.results (until S M [] done (e ∷ mid)) (reply_at S M (reverse done) e mid)
        (λ p is. let few = w.within p is in omega (arith, few, until_length S M [] done (e ∷ mid) [])))
        ∙ ap (answered o h.results) (sym (until_more S M done e mid))));
  }

  -- behind an entry of the thread a return answers nothing before it
  shadowed : (t : ℕ) (mid : List Line) (h : Line) → (e.thread == t) ≡ true → (h.thread == t) ≡ true → until S M [] done (e ∷ mid ++ h ∷ []) ≡ until S M [] done (e ∷ mid)
  shadowed t mid h here own = until_same S M [] done (e ∷ mid ++ h ∷ []) (e ∷ mid) (λ u. go u (e.thread == u) refl)
    where
      go : (u : ℕ) (b : Bool) → (e.thread == u) ≡ b → cond (e.thread == u) (cond e.begins [] e.results) (next_results u (mid ++ h ∷ [])) ≡ cond (e.thread == u) (cond e.begins [] e.results) (next_results u mid)
      go u true is = ap (λ b. cond b (cond e.begins [] e.results) (next_results u (mid ++ h ∷ []))) is ∙ sym (ap (λ b. cond b (cond e.begins [] e.results) (next_results u mid)) is)
      go u false is =
          let same : h.thread ≡ e.thread = eqb-true h.thread t own ∙ sym (eqb-true e.thread t here) in
          ap (λ r. cond (e.thread == u) (cond e.begins [] e.results) r) (results_end u mid h (ap (λ x. x == u) same ∙ is))

  -- behind a begin that was sent it answers that, behind any other entry of the thread nothing
  waiting_own : (t : ℕ) (sent : Bool) → (e.thread == t) ≡ true → sent_at S M (reverse done) e ≡ sent → IsWaiting S M (done ++ e ∷ []) t (cond sent (Some (length (until S M [] done []))) None)
  waiting_own t false here not = record {
    within = λ p is. cc is;
    fills = λ mid h lacks own returns.
        until_more S M done e (mid ++ h ∷ [])
        ∙ (ap₂ (λ a b. a ++ b) (shadowed t mid h here own)
        (ap (λ u. reply_if u (code_at S (reverse done) e) (next_results e.thread (mid ++ h ∷ []))) not ∙ sym (ap (λ u. reply_if u (code_at S (reverse done) e) (next_results e.thread mid)) not))
        ∙ sym (until_more S M done e mid));
  }
  waiting_own t true here sent = record {
    within = λ p is.
        let place : length (until S M [] done []) ≡ p = cc is in
        let whole = ap length (until_more S M done e []) ∙ length-append (until S M [] done (e ∷ [])) (reply_at S M (reverse done) e []) in
        let same = until_length S M [] done (e ∷ []) [] in
        let one = ap (λ u. length (reply_if u (code_at S (reverse done) e) [])) sent in
        omega (arith, place, whole, same, one);
    fills = λ mid h lacks own returns.
        let thread : e.thread ≡ t = eqb-true e.thread t here in
        let results = ap (λ x. next_results x (mid ++ h ∷ [])) thread ∙ results_return t mid h lacks own returns in
        let code = code_at S (reverse done) e in
        until_more S M done e (mid ++ h ∷ [])
        ∙ (ap₂ (λ a b. a ++ b) (shadowed t mid h here own) (ap₂ (λ u r. reply_if u code r) sent results)
        ∙ (sym (with_end h.results (until S M [] done (e ∷ mid)) (record { code = code; handles = next_results e.thread mid }))
        ∙ (ap₂ (λ k rs. with_handles rs k h.results) (until_length S M [] done (e ∷ mid) [])
        (ap (λ u. until S M [] done (e ∷ mid) ++ reply_if u code (next_results e.thread mid)) (sym sent) ∙ sym (until_more S M done e mid)))));
  }

-- ---- the pass

-- where a stream is
pub record Stands (S : List StreamPart) (M : List (List Bool)) (done : List Line) (t i : ℕ) (c : Cursor) : Type 0 where
  pub events : c.events ≡ min (turns_of t (turns_taken (reverse done))) (length (events_at S i))
  pub calls : c.calls ≡ min (begun_by_thread t (reverse done)) (length (get_or M i []))
  pub waits : IsWaiting S M done t c.waiting

-- what a pass over entries has found
pub record Passed (S : List StreamPart) (M : List (List Bool)) (done : List Line) (cursors : List Cursor) (replies : List ReplyContent) : Type 0 where
  pub replies_are : replies ≡ replies_gathered S M done
  pub size : length cursors ≡ length S
  pub at : (t i : ℕ) → position (is_of t) S ≡ Some i → Stands S M done t i (get_or cursors i no_cursor)
  pub strangers : (t : ℕ) → position (is_of t) S ≡ None → IsWaiting S M done t None

pub passed_start : (S : List StreamPart) (M : List (List Bool)) (n : ℕ) → n ≡ length S → Passed S M [] (replicate n no_cursor) []
passed_start S M n is = record {
  replies_are = refl;
  size = length-replicate n no_cursor ∙ is;
  at = λ t i here.
      let within : i < n = omega (arith, place_within S t i here, is) in
      subst (Stands S M [] t i) (sym (get_or-replicate n i no_cursor no_cursor within)) (record { events = capped_zero (length (events_at S i)); calls = capped_zero (length (get_or M i [])); waits = waiting_start S M t });
  strangers = λ t here. waiting_start S M t;
}

-- what was begun
begun_more : (t : ℕ) (e : Line) (before : List Line) → (e.thread == t) ≡ true → begun_by_thread t (e ∷ before) ≡ cond e.begins (suc (begun_by_thread t before)) (begun_by_thread t before)
begun_more t e before is = ap (λ u. length (cond (u && e.begins) (e ∷ rest) rest)) is ∙ go e.begins
  where
    rest : List Line
    rest = filter (λ (x : Line). x.thread == t && x.begins) before

    go : (u : Bool) → length (cond u (e ∷ rest) rest) ≡ cond u (suc (length rest)) (length rest)
    go true = refl
    go false = refl

begun_other : (t : ℕ) (e : Line) (before : List Line) → (e.thread == t) ≡ false → begun_by_thread t (e ∷ before) ≡ begun_by_thread t before
begun_other t e before is =
    ap (λ u. length (cond (u && e.begins) (e ∷ filter (λ (x : Line). x.thread == t && x.begins) before) (filter (λ (x : Line). x.thread == t && x.begins) before))) is

and_false : (u : Bool) → (u && false) ≡ false
and_false true = refl
and_false false = refl

newest : (done : List Line) (e : Line) → reverse (done ++ e ∷ []) ≡ e ∷ reverse done
newest done e = reverse-append done (e ∷ [])

-- of another thread nothing changes
stands_other : (S : List StreamPart) (M : List (List Bool)) (done : List Line) (e : Line) (t i : ℕ) (c : Cursor) → (e.thread == t) ≡ false → Stands S M done t i c → Stands S M (done ++ e ∷ []) t i c
stands_other S M done e t i c other s = record {
  events = s.events ∙ ap (λ k. min k (length (events_at S i))) (sym (ap (λ b. turns_of t (turns_taken b)) (newest done e) ∙ turn_other t e.thread (turns_taken (reverse done)) other));
  calls = s.calls ∙ ap (λ k. min k (length (get_or M i []))) (sym (ap (begun_by_thread t) (newest done e) ∙ begun_other t e (reverse done) other));
  waits = waiting_other S M done e t c.waiting other s.waits;
}

-- whether the call of an entry at a place was sent is what its cursor's mark says
sent_is : (S : List StreamPart) (M : List (List Bool)) (done : List Line) (e : Line) (i : ℕ) (c : Cursor) → position (is_of e.thread) S ≡ Some i → Stands S M done e.thread i c
    → was_sent S M e.thread (begun_by_thread e.thread (reverse done)) ≡ get_or (get_or M i []) c.calls false
sent_is S M done e i c here s =
    ap (λ o. option_map_or (λ k. get_or (get_or M k []) (begun_by_thread e.thread (reverse done)) false) o false) here
    ∙ (sym (capped_or (get_or M i []) (begun_by_thread e.thread (reverse done)) false) ∙ ap (λ k. get_or (get_or M i []) k false) (sym s.calls))

code_is : (S : List StreamPart) (M : List (List Bool)) (done : List Line) (e : Line) (i : ℕ) (c : Cursor) → position (is_of e.thread) S ≡ Some i → Stands S M done e.thread i c
    → next_turn S e.thread (turns_taken (reverse done)) ≡ slice_get (events_at S i) c.events
code_is S M done e i c here s =
    ap (λ es. slice_get es (turns_of e.thread (turns_taken (reverse done)))) (planned_at S e.thread i here)
    ∙ (sym (capped_get (events_at S i) (turns_of e.thread (turns_taken (reverse done)))) ∙ ap (slice_get (events_at S i)) (sym s.events))

-- the cursor of the entry's stream moves
stands_own : (S : List StreamPart) (M : List (List Bool)) (done : List Line) (e : Line) (i n : ℕ) (c : Cursor) → position (is_of e.thread) S ≡ Some i → n ≡ length (until S M [] done []) → Stands S M done e.thread i c
    → Stands S M (done ++ e ∷ []) e.thread i (cursor_after (events_at S i) (get_or M i []) n e c)
stands_own S M done e i n c here count s = record {
  events =
      ap (λ k. advanced k (length (events_at S i))) s.events
      ∙ (counts_more (turns_of e.thread (turns_taken (reverse done))) (length (events_at S i))
      ∙ ap (λ k. min k (length (events_at S i))) (sym (ap (λ b. turns_of e.thread (turns_taken b)) (newest done e) ∙ turn_more e.thread e.thread (turns_taken (reverse done)) own)));
  calls = begun e.begins ∙ ap (λ k. min k (length (get_or M i []))) (sym (ap (begun_by_thread e.thread) (newest done e) ∙ begun_more e.thread e (reverse done) own));
  waits = subst (IsWaiting S M (done ++ e ∷ []) e.thread) waits_at (waiting_own S M done e e.thread (sent_at S M (reverse done) e) own refl);
}
  where
    own : (e.thread == e.thread) ≡ true
    own = eq-eqb e.thread e.thread refl

    begun : (u : Bool) → cond u (advanced c.calls (length (get_or M i []))) c.calls
        ≡ min (cond u (suc (begun_by_thread e.thread (reverse done))) (begun_by_thread e.thread (reverse done))) (length (get_or M i []))
    begun true = ap (λ k. advanced k (length (get_or M i []))) s.calls ∙ counts_more (begun_by_thread e.thread (reverse done)) (length (get_or M i []))
    begun false = s.calls

    waits_at : cond (sent_at S M (reverse done) e) (Some (length (until S M [] done []))) None ≡ cond (e.begins && get_or (get_or M i []) c.calls false) (Some n) None
    waits_at = ap₂ (λ u k. cond (e.begins && u) (Some k) None) (sent_is S M done e i c here s) (sym count)

-- the replies behind an entry
begins_replies : (S : List StreamPart) (M : List (List Bool)) (done : List Line) (e : Line) → e.begins ≡ true
    → until S M [] (done ++ e ∷ []) [] ≡ until S M [] done [] ++ reply_if (was_sent S M e.thread (begun_by_thread e.thread (reverse done))) (code_at S (reverse done) e) []
begins_replies S M done e begins =
    until_more S M done e []
    ∙ ap₂ (λ a b. a ++ b) (until_same S M [] done (e ∷ []) [] (λ t. results_begin t e begins))
    (ap (λ u. reply_if (u && was_sent S M e.thread (begun_by_thread e.thread (reverse done))) (code_at S (reverse done) e) []) begins)

returns_replies : (S : List StreamPart) (M : List (List Bool)) (done : List Line) (e : Line) (o : Option ℕ) → e.begins ≡ false → IsWaiting S M done e.thread o
    → until S M [] (done ++ e ∷ []) [] ≡ answered o e.results (until S M [] done [])
returns_replies S M done e o returns w =
    until_more S M done e []
    ∙ (ap₂ (λ a b. a ++ b) (w.fills [] e tt (eq-eqb e.thread e.thread refl) returns)
    (ap (λ u. reply_if (u && was_sent S M e.thread (begun_by_thread e.thread (reverse done))) (code_at S (reverse done) e) []) returns)
    ∙ append-nil (answered o e.results (until S M [] done [])))

pub passed_step : (S : List StreamPart) (M : List (List Bool)) (done : List Line) (e : Line) (cursors next : List Cursor) (replies more : List ReplyContent) → Passed S M done cursors replies
    → Moved (position (is_of e.thread) S) S M e cursors replies next more → Passed S M (done ++ e ∷ []) next more
passed_step S M done e cursors next replies more p m = go (position (is_of e.thread) S) refl m
  where
    own : (e.thread == e.thread) ≡ true
    own = eq-eqb e.thread e.thread refl

    unsent : position (is_of e.thread) S ≡ None → sent_at S M (reverse done) e ≡ false
    unsent here = ap (λ o. e.begins && option_map_or (λ k. get_or (get_or M k []) (begun_by_thread e.thread (reverse done)) false) o false) here ∙ and_false e.begins

    so_far : replies ≡ until S M [] done []
    so_far = p.replies_are ∙ until_all S M [] done

    -- a thread without a stream stays one
    stranger : (t : ℕ) → position (is_of t) S ≡ None → IsWaiting S M (done ++ e ∷ []) t None
    stranger t none = by (e.thread == t) refl
      where
        by : (u : Bool) → (e.thread == t) ≡ u → IsWaiting S M (done ++ e ∷ []) t None
        by false other = waiting_other S M done e t None other (p.strangers t none)
        by true is =
            let here : position (is_of e.thread) S ≡ None = subst (λ x. position (is_of x) S ≡ None) (sym (eqb-true e.thread t is)) none in
            waiting_own S M done e t false is (unsent here)

    -- no stream
    still : position (is_of e.thread) S ≡ None → (u : Bool) → e.begins ≡ u → until S M [] (done ++ e ∷ []) [] ≡ until S M [] done []
    still here true begins =
        begins_replies S M done e begins
        ∙ (ap (λ o. until S M [] done [] ++ reply_if (option_map_or (λ k. get_or (get_or M k []) (begun_by_thread e.thread (reverse done)) false) o false) (code_at S (reverse done) e) []) here
        ∙ append-nil (until S M [] done []))
    still here false returns = returns_replies S M done e None returns (p.strangers e.thread here)

    elsewhere : position (is_of e.thread) S ≡ None → (t i : ℕ) → position (is_of t) S ≡ Some i → (u : Bool) → (e.thread == t) ≡ u → (e.thread == t) ≡ false
    elsewhere none t i at true is = let here : position (is_of e.thread) S ≡ Some i = subst (λ x. position (is_of x) S ≡ Some i) (sym (eqb-true e.thread t is)) at in cc (none, here)
    elsewhere none t i at false is = is

    -- a stream at a place
    found : (place : ℕ) → position (is_of e.thread) S ≡ Some place → (u : Bool) → e.begins ≡ u
        → cond u (replies ++ reply_if (get_or (get_or M place []) (get_or cursors place no_cursor).calls false) (code_of_event (slice_get (events_at S place) (get_or cursors place no_cursor).events)) [])
        (answered (get_or cursors place no_cursor).waiting e.results replies)
        ≡ until S M [] (done ++ e ∷ []) []
    found place here true begins =
        let s = p.at e.thread place here in
        let c = get_or cursors place no_cursor in
        ap₂ (λ a b. a ++ b) so_far
        (ap₂ (λ u o. reply_if u (code_of_event o) []) (sym (sent_is S M done e place c here s)) (sym (code_is S M done e place c here s)))
        ∙ sym (begins_replies S M done e begins)
    found place here false returns =
        let s = p.at e.thread place here in
        let c = get_or cursors place no_cursor in
        ap (answered c.waiting e.results) so_far ∙ sym (returns_replies S M done e c.waiting returns s.waits)

    moved : (place : ℕ) → position (is_of e.thread) S ≡ Some place → (t i : ℕ) → position (is_of t) S ≡ Some i → (u : Bool) → (e.thread == t) ≡ u
        → Stands S M (done ++ e ∷ []) t i (get_or (set cursors place (cursor_after (events_at S place) (get_or M place []) (length replies) e (get_or cursors place no_cursor))) i no_cursor)
    moved place here t i at true is =
        let thread : e.thread ≡ t = eqb-true e.thread t is in
        let both : position (is_of e.thread) S ≡ Some i = subst (λ x. position (is_of x) S ≡ Some i) (sym thread) at in
        let one : place ≡ i = cc (here, both) in
        let c = get_or cursors place no_cursor in
        let after = cursor_after (events_at S place) (get_or M place []) (length replies) e c in
        let within : place < length cursors = omega (arith, place_within S e.thread place here, p.size) in
        subst (λ x. Stands S M (done ++ e ∷ []) x i (get_or (set cursors place after) i no_cursor)) thread
        (subst (λ k. Stands S M (done ++ e ∷ []) e.thread k (get_or (set cursors place after) k no_cursor)) one
        (subst (Stands S M (done ++ e ∷ []) e.thread place) (sym (get_or-set_same cursors place after no_cursor within))
        (stands_own S M done e place (length replies) c here (ap length so_far) (p.at e.thread place here))))
    moved place here t i at false other =
        let after = cursor_after (events_at S place) (get_or M place []) (length replies) e (get_or cursors place no_cursor) in
        let not : i ≢ place = λ one. true≢false (sym (eq-eqb e.thread t (one_thread S e.thread t i (here ∙ ap Some (sym one)) at)) ∙ other) in
        subst (Stands S M (done ++ e ∷ []) t i) (sym (get_or-set_other cursors place i after no_cursor not)) (stands_other S M done e t i (get_or cursors i no_cursor) other (p.at t i at))

    go : (o : Option ℕ) → position (is_of e.thread) S ≡ o → Moved o S M e cursors replies next more → Passed S M (done ++ e ∷ []) next more
    go None here m = record {
      replies_are = m.1 ∙ (so_far ∙ (sym (still here e.begins refl) ∙ sym (until_all S M [] (done ++ e ∷ []))));
      size = ap length m.0 ∙ p.size;
      at = λ t i at. subst (λ cs. Stands S M (done ++ e ∷ []) t i (get_or cs i no_cursor)) (sym m.0)
          (stands_other S M done e t i (get_or cursors i no_cursor) (elsewhere here t i at (e.thread == t) refl) (p.at t i at));
      strangers = stranger;
    }
    go (Some place) here m = record {
      replies_are = m.replies_are ∙ (found place here e.begins refl ∙ sym (until_all S M [] (done ++ e ∷ [])));
      size =
          ap length m.cursors_are
          ∙ (length-set cursors place (cursor_after (events_at S place) (get_or M place []) (length replies) e (get_or cursors place no_cursor)) ∙ p.size);
      at = λ t i at. subst (λ cs. Stands S M (done ++ e ∷ []) t i (get_or cs i no_cursor)) (sym m.cursors_are) (moved place here t i at (e.thread == t) refl);
      strangers = stranger;
    }

pub moved_at : {A : Type 0} (streams : List (ℕ × Vec Event A)) (place : ℕ) (x : ℕ × Vec Event A) (M : List (List Bool)) (marks : List Bool) (e : Line) (cursors : List Cursor) (c next : Cursor)
    (n : ℕ) (replies more : List ReplyContent) (evs : List Event)
    → place < length streams → x ≡ get_or streams place x → evs ≡ x.1.items → marks ≡ get_or M place [] → c ≡ get_or cursors place no_cursor → n ≡ length replies
    → next ≡ cursor_after (map content evs) marks n e c → more ≡ replies_after (map content evs) marks c e replies
    → MovedAt (map stream_part streams) M e place cursors replies (set cursors place next) more
moved_at streams place x M marks e cursors c next n replies more evs within is at marked was count moved added = record {
  cursors_are =
      ap (set cursors place) (moved
      ∙ (ap (λ es. cursor_after es marks n e c) here
      ∙ (ap (λ ms. cursor_after (events_at (map stream_part streams) place) ms n e c) marked
      ∙ (ap (λ k. cursor_after (events_at (map stream_part streams) place) (get_or M place []) k e c) count
      ∙ ap (cursor_after (events_at (map stream_part streams) place) (get_or M place []) (length replies) e) was))));
  replies_are =
      added
      ∙ (ap (λ es. replies_after es marks c e replies) here
      ∙ (ap (λ ms. replies_after (events_at (map stream_part streams) place) ms c e replies) marked
      ∙ ap (λ k. replies_after (events_at (map stream_part streams) place) (get_or M place []) k e replies) was));
}
  where
    here : map content evs ≡ events_at (map stream_part streams) place
    here = ap (map content) at ∙ sym (events_here streams place x within is)
