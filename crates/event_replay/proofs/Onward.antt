-- Some events were replayed, and then more.
use Rattle.std.proofs.Common.{◌≡◌, ◌∙◌, ℕ, ◌+◌, ◌<◌, ◌^◌, ◌&&◌, ◌||◌, Bool, true, false, Option, Some, None, List, [], ◌∷◌, ◌++◌, length, reverse, refl, ap, sym, subst, append_assoc, append-nil, arith}
use Rattle.std.proofs.lemmas.List.{length-append, length-reverse}
use Rattle.std.specs.List.{list_any}
use Rattle.std.specs.Prelude.{Result, Ok, Err, OnOk}
use Rattle.command_tables.specs.Calls.{DriverCallContent, ReplyContent}
use Rattle.command_tables.specs.Tests.{same_command}
use Rattle.command_tables.specs.declared.types.CommandId.TheVariants as cmd
use Rattle.trace_format.specs.Accepting.{calls_begun}
use Rattle.trace_format.specs.Content.{TraceEvent, Begin, Return}
use Rattle.model_driver.specs.Logs.{Log, logged}
use Rattle.model_driver.proofs.Telling.{logged_nothing, logged_twice}
use Rattle.replay_model.specs.Setup.{Setup, Outcome, is_too_long}
use Rattle.replay_model.specs.Stop.{exceeds_layers}
use Rattle.replay_model.specs.Judged.{judged}
use Rattle.replay_model.specs.Direct.{exchanges}
use Rattle.replay_model.specs.Text.{lines_at}
use Rattle.replay_model.proofs.Accepted.{calls-judged}
use Rattle.replay_model.proofs.Exchanges.{exchanges-judge}
use Rattle.chain_model.specs.Gaps.{IsGapped}
use Rattle.chain_model.specs.Traces.{GivesGuarded}
use Rattle.session_model.specs.Session.{SessionKept}
use Rattle.chain_session.specs.declared.kept.Kept.{Kept}
use Rattle.chain_session.specs.declared.error.SessionError.{SessionError}
use Rattle.chain_session.specs.declared.error.SessionError.TheVariants as error
use Rattle.chain_session.specs.Creation.{IsFault}
use Rattle.chain_session.specs.Standing.{Advances, BeginsCall, CanCome, CanReturn, Counts, IsFaultAt, ReturnsAs, ShowsOnce, StandsFor, calls_before}
use Rattle.event_replay.specs.Through.{CanGoOn, GoesThrough, IsLongAmong, Passage, lines_through}
use Rattle.event_replay.proofs.Exchanged.{exchanged, gained_at, same_gained}
use Rattle.event_replay.proofs.Lists.{any_before, any_behind, front_gapped, lines_append, turned}

-- ---- one event

-- what a session needs at it
pub can_come : (s : Setup) (x : Option Kept) (e : TraceEvent) → CanGoOn s x (e ∷ []) → CanCome s x e
can_come s x e can = record { events = can.before; replies = can.replies; stands = can.stands; trace = can.trace }

-- as many calls as begins, and no more than events
begun_few : (events : List TraceEvent) → calls_begun events < length events + 1
begun_few [] = omega arith
begun_few (Begin b ∷ events) = let few = begun_few events in omega (arith, few)
begun_few (Return thread ∷ events) = let few = begun_few events in omega (arith, few)

calls_shown : (s : Setup) (x : Option Kept) (k : SessionKept) → ShowsOnce s x k → calls_before x ≡ k.calls
calls_shown s None k shows = ap (λ (q : SessionKept). q.calls) (sym shows)
calls_shown s (Some x) k shows = shows.calls

-- the number of the next call
pub number_fits : (s : Setup) (x : Option Kept) (e : TraceEvent) (calls skipped reports : ℕ) → CanGoOn s x (e ∷ []) → Counts x calls skipped reports → calls + 1 < 2 ^ 64
number_fits s x e calls skipped reports can counts =
    let shown : calls ≡ can.stands.kept.calls = (counts s can.stands.kept can.stands.shows).0 in
    let begun : can.stands.kept.calls ≡ calls_begun can.before = can.stands.stands.calls ∙ calls-judged s can.before in
    let few = begun_few can.before in
    let all = can.few in
    omega (arith, shown, begun, few, all)

pub number_is : (s : Setup) (x : Option Kept) (e : TraceEvent) (calls skipped reports : ℕ) → CanGoOn s x (e ∷ []) → Counts x calls skipped reports → calls ≡ calls_before x
number_is s x e calls skipped reports can counts = (counts s can.stands.kept can.stands.shows).0 ∙ sym (calls_shown s x can.stands.kept can.stands.shows)

pub can_return : (s : Setup) (x : Option Kept) (e : TraceEvent) (thread : ℕ) → GivesGuarded s → e ≡ Return thread → CanGoOn s x (e ∷ []) → CanReturn x thread
can_return s x e thread guarded is can = record { setup = s; guarded = guarded; can = subst (λ ev. CanCome s x ev) is (can_come s x e can) }

-- it was replayed
pub goes_one : (s : Setup) (x y : Option Kept) (e : TraceEvent) (old_log log : Log) (old_lines lines : List ℕ) → CanGoOn s x (e ∷ []) → Advances s x y e old_log log old_lines lines
    → GoesThrough s x y (e ∷ []) (record { old_log = old_log; log = log; old_lines = old_lines; lines = lines })
goes_one s x y e old_log log old_lines lines can adv =
    record {
      replies = adv.replies;
      gained = gained_at s can.stands.kept e adv.replies;
      log = adv.told can.before can.replies can.stands can.trace
          ∙ ap (logged old_log) (exchanged s x can.before can.replies adv.replies e can.stands can.trace (adv.each can.before can.replies can.stands can.trace));
      stands = λ before first st trace. adv.stands before first st trace;
      told = λ before first st trace. exchanges-judge s (judged s before) e adv.replies first (adv.each before first st trace)
          ∙ ap (λ more. exchanges (judged s before) first ++ more)
          (exchanged s x before first adv.replies e st trace (adv.each before first st trace) ∙ same_gained s x st.kept can.stands.kept e adv.replies st.shows can.stands.shows);
      wrote = λ before first st trace. adv.wrote before first st trace ∙ ap (λ more. old_lines ++ more) (sym (append-nil (lines_at s (judged s before) e)));
    }

-- where the session took it
pub goes_begun : {E : Type 0} (s : Setup) (x y : Option Kept) (e : TraceEvent) (old_log log : Log) (old_lines lines : List ℕ) (r : Result (Unit {0}) E) → CanGoOn s x (e ∷ []) → OnOk r (Advances s x y e old_log log old_lines lines)
    → OnOk r (GoesThrough s x y (e ∷ []) (record { old_log = old_log; log = log; old_lines = old_lines; lines = lines }))
goes_begun s x y e old_log log old_lines lines (Ok done) can adv = goes_one s x y e old_log log old_lines lines can adv
goes_begun s x y e old_log log old_lines lines (Err error) can adv = tt

-- a return was
pub goes_returned : (s : Setup) (x y : Option Kept) (e : TraceEvent) (thread : ℕ) (log : Log) (old_lines lines : List ℕ) → GivesGuarded s → e ≡ Return thread → CanGoOn s x (e ∷ []) → ReturnsAs x y thread old_lines lines
    → GoesThrough s x y (e ∷ []) (record { old_log = log; log = log; old_lines = old_lines; lines = lines })
goes_returned s x y e thread log old_lines lines guarded is can returns =
    goes_one s x y e log log old_lines lines can (subst (λ ev. Advances s x y ev log log old_lines lines) (sym is) (returns s guarded log))

-- an error that names too many layers is right
pub long_at : (s : Setup) (e : TraceEvent) (err : SessionError) → BeginsCall e → IsFaultAt s e err → IsLongAmong s (e ∷ []) err
long_at s e error.NoMemory begins fault = tt
long_at s (Begin b) (error.Chain count) begins fault = go (same_command b.cmd cmd.CreateInstance) (s.outcome b.payload) fault
  where
    go : (creates : Bool) (o : Outcome) → IsFault creates o (error.Chain count) → ((creates && is_too_long o) || false) ≡ true
    go true o is = ap (λ long. long || false) (ap is_too_long is)
    go false o is = cc
long_at s (Return thread) (error.Chain count) begins fault = absurd begins

-- ---- none, and more

pub goes_nowhere : (s : Setup) (x : Option Kept) (log : Log) (lines : List ℕ) → GoesThrough s x x [] (record { old_log = log; log = log; old_lines = lines; lines = lines })
goes_nowhere s x log lines = record {
  replies = [];
  gained = [];
  log = logged_nothing log;
  stands = λ before first st trace. st;
  told = λ before first st trace. sym (append-nil (exchanges (judged s before) first));
  wrote = λ before first st trace. sym (append-nil lines);
}

-- the events before the last may come
pub can_front : (s : Setup) (x : Option Kept) (es more : List TraceEvent) → CanGoOn s x (es ++ more) → CanGoOn s x es
can_front s x es more can =
    let count : length (es ++ more) ≡ length es + length more = length-append es more in
    let all = can.few in
    record { before = can.before; replies = can.replies; stands = can.stands; trace = front_gapped es more can.before can.trace; few = omega (arith, count, all) }

-- the last may come behind those before
pub can_behind : (s : Setup) (x y : Option Kept) (es more : List TraceEvent) (p : Passage) → CanGoOn s x (es ++ more) → GoesThrough s x y es p → CanGoOn s y more
can_behind s x y es more p can goes =
    let count : length (es ++ more) ≡ length es + length more = length-append es more in
    let past : length (reverse es ++ can.before) ≡ length es + length can.before = length-append (reverse es) can.before ∙ ap (λ n. n + length can.before) (length-reverse es) in
    let all = can.few in
    record {
      before = reverse es ++ can.before;
      replies = goes.replies ++ can.replies;
      stands = goes.stands can.before can.replies can.stands (front_gapped es more can.before can.trace);
      trace = subst IsGapped (turned es more can.before) can.trace;
      few = omega (arith, count, past, all);
    }

-- the next may come behind those before
pub can_next : (s : Setup) (x y : Option Kept) (all es : List TraceEvent) (e : TraceEvent) (more : List TraceEvent) (p : Passage) → all ≡ es ++ e ∷ more → CanGoOn s x all → GoesThrough s x y es p → CanGoOn s y (e ∷ [])
can_next s x y all es e more p are can goes = can_front s y (e ∷ []) more (can_behind s x y es (e ∷ more) p (subst (λ evs. CanGoOn s x evs) are can) goes)

-- some, and then more
pub goes_on : (s : Setup) (x y z : Option Kept) (es more : List TraceEvent) (log0 log1 log2 : Log) (lines0 lines1 lines2 : List ℕ)
    → GoesThrough s x y es (record { old_log = log0; log = log1; old_lines = lines0; lines = lines1 }) → GoesThrough s y z more (record { old_log = log1; log = log2; old_lines = lines1; lines = lines2 })
    → GoesThrough s x z (es ++ more) (record { old_log = log0; log = log2; old_lines = lines0; lines = lines2 })
goes_on s x y z es more log0 log1 log2 lines0 lines1 lines2 one two = record {
  replies = two.replies ++ one.replies;
  gained = one.gained ++ two.gained;
  log = two.log ∙ (ap (λ l. logged l two.gained) one.log ∙ logged_twice log0 one.gained two.gained);
  stands = λ before first st trace.
      subst (λ past. StandsFor s z past ((two.replies ++ one.replies) ++ first)) (sym (turned es more before))
      (subst (λ rs. StandsFor s z (reverse more ++ (reverse es ++ before)) rs) (sym (append_assoc two.replies one.replies first))
      (two.stands (reverse es ++ before) (one.replies ++ first) (one.stands before first st (front_gapped es more before trace)) (subst IsGapped (turned es more before) trace)));
  told = λ before first st trace.
      ap (λ past. exchanges (judged s past) ((two.replies ++ one.replies) ++ first)) (turned es more before)
      ∙ (ap (λ rs. exchanges (judged s (reverse more ++ (reverse es ++ before))) rs) (append_assoc two.replies one.replies first)
      ∙ (two.told (reverse es ++ before) (one.replies ++ first) (one.stands before first st (front_gapped es more before trace)) (subst IsGapped (turned es more before) trace)
      ∙ (ap (λ xs. xs ++ two.gained) (one.told before first st (front_gapped es more before trace)) ∙ append_assoc (exchanges (judged s before) first) one.gained two.gained)));
  wrote = λ before first st trace.
      two.wrote (reverse es ++ before) (one.replies ++ first) (one.stands before first st (front_gapped es more before trace)) (subst IsGapped (turned es more before) trace)
      ∙ (ap (λ ls. ls ++ lines_through s (reverse es ++ before) more) (one.wrote before first st (front_gapped es more before trace))
      ∙ (append_assoc lines0 (lines_through s before es) (lines_through s (reverse es ++ before) more) ∙ ap (λ ls. lines0 ++ ls) (sym (lines_append s before es more))));
}

-- one of them has too many layers
pub long_among : (s : Setup) (all es : List TraceEvent) (e : TraceEvent) (more : List TraceEvent) (err : SessionError) → all ≡ es ++ e ∷ more → IsLongAmong s (e ∷ []) err → IsLongAmong s all err
long_among s all es e more error.NoMemory are long = tt
long_among s all es e more (error.Chain count) are long =
    ap (list_any (exceeds_layers s)) are ∙ any_behind (exceeds_layers s) es (e ∷ more) (any_before (exceeds_layers s) (e ∷ []) more long)
