-- What a session needs at an event, and what its errors leave.
use Rattle.std.proofs.Common.{◌≡◌, ◌∙◌, ℕ, ◌+◌, ◌<◌, ◌≤◌, ◌^◌, ◌&&◌, Bool, true, false, Option, Some, None, List, [], ◌∷◌, refl, ap, sym, subst, arith}
use Rattle.std.specs.Prelude.{Result, Ok, Err, OnErr}
use Rattle.std.specs.Option.{is_none}
use Rattle.command_tables.specs.Calls.{ReplyContent}
use Rattle.command_tables.specs.Tests.{same_command}
use Rattle.command_tables.specs.declared.types.CommandId.TheVariants as cmd
use Rattle.model_driver.specs.Logs.{Log}
use Rattle.trace_format.specs.Accepting.{calls_begun, fault_after}
use Rattle.trace_format.specs.Content.{TraceEvent, Begin, Return}
use Rattle.trace_format.specs.Grammar.{IsEvent}
use Rattle.trace_format.specs.State.{Accepted, TraceSeen}
use Rattle.replay_model.specs.Setup.{Setup, Outcome, is_too_long}
use Rattle.replay_model.specs.Stop.{exceeds_layers}
use Rattle.replay_model.proofs.Accepted.{calls-judged}
use Rattle.chain_model.specs.Traces.{GivesGuarded, IsTrace}
use Rattle.chain_model.proofs.Gapped.{gapped}
use Rattle.session_model.specs.Session.{SessionKept, nothing_kept}
use Rattle.session_model.proofs.Running.{new_stands}
use Rattle.chain_session.specs.declared.kept.Kept.{Kept}
use Rattle.chain_session.specs.declared.error.SessionError.{SessionError}
use Rattle.chain_session.specs.declared.error.SessionError.TheVariants as error
use Rattle.chain_session.specs.Creation.{IsFault}
use Rattle.chain_session.specs.Standing.{Advances, BeginsCall, CanReturn, CutAt, IsFaultAt, ReturnsAs, ShowsOnce, StandsFor, calls_before}
use Rattle.chain_session.proofs.Told.{none_asked}
use Rattle.replay_core.specs.Beginning.{CanTake, IsLong, MayTell}
use Rattle.replay_core.specs.Plays.{InStep}

-- nothing was replayed yet
pub stands_first : (s : Setup) (x : Option Kept) → x ≡ None → StandsFor s x [] []
stands_first s x none = record { kept = nothing_kept; shows = subst (λ o. ShowsOnce s o nothing_kept) (sym none) refl; stands = new_stands s }

pub no_events : IsTrace []
no_events = record { grammar = tt; accepted = refl }

-- one event more of a trace
pub trace_next : (before : List TraceEvent) (e : TraceEvent) → IsTrace before → IsEvent e → fault_after before e ≡ None → IsTrace (e ∷ before)
trace_next before e trace grammar none = record {
  grammar = (grammar, trace.grammar);
  accepted = ap (λ b. b && is_none (fault_after before e)) trace.accepted ∙ ap is_none none;
}

-- as many calls as begins
calls_shown : (s : Setup) (x : Option Kept) (k : SessionKept) → ShowsOnce s x k → calls_before x ≡ k.calls
calls_shown s None k shows = ap (λ (q : SessionKept). q.calls) (sym shows)
calls_shown s (Some x) k shows = shows.calls

calls_so_far : (s : Setup) (x : Option Kept) (events : List TraceEvent) (replies : List ReplyContent) → StandsFor s x events replies → calls_before x ≡ calls_begun events
calls_so_far s x events replies st = calls_shown s x st.kept st.shows ∙ (st.stands.calls ∙ calls-judged s events)

-- the session can take an event that was accepted
pub can_take : (s : Setup) (old state : TraceSeen) (x : Option Kept) (number : ℕ) (step : InStep s old x number) (e : TraceEvent) (n : ℕ) → IsEvent e → Accepted state step.events e n → number < 2 ^ 64 → CanTake s x e n
can_take s old state x number step (Begin b) n grammar accepted few =
    let calls : calls_before x ≡ calls_begun step.events = calls_so_far s x step.events step.replies step.session_stands in
    let within : calls_begun step.events + 2 ≤ number = step.few in (
      record { events = step.events; replies = step.replies; stands = step.session_stands; trace = gapped (Begin b ∷ step.events) (trace_next step.events (Begin b) step.trace grammar accepted.fault) },
      accepted.number ∙ grind (arith, calls, few, within),
    )
can_take s old state x number step (Return thread) n grammar accepted few =
    record { events = step.events; replies = step.replies; stands = step.session_stands; trace = gapped (Return thread ∷ step.events) (trace_next step.events (Return thread) step.trace grammar accepted.fault) }

-- a return can come under a setup whose chains are guarded
pub can_return : (s : Setup) (x : Option Kept) (e : TraceEvent) (thread n : ℕ) → GivesGuarded s → e ≡ Return thread → CanTake s x e n → CanReturn x thread
can_return s x e thread n guarded is can = record { setup = s; guarded = guarded; can = subst (λ ev. CanTake s x ev n) is can }

-- a return that came is one event more
pub returned : (s : Setup) (old new : Option Kept) (e : TraceEvent) (thread : ℕ) (log : Log) (before lines : List ℕ) → GivesGuarded s → e ≡ Return thread → before ≡ [] → ReturnsAs old new thread before lines → Advances s old new e log log [] lines
returned s old new e thread log before lines guarded is none returns =
    subst (λ ev. Advances s old new ev log log [] lines) (sym is) (subst (λ (ls : List ℕ). Advances s old new (Return thread) log log ls lines) none (returns s guarded log))

-- it has no chain
pub return_within : (s : Setup) (e : TraceEvent) (thread : ℕ) → e ≡ Return thread → exceeds_layers s e ≡ false
return_within s e thread is = ap (exceeds_layers s) is

-- ---- errors

-- a begin that was cut short
pub begin_may_tell : (s : Setup) (x : Option Kept) (e : TraceEvent) (old_log log : Log) → BeginsCall e → CutAt s x e old_log log → (exceeds_layers s e ≡ true → log ≡ old_log) → MayTell s x e old_log log
begin_may_tell s x (Begin b) old_log log begins cut long = record { front = λ events before stands trace. cut events before stands (gapped (Begin b ∷ events) trace); long = long }
begin_may_tell s x (Return thread) old_log log begins cut long = absurd begins

-- a return that was cut short
pub return_may_tell : (s : Setup) (x : Option Kept) (e : TraceEvent) (thread : ℕ) (log : Log) → e ≡ Return thread → MayTell s x e log log
return_may_tell s x e thread log is =
    subst (λ ev. MayTell s x ev log log) (sym is) (record { front = λ events before stands trace. none_asked _ log log refl; long = λ long. refl })

-- an error that names too many layers is right
pub long_of : (s : Setup) (e : TraceEvent) (err : SessionError) → BeginsCall e → IsFaultAt s e err → IsLong s e err
long_of s e error.NoMemory begins fault = tt
long_of s (Begin b) (error.Chain count) begins fault = go (same_command b.cmd cmd.CreateInstance) (s.outcome b.payload) fault
  where
    go : (creates : Bool) (o : Outcome) → IsFault creates o (error.Chain count) → creates && is_too_long o ≡ true
    go true o is = ap is_too_long is
    go false o is = cc
long_of s (Return thread) (error.Chain count) begins fault = absurd begins

-- what two clauses of an error say together
pub both_err : {T E : Type 0} (r : Result T E) (P Q R : Type 0) → (P → Q → R) → OnErr r P → OnErr r Q → OnErr r R
both_err (Ok x) P Q R f p q = tt
both_err (Err e) P Q R f p q = f p q
