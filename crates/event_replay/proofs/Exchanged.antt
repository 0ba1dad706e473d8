-- What the drivers are told at an event is the same for all events and replies for which a session stands.
use Rattle.std.proofs.Common.{◌≡◌, ◌∙◌, ℕ, Option, Some, None, List, [], ◌∷◌, ◌++◌, length, reverse, take, refl, ap, sym}
use Rattle.std.proofs.lemmas.List.{drop_at, take_at}
use Rattle.std.specs.List.{zip}
use Rattle.command_tables.specs.Calls.{DriverCallContent, ReplyContent}
use Rattle.object_model.specs.History.{Birth}
use Rattle.object_model.specs.declared.Routed.{Routed}
use Rattle.trace_format.specs.Content.{BeginEvent, TraceEvent, Begin, Return}
use Rattle.replay_model.specs.declared.Named.{Named}
use Rattle.replay_model.specs.Setup.{Setup}
use Rattle.replay_model.specs.Past.{Opened, Past}
use Rattle.replay_model.specs.Judged.{begun_of, judged}
use Rattle.replay_model.specs.Direct.{driver_calls, exchanges_at, sends_at, valued}
use Rattle.layer_model.specs.Walks.{PartState}
use Rattle.layer_model.specs.Terminator.{Terminator}
use Rattle.chain_model.specs.Gaps.{IsGapped}
use Rattle.chain_model.specs.Handed.{Handed}
use Rattle.session_model.specs.Session.{SessionKept}
use Rattle.session_model.specs.Beginning.{calls_told}
use Rattle.session_model.specs.Stands.{BeginsWell}
use Rattle.session_model.proofs.Began.{begins_well}
use Rattle.chain_session.specs.declared.kept.Kept.{Kept}
use Rattle.chain_session.specs.Standing.{ShowsOnce, StandsFor}

-- what of that which is kept a begin's calls are made of
read : ℕ → List Named → List Birth → List PartState → Terminator → List Routed → List Handed → SessionKept
read calls names births states ids routes handed =
    record { calls = calls; skipped = 0; reports = 0; count = 0; names = names; births = births; retrieved = []; sent = []; chain = record { states = states; terminator = ids; routes = routes; handed = handed; held = [] } }

told_by : (s : Setup) (k : SessionKept) (e : BeginEvent) → calls_told s k e ≡ calls_told s (read k.calls k.names k.births k.chain.states k.chain.terminator k.chain.routes k.chain.handed) e
unfolding read
told_by s k e = refl

told_shown : (s : Setup) (x : Kept) (k : SessionKept) (e : BeginEvent) → ShowsOnce s (Some x) k
    → calls_told s k e ≡ calls_told s (read x.calls x.parts.names.kept.names x.parts.names.kept.births x.parts.states.kept x.parts.terminator.ids x.parts.terminator.routes x.parts.names.kept.handed) e
told_shown s x k e shows =
    rw (shows.calls, shows.parts.names, shows.parts.births, shows.parts.states, shows.parts.ids, shows.parts.routes, shows.parts.handed) (told_by s k e)

-- two things that a session keeps alike are told the same
same_told : (s : Setup) (x : Option Kept) (k l : SessionKept) (e : BeginEvent) → ShowsOnce s x k → ShowsOnce s x l → calls_told s k e ≡ calls_told s l e
same_told s None k l e one other = ap (λ (q : SessionKept). calls_told s q e) (one ∙ sym other)
same_told s (Some x) k l e one other = told_shown s x k e one ∙ sym (told_shown s x l e other)

-- the calls of an event by what is kept, each with its reply; replies stand newest first
pub gained_at : Setup → SessionKept → TraceEvent → List ReplyContent → List (DriverCallContent × ReplyContent)
gained_at s k (Begin e) replies = zip (calls_told s k e) (reverse replies)
gained_at s k (Return thread) replies = []

pub same_gained : (s : Setup) (x : Option Kept) (k l : SessionKept) (e : TraceEvent) (replies : List ReplyContent) → ShowsOnce s x k → ShowsOnce s x l → gained_at s k e replies ≡ gained_at s l e replies
unfolding gained_at
same_gained s x k l (Begin e) replies one other = ap (λ calls. zip calls (reverse replies)) (same_told s x k l e one other)
same_gained s x k l (Return thread) replies one other = refl

-- they are those of the trace
pub exchanged : (s : Setup) (x : Option Kept) (events : List TraceEvent) (before replies : List ReplyContent) (e : TraceEvent) (st : StandsFor s x events before) → IsGapped (e ∷ events) → length replies ≡ sends_at s (judged s events) e
    → exchanges_at s (judged s events) e (replies ++ before) ≡ gained_at s st.kept e replies
unfolding gained_at
exchanged s x events before replies (Return thread) st trace each = refl
exchanged s x events before replies (Begin e) st trace each =
    let well : BeginsWell s st.kept events e before = begins_well s st.kept events e before trace st.stands in
    let past : Past = judged s events in
    let o : Opened = (begun_of s past e).opened in
    ap (λ rs. zip (driver_calls (valued past rs) o) (reverse (take (length o.drivers) (replies ++ before)))) (drop_at replies before (length o.drivers) each)
    ∙ (ap (λ rs. zip (driver_calls (valued past before) o) (reverse rs)) (take_at replies before (length o.drivers) each)
    ∙ ap (λ calls. zip calls (reverse replies)) (sym well.told))
