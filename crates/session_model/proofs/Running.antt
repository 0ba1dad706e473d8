-- A session over a whole trace.
use Rattle.std.proofs.Common.{◌≡◌, ℕ, List, [], ◌∷◌, ◌++◌, length, reverse, take, Option, Some, refl, sym, ◌∙◌, ap, subst}
use Rattle.std.proofs.lemmas.List.{append-nil, append_assoc, reverse-append}
use Rattle.command_tables.specs.Calls.{ReplyContent}
use Rattle.trace_format.specs.Content.{BeginEvent, TraceEvent, Begin, Return}
use Rattle.object_model.specs.History.{Birth}
use Rattle.replay_model.specs.Setup.{Setup}
use Rattle.replay_model.specs.Past.{Past}
use Rattle.replay_model.specs.Judged.{begun_of, judged}
use Rattle.replay_model.specs.Direct.{Sent, direct, driver_calls, valued}
use Rattle.replay_model.specs.Text.{lines}
use Rattle.replay_model.proofs.Exchanges.{lines-judge}
use Rattle.layer_model.proofs.Same.{and_true}
use Rattle.chain_model.specs.Gaps.{IsGapped, may_all_come, may_come}
use Rattle.chain_model.specs.Simulated.{Held}
use Rattle.chain_model.specs.Traces.{GivesGuarded}
use Rattle.chain_model.proofs.Tracing.{nothing_simulates}
use Rattle.session_model.specs.Session.{SessionKept, nothing_kept}
use Rattle.session_model.specs.Living.{births_past, births_since}
use Rattle.session_model.specs.Beginning.{begin_lines, begun_kept, calls_told}
use Rattle.session_model.specs.Returning.{given_kept, held_of_thread, kept_after_return, return_line, sent_of_thread}
use Rattle.session_model.specs.Stands.{AreRepliesTo, BeginsWell, HasCall, ReturnsWell, Stands}
use Rattle.session_model.specs.Running.{AreAnsweredInRun, RanWell, SessionRun, session_begins, session_of, session_returns, session_runs, session_started}
use Rattle.session_model.proofs.Began.{begins_well}
use Rattle.session_model.proofs.Listed.{past_listed, since_listed}
use Rattle.session_model.proofs.Returned.{past_is, returns_well}
use Rattle.session_model.proofs.Turns.{returns_busy}

pub new_stands : (s : Setup) → Stands s nothing_kept [] []
new_stands s = record { calls = refl; skipped = refl; reports = refl; names = λ n. refl; count = refl; living = record { lives = λ x. refl; created = λ x lives. refl; owners = λ x lives. refl }; retrieved = refl; open_calls = refl; sent = refl; each = refl; simulates = nothing_simulates s }

-- ---- one event

begins_on : (s : Setup) (r : SessionRun) (before : List TraceEvent) (e : BeginEvent) → IsGapped (Begin e ∷ before) → RanWell s r before
    → AreRepliesTo (calls_told s r.kept e) (take (length (calls_told s r.kept e)) r.replies) → RanWell s (session_begins s r e) (Begin e ∷ before)
begins_on s r before e trace w answers =
    let own : List ReplyContent = take (length (calls_told s r.kept e)) r.replies in
    let b : BeginsWell s r.kept before e w.taken = begins_well s r.kept before e w.taken trace w.stands in
    let past : Past = judged s before in
    record {
      taken = reverse own ++ w.taken;
      stands = b.stands own (births_past r.kept.births (begun_kept s r.kept e).opened) answers (past_listed r.kept.births (begun_kept s r.kept e).opened);
      lines = ap (λ ls. ls ++ begin_lines s r.kept e) w.lines ∙ (ap (λ ls. lines s past ++ ls) b.lines ∙ sym (lines-judge s past (Begin e)));
      told = ap (λ cs. cs ++ calls_told s r.kept e) w.told
          ∙ (ap (λ cs. direct past w.taken ++ cs) b.told ∙ ap (λ rs. direct past rs ++ driver_calls (valued past rs) (begun_of s past e).opened) (sym (b.answered own answers).back));
    }

-- a trace without its last event
shorter : (e : TraceEvent) (before : List TraceEvent) → IsGapped (e ∷ before) → IsGapped before
shorter e before trace = record { grammar = trace.grammar.1; each = (and_true (may_all_come before) (may_come before e) trace.each).0 }

returns_on : (s : Setup) → GivesGuarded s → (r : SessionRun) (before : List TraceEvent) (thread : ℕ) → IsGapped (Return thread ∷ before) → RanWell s r before
    → RanWell s (session_returns s r (sent_of_thread r.kept thread) (held_of_thread r.kept thread)) (Return thread ∷ before)
returns_on s guarded r before thread trace w =
    let there : HasCall r.kept thread = returns_busy s r.kept before thread w.taken trace w.stands in
    let earlier : IsGapped before = shorter (Return thread) before trace in
    let one : ReturnsWell s r.kept before thread w.taken there.call there.form = returns_well s r.kept before thread w.taken there.call there.form guarded earlier w.stands there.sent there.held in
    let past : Past = judged s before in
    let given : List Birth = given_kept s r.kept there.call.opened in
    let after : SessionKept = kept_after_return s r.kept there.call there.form (births_since r.kept.births given) in
    subst (λ (c : Option Sent). RanWell s (session_returns s r c (held_of_thread r.kept thread)) (Return thread ∷ before)) (sym there.sent)
    (subst (λ (h : Option Held). RanWell s (session_returns s r (Some there.call) h) (Return thread ∷ before)) (sym there.held)
    (record {
      taken = w.taken;
      stands = one.stands (births_since r.kept.births given) after.names after.chain.handed (since_listed r.kept.births given) (record { names = λ n. refl; handed = λ o. refl });
      lines = ap (λ ls. ls ++ return_line s r.kept there.call.opened) w.lines ∙ (ap (λ ls. lines s past ++ ls) one.line ∙ sym (lines-judge s past (Return thread)));
      told = w.told ∙ sym (ap (λ (p : Past). direct p w.taken) (past_is s r.kept before thread w.taken there.call there.form guarded earlier w.stands there.sent there.held));
    }))

-- ---- all events

-- events, the oldest first, behind others
turned_onto : List TraceEvent → List TraceEvent → List TraceEvent
turned_onto before [] = before
turned_onto before (e ∷ events) = turned_onto (e ∷ before) events

turned_is : (before events : List TraceEvent) → turned_onto before events ≡ reverse events ++ before
unfolding turned_onto
turned_is before [] = refl
turned_is before (e ∷ events) =
    turned_is (e ∷ before) events ∙ (sym (append_assoc (reverse events) (e ∷ []) before) ∙ ap (λ es. es ++ before) (sym (reverse-append (e ∷ []) events)))

earlier_trace : (events before : List TraceEvent) → IsGapped (turned_onto before events) → IsGapped before
unfolding turned_onto
earlier_trace [] before trace = trace
earlier_trace (e ∷ events) before trace = shorter e before (earlier_trace events (e ∷ before) trace)

runs_on : (s : Setup) → GivesGuarded s → (events : List TraceEvent) (r : SessionRun) (before : List TraceEvent) → IsGapped (turned_onto before events) → AreAnsweredInRun s r events → RanWell s r before → RanWell s (session_runs s r events) (turned_onto before events)
unfolding turned_onto
runs_on s guarded [] r before trace answers w = w
runs_on s guarded (Begin e ∷ events) r before trace answers w =
    runs_on s guarded events (session_begins s r e) (Begin e ∷ before) trace answers.1 (begins_on s r before e (earlier_trace events (Begin e ∷ before) trace) w answers.0)
runs_on s guarded (Return thread ∷ events) r before trace answers w =
    runs_on s guarded events (session_returns s r (sent_of_thread r.kept thread) (held_of_thread r.kept thread)) (Return thread ∷ before) trace answers
    (returns_on s guarded r before thread (earlier_trace events (Return thread ∷ before) trace) w)

pub replays : (s : Setup) (replies : List ReplyContent) (events : List TraceEvent) → GivesGuarded s → IsGapped (reverse events) → AreAnsweredInRun s (session_started replies) events → RanWell s (session_of s replies events) (reverse events)
replays s replies events guarded trace answers =
    let same : turned_onto [] events ≡ reverse events = turned_is [] events ∙ append-nil (reverse events) in
    subst (λ es. RanWell s (session_of s replies events) es) same
    (runs_on s guarded events (session_started replies) [] (subst IsGapped (sym same) trace) answers (record { taken = []; stands = new_stands s; lines = refl; told = refl }))
