-- A replay, one event longer.
use Rattle.std.proofs.Common.{◌≡◌, ℕ, Bool, true, false, cond, Option, Some, None, List, [], ◌∷◌, ◌++◌, length, take, refl, sym, ◌∙◌, ap, subst, append_assoc, append-nil}
use Rattle.command_tables.specs.Calls.{DriverCallContent, ReplyContent}
use Rattle.model_driver.specs.Logs.{Log, logged}
use Rattle.model_driver.proofs.Telling.{logged_nothing, logged_twice}
use Rattle.trace_format.specs.Content.{TraceEvent}
use Rattle.replay_base.specs.Bytes.{grown, GrownByFront}
use Rattle.replay_base.specs.Changes.{Gained}
use Rattle.replay_base.proofs.Written.{grown_grown, grown_nil}
use Rattle.replay_model.specs.Setup.{Setup}
use Rattle.replay_model.specs.Judged.{judged}
use Rattle.replay_model.specs.Direct.{exchanges, exchanges_at, sends_in, sends_at}
use Rattle.replay_model.specs.Stop.{exceeds_layers}
use Rattle.replay_model.proofs.Exchanges.{lines-judge, exchanges-judge}
use Rattle.chain_model.specs.Traces.{IsTrace}
use Rattle.chain_model.proofs.Gapped.{gapped}
use Rattle.chain_session.specs.declared.kept.Kept.{Kept}
use Rattle.chain_session.specs.Standing.{Advances}
use Rattle.chain_session.specs.Telling.{FrontAsked}
use Rattle.chain_session.proofs.Told.{none_asked}
use Rattle.replay_core.specs.Beginning.{MayTell}
use Rattle.replay_core.specs.Plays.{Step, next_of}
use Rattle.replay_core.specs.Traffic.{Traffic, Start, upto, through, lines_of_events, lines_behind, next_calls, Told, Played, WentOut, CutInLines, RanOutBehind}
use Rattle.replay_core.proofs.Sessions.{no_events, stands_first}

pub lines_more : (s : Setup) (events : List TraceEvent) (e : TraceEvent) → lines_of_events s (e ∷ events) ≡ lines_of_events s events ++ lines_behind s events e
lines_more s events e = lines-judge s (judged s events) e

take_all : (bs : List ℕ) → take (length bs) bs ≡ bs
take_all [] = refl
take_all (b ∷ bs) = ap (λ more. b ∷ more) (take_all bs)

-- what has grown by a whole text has grown by a front of it
pub whole_grown : (h new : Option (List ℕ)) (bs : List ℕ) → new ≡ grown h bs → GrownByFront h new bs
whole_grown h new bs is = record { count = length bs; front = is ∙ ap (grown h) (sym (take_all bs)) }

-- before the first event
pub played_none : (s : Setup) (x : Option Kept) (t : Traffic) → x ≡ None → t.log ≡ t.old_log → t.sink.new ≡ t.sink.old → Played s x [] t
played_none s x t none log held = record {
  replies = [];
  stands = stands_first s x none;
  trace = no_events;
  told = record { each = refl; told = log ∙ logged_nothing t.old_log };
  wrote = held ∙ sym (grown_nil t.sink.old);
}

-- nothing went out, as of no event
pub nothing_out : (s : Setup) (t : Traffic) → t.log ≡ t.old_log → t.sink.new ≡ t.sink.old → WentOut s [] t
nothing_out s t log held = record { replies = []; told = record { each = refl; told = log ∙ logged_nothing t.old_log }; wrote = held ∙ sym (grown_nil t.sink.old) }

-- what was replayed went out
pub went_out : (s : Setup) (x : Option Kept) (events : List TraceEvent) (t : Traffic) → Played s x events t → WentOut s events t
went_out s x events t p = record { replies = p.replies; told = p.told; wrote = p.wrote }

-- where nothing more goes out, that stays
pub still_out : (start : Start) (s : Setup) (x : Option Kept) (events : List TraceEvent) (t : Traffic) → Played s x events (upto start t) → t.log ≡ t.old_log → t.sink.new ≡ t.sink.old → WentOut s events (through start t)
still_out start s x events t p log held = record { replies = p.replies; told = record { each = p.told.each; told = log ∙ p.told.told }; wrote = held ∙ p.wrote }

-- the calls of one event more
told_more : (start : Start) (s : Setup) (t : Traffic) (events : List TraceEvent) (e : TraceEvent) (more before : List ReplyContent) → Told s events before (upto start t) → length more ≡ sends_at s (judged s events) e
    → length (more ++ before) ≡ sends_in (judged s (e ∷ events))
    → t.log ≡ logged t.old_log (exchanges_at s (judged s events) e (more ++ before)) → Told s (e ∷ events) (more ++ before) (through start t)
told_more start s t events e more before so_far each all told = record {
  each = all;
  told = told
      ∙ (ap (λ l. logged l (exchanges_at s (judged s events) e (more ++ before))) so_far.told
      ∙ (logged_twice start.log _ _ ∙ ap (logged start.log) (sym (exchanges-judge s (judged s events) e more before each))));
}

-- the event was replayed, and its lines were written
pub played_more : (step : Step) (start : Start) (events : List TraceEvent) (lines : List ℕ) → Played step.setup step.old events (upto start step.traffic) → IsTrace (step.event ∷ events)
    → Advances step.setup step.old step.new step.event step.traffic.old_log step.traffic.log [] lines → Gained step.traffic.sink lines → Played step.setup step.new (step.event ∷ events) (through start step.traffic)
played_more step start events lines before trace adv wrote =
    let gaps = gapped (step.event ∷ events) trace in
    let stands = adv.stands events before.replies before.stands gaps in
    record {
      replies = adv.replies ++ before.replies;
      stands = stands;
      trace = trace;
      told = told_more start step.setup step.traffic events step.event adv.replies before.replies before.told (adv.each events before.replies before.stands gaps) stands.stands.each (adv.told events before.replies before.stands gaps);
      wrote = wrote
          ∙ (ap (grown step.traffic.sink.old) (adv.wrote events before.replies before.stands gaps)
          ∙ (ap (λ h. grown h (lines_behind step.setup events step.event)) before.wrote ∙ (grown_grown start.held _ _ ∙ ap (grown start.held) (sym (lines_more step.setup events step.event)))));
    }

-- the sink failed in the lines of the event
pub cut_in_lines : (step : Step) (start : Start) (events : List TraceEvent) (lines : List ℕ) → Played step.setup step.old events (upto start step.traffic) → IsTrace (step.event ∷ events)
    → Advances step.setup step.old step.new step.event step.traffic.old_log step.traffic.log [] lines → GrownByFront step.traffic.sink.old step.traffic.sink.new lines → CutInLines step.setup events step.event (through start step.traffic)
cut_in_lines step start events lines before trace adv front =
    let gaps = gapped (step.event ∷ events) trace in
    let stands = adv.stands events before.replies before.stands gaps in
    record {
      replies = adv.replies ++ before.replies;
      told = told_more start step.setup step.traffic events step.event adv.replies before.replies before.told (adv.each events before.replies before.stands gaps) stands.stands.each (adv.told events before.replies before.stands gaps);
      wrote = subst (λ (h : Option (List ℕ)). GrownByFront h step.traffic.sink.new (lines_behind step.setup events step.event)) before.wrote
          (subst (λ (ls : List ℕ). GrownByFront step.traffic.sink.old step.traffic.sink.new ls) (adv.wrote events before.replies before.stands gaps) front);
    }

-- memory ran out at the event
pub ran_out_behind : (step : Step) (start : Start) (events : List TraceEvent) → Played step.setup step.old events (upto start step.traffic) → IsTrace (step.event ∷ events)
    → MayTell step.setup step.old step.event step.traffic.old_log step.traffic.log → step.traffic.sink.new ≡ step.traffic.sink.old → RanOutBehind step.setup events (next_of step.setup step.event) (through start step.traffic)
ran_out_behind step start events before trace may held = record { replies = before.replies; each = before.told.each; asked = asked (exceeds_layers step.setup step.event) refl; wrote = held ∙ before.wrote }
  where
    asked : (long : Bool) → exceeds_layers step.setup step.event ≡ long → FrontAsked (next_calls step.setup events (cond long None (Some step.event)) before.replies) (logged start.log (exchanges (judged step.setup events) before.replies)) step.traffic.log
    asked true is = none_asked [] _ step.traffic.log (may.long is ∙ before.told.told)
    asked false is = subst (λ (l : Log). FrontAsked (next_calls step.setup events (Some step.event) before.replies) l step.traffic.log) before.told.told (may.front events before.replies before.stands trace)

-- or before the line was read
pub ran_out_before : (start : Start) (s : Setup) (x : Option Kept) (events : List TraceEvent) (t : Traffic) → Played s x events (upto start t) → t.log ≡ t.old_log → t.sink.new ≡ t.sink.old → RanOutBehind s events None (through start t)
ran_out_before start s x events t p log held = record { replies = p.replies; each = p.told.each; asked = none_asked [] _ t.log (log ∙ p.told.told); wrote = held ∙ p.wrote }
