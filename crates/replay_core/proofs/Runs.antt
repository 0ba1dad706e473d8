-- A whole replay behind the notes.
use Rattle.std.proofs.Common.{◌≡◌, ◌∙◌, ℕ, ◌+◌, Option, Some, None, List, [], ◌∷◌, ◌++◌, refl, sym, ap, subst, append_assoc, append-nil, inl, inr, arith}
use Rattle.std.specs.Prelude.{◌⊎◌, Bool, ◌&&◌, true, false, length, Result, Ok, Err}
use Rattle.std.specs.Option.{is_none}
use Rattle.std.proofs.lemmas.List.{length-append, length-map}
use Rattle.command_tables.specs.Calls.{ReplyContent}
use Rattle.model_driver.specs.Logs.{Log, logged}
use Rattle.trace_format.specs.Accepting.{fault_after, are_accepted}
use Rattle.trace_format.specs.Content.{TraceEvent}
use Rattle.replay_base.specs.Bytes.{GrownByFront, grown}
use Rattle.replay_base.specs.Changes.{Change, Gained, GainedFront, Stood}
use Rattle.replay_base.specs.Faults.{raised}
use Rattle.replay_base.proofs.Written.{grown_grown}
use Rattle.replay_base.specs.declared.limit.Which.TheVariants as which
use Rattle.replay_model.specs.Setup.{Setup}
use Rattle.replay_model.specs.Past.{Past, Began, Returned, calls_in}
use Rattle.replay_model.specs.Judged.{judged}
use Rattle.replay_model.specs.Direct.{before_call, valued, driver_call, driver_calls, direct, exchanges, sends_in}
use Rattle.replay_model.specs.Less.{less, no_layers}
use Rattle.replay_model.specs.Stop.{Stop, LineBytes, Lines, Names, Layers, at_fault, events_of}
use Rattle.replay_model.specs.Text.{end_line, skipped_in}
use Rattle.replay_model.proofs.Accepted.{begins-idle}
use Rattle.replay_model.proofs.LessLemmas.{less-alike}
use Rattle.replay_model.proofs.Stops.{placed-accepted, trace-accepted}
use Rattle.chain_session.specs.declared.kept.Kept.{Kept}
use Rattle.chain_session.specs.Standing.{Counts, StandsFor}
use Rattle.chain_session.specs.Telling.{FrontAsked}
use Rattle.model_driver.proofs.Telling.{logged_nothing}
use Rattle.chain_session.proofs.Told.{none_asked}
use Rattle.replay_core.specs.declared.error.ReplayError.{ReplayError}
use Rattle.replay_core.specs.declared.error.ReplayError.TheVariants as error
use Rattle.replay_core.specs.Ending.{PutsText}
use Rattle.replay_core.specs.Given.{EndsBehind, GoesOn, HasGiven}
use Rattle.replay_core.specs.Plays.{BrokeInLines, CutAtEnd, PlayedAll, PlayedPiece, PlayedTo, PlayedWhole, Plays, PlaysWhole, RanOut}
use Rattle.replay_core.specs.Replayed.{BrokeIn, Ended, Heard, HeardBefore, IsCutShort, IsUntouched, NotRead, RanOutIn, Run, StoppedAt, heard_log}
use Rattle.replay_core.specs.Traffic.{IsFront, Start, Told, Traffic, end_line_of, lines_of_events, next_calls, text_of, through, with_next}
use Rattle.replay_core.proofs.Reading.{gave_none, gave_so_many, told}

-- ---- the calls less those that were skipped

-- as many driver calls as are counted
count_direct : (past : Past) (replies : List ReplyContent) → length (direct past replies) ≡ sends_in past
count_direct [] replies = refl
count_direct (Began e o reports ∷ past) replies =
    length-append (direct past (before_call o replies)) (driver_calls (valued past (before_call o replies)) o)
    ∙ (ap (λ n. n + length (driver_calls (valued past (before_call o replies)) o)) (count_direct past (before_call o replies)) ∙ ap (λ n. sends_in past + n) (length-map o.drivers (driver_call (valued past (before_call o replies)) o)))
count_direct (Returned o made ∷ past) replies = count_direct past replies

-- the same driver calls are as many
as_many : (past fresh : Past) (replies : List ReplyContent) → direct fresh replies ≡ direct past replies → sends_in past ≡ sends_in fresh
as_many past fresh replies same = sym (count_direct past replies) ∙ (ap length (sym same) ∙ count_direct fresh replies)

-- where two tests hold, the first does
first_holds : (a b : Bool) → a && b ≡ true → a ≡ true
first_holds true b h = refl
first_holds false b h = cc

-- where each event may follow those before it, so it is in each front of the events
front_accepted : (later events : List TraceEvent) → are_accepted (later ++ events) ≡ true → are_accepted events ≡ true
front_accepted [] events a = a
front_accepted (e ∷ later) events a = front_accepted later events (first_holds (are_accepted (later ++ events)) (is_none (fault_after (later ++ events) e)) a)

-- ---- behind the notes

-- what went on behind the notes, which the sink has gained since the start
pub record Noted (s : Setup) (start : Start) (t : Traffic) : Type 0 where
  pub log : t.old_log ≡ start.log
  pub held : t.sink.old ≡ grown start.held s.notes
  pub faults : t.sink.faults_before ≡ start.faults

-- a run from that start
abbrev pub run_from : Start → Change → Traffic → Run
run_from start source t = record { source = source; traffic = through start t }

-- lines behind the notes
text_behind : (s : Setup) (start : Start) (t : Traffic) (events : List TraceEvent) → Noted s start t → Gained t.sink (lines_of_events s events) → Gained (through start t).sink (text_of s events)
text_behind s start t events noted wrote =
    wrote ∙ (ap (λ h. grown h (lines_of_events s events)) noted.held ∙ grown_grown start.held s.notes (lines_of_events s events))

-- and a front of others behind those
front_behind : (s : Setup) (start : Start) (t : Traffic) (events : List TraceEvent) (more : List ℕ) → Noted s start t → GainedFront t.sink (lines_of_events s events) more → GainedFront (through start t).sink (text_of s events) more
front_behind s start t events more noted wrote =
    subst (λ (h : Option (List ℕ)). GrownByFront h t.sink.new more) (ap (λ h. grown h (lines_of_events s events)) noted.held ∙ grown_grown start.held s.notes (lines_of_events s events)) wrote

-- the driver calls of accepted events are those that they make with no layers, less the skipped ones
heard_accepted : (s : Setup) (start : Start) (t : Traffic) (events : List TraceEvent) (replies : List ReplyContent) → are_accepted events ≡ true → Noted s start t → Told s events replies t → Heard s events replies (through start t)
heard_accepted s start t events replies accepted noted told =
    let past = judged s events in
    let same = less-alike s events (begins-idle s events accepted) in
    record {
      each = told.each ∙ as_many past (judged (no_layers s) (less past)) replies (same.calls replies);
      told = told.told ∙ (ap (logged t.old_log) (sym (same.told replies)) ∙ ap (λ l. heard_log s events replies l) noted.log);
    }

-- those of a front of the events of a trace
accepted_front : (s : Setup) (bytes : List ℕ) (events : List TraceEvent) → IsFront (events_of s bytes) events → are_accepted events ≡ true
accepted_front s bytes events front = front_accepted front.later events (ap are_accepted (sym front.are) ∙ trace-accepted s bytes)

-- an accepted event follows accepted ones
without_next : (next : Option TraceEvent) (events : List TraceEvent) → are_accepted (with_next next events) ≡ true → are_accepted events ≡ true
without_next None events accepted = accepted
without_next (Some e) events accepted = first_holds (are_accepted events) (is_none (fault_after events e)) accepted

-- with the first so many of the next event's
heard_before : (s : Setup) (start : Start) (t : Traffic) (events : List TraceEvent) (next : Option TraceEvent) (replies : List ReplyContent) → are_accepted events ≡ true → Noted s start t
    → length replies ≡ sends_in (judged s events) → FrontAsked (next_calls s events next replies) (logged t.old_log (exchanges (judged s events) replies)) t.log → HeardBefore s events next replies (through start t)
heard_before s start t events next replies accepted noted each asked =
    let past = judged s events in
    let same = less-alike s events (begins-idle s events accepted) in
    record {
      each = each ∙ as_many past (judged (no_layers s) (less past)) replies (same.calls replies);
      asked = subst (λ (l : Log). FrontAsked (next_calls s events next replies) l t.log) (ap (logged t.old_log) (sym (same.told replies)) ∙ ap (λ l. heard_log s events replies l) noted.log) asked;
    }

-- ---- how a replay ends

-- a trace's events as another list of them
accepted_same : (s : Setup) (bytes : List ℕ) (events : List TraceEvent) → events_of s bytes ≡ events → are_accepted events ≡ true
accepted_same s bytes events are = ap are_accepted (sym are) ∙ trace-accepted s bytes

-- the replay of the whole trace
pub ended : (s : Setup) (start : Start) (t : Traffic) (x : Option Kept) (source : Change) → Noted s start t → PlayedWhole s x source t → Ended s x (run_from start source t)
ended s start t x source noted whole =
    let bytes : List ℕ = whole.ends.bytes in
    let events : List TraceEvent = whole.events in
    let are : events ≡ events_of s bytes = sym whole.ends.are in
    let heard : Heard s events whole.replies (through start t) = heard_accepted s start t events whole.replies (accepted_same s bytes events whole.ends.are) noted whole.told in
    let wrote : Gained (through start t).sink (text_of s events ++ end_line_of s events) = whole.wrote ∙ (ap (λ h. grown h (lines_of_events s events ++ end_line_of s events)) noted.held
    ∙ (grown_grown start.held s.notes (lines_of_events s events ++ end_line_of s events)
    ∙ ap (grown start.held) (sym (append_assoc s.notes (lines_of_events s events) (end_line_of s events))))) in
    record {
      bytes = bytes;
      read = whole.ends.read;
      none = whole.ends.none;
      replies = whole.replies;
      stands = subst (λ (es : List TraceEvent). StandsFor s x es whole.replies) are whole.stands;
      heard = subst (λ (es : List TraceEvent). Heard s es whole.replies (through start t)) are heard;
      wrote = wrote ∙ ap (λ es. grown start.held (text_of s es ++ end_line_of s es)) are;
      stood = record { source = whole.ends.stood; sink = whole.stood ∙ noted.faults };
    }

-- the replay up to a stop
stopped : (s : Setup) (start : Start) (t : Traffic) (place : Stop) (source : Change) → Noted s start t → PlayedTo s place source t → StoppedAt s place (run_from start source t)
stopped s start t place source noted to =
    let bytes : List ℕ = to.stops.bytes in
    let are : to.events ≡ events_of s bytes = sym to.stops.are in
    let heard : Heard s to.events to.went.replies (through start t) = heard_accepted s start t to.events to.went.replies (accepted_same s bytes to.events to.stops.are) noted to.went.told in
    record {
      bytes = bytes;
      read = to.stops.read;
      here = to.stops.here;
      replies = to.went.replies;
      heard = subst (λ (es : List TraceEvent). Heard s es to.went.replies (through start t)) are heard;
      wrote = text_behind s start t to.events noted to.went.wrote ∙ ap (λ es. grown start.held (text_of s es)) are;
      stood = record { source = to.stops.stood; sink = to.stood ∙ noted.faults };
    }

-- the replay up to where the source failed
not_read : (s : Setup) (start : Start) (t : Traffic) (source : Change) → Noted s start t → PlayedPiece s source t → NotRead s (run_from start source t)
not_read s start t source noted piece = record {
  lines = piece.breaks.lines;
  gave = piece.breaks.gave;
  events = piece.events;
  placed = piece.breaks.placed;
  replies = piece.went.replies;
  heard = heard_accepted s start t piece.events piece.went.replies (placed-accepted s piece.breaks.lines piece.events piece.breaks.placed) noted piece.went.told;
  wrote = text_behind s start t piece.events noted piece.went.wrote;
  failed = piece.breaks.failed;
  stood = piece.stood ∙ noted.faults;
}

-- the replay up to the lines in which the sink failed
broke_in_lines : (s : Setup) (start : Start) (t : Traffic) (source : Change) → Noted s start t → BrokeInLines s source t → BrokeIn s (run_from start source t)
broke_in_lines s start t source noted b =
    let count : length b.events + 2 ≡ length (b.event ∷ b.events) + 1 = omega arith in
    record {
      bytes = b.goes.bytes;
      events = b.event ∷ b.events;
      read = subst (λ (n : ℕ). HasGiven source b.goes.bytes n) count b.goes.read;
      front = b.goes.front;
      replies = b.cut.replies;
      heard = heard_accepted s start t (b.event ∷ b.events) b.cut.replies (accepted_front s b.goes.bytes (b.event ∷ b.events) b.goes.front) noted b.cut.told;
      wrote = inr (inl (record { others = b.events; last = b.event; are = refl; wrote = front_behind s start t b.events _ noted b.cut.wrote }));
      failed = b.failed ∙ ap raised noted.faults;
      stood = b.goes.stood;
    }

-- up to the end line in which it failed
broke_at_end : (s : Setup) (start : Start) (t : Traffic) (source : Change) → Noted s start t → CutAtEnd s source t → BrokeIn s (run_from start source t)
broke_at_end s start t source noted e = record {
  bytes = e.ends.bytes;
  events = e.events;
  read = gave_so_many source e.ends.bytes (length e.events + 1) e.ends.read (omega (arith, e.ends.count));
  front = record { later = []; are = e.ends.are };
  replies = e.cut.replies;
  heard = heard_accepted s start t e.events e.cut.replies (accepted_same s e.ends.bytes e.events e.ends.are) noted e.cut.told;
  wrote = inr (inr (record { none = e.ends.none; all = sym e.ends.are; wrote = front_behind s start t e.events _ noted e.cut.wrote }));
  failed = e.failed ∙ ap raised noted.faults;
  stood = e.ends.stood;
}

broke : (s : Setup) (start : Start) (t : Traffic) (source : Change) → Noted s start t → BrokeInLines s source t ⊎ CutAtEnd s source t → BrokeIn s (run_from start source t)
broke s start t source noted (inl b) = broke_in_lines s start t source noted b
broke s start t source noted (inr e) = broke_at_end s start t source noted e

-- the replay up to where memory ran out
out_of : (s : Setup) (start : Start) (t : Traffic) (source : Change) → Noted s start t → RanOut s source t → RanOutIn s (run_from start source t)
out_of s start t source noted out = record {
  bytes = out.goes.bytes;
  events = out.events;
  next = out.next;
  read = out.goes.read;
  front = out.goes.front;
  replies = out.cut.replies;
  heard = heard_before s start t out.events out.next out.cut.replies (without_next out.next out.events (accepted_front s out.goes.bytes (with_next out.next out.events) out.goes.front)) noted out.cut.each out.cut.asked;
  wrote = text_behind s start t out.events noted out.cut.wrote;
  stood = record { source = out.goes.stood; sink = out.stood ∙ noted.faults };
}

-- an error behind the notes
pub fails : (s : Setup) (start : Start) (t : Traffic) (x : Option Kept) (source : Change) (e : ReplayError) → Noted s start t → PlaysWhole s x source t (Err e) → IsCutShort s (run_from start source t) e
fails s start t x source (error.Trace line f) noted to = stopped s start t (at_fault line f) source noted to
fails s start t x source (error.Limit which.Lines) noted to = record { line = to.line; stopped = stopped s start t (record { line = to.line; cause = Lines }) source noted to.played }
fails s start t x source (error.Limit which.LineBytes) noted to = record { line = to.line; stopped = stopped s start t (record { line = to.line; cause = LineBytes }) source noted to.played }
fails s start t x source (error.Limit which.Names) noted to = record { line = to.line; stopped = stopped s start t (record { line = to.line; cause = Names }) source noted to.played }
fails s start t x source (error.Limit which.Chain) noted to = record { line = to.line; stopped = stopped s start t (record { line = to.line; cause = Layers }) source noted to.played }
fails s start t x source error.Write noted cut = broke s start t source noted cut
fails s start t x source error.NoMemory noted out = inr (out_of s start t source noted out)
fails s start t x source error.Read noted piece = not_read s start t source noted piece
fails s start t x source (error.Limit which.Manifests) noted none = absurd none
fails s start t x source (error.Limit which.Events) noted none = absurd none
fails s start t x source (error.Limit which.Devices) noted none = absurd none

-- an error in the notes
pub fails_first : (s : Setup) (t : Traffic) (source : Change) (e : ReplayError) → t.log ≡ t.old_log → source.new ≡ source.old → Stood source → PutsText s.notes t.sink (Err e) → IsCutShort s (record { source = source; traffic = t }) e
fails_first s t source error.Write log unread stood cut = record {
  bytes = told source.old;
  events = [];
  read = gave_none source 1 unread;
  front = record { later = events_of s (told source.old); are = sym (append-nil (events_of s (told source.old))) };
  replies = [];
  heard = record { each = refl; told = log ∙ logged_nothing t.old_log };
  wrote = inl (record { none = refl; wrote = cut.front });
  failed = cut.failed;
  stood = stood;
}
fails_first s t source error.NoMemory log unread stood cut = inl (record { untouched = record { driver = log; sink = cut.0; stood = cut.1 }; unread = unread; stood = stood })
fails_first s t source error.Read log unread stood none = absurd none
fails_first s t source (error.Trace line f) log unread stood none = absurd none
fails_first s t source (error.Limit w) log unread stood none = absurd none

-- memory ran out before anything
pub out_at_first : (s : Setup) (run : Run) → IsUntouched run.traffic → run.source.new ≡ run.source.old → run.source.faults ≡ run.source.faults_before → IsCutShort s run error.NoMemory
out_at_first s run untouched unread stood = inl (record { untouched = untouched; unread = unread; stood = stood })

-- ---- the end line

-- events that were all read are the first ones
ends_goes : (s : Setup) (events : List TraceEvent) (source : Change) → EndsBehind s events source → GoesOn s events (length events + 2) source
ends_goes s events source ends = record {
  bytes = ends.bytes;
  read = gave_so_many source ends.bytes (length events + 2) ends.read (omega (arith, ends.count));
  front = record { later = []; are = ends.are };
  stood = ends.stood;
}

-- the end line by the tally is that of the events
pub whole_played : (s : Setup) (x : Option Kept) (source : Change) (calls skipped reports : ℕ) (t : Traffic) (sink : Change) → PlayedAll s x source t → Counts x calls skipped reports
    → sink.old ≡ t.sink.new → sink.faults_before ≡ t.sink.faults → (r : Result (Unit {0}) ReplayError) → PutsText (end_line calls skipped reports) sink r
    → PlaysWhole s x source (record { old_log = t.old_log; log = t.log; sink = record { old = t.sink.old; new = sink.new; faults_before = t.sink.faults_before; faults = sink.faults } }) r
whole_played s x source calls skipped reports t sink all counts held faults r puts = go r puts
  where
    events : List TraceEvent
    events = all.events

    is : end_line calls skipped reports ≡ end_line_of s events
    is =
        let c = counts s all.played.stands.kept all.played.stands.shows in
        let past : Past = judged s events in
        ap (λ n. end_line n skipped reports) (c.0 ∙ all.played.stands.stands.calls)
        ∙ (ap (λ n. end_line (calls_in past) n reports) (c.1.0 ∙ all.played.stands.stands.skipped) ∙ ap (λ n. end_line (calls_in past) (skipped_in past) n) (c.1.1 ∙ all.played.stands.stands.reports))

    go : (r : Result (Unit {0}) ReplayError) → PutsText (end_line calls skipped reports) sink r
        → PlaysWhole s x source (record { old_log = t.old_log; log = t.log; sink = record { old = t.sink.old; new = sink.new; faults_before = t.sink.faults_before; faults = sink.faults } }) r
    go (Ok done) puts = record {
      events = events;
      ends = all.ends;
      replies = all.played.replies;
      stands = all.played.stands;
      told = record { each = all.played.told.each; told = all.played.told.told };
      wrote = puts.0 ∙ (ap (λ h. grown h (end_line calls skipped reports)) (held ∙ all.played.wrote) ∙ (grown_grown t.sink.old _ (end_line calls skipped reports) ∙ ap (λ l. grown t.sink.old (lines_of_events s events ++ l)) is));
      stood = puts.1 ∙ (faults ∙ all.stood);
    }
    go (Err error.Write) puts = inr (record {
      events = events;
      ends = all.ends;
      cut = record {
        replies = all.played.replies;
        told = record { each = all.played.told.each; told = all.played.told.told };
        wrote = subst (λ (h : Option (List ℕ)). GrownByFront h sink.new (end_line_of s events)) (held ∙ all.played.wrote) (subst (λ (l : List ℕ). GrownByFront sink.old sink.new l) is puts.front);
      };
      failed = puts.failed ∙ ap raised (faults ∙ all.stood);
    })
    go (Err error.NoMemory) puts = record {
      events = events;
      next = None;
      goes = ends_goes s events source all.ends;
      cut = record {
        replies = all.played.replies;
        each = all.played.told.each;
        asked = none_asked [] _ t.log all.played.told.told;
        wrote = puts.0 ∙ (held ∙ all.played.wrote);
      };
      stood = puts.1 ∙ (faults ∙ all.stood);
    }
    go (Err error.Read) puts = absurd puts
    go (Err (error.Trace line f)) puts = absurd puts
    go (Err (error.Limit w)) puts = absurd puts

-- an error before the end line
pub whole_fails : (s : Setup) (x : Option Kept) (source : Change) (t : Traffic) (e : ReplayError) → Plays s x source t (Err e) → PlaysWhole s x source t (Err e)
whole_fails s x source t error.Write plays = inl plays
whole_fails s x source t error.Read plays = plays
whole_fails s x source t error.NoMemory plays = plays
whole_fails s x source t (error.Trace line f) plays = plays
whole_fails s x source t (error.Limit w) plays = plays
