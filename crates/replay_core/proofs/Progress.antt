-- How far a replay has come in the lines of a trace.
use Rattle.std.proofs.Common.{◌≡◌, ◌∙◌, ℕ, ◌+◌, ◌≤◌, ◌<◌, Bool, true, false, cond, Option, Some, None, List, [], ◌∷◌, ◌++◌, length, refl, sym, ap, subst, append_assoc, append-nil, inl, inr, arith}
use Rattle.std.specs.Prelude.{Result, Ok, Err}
use Rattle.std.specs.Option.{option_map}
use Rattle.std.proofs.lemmas.List.{length-append}
use Rattle.model_driver.specs.Logs.{Log}
use Rattle.replay_base.specs.Bytes.{GrownByFront, grown}
use Rattle.replay_base.specs.Changes.{Change, FailedOnce, Gave, Stood, changed}
use Rattle.replay_base.specs.Faults.{raised}
use Rattle.replay_base.proofs.Written.{grown_grown}
use Rattle.replay_base.specs.Lines.{lines_of}
use Rattle.replay_base.specs.Reader.{IsAtEnd, ReaderState, TakesLine}
use Rattle.replay_base.specs.declared.limit.TheConstants.{MOST_LINE_BYTES}
use Rattle.replay_base.specs.declared.limit.Which.TheVariants as which
use Rattle.trace_format.specs.declared.fault.TraceFault.{TraceFault}
use Rattle.trace_format.specs.Accepting.{calls_begun, exceeds_names, fault_at_end, fault_after}
use Rattle.trace_format.specs.Content.{TraceEvent, Begin, Return}
use Rattle.trace_format.specs.Grammar.{IsEvent}
use Rattle.trace_format.specs.Reading.{read_line}
use Rattle.trace_format.specs.State.{Accepted, SumsUp, TraceSeen}
use Rattle.replay_model.specs.Setup.{Setup}
use Rattle.replay_model.specs.Stop.{Cause, Fault, LineBytes, Lines, Names, Layers, at_fault, cause_before, events_from, events_in, events_of, events_or, exceeds_layers, line_after, line_at, placed_in, stop, stop_in}
use Rattle.replay_model.proofs.Stops.{events_here, events_placed, line_barred, line_exceeding, line_faulty, line_layered, line_looked, line_misplaced, line_placed, placed_more, stop_here, stop_placed}
use Rattle.chain_model.specs.Traces.{IsTrace}
use Rattle.chain_session.specs.declared.kept.Kept.{Kept}
use Rattle.replay_core.specs.declared.error.ReplayError.{ReplayError}
use Rattle.replay_core.specs.declared.error.ReplayError.TheVariants as error
use Rattle.replay_core.specs.Given.{FinishesAt, GoesOn, IsBarred, StopsAt, TakesBehind, TakesHeader, TakesLineOr, TakesNext}
use Rattle.replay_core.specs.Plays.{Behind, BrokeInLines, InStep, LineCut, LinePlayed, LineRanOut, LineStep, LineStops, Plays, PlaysLine, PlayedTo, RanOut, Step, Steps}
use Rattle.replay_core.specs.Traffic.{Traffic, Start, upto, through, traffic_of, Played, IsFront, RanOutBehind, lines_behind, lines_of_events}
use Rattle.replay_core.proofs.Playing.{lines_more, played_none, went_out, still_out, ran_out_before, whole_grown}
use Rattle.replay_core.proofs.Reading.{Given, LongNext, all_lines, behind_of, gave_all, gave_lines, gave_so_many, given_next, given_start, has_given, long_next, own_lines}
use Rattle.replay_core.proofs.Sessions.{trace_next}

-- ---- where the replay is

-- Of a source that had these bytes left, and had failed so often, these lines were read, and their events were replayed; the state and the session stand
-- for them, and the next line has this number.
pub record SoFar (s : Setup) (left : Option (List ℕ)) (faults : ℕ) (r : ReaderState) (state : TraceSeen) (x : Option Kept) (n : ℕ) (t : Traffic) : Type 0 where
  pub first : List ℕ
  pub lines : List (List ℕ)
  pub events : List TraceEvent
  pub given : Given left r (first ∷ lines)
  pub placed : placed_in s (first ∷ lines) ≡ Some events
  pub number : n ≡ 2 + length lines
  pub size : length lines ≡ length events
  pub state_stands : SumsUp state events
  pub few : calls_begun events + 2 ≤ n
  pub played : Played s x events t
  pub stood : r.faults ≡ faults

-- what went on in the source of a reader since it had these bytes left, and had failed so often
abbrev pub since : Option (List ℕ) → ℕ → ReaderState → Change
since left faults r = changed left r.left faults r.faults

-- behind the header
pub far_start : (s : Setup) (old r : ReaderState) (state : TraceSeen) (x : Option Kept) (t : Traffic) → old.finished ≡ false → old.kept ≡ [] → TakesHeader s old r → SumsUp state [] → x ≡ None → t.log ≡ t.old_log → t.sink.new ≡ t.sink.old
    → SoFar s old.left old.faults r state x 2 t
far_start s old r state x t unread kept takes state_stands none log held = record {
  first = takes.line;
  lines = [];
  events = [];
  given = given_next old.left old r [] takes.line (given_start old.left old unread kept refl) takes.takes;
  placed = takes.placed;
  number = refl;
  size = refl;
  state_stands = state_stands;
  few = omega arith;
  played = played_none s x t none log held;
  stood = takes.takes.stood;
}

-- so the next line finds both in step
pub in_step : (s : Setup) (left : Option (List ℕ)) (faults : ℕ) (r : ReaderState) (state : TraceSeen) (x : Option Kept) (n : ℕ) (t : Traffic) → SoFar s left faults r state x n t → InStep s state x n
in_step s left faults r state x n t far =
    record { events = far.events; replies = far.played.replies; state_stands = far.state_stands; session_stands = far.played.stands; trace = far.played.trace; few = far.few }

-- an event begins one call at most
one_call : (e : TraceEvent) (events : List TraceEvent) → calls_begun (e ∷ events) ≤ calls_begun events + 1
one_call (Begin b) events = omega arith
one_call (Return thread) events = omega arith

-- the line's event, by its number
here_at : (s : Setup) (lines : List (List ℕ)) (n : ℕ) (events : List TraceEvent) (text : List ℕ) (r : Result TraceEvent Cause) → n ≡ 2 + length lines → cause_before n text ≡ None → line_after s events text ≡ r → line_at s (2 + length lines) events text ≡ r
here_at s lines n events text r number looked here = ap (λ k. line_at s k events text) (sym number) ∙ (line_looked s n events text looked ∙ here)

-- one line more
pub far_next : (l : LineStep) (start : Start) (left : Option (List ℕ)) (faults : ℕ) (r new : ReaderState) → SoFar l.setup left faults r l.old_state l.old l.number (upto start l.traffic) → TakesNext r new l.number l.text
    → PlaysLine l (Ok tt) → SoFar l.setup left faults new l.state l.new (l.number + 1) (through start l.traffic)
far_next l start left faults r new far takes plays =
    let done : LinePlayed l far.events (through start l.traffic) = plays.0 start far.events far.state_stands far.played in
    let one : calls_begun (done.event ∷ far.events) ≤ calls_begun far.events + 1 = one_call done.event far.events in
    let few : calls_begun far.events + 2 ≤ l.number = far.few in
    let longer : length (far.lines ++ l.text ∷ []) ≡ length far.lines + 1 = length-append far.lines (l.text ∷ []) in
    record {
      first = far.first;
      lines = far.lines ++ l.text ∷ [];
      events = done.event ∷ far.events;
      given = given_next left r new (far.first ∷ far.lines) l.text far.given takes.takes;
      placed = placed_more l.setup far.first far.lines far.events l.text done.event far.placed (here_at l.setup far.lines l.number far.events l.text (Ok done.event) far.number takes.looked done.here);
      number = omega (arith, longer, far.number);
      size = omega (arith, longer, far.size);
      state_stands = done.stands;
      few = omega (arith, one, few);
      played = done.played;
      stood = takes.takes.stood ∙ far.stood;
    }

-- ---- where it ends

-- the lines behind these events add their own to them
more_events : (s : Setup) (n : ℕ) (before : List TraceEvent) (lines : List (List ℕ)) → IsFront (events_from s n before lines) before
more_events s n before [] = record { later = []; are = refl }
more_events s n before (line ∷ lines) = go (line_at s n before line) (λ e. more_events s (n + 1) (e ∷ before) lines)
  where
    go : (r : Result TraceEvent Cause) → ((e : TraceEvent) → IsFront (events_from s (n + 1) (e ∷ before) lines) (e ∷ before)) → IsFront (events_or before r (λ e. events_from s (n + 1) (e ∷ before) lines)) before
    go (Err c) more = record { later = []; are = refl }
    go (Ok e) more = record { later = (more e).later ++ e ∷ []; are = (more e).are ∙ sym (append_assoc (more e).later (e ∷ []) before) }

front_same : (all same events : List TraceEvent) → all ≡ same → IsFront same events → IsFront all events
front_same all same events is front = record { later = front.later; are = is ∙ front.are }

-- how often a source had failed before its last line was taken
stood_by : (faults : ℕ) (r new : ReaderState) (line : List ℕ) → TakesLine r new line → r.faults ≡ faults → new.faults ≡ faults
stood_by faults r new line takes stood = takes.stood ∙ stood

-- the lines of all bytes, where the text was taken last
lines_with : (left : Option (List ℕ)) (new : ReaderState) (first : List ℕ) (lines : List (List ℕ)) (text : List ℕ) (g : Given left new (first ∷ (lines ++ text ∷ []))) → lines_of (g.bytes ++ behind_of new) ≡ first ∷ (lines ++ text ∷ lines_of (behind_of new))
lines_with left new first lines text g =
    all_lines left new (first ∷ (lines ++ text ∷ [])) g ∙ ap (λ ls. first ∷ ls) (append_assoc lines (text ∷ []) (lines_of (behind_of new)))

-- a trace with these lines stops at the text
stop_with : (s : Setup) (bytes first : List ℕ) (lines more : List (List ℕ)) (events : List TraceEvent) (n : ℕ) (text : List ℕ) (c : Cause) → lines_of bytes ≡ first ∷ (lines ++ text ∷ more) → placed_in s (first ∷ lines) ≡ Some events → n ≡ 2 + length lines
    → line_at s (2 + length lines) events text ≡ Err c → stop s bytes ≡ Some (record { line = n; cause = c })
stop_with s bytes first lines more events n text c are placed number here =
    ap (stop_in s) are
    ∙ (stop_placed s first lines (text ∷ more) events placed
    ∙ (stop_here s (2 + length lines) events text more c here ∙ ap (λ k. Some (record { line = k; cause = c })) (sym number)))

events_with : (s : Setup) (bytes first : List ℕ) (lines more : List (List ℕ)) (events : List TraceEvent) (text : List ℕ) (c : Cause) → lines_of bytes ≡ first ∷ (lines ++ text ∷ more) → placed_in s (first ∷ lines) ≡ Some events
    → line_at s (2 + length lines) events text ≡ Err c → events_of s bytes ≡ events
events_with s bytes first lines more events text c are placed here =
    ap (events_in s) are ∙ (events_placed s first lines (text ∷ more) events placed ∙ events_here s (2 + length lines) events text more c here)

-- a line that stops
stops_at : (s : Setup) (left : Option (List ℕ)) (faults : ℕ) (r new : ReaderState) (state : TraceSeen) (x : Option Kept) (n : ℕ) (t : Traffic) (far : SoFar s left faults r state x n t) (text : List ℕ) (c : Cause) → TakesLine r new text → length new.kept ≤ MOST_LINE_BYTES + 1
    → line_at s (2 + length far.lines) far.events text ≡ Err c → StopsAt s (record { line = n; cause = c }) far.events (since left faults new)
stops_at s left faults r new state x n t far text c takes ahead here =
    let g : Given left new (far.first ∷ (far.lines ++ text ∷ [])) = given_next left r new (far.first ∷ far.lines) text far.given takes in
    let are = lines_with left new far.first far.lines text g in
    let longer : length (far.lines ++ text ∷ []) ≡ length far.lines + 1 = length-append far.lines (text ∷ []) in
    record {
      bytes = g.bytes ++ behind_of new;
      read = has_given (since left faults new) new (far.first ∷ (far.lines ++ text ∷ [])) n g refl (omega (arith, longer, far.number)) ahead;
      here = stop_with s (g.bytes ++ behind_of new) far.first far.lines (lines_of (behind_of new)) far.events n text c are far.placed far.number here;
      are = events_with s (g.bytes ++ behind_of new) far.first far.lines (lines_of (behind_of new)) far.events text c are far.placed here;
      stood = stood_by faults r new text takes far.stood;
    }

-- the events so far, where the text was taken last
goes_on : (s : Setup) (left : Option (List ℕ)) (faults : ℕ) (r new : ReaderState) (state : TraceSeen) (x : Option Kept) (n : ℕ) (t : Traffic) (far : SoFar s left faults r state x n t) (text : List ℕ) → TakesLine r new text → length new.kept ≤ MOST_LINE_BYTES + 1
    → GoesOn s far.events (length far.events + 2) (since left faults new)
goes_on s left faults r new state x n t far text takes ahead =
    let g : Given left new (far.first ∷ (far.lines ++ text ∷ [])) = given_next left r new (far.first ∷ far.lines) text far.given takes in
    let are = lines_with left new far.first far.lines text g in
    let longer : length (far.lines ++ text ∷ []) ≡ length far.lines + 1 = length-append far.lines (text ∷ []) in
    record {
      bytes = g.bytes ++ behind_of new;
      read = has_given (since left faults new) new (far.first ∷ (far.lines ++ text ∷ [])) (length far.events + 2) g refl (omega (arith, longer, far.size)) ahead;
      front = front_same (events_of s (g.bytes ++ behind_of new)) (events_from s (2 + length far.lines) far.events (text ∷ lines_of (behind_of new))) far.events
          (ap (events_in s) are ∙ events_placed s far.first far.lines (text ∷ lines_of (behind_of new)) far.events far.placed)
          (more_events s (2 + length far.lines) far.events (text ∷ lines_of (behind_of new)));
      stood = stood_by faults r new text takes far.stood;
    }

-- and with the event of that line
goes_on_with : (s : Setup) (left : Option (List ℕ)) (faults : ℕ) (r new : ReaderState) (state : TraceSeen) (x : Option Kept) (n : ℕ) (t : Traffic) (far : SoFar s left faults r state x n t) (text : List ℕ) (e : TraceEvent) → TakesLine r new text
    → length new.kept ≤ MOST_LINE_BYTES + 1 → line_at s (2 + length far.lines) far.events text ≡ Ok e → GoesOn s (e ∷ far.events) (length far.events + 2) (since left faults new)
goes_on_with s left faults r new state x n t far text e takes ahead here =
    let g : Given left new (far.first ∷ (far.lines ++ text ∷ [])) = given_next left r new (far.first ∷ far.lines) text far.given takes in
    let are = all_lines left new (far.first ∷ (far.lines ++ text ∷ [])) g in
    let longer : length (far.lines ++ text ∷ []) ≡ length far.lines + 1 = length-append far.lines (text ∷ []) in
    record {
      bytes = g.bytes ++ behind_of new;
      read = has_given (since left faults new) new (far.first ∷ (far.lines ++ text ∷ [])) (length far.events + 2) g refl (omega (arith, longer, far.size)) ahead;
      front = front_same (events_of s (g.bytes ++ behind_of new)) (events_from s (2 + length (far.lines ++ text ∷ [])) (e ∷ far.events) (lines_of (behind_of new))) (e ∷ far.events)
          (ap (events_in s) are ∙ events_placed s far.first (far.lines ++ text ∷ []) (lines_of (behind_of new)) (e ∷ far.events) (placed_more s far.first far.lines far.events text e far.placed here))
          (more_events s (2 + length (far.lines ++ text ∷ [])) (e ∷ far.events) (lines_of (behind_of new)));
      stood = stood_by faults r new text takes far.stood;
    }

-- the trace stops at the line
stops : (l : LineStep) (start : Start) (left : Option (List ℕ)) (faults : ℕ) (r new : ReaderState) (far : SoFar l.setup left faults r l.old_state l.old l.number (upto start l.traffic)) (c : Cause) → TakesNext r new l.number l.text
    → length new.kept ≤ MOST_LINE_BYTES + 1 → LineStops l c far.events (through start l.traffic) → Stood (through start l.traffic).sink → PlayedTo l.setup (record { line = l.number; cause = c }) (since left faults new) (through start l.traffic)
stops l start left faults r new far c takes ahead halt stood = record {
  events = far.events;
  stops = stops_at l.setup left faults r new l.old_state l.old l.number (upto start l.traffic) far l.text c takes.takes ahead (here_at l.setup far.lines l.number far.events l.text (Err c) far.number takes.looked halt.here);
  went = halt.went;
  stood = stood;
}

-- memory ran out at a line
ran_out : (l : LineStep) (start : Start) (left : Option (List ℕ)) (faults : ℕ) (r new : ReaderState) (far : SoFar l.setup left faults r l.old_state l.old l.number (upto start l.traffic)) → TakesNext r new l.number l.text
    → length new.kept ≤ MOST_LINE_BYTES + 1 → LineRanOut l far.events (through start l.traffic) → Stood (through start l.traffic).sink → RanOut l.setup (since left faults new) (through start l.traffic)
ran_out l start left faults r new far takes ahead (inl cut) stood =
    record { events = far.events; next = None; goes = goes_on l.setup left faults r new l.old_state l.old l.number (upto start l.traffic) far l.text takes.takes ahead; cut = cut; stood = stood }
ran_out l start left faults r new far takes ahead (inr at) stood = record {
  events = far.events;
  next = Some at.event;
  goes = goes_on_with l.setup left faults r new l.old_state l.old l.number (upto start l.traffic) far l.text at.event takes.takes ahead
      (here_at l.setup far.lines l.number far.events l.text (Ok at.event) far.number takes.looked at.here);
  cut = at.cut;
  stood = stood;
}

-- the line at which the replay ends, over a sink that hadn't failed before
pub far_ends : (l : LineStep) (e : ReplayError) (start : Start) (left : Option (List ℕ)) (faults : ℕ) (r new : ReaderState) → SoFar l.setup left faults r l.old_state l.old l.number (upto start l.traffic) → TakesNext r new l.number l.text
    → length new.kept ≤ MOST_LINE_BYTES + 1 → l.traffic.sink.faults_before ≡ start.faults → PlaysLine l (Err e) → Plays l.setup l.new (since left faults new) (through start l.traffic) (Err e)
far_ends l (error.Trace line f) start left faults r new far takes ahead stood plays =
    subst (λ (n : ℕ). PlayedTo l.setup (at_fault n f) (since left faults new) (through start l.traffic)) (sym plays.2)
    (stops l start left faults r new far (Fault f) takes ahead (plays.0 start far.events far.state_stands far.played) (plays.1 ∙ stood))
far_ends l (error.Limit which.Names) start left faults r new far takes ahead stood plays =
    record { line = l.number; played = stops l start left faults r new far Names takes ahead (plays.0 start far.events far.state_stands far.played) (plays.1 ∙ stood) }
far_ends l (error.Limit which.Chain) start left faults r new far takes ahead stood plays =
    record { line = l.number; played = stops l start left faults r new far Layers takes ahead (plays.0 start far.events far.state_stands far.played) (plays.1 ∙ stood) }
far_ends l error.Write start left faults r new far takes ahead stood plays =
    let cut : LineCut l far.events (through start l.traffic) = plays.0 start far.events far.state_stands far.played in
    record {
      events = far.events;
      event = cut.event;
      goes = goes_on_with l.setup left faults r new l.old_state l.old l.number (upto start l.traffic) far l.text cut.event takes.takes ahead
          (here_at l.setup far.lines l.number far.events l.text (Ok cut.event) far.number takes.looked cut.here);
      cut = cut.cut;
      failed = grind (arith, plays.1, stood);
    }
far_ends l error.NoMemory start left faults r new far takes ahead stood plays = ran_out l start left faults r new far takes ahead (plays.0 start far.events far.state_stands far.played) (plays.1 ∙ stood)
far_ends l error.Read start left faults r new far takes ahead stood plays = absurd plays
far_ends l (error.Limit which.Manifests) start left faults r new far takes ahead stood plays = absurd plays
far_ends l (error.Limit which.Lines) start left faults r new far takes ahead stood plays = absurd plays
far_ends l (error.Limit which.LineBytes) start left faults r new far takes ahead stood plays = absurd plays
far_ends l (error.Limit which.Events) start left faults r new far takes ahead stood plays = absurd plays
far_ends l (error.Limit which.Devices) start left faults r new far takes ahead stood plays = absurd plays

-- ---- a line that isn't looked at

-- the trace stops at it
barred : (s : Setup) (left : Option (List ℕ)) (faults : ℕ) (r new : ReaderState) (state : TraceSeen) (x : Option Kept) (n : ℕ) (t : Traffic) (far : SoFar s left faults r state x n t) (line : List ℕ) (c : Cause) → length new.kept ≤ MOST_LINE_BYTES + 1
    → IsBarred r new n line c → StopsAt s (record { line = n; cause = c }) far.events (since left faults new)
barred s left faults r new state x n t far line c ahead (inl bars) =
    stops_at s left faults r new state x n t far line c bars.takes ahead (line_barred s (2 + length far.lines) far.events line c (ap (λ k. cause_before k line) (sym far.number) ∙ bars.cause))
barred s left faults r new state x n t far line c ahead (inr meets) =
    let count : length (far.first ∷ far.lines) ≤ n = omega (arith, far.number) in
    let next : LongNext (since left faults new) (far.first ∷ far.lines) n = long_next (since left faults new) r new (far.first ∷ far.lines) n meets.place far.given refl count meets.long in
    let cause : line_at s (2 + length far.lines) far.events next.line ≡ Err c = line_barred s (2 + length far.lines) far.events next.line c (ap (λ k. cause_before k next.line) (sym far.number) ∙ meets.cause next.line next.long) in
    record {
      bytes = next.bytes;
      read = next.read;
      here = stop_with s next.bytes far.first far.lines next.more far.events n next.line c next.are far.placed far.number cause;
      are = events_with s next.bytes far.first far.lines next.more far.events next.line c next.are far.placed cause;
      stood = meets.long.stood ∙ far.stood;
    }

-- there is no line that may be looked at
pub far_halts : (s : Setup) (left : Option (List ℕ)) (faults : ℕ) (r new : ReaderState) (state : TraceSeen) (x : Option Kept) (n : ℕ) (t : Traffic) (line : List ℕ) (e : ReplayError) → SoFar s left faults r state x n t → length new.kept ≤ MOST_LINE_BYTES + 1 → Stood t.sink
    → TakesLineOr r new n line (Err e) → Plays s x (since left faults new) t (Err e)
far_halts s left faults r new state x n t line error.Read far ahead stood breaks = record {
  events = far.events;
  breaks = record { lines = far.first ∷ far.lines; gave = gave_lines (since left faults new) r new (far.first ∷ far.lines) far.given refl breaks; placed = far.placed; failed = grind (arith, breaks.failed, far.stood) };
  went = went_out s x far.events t far.played;
  stood = stood;
}
far_halts s left faults r new state x n t line (error.Limit which.Lines) far ahead stood bars =
    record { line = n; played = record { events = far.events; stops = barred s left faults r new state x n t far line Lines ahead bars; went = went_out s x far.events t far.played; stood = stood } }
far_halts s left faults r new state x n t line (error.Limit which.LineBytes) far ahead stood bars =
    record { line = n; played = record { events = far.events; stops = barred s left faults r new state x n t far line LineBytes ahead bars; went = went_out s x far.events t far.played; stood = stood } }
far_halts s left faults r new state x n t line error.Write far ahead stood bars = absurd bars
far_halts s left faults r new state x n t line error.NoMemory far ahead stood bars = absurd bars
far_halts s left faults r new state x n t line (error.Trace l f) far ahead stood bars = absurd bars
far_halts s left faults r new state x n t line (error.Limit which.Manifests) far ahead stood bars = absurd bars
far_halts s left faults r new state x n t line (error.Limit which.Names) far ahead stood bars = absurd bars
far_halts s left faults r new state x n t line (error.Limit which.Chain) far ahead stood bars = absurd bars
far_halts s left faults r new state x n t line (error.Limit which.Events) far ahead stood bars = absurd bars
far_halts s left faults r new state x n t line (error.Limit which.Devices) far ahead stood bars = absurd bars

-- ---- the sink hands on what it holds back

-- where the sink holds what it held, and failed as often, all is as it was
pub far_same : (s : Setup) (left : Option (List ℕ)) (faults : ℕ) (r : ReaderState) (state : TraceSeen) (x : Option Kept) (n : ℕ) (old_log log : Log) (first held kept : Option (List ℕ)) (before count now : ℕ) → kept ≡ held → now ≡ count
    → SoFar s left faults r state x n (traffic_of old_log log (changed first held before count)) → SoFar s left faults r state x n (traffic_of old_log log (changed first kept before now))
far_same s left faults r state x n old_log log first held kept before count now same_held same_count far =
    subst (λ (h : Option (List ℕ)). SoFar s left faults r state x n (traffic_of old_log log (changed first h before now))) (sym same_held)
    (subst (λ (f : ℕ). SoFar s left faults r state x n (traffic_of old_log log (changed first held before f))) (sym same_count) far)

-- all lines so far are no more than these, and their events are the first of the trace
so_far : (s : Setup) (left : Option (List ℕ)) (faults : ℕ) (r : ReaderState) (state : TraceSeen) (x : Option Kept) (n : ℕ) (t : Traffic) (far : SoFar s left faults r state x n t) (count : ℕ) → length r.kept ≤ MOST_LINE_BYTES + 1 → length far.events + 1 ≤ count
    → GoesOn s far.events count (since left faults r)
so_far s left faults r state x n t far count ahead most =
    let are = all_lines left r (far.first ∷ far.lines) far.given in
    record {
      bytes = far.given.bytes ++ behind_of r;
      read = has_given (since left faults r) r (far.first ∷ far.lines) count far.given refl (omega (arith, far.size, most)) ahead;
      front = front_same (events_of s (far.given.bytes ++ behind_of r)) (events_from s (2 + length far.lines) far.events (lines_of (behind_of r))) far.events
          (ap (events_in s) are ∙ events_placed s far.first far.lines (lines_of (behind_of r)) far.events far.placed)
          (more_events s (2 + length far.lines) far.events (lines_of (behind_of r)));
      stood = far.stood;
    }

-- the text of all events so far stands: of the last of them all lines do
whole_front : (h new : Option (List ℕ)) (a b : List ℕ) → new ≡ grown h (a ++ b) → GrownByFront (grown h a) new b
whole_front h new a b is = whole_grown (grown h a) new b (is ∙ sym (grown_grown h a b))

-- so the sink failed behind the lines of the last event
fails_behind : (s : Setup) (left : Option (List ℕ)) (faults : ℕ) (r : ReaderState) (state : TraceSeen) (x : Option Kept) (n : ℕ) (t : Traffic) (sink : Change) (events : List TraceEvent) (far : SoFar s left faults r state x n t) → events ≡ far.events
    → length r.kept ≤ MOST_LINE_BYTES + 1 → 2 < n → sink.old ≡ t.sink.old → sink.new ≡ t.sink.new → FailedOnce sink → BrokeInLines s (since left faults r) (traffic_of t.old_log t.log sink)
fails_behind s left faults r state x n t sink [] far are ahead behind old new failed = absurd (omega (arith, ap length are, far.size, far.number, behind))
fails_behind s left faults r state x n t sink (e ∷ events) far are ahead behind old new failed =
    let played : Played s x (e ∷ events) t = subst (λ (es : List TraceEvent). Played s x es t) (sym are) far.played in
    let goes : GoesOn s far.events (length events + 2) (since left faults r) = so_far s left faults r state x n t far (length events + 2) ahead (omega (arith, ap length are)) in
    record {
      events = events;
      event = e;
      goes = subst (λ (es : List TraceEvent). GoesOn s es (length events + 2) (since left faults r)) (sym are) goes;
      cut = record {
        replies = played.replies;
        told = record { each = played.told.each; told = played.told.told };
        wrote = whole_front sink.old sink.new (lines_of_events s events) (lines_behind s events e)
            (new ∙ (played.wrote ∙ (ap (λ h. grown h (lines_of_events s (e ∷ events))) (sym old) ∙ ap (grown sink.old) (lines_more s events e))));
      };
      failed = failed;
    }

-- there is no line that may be looked at, or the sink failed before the source was asked for one
pub far_behind : (s : Setup) (left : Option (List ℕ)) (faults : ℕ) (r new : ReaderState) (state : TraceSeen) (x : Option Kept) (n : ℕ) (old_log log : Log) (first held kept : Option (List ℕ)) (before count now : ℕ) (line : List ℕ) (e : ReplayError)
    → SoFar s left faults r state x n (traffic_of old_log log (changed first held before count)) → length new.kept ≤ MOST_LINE_BYTES + 1 → count ≡ before → TakesBehind r new n line (changed held kept count now) (Err e)
    → Plays s x (since left faults new) (traffic_of old_log log (changed first kept before now)) (Err e)
far_behind s left faults r new state x n old_log log first held kept before count now line error.Write far ahead stood takes =
    let far2 : SoFar s left faults new state x n (traffic_of old_log log (changed first held before count)) = subst (λ (q : ReaderState). SoFar s left faults q state x n (traffic_of old_log log (changed first held before count))) (sym takes.0) far in
    fails_behind s left faults new state x n (traffic_of old_log log (changed first held before count)) (changed first kept before now) far2.events far2 refl ahead takes.1.behind refl takes.1.held (takes.1.failed ∙ ap raised stood)
far_behind s left faults r new state x n old_log log first held kept before count now line error.Read far ahead stood takes =
    far_halts s left faults r new state x n (traffic_of old_log log (changed first kept before now)) line error.Read (far_same s left faults r state x n old_log log first held kept before count now takes.1.0 takes.1.1 far) ahead (takes.1.1 ∙ stood) takes.0
far_behind s left faults r new state x n old_log log first held kept before count now line error.NoMemory far ahead stood takes =
    far_halts s left faults r new state x n (traffic_of old_log log (changed first kept before now)) line error.NoMemory (far_same s left faults r state x n old_log log first held kept before count now takes.1.0 takes.1.1 far) ahead (takes.1.1 ∙ stood) takes.0
far_behind s left faults r new state x n old_log log first held kept before count now line (error.Trace l f) far ahead stood takes =
    far_halts s left faults r new state x n (traffic_of old_log log (changed first kept before now)) line (error.Trace l f) (far_same s left faults r state x n old_log log first held kept before count now takes.1.0 takes.1.1 far) ahead (takes.1.1 ∙ stood) takes.0
far_behind s left faults r new state x n old_log log first held kept before count now line (error.Limit w) far ahead stood takes =
    far_halts s left faults r new state x n (traffic_of old_log log (changed first kept before now)) line (error.Limit w) (far_same s left faults r state x n old_log log first held kept before count now takes.1.0 takes.1.1 far) ahead (takes.1.1 ∙ stood) takes.0

-- ---- behind the last line

-- the source was read to its end, and what it had are the lines so far
read_whole : (s : Setup) (left : Option (List ℕ)) (faults : ℕ) (r new : ReaderState) (state : TraceSeen) (x : Option Kept) (n : ℕ) (t : Traffic) (far : SoFar s left faults r state x n t) → (lines_of far.given.bytes ≡ far.first ∷ (far.lines ++ []))
read_whole s left faults r new state x n t far = own_lines left r (far.first ∷ far.lines) far.given ∙ ap (λ ls. far.first ∷ ls) (sym (append-nil far.lines))

-- how the trace ends
pub far_finishes : (s : Setup) (left : Option (List ℕ)) (faults : ℕ) (r new : ReaderState) (state : TraceSeen) (x : Option Kept) (n : ℕ) (t : Traffic) (line : List ℕ) (result : Result (Unit {0}) ReplayError) → SoFar s left faults r state x n t → Stood t.sink
    → IsAtEnd r new line → ((events : List TraceEvent) → SumsUp state events → FinishesAt events n result) → Plays s x (since left faults new) t result
far_finishes s left faults r new state x n t line result far stood end finishes = go result (finishes far.events far.state_stands)
  where
    bytes : List ℕ
    bytes = far.given.bytes

    are : lines_of bytes ≡ far.first ∷ (far.lines ++ [])
    are = read_whole s left faults r new state x n t far

    stop_is : (o : Option TraceFault) → fault_at_end far.events ≡ o → stop s bytes ≡ option_map (at_fault n) o
    stop_is o is =
        ap (stop_in s) are
        ∙ (stop_placed s far.first far.lines [] far.events far.placed ∙ (ap (λ k. option_map (at_fault k) (fault_at_end far.events)) (sym far.number) ∙ ap (option_map (at_fault n)) is))

    events_are : events_of s bytes ≡ far.events
    events_are = ap (events_in s) are ∙ events_placed s far.first far.lines [] far.events far.placed

    count : length (lines_of bytes) ≡ length far.events + 1
    count = let same : length (lines_of bytes) ≡ length (far.first ∷ far.lines) = ap length (own_lines left r (far.first ∷ far.lines) far.given) in omega (arith, same, far.size)

    gave : Gave (since left faults new) bytes
    gave = gave_all (since left faults new) r new (far.first ∷ far.lines) line far.given refl end

    go : (result : Result (Unit {0}) ReplayError) → FinishesAt far.events n result → Plays s x (since left faults new) t result
    go (Ok done) none = record {
      events = far.events;
      ends = record { bytes = bytes; read = gave; none = stop_is None none; are = events_are; count = count; stood = end.stood ∙ far.stood };
      played = far.played;
      stood = stood;
    }
    go (Err (error.Trace l f)) is =
        subst (λ (k : ℕ). PlayedTo s (at_fault k f) (since left faults new) t) (sym is.0)
        (record {
          events = far.events;
          stops = record {
            bytes = bytes;
            read = gave_so_many (since left faults new) bytes n gave (omega (arith, count, far.number, far.size));
            here = stop_is (Some f) is.1;
            are = events_are;
            stood = end.stood ∙ far.stood;
          };
          went = went_out s x far.events t far.played;
          stood = stood;
        })
    go (Err error.Read) is = absurd is
    go (Err error.Write) is = absurd is
    go (Err error.NoMemory) is = absurd is
    go (Err (error.Limit w)) is = absurd is

-- ---- the event of a line

-- what is known of the line's event, which was read and is in its place: behind those before it, its line has it unless its chain would have too many layers
pub record LineHas (l : LineStep) (e : TraceEvent) (n : ℕ) : Type 0 where
  pub read : read_line l.text ≡ Ok e
  pub grammar : IsEvent e
  pub accepted : (before : List TraceEvent) → SumsUp l.old_state before → Accepted l.state before e n

here_within : (l : LineStep) (e : TraceEvent) (n : ℕ) → LineHas l e n → exceeds_layers l.setup e ≡ false → (events : List TraceEvent) → SumsUp l.old_state events → line_after l.setup events l.text ≡ Ok e
here_within l e n has within events stands =
    let a : Accepted l.state events e n = has.accepted events stands in line_placed l.setup events l.text e has.read a.fault a.names within

here_long : (l : LineStep) (e : TraceEvent) (n : ℕ) → LineHas l e n → exceeds_layers l.setup e ≡ true → (events : List TraceEvent) → SumsUp l.old_state events → line_after l.setup events l.text ≡ Err Layers
here_long l e n has long events stands =
    let a : Accepted l.state events e n = has.accepted events stands in line_layered l.setup events l.text e has.read a.fault a.names long

follows : (l : LineStep) (e : TraceEvent) (n : ℕ) → LineHas l e n → (events : List TraceEvent) → SumsUp l.old_state events → IsTrace events → IsTrace (e ∷ events)
follows l e n has events stands trace = trace_next events e trace has.grammar (has.accepted events stands).fault

-- such a step
abbrev pub step_of : LineStep → TraceEvent → Step
step_of l e = record { setup = l.setup; old = l.old; new = l.new; event = e; traffic = l.traffic }

-- by what its replay came to
pub line_of_step : (l : LineStep) (e : TraceEvent) (n : ℕ) (r : Result (Unit {0}) ReplayError) → LineHas l e n → Steps (step_of l e) r → PlaysLine l r
line_of_step l e n (Ok done) has steps = (
  λ start events stands played. record {
    event = e;
    here = here_within l e n has steps.2 events stands;
    stands = (has.accepted events stands).stands;
    played = steps.0 start events played (follows l e n has events stands played.trace);
  },
  steps.1,
)
line_of_step l e n (Err error.Write) has steps = (
  λ start events stands played. record { event = e; here = here_within l e n has steps.2 events stands; cut = steps.0 start events played (follows l e n has events stands played.trace) },
  steps.1,
)
line_of_step l e n (Err (error.Limit which.Chain)) has steps = (
  λ start events stands played. record { here = here_long l e n has steps.2 events stands; went = steps.0 start events played (follows l e n has events stands played.trace) },
  steps.1,
)
line_of_step l e n (Err error.NoMemory) has steps = (
  λ start events stands played. cut start events stands (exceeds_layers l.setup e) refl (steps.0 start events played (follows l e n has events stands played.trace)),
  steps.1,
)
  where
    cut : (start : Start) (events : List TraceEvent) → SumsUp l.old_state events → (long : Bool) → exceeds_layers l.setup e ≡ long
        → RanOutBehind l.setup events (cond long None (Some e)) (through start l.traffic) → LineRanOut l events (through start l.traffic)
    cut start events stands true is out = inl out
    cut start events stands false is out = inr (record { event = e; here = here_within l e n has is events stands; cut = out })
line_of_step l e n (Err error.Read) has steps = absurd steps
line_of_step l e n (Err (error.Trace line f)) has steps = absurd steps
line_of_step l e n (Err (error.Limit which.Names)) has steps = absurd steps
line_of_step l e n (Err (error.Limit which.Manifests)) has steps = absurd steps
line_of_step l e n (Err (error.Limit which.Lines)) has steps = absurd steps
line_of_step l e n (Err (error.Limit which.LineBytes)) has steps = absurd steps
line_of_step l e n (Err (error.Limit which.Events)) has steps = absurd steps
line_of_step l e n (Err (error.Limit which.Devices)) has steps = absurd steps

-- ---- a line of which nothing goes out

-- nothing was told and nothing written
pub record IsStill (t : Traffic) : Type 0 where
  pub log : t.log ≡ t.old_log
  pub held : t.sink.new ≡ t.sink.old

-- the line is no event
pub line_unread : (l : LineStep) (f : TraceFault) → read_line l.text ≡ Err f → IsStill l.traffic → Behind l (λ events t. LineStops l (Fault f) events t)
line_unread l f read still start events stands played =
    record { here = line_faulty l.setup events l.text f read; went = still_out start l.setup l.old events l.traffic played still.log still.held }

-- an event whose place is wrong
pub line_of_fault : (l : LineStep) (e : TraceEvent) (f : TraceFault) → read_line l.text ≡ Ok e → ((before : List TraceEvent) → SumsUp l.old_state before → fault_after before e ≡ Some f) → IsStill l.traffic
    → Behind l (λ events t. LineStops l (Fault f) events t)
line_of_fault l e f read fault still start events stands played =
    record { here = line_misplaced l.setup events l.text e f read (fault events stands); went = still_out start l.setup l.old events l.traffic played still.log still.held }

-- an event that would bring too many names
pub line_of_names : (l : LineStep) (e : TraceEvent) → read_line l.text ≡ Ok e → ((before : List TraceEvent) → SumsUp l.old_state before → (fault_after before e ≡ None) × (exceeds_names before e ≡ true)) → IsStill l.traffic
    → Behind l (λ events t. LineStops l Names events t)
line_of_names l e read names still start events stands played =
    let two = names events stands in
    record { here = line_exceeding l.setup events l.text e read two.0 two.1; went = still_out start l.setup l.old events l.traffic played still.log still.held }

-- memory ran out before the line's event was taken
pub line_ran_out : (l : LineStep) → IsStill l.traffic → Behind l (λ events t. LineRanOut l events t)
line_ran_out l still start events stands played = inl (ran_out_before start l.setup l.old events l.traffic played still.log still.held)
