-- The first line of a trace.
use Rattle.std.proofs.Common.{◌≡◌, ◌∙◌, ℕ, ◌+◌, ◌≤◌, Some, None, List, [], ◌∷◌, ◌++◌, length, refl, ap, inl, inr, arith}
use Rattle.std.specs.Prelude.{Bool, true, false, if◌then◌else◌, Option, Err}
use Rattle.std.specs.Option.{option_map}
use Rattle.std.specs.Str.{bytes_eq}
use Rattle.replay_base.specs.Lines.{lines_of}
use Rattle.replay_base.specs.Reader.{IsAtEnd, ReaderState, TakesLine}
use Rattle.replay_base.specs.declared.limit.TheConstants.{MOST_LINE_BYTES}
use Rattle.replay_base.specs.declared.limit.Which.TheVariants as which
use Rattle.trace_format.specs.declared.fault.TraceFault.TheVariants as fault
use Rattle.trace_format.specs.Accepting.{header, header_fault}
use Rattle.replay_base.specs.Changes.{Stood}
use Rattle.replay_model.specs.Setup.{Setup}
use Rattle.replay_model.specs.Stop.{Cause, Fault, LineBytes, Lines, at_fault, cause_before, cause_or, events_behind, events_in, events_of, header_cause, placed_behind, stop, stop_behind, stop_in}
use Rattle.chain_session.specs.declared.kept.Kept.{Kept}
use Rattle.replay_core.specs.declared.error.ReplayError.{ReplayError}
use Rattle.replay_core.specs.declared.error.ReplayError.TheVariants as error
use Rattle.replay_core.specs.Given.{Halts, IsBarred, StopsAt, TakesHeader, TakesLineOr, TakesNext, source_of}
use Rattle.replay_core.specs.Plays.{Plays}
use Rattle.replay_core.specs.Traffic.{Traffic}
use Rattle.replay_core.proofs.Playing.{nothing_out}
use Rattle.replay_core.proofs.Reading.{Given, LongNext, all_lines, behind_of, gave_all, gave_lines, gave_so_many, given_next, given_start, has_given, long_next, own_lines}

-- ---- by the first line

-- lines whose first isn't looked at, or isn't the header, stop there
stop_first : (s : Setup) (bytes line : List ℕ) (more : List (List ℕ)) (c : Cause) → lines_of bytes ≡ line ∷ more → header_cause (line ∷ more) ≡ Some c → stop s bytes ≡ Some (record { line = 1; cause = c })
stop_first s bytes line more c are is = ap (stop_in s) are ∙ ap (λ o. stop_behind s o (line ∷ more)) is

events_first : (s : Setup) (bytes line : List ℕ) (more : List (List ℕ)) (c : Cause) → lines_of bytes ≡ line ∷ more → header_cause (line ∷ more) ≡ Some c → events_of s bytes ≡ []
events_first s bytes line more c are is = ap (events_in s) are ∙ ap (λ o. events_behind s o (line ∷ more)) is

cause_barred : (line : List ℕ) (more : List (List ℕ)) (c : Cause) → cause_before 1 line ≡ Some c → header_cause (line ∷ more) ≡ Some c
cause_barred line more c is = ap (λ o. cause_or o (option_map Fault (header_fault (line ∷ more)))) is

-- why a first line that may be looked at stops, by whether it is the header
by_header : Bool → Option Cause
by_header is = option_map Fault (if is then None else Some fault.Header)

cause_wrong : (line : List ℕ) (more : List (List ℕ)) → cause_before 1 line ≡ None → bytes_eq line header ≡ false → header_cause (line ∷ more) ≡ Some (Fault fault.Header)
unfolding by_header
cause_wrong line more looked wrong = ap (λ o. cause_or o (option_map Fault (header_fault (line ∷ more)))) looked ∙ ap by_header wrong

cause_none : (line : List ℕ) (more : List (List ℕ)) → cause_before 1 line ≡ None → bytes_eq line header ≡ true → header_cause (line ∷ more) ≡ None
unfolding by_header
cause_none line more looked there = ap (λ o. cause_or o (option_map Fault (header_fault (line ∷ more)))) looked ∙ ap by_header there

-- ---- by what the reader took

-- a first line was taken that stops the trace for this cause, whatever follows
record StopsWhatever (old new : ReaderState) (line : List ℕ) (c : Cause) : Type 0 where
  pub takes : TakesLine old new line
  pub cause : (more : List (List ℕ)) → header_cause (line ∷ more) ≡ Some c

-- a line was taken, and it stops the trace
stops_taken : (s : Setup) (old new : ReaderState) (line : List ℕ) (c : Cause) → old.finished ≡ false → old.kept ≡ [] → length new.kept ≤ MOST_LINE_BYTES + 1 → StopsWhatever old new line c → StopsAt s (record { line = 1; cause = c }) [] (source_of old new)
stops_taken s old new line c unread none ahead stops =
    let g : Given old.left new (line ∷ []) = given_next old.left old new [] line (given_start old.left old unread none refl) stops.takes in
    let are : lines_of (g.bytes ++ behind_of new) ≡ line ∷ lines_of (behind_of new) = all_lines old.left new (line ∷ []) g in
    record {
      bytes = g.bytes ++ behind_of new;
      read = has_given (source_of old new) new (line ∷ []) 1 g refl (omega arith) ahead;
      here = stop_first s (g.bytes ++ behind_of new) line (lines_of (behind_of new)) c are (stops.cause (lines_of (behind_of new)));
      are = events_first s (g.bytes ++ behind_of new) line (lines_of (behind_of new)) c are (stops.cause (lines_of (behind_of new)));
      stood = stops.takes.stood;
    }

-- the first line isn't looked at
barred_first : (s : Setup) (old new : ReaderState) (line : List ℕ) (c : Cause) → old.finished ≡ false → old.kept ≡ [] → length new.kept ≤ MOST_LINE_BYTES + 1 → IsBarred old new 1 line c → StopsAt s (record { line = 1; cause = c }) [] (source_of old new)
barred_first s old new line c unread none ahead (inl bars) = stops_taken s old new line c unread none ahead (record { takes = bars.takes; cause = λ more. cause_barred line more c bars.cause })
barred_first s old new line c unread none ahead (inr meets) =
    let next : LongNext (source_of old new) [] 1 = long_next (source_of old new) old new [] 1 meets.place (given_start old.left old unread none refl) refl (omega arith) meets.long in
    let is : header_cause (next.line ∷ next.more) ≡ Some c = cause_barred next.line next.more c (meets.cause next.line next.long) in
    record {
      bytes = next.bytes;
      read = next.read;
      here = stop_first s next.bytes next.line next.more c next.are is;
      are = events_first s next.bytes next.line next.more c next.are is;
      stood = meets.long.stood;
    }

pub header_halts : (s : Setup) (old new : ReaderState) (line : List ℕ) (e : ReplayError) → old.finished ≡ false → old.kept ≡ [] → length new.kept ≤ MOST_LINE_BYTES + 1 → TakesLineOr old new 1 line (Err e) → Halts s [] (source_of old new) e
header_halts s old new line error.Read unread none ahead breaks =
    record { lines = []; gave = gave_lines (source_of old new) old new [] (given_start old.left old unread none refl) refl breaks; placed = refl; failed = breaks.failed }
header_halts s old new line (error.Limit which.Lines) unread none ahead bars = record { line = 1; stops = barred_first s old new line Lines unread none ahead bars }
header_halts s old new line (error.Limit which.LineBytes) unread none ahead bars = record { line = 1; stops = barred_first s old new line LineBytes unread none ahead bars }
header_halts s old new line error.Write unread none ahead bars = absurd bars
header_halts s old new line error.NoMemory unread none ahead bars = absurd bars
header_halts s old new line (error.Trace l f) unread none ahead bars = absurd bars
header_halts s old new line (error.Limit which.Manifests) unread none ahead bars = absurd bars
header_halts s old new line (error.Limit which.Names) unread none ahead bars = absurd bars
header_halts s old new line (error.Limit which.Chain) unread none ahead bars = absurd bars
header_halts s old new line (error.Limit which.Events) unread none ahead bars = absurd bars
header_halts s old new line (error.Limit which.Devices) unread none ahead bars = absurd bars

-- it is another
pub header_wrong : (s : Setup) (old new : ReaderState) (line : List ℕ) → old.finished ≡ false → old.kept ≡ [] → length new.kept ≤ MOST_LINE_BYTES + 1 → TakesNext old new 1 line → bytes_eq line header ≡ false → StopsAt s (at_fault 1 fault.Header) [] (source_of old new)
header_wrong s old new line unread none ahead takes wrong =
    stops_taken s old new line (Fault fault.Header) unread none ahead (record { takes = takes.takes; cause = λ more. cause_wrong line more takes.looked wrong })

-- there is none
pub header_missing : (s : Setup) (old new : ReaderState) (line : List ℕ) → old.finished ≡ false → old.kept ≡ [] → IsAtEnd old new line → StopsAt s (at_fault 1 fault.Header) [] (source_of old new)
header_missing s old new line unread none end =
    let g : Given old.left old [] = given_start old.left old unread none refl in
    let are : lines_of g.bytes ≡ [] = own_lines old.left old [] g in
    let gave = gave_all (source_of old new) old new [] line g refl end in
    let count : length (lines_of g.bytes) ≡ 0 = ap length are in
    record {
      bytes = g.bytes;
      read = gave_so_many (source_of old new) g.bytes 1 gave (omega (arith, count));
      here = ap (stop_in s) are;
      are = ap (events_in s) are;
      stood = end.stood;
    }

-- it is there
pub header_there : (s : Setup) (old new : ReaderState) (line : List ℕ) → TakesNext old new 1 line → bytes_eq line header ≡ true → TakesHeader s old new
header_there s old new line takes there =
    record { line = line; takes = takes.takes; placed = ap (λ o. placed_behind s o []) (cause_none line [] takes.looked there); fine = takes.fine }

-- ---- a replay that ends there

pub halts_first : (s : Setup) (x : Option Kept) (old new : ReaderState) (e : ReplayError) (t : Traffic) → Halts s [] (source_of old new) e → t.log ≡ t.old_log → t.sink.new ≡ t.sink.old → Stood t.sink → Plays s x (source_of old new) t (Err e)
halts_first s x old new error.Read t breaks log held stood = record { events = []; breaks = breaks; went = nothing_out s t log held; stood = stood }
halts_first s x old new (error.Trace line f) t stops log held stood = record { events = []; stops = stops; went = nothing_out s t log held; stood = stood }
halts_first s x old new (error.Limit which.Lines) t stops log held stood = record { line = stops.line; played = record { events = []; stops = stops.stops; went = nothing_out s t log held; stood = stood } }
halts_first s x old new (error.Limit which.LineBytes) t stops log held stood = record { line = stops.line; played = record { events = []; stops = stops.stops; went = nothing_out s t log held; stood = stood } }
halts_first s x old new error.Write t none log held stood = absurd none
halts_first s x old new error.NoMemory t none log held stood = absurd none
halts_first s x old new (error.Limit which.Manifests) t none log held stood = absurd none
halts_first s x old new (error.Limit which.Names) t none log held stood = absurd none
halts_first s x old new (error.Limit which.Chain) t none log held stood = absurd none
halts_first s x old new (error.Limit which.Events) t none log held stood = absurd none
halts_first s x old new (error.Limit which.Devices) t none log held stood = absurd none
