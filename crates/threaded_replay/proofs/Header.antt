-- The first line of a stream file.
use Rattle.std.proofs.Common.{◌≡◌, ◌+◌, ◌≤◌, ℕ, Some, List, [], ◌∷◌, ◌++◌, length, refl, ap, inl, inr, arith}
use Rattle.std.specs.Prelude.{true, false, Err}
use Rattle.std.specs.Str.{bytes_eq}
use Rattle.replay_base.specs.Lines.{lines_of}
use Rattle.replay_base.specs.Reader.{IsAtEnd, ReaderState, TakesLine}
use Rattle.replay_base.specs.declared.limit.TheConstants.{MOST_LINE_BYTES}
use Rattle.replay_base.specs.declared.limit.Which.TheVariants as which
use Rattle.replay_model.specs.Stop.{Cause, LineBytes, Lines, cause_before}
use Rattle.replay_core.specs.Given.{IsBarred, TakesNext, source_of}
use Rattle.replay_core.proofs.Reading.{Given, LongNext, all_lines, behind_of, gave_all, gave_lines, gave_so_many, given_next, given_start, has_given, long_next, own_lines}
use Rattle.stream_model.specs.declared.limits.TheConstants.{HEADER}
use Rattle.stream_model.specs.declared.refusal.Refusal.{Refusal}
use Rattle.stream_model.specs.declared.refusal.Refusal.TheVariants as refusal
use Rattle.stream_model.specs.Refusals.{lines_in, refusal_before}
use Rattle.stream_model.proofs.Readings.{file_end, file_stop, header_barred, header_there, header_wrong, looked_at, too_long_line, too_many_lines}
use Rattle.threaded_replay.specs.declared.error.StreamError.{StreamError}
use Rattle.threaded_replay.specs.declared.error.StreamError.TheVariants as error
use Rattle.threaded_replay.specs.Errors.{error_at}
use Rattle.threaded_replay.specs.Reading.{FindsLine, IsRefused, ReadsNot, TakesHeader}

-- a first line was taken that is refused for this cause, whatever follows
record StopsWhatever (old new : ReaderState) (line : List ℕ) (c : Refusal) : Type 0 where
  pub takes : TakesLine old new line
  pub refused : (more : List (List ℕ)) → lines_in (line ∷ more) ≡ Err (record { line = 1; cause = c })

stops_taken : (old new : ReaderState) (line : List ℕ) (c : Refusal) → old.finished ≡ false → old.kept ≡ [] → length new.kept ≤ MOST_LINE_BYTES + 1 → StopsWhatever old new line c → IsRefused (source_of old new) (error_at 1 c)
stops_taken old new line c unread none ahead stops =
    let g : Given old.left new (line ∷ []) = given_next old.left old new [] line (given_start old.left old unread none refl) stops.takes in
    record {
      bytes = g.bytes ++ behind_of new;
      place = record { line = 1; cause = c };
      read = has_given (source_of old new) new (line ∷ []) 1 g refl (omega arith) ahead;
      here = file_stop (g.bytes ++ behind_of new) (line ∷ lines_of (behind_of new)) (record { line = 1; cause = c }) (all_lines old.left new (line ∷ []) g) (stops.refused (lines_of (behind_of new)));
      said = refl;
      stood = stops.takes.stood;
    }

-- the first line isn't looked at
barred_first : (old new : ReaderState) (line : List ℕ) (cause : Cause) (c : Refusal) → ((l : List ℕ) → cause_before 1 l ≡ Some cause → refusal_before 1 l ≡ Some c) → old.finished ≡ false → old.kept ≡ [] → length new.kept ≤ MOST_LINE_BYTES + 1
    → IsBarred old new 1 line cause → IsRefused (source_of old new) (error_at 1 c)
barred_first old new line cause c means unread none ahead (inl bars) =
    stops_taken old new line c unread none ahead (record { takes = bars.takes; refused = λ more. header_barred line more c (means line bars.cause) })
barred_first old new line cause c means unread none ahead (inr meets) =
    let next : LongNext (source_of old new) [] 1 = long_next (source_of old new) old new [] 1 meets.place (given_start old.left old unread none refl) refl (omega arith) meets.long in
    record {
      bytes = next.bytes;
      place = record { line = 1; cause = c };
      read = next.read;
      here = file_stop next.bytes (next.line ∷ next.more) (record { line = 1; cause = c }) next.are (header_barred next.line next.more c (means next.line (meets.cause next.line next.long)));
      said = refl;
      stood = meets.long.stood;
    }

pub header_halts : (old new : ReaderState) (line : List ℕ) (e : StreamError) → old.finished ≡ false → old.kept ≡ [] → length new.kept ≤ MOST_LINE_BYTES + 1 → FindsLine old new 1 line (Err e) → ReadsNot (source_of old new) e
header_halts old new line error.Read unread none ahead breaks =
    record { given = []; gave = gave_lines (source_of old new) old new [] (given_start old.left old unread none refl) refl breaks; lines = []; none = refl; failed = breaks.failed }
header_halts old new line (error.Limit which.Lines) unread none ahead bars = barred_first old new line Lines refusal.Lines (too_many_lines 1) unread none ahead bars
header_halts old new line (error.Limit which.LineBytes) unread none ahead bars = barred_first old new line LineBytes refusal.LineBytes (too_long_line 1) unread none ahead bars
header_halts old new line error.NoMemory unread none ahead bars = absurd bars
header_halts old new line (error.Trace l f) unread none ahead bars = absurd bars
header_halts old new line (error.Section l) unread none ahead bars = absurd bars
header_halts old new line (error.NoDevice l) unread none ahead bars = absurd bars
header_halts old new line (error.CrossDevice l) unread none ahead bars = absurd bars
header_halts old new line (error.NotInStream l) unread none ahead bars = absurd bars
header_halts old new line (error.Limit which.Manifests) unread none ahead bars = absurd bars
header_halts old new line (error.Limit which.Names) unread none ahead bars = absurd bars
header_halts old new line (error.Limit which.Chain) unread none ahead bars = absurd bars
header_halts old new line (error.Limit which.Events) unread none ahead bars = absurd bars
header_halts old new line (error.Limit which.Devices) unread none ahead bars = absurd bars

-- it is another
pub header_refused : (old new : ReaderState) (line : List ℕ) → old.finished ≡ false → old.kept ≡ [] → length new.kept ≤ MOST_LINE_BYTES + 1 → TakesNext old new 1 line → bytes_eq line HEADER ≡ false → IsRefused (source_of old new) (error_at 1 refusal.Section)
header_refused old new line unread none ahead takes wrong =
    stops_taken old new line refusal.Section unread none ahead (record { takes = takes.takes; refused = λ more. header_wrong line more (looked_at 1 line takes.looked) wrong })

-- there is none
pub header_missing : (old new : ReaderState) (line : List ℕ) → old.finished ≡ false → old.kept ≡ [] → IsAtEnd old new line → IsRefused (source_of old new) (error_at 1 refusal.Section)
header_missing old new line unread none end =
    let g : Given old.left old [] = given_start old.left old unread none refl in
    let are : lines_of g.bytes ≡ [] = own_lines old.left old [] g in
    let count : length (lines_of g.bytes) ≡ 0 = ap length are in
    let gave = gave_all (source_of old new) old new [] line g refl end in
    record {
      bytes = g.bytes;
      place = record { line = 1; cause = refusal.Section };
      read = gave_so_many (source_of old new) g.bytes 1 gave (omega (arith, count));
      here = file_end g.bytes [] [] are refl;
      said = refl;
      stood = end.stood;
    }

-- it is there
pub header_taken : (old new : ReaderState) (line : List ℕ) → TakesNext old new 1 line → bytes_eq line HEADER ≡ true → TakesHeader old new
header_taken old new line takes there = record { line = line; takes = takes.takes; here = header_there line (looked_at 1 line takes.looked) there; fine = takes.fine }
