-- How far the reading of a stream file has come.
use Rattle.std.proofs.Common.{◌≡◌, ◌∙◌, ◌+◌, ◌≤◌, ℕ, Option, Some, List, [], ◌∷◌, ◌++◌, length, refl, sym, ap, append_assoc, inl, inr, arith}
use Rattle.std.specs.Prelude.{false, Result, Ok, Err, IfErr, IfOk}
use Rattle.std.proofs.lemmas.List.{length-append}
use Rattle.replay_base.specs.Changes.{Change, Gave, Stood, changed}
use Rattle.replay_base.specs.Lines.{lines_of}
use Rattle.replay_base.specs.Reader.{IsAtEnd, ReaderState, TakesLine}
use Rattle.replay_base.specs.declared.limit.TheConstants.{MOST_LINE_BYTES}
use Rattle.replay_base.specs.declared.limit.Which.TheVariants as which
use Rattle.replay_model.specs.Stop.{Cause, LineBytes, Lines, cause_before}
use Rattle.replay_core.specs.Given.{IsBarred, TakesNext}
use Rattle.replay_core.proofs.Reading.{Given, LongNext, all_lines, behind_of, gave_all, gave_lines, gave_so_many, given_next, given_start, has_given, long_next, own_lines}
use Rattle.stream_model.specs.declared.refusal.Refusal.{Refusal}
use Rattle.stream_model.specs.declared.refusal.Refusal.TheVariants as refusal
use Rattle.stream_model.specs.FileLines.{FileLine, file_line}
use Rattle.stream_model.specs.Order.{refusal_at_end}
use Rattle.stream_model.specs.Refusals.{ended, file_lines, lines_in, line_at, placed, refusal_before}
use Rattle.stream_model.proofs.Readings.{file_end, file_stop, line_barred, line_looked, lines_next, lines_stop, looked_at, too_long_line, too_many_lines}
use Rattle.threaded_replay.specs.declared.error.StreamError.{StreamError}
use Rattle.threaded_replay.specs.declared.error.StreamError.TheVariants as error
use Rattle.threaded_replay.specs.declared.intake.Intake.{Intake}
use Rattle.threaded_replay.specs.declared.stream_file.StreamFile.{StreamFile}
use Rattle.threaded_replay.specs.declared.error.NotTaken.{NotTaken}
use Rattle.threaded_replay.specs.declared.error.NotTaken.TheVariants as why
use Rattle.threaded_replay.specs.Errors.{error_at, error_of}
use Rattle.threaded_replay.specs.Files.{file_parts}
use Rattle.threaded_replay.specs.Intakes.{CanEnd, CannotEnd, EndsNot, IsIntakeOf, TakesText, TookText}
use Rattle.threaded_replay.specs.Reading.{FindsLine, IsRefused, ReadsFile, ReadsNot, TakesHeader}

-- what went on in the source of a reader since it had these bytes left, and had failed so often
abbrev pub since : Option (List ℕ) → ℕ → ReaderState → Change
since left faults r = changed left r.left faults r.faults

-- Of a source that had these bytes left, and had failed so often, these lines were read, and they are what the intake has; the next line has this number.
pub record SoFar (left : Option (List ℕ)) (faults : ℕ) (r : ReaderState) (i : Intake) (n : ℕ) : Type 0 where
  pub first : List ℕ
  pub text : List (List ℕ)
  pub lines : List FileLine
  pub given : Given left r (first ∷ text)
  pub read : lines_in (first ∷ text) ≡ Ok lines
  pub number : n ≡ 2 + length text
  pub stands : IsIntakeOf i lines
  pub stood : r.faults ≡ faults

-- behind the header
pub far_start : (old r : ReaderState) (i : Intake) → old.finished ≡ false → old.kept ≡ [] → TakesHeader old r → IsIntakeOf i [] → SoFar old.left old.faults r i 2
far_start old r i unread none takes stands = record {
  first = takes.line;
  text = [];
  lines = [];
  given = given_next old.left old r [] takes.line (given_start old.left old unread none refl) takes.takes;
  read = takes.here;
  number = refl;
  stands = stands;
  stood = takes.takes.stood;
}

-- the line that comes next, by its number
here_at : (n : ℕ) (text : List (List ℕ)) (lines : List FileLine) (line : List ℕ) (r : Result FileLine Refusal) → n ≡ 2 + length text → line_at n lines line ≡ r → line_at (2 + length text) lines line ≡ r
here_at n text lines line r number is = ap (λ k. line_at k lines line) (sym number) ∙ is

-- one line more
pub far_next : (left : Option (List ℕ)) (faults : ℕ) (r new : ReaderState) (i j : Intake) (n : ℕ) (line : List ℕ) (far : SoFar left faults r i n) → TakesNext r new n line → TookText j far.lines line → SoFar left faults new j (n + 1)
far_next left faults r new i j n line far takes took = record {
  first = far.first;
  text = far.text ++ line ∷ [];
  lines = took.line ∷ far.lines;
  given = given_next left r new (far.first ∷ far.text) line far.given takes.takes;
  read = lines_next far.first far.text far.lines line took.line far.read
      (here_at n far.text far.lines line (Ok took.line) far.number (line_looked n far.lines line (Ok took.line) (looked_at n line takes.looked) took.here));
  number = let longer : length (far.text ++ line ∷ []) ≡ length far.text + 1 = length-append far.text (line ∷ []) in omega (arith, longer, far.number);
  stands = took.is;
  stood = takes.takes.stood ∙ far.stood;
}

-- ---- a line that is refused

-- a line that was taken is refused
refused_at : (left : Option (List ℕ)) (faults : ℕ) (r new : ReaderState) (i : Intake) (n : ℕ) (line : List ℕ) (c : Refusal) (far : SoFar left faults r i n) → TakesLine r new line → length new.kept ≤ MOST_LINE_BYTES + 1 → line_at (2 + length far.text) far.lines line ≡ Err c
    → IsRefused (since left faults new) (error_at n c)
refused_at left faults r new i n line c far takes ahead here =
    let g : Given left new (far.first ∷ (far.text ++ line ∷ [])) = given_next left r new (far.first ∷ far.text) line far.given takes in
    let are : lines_of (g.bytes ++ behind_of new) ≡ far.first ∷ (far.text ++ line ∷ lines_of (behind_of new)) =
    all_lines left new (far.first ∷ (far.text ++ line ∷ [])) g ∙ ap (λ ls. far.first ∷ ls) (append_assoc far.text (line ∷ []) (lines_of (behind_of new))) in
    let longer : length (far.text ++ line ∷ []) ≡ length far.text + 1 = length-append far.text (line ∷ []) in
    record {
      bytes = g.bytes ++ behind_of new;
      place = record { line = n; cause = c };
      read = has_given (since left faults new) new (far.first ∷ (far.text ++ line ∷ [])) n g refl (omega (arith, longer, far.number)) ahead;
      here = file_stop (g.bytes ++ behind_of new) (far.first ∷ (far.text ++ line ∷ lines_of (behind_of new))) (record { line = n; cause = c }) are
          (lines_stop far.first far.text (lines_of (behind_of new)) far.lines line c far.read here ∙ ap (λ k. Err (record { line = k; cause = c })) (sym far.number));
      said = refl;
      stood = takes.stood ∙ far.stood;
    }

pub far_refused : (left : Option (List ℕ)) (faults : ℕ) (r new : ReaderState) (i : Intake) (n : ℕ) (line : List ℕ) (c : Refusal) (far : SoFar left faults r i n) → TakesNext r new n line → length new.kept ≤ MOST_LINE_BYTES + 1 → placed far.lines (file_line line) ≡ Err c
    → IsRefused (since left faults new) (error_at n c)
far_refused left faults r new i n line c far takes ahead is =
    refused_at left faults r new i n line c far takes.takes ahead (here_at n far.text far.lines line (Err c) far.number (line_looked n far.lines line (Err c) (looked_at n line takes.looked) is))

-- want of memory
pub far_ran_out : (left : Option (List ℕ)) (faults : ℕ) (r new : ReaderState) (i : Intake) (n : ℕ) (line : List ℕ) → SoFar left faults r i n → TakesNext r new n line → Stood (since left faults new)
far_ran_out left faults r new i n line far takes = takes.takes.stood ∙ far.stood

-- a line that isn't looked at is refused
barred : (left : Option (List ℕ)) (faults : ℕ) (r new : ReaderState) (i : Intake) (n : ℕ) (line : List ℕ) (cause : Cause) (c : Refusal) (far : SoFar left faults r i n) → ((l : List ℕ) → cause_before n l ≡ Some cause → refusal_before n l ≡ Some c)
    → length new.kept ≤ MOST_LINE_BYTES + 1 → IsBarred r new n line cause → IsRefused (since left faults new) (error_at n c)
barred left faults r new i n line cause c far means ahead (inl bars) =
    refused_at left faults r new i n line c far bars.takes ahead (here_at n far.text far.lines line (Err c) far.number (line_barred n far.lines line c (means line bars.cause)))
barred left faults r new i n line cause c far means ahead (inr meets) =
    let count : length (far.first ∷ far.text) ≤ n = omega (arith, far.number) in
    let next : LongNext (since left faults new) (far.first ∷ far.text) n = long_next (since left faults new) r new (far.first ∷ far.text) n meets.place far.given refl count meets.long in
    let here : line_at (2 + length far.text) far.lines next.line ≡ Err c =
    here_at n far.text far.lines next.line (Err c) far.number (line_barred n far.lines next.line c (means next.line (meets.cause next.line next.long))) in
    record {
      bytes = next.bytes;
      place = record { line = n; cause = c };
      read = next.read;
      here = file_stop next.bytes (far.first ∷ (far.text ++ next.line ∷ next.more)) (record { line = n; cause = c }) next.are
          (lines_stop far.first far.text next.more far.lines next.line c far.read here ∙ ap (λ k. Err (record { line = k; cause = c })) (sym far.number));
      said = refl;
      stood = meets.long.stood ∙ far.stood;
    }

-- there is no line that may be looked at
pub far_halts : (left : Option (List ℕ)) (faults : ℕ) (r new : ReaderState) (i : Intake) (n : ℕ) (line : List ℕ) (e : StreamError) → SoFar left faults r i n → length new.kept ≤ MOST_LINE_BYTES + 1 → FindsLine r new n line (Err e) → ReadsNot (since left faults new) e
far_halts left faults r new i n line error.Read far ahead breaks = record {
  given = far.first ∷ far.text;
  gave = gave_lines (since left faults new) r new (far.first ∷ far.text) far.given refl breaks;
  lines = far.lines;
  none = far.read;
  failed = grind (arith, breaks.failed, far.stood);
}
far_halts left faults r new i n line (error.Limit which.Lines) far ahead bars = barred left faults r new i n line Lines refusal.Lines far (too_many_lines n) ahead bars
far_halts left faults r new i n line (error.Limit which.LineBytes) far ahead bars = barred left faults r new i n line LineBytes refusal.LineBytes far (too_long_line n) ahead bars
far_halts left faults r new i n line error.NoMemory far ahead bars = absurd bars
far_halts left faults r new i n line (error.Trace l f) far ahead bars = absurd bars
far_halts left faults r new i n line (error.Section l) far ahead bars = absurd bars
far_halts left faults r new i n line (error.NoDevice l) far ahead bars = absurd bars
far_halts left faults r new i n line (error.CrossDevice l) far ahead bars = absurd bars
far_halts left faults r new i n line (error.NotInStream l) far ahead bars = absurd bars
far_halts left faults r new i n line (error.Limit which.Manifests) far ahead bars = absurd bars
far_halts left faults r new i n line (error.Limit which.Names) far ahead bars = absurd bars
far_halts left faults r new i n line (error.Limit which.Chain) far ahead bars = absurd bars
far_halts left faults r new i n line (error.Limit which.Events) far ahead bars = absurd bars
far_halts left faults r new i n line (error.Limit which.Devices) far ahead bars = absurd bars

-- ---- the end

-- the bytes of a source that was read to its end, and what they are read as
record AllRead (source : Change) (lines : List FileLine) (n : ℕ) : Type 0 where
  pub bytes : List ℕ
  pub gave : Gave source bytes
  pub few : length (lines_of bytes) ≤ n
  pub are : file_lines bytes ≡ ended n lines (refusal_at_end lines)
  pub stood : Stood source

all_read : (left : Option (List ℕ)) (faults : ℕ) (r new : ReaderState) (i : Intake) (n : ℕ) (line : List ℕ) (far : SoFar left faults r i n) → IsAtEnd r new line → AllRead (since left faults new) far.lines n
all_read left faults r new i n line far end =
    let own : lines_of far.given.bytes ≡ far.first ∷ far.text = own_lines left r (far.first ∷ far.text) far.given in
    let count : length (lines_of far.given.bytes) ≡ length (far.first ∷ far.text) = ap length own in
    let next : length (far.first ∷ far.text) + 1 ≡ n = omega (arith, far.number) in
    record {
      bytes = far.given.bytes;
      gave = gave_all (since left faults new) r new (far.first ∷ far.text) line far.given refl end;
      few = omega (arith, count, far.number);
      are = file_end far.given.bytes (far.first ∷ far.text) far.lines own far.read ∙ ap (λ k. ended k far.lines (refusal_at_end far.lines)) next;
      stood = end.stood ∙ far.stood;
    }

-- the file may end there
pub far_ends : (left : Option (List ℕ)) (faults : ℕ) (r new : ReaderState) (i : Intake) (n : ℕ) (line : List ℕ) (file : StreamFile) (far : SoFar left faults r i n) → IsAtEnd r new line → CanEnd far.lines file → ReadsFile (since left faults new) (file_parts file)
far_ends left faults r new i n line file far end can =
    let all = all_read left faults r new i n line far end in
    record {
      bytes = all.bytes;
      read = all.gave;
      lines = far.lines;
      are = all.are ∙ ap (ended n far.lines) can.none;
      made = can.are;
      stood = all.stood;
    }

-- it may not
pub far_cannot : (left : Option (List ℕ)) (faults : ℕ) (r new : ReaderState) (i : Intake) (n : ℕ) (line : List ℕ) (e : StreamError) (far : SoFar left faults r i n) → IsAtEnd r new line → CannotEnd far.lines n e → IsRefused (since left faults new) e
far_cannot left faults r new i n line e far end cannot =
    let all = all_read left faults r new i n line far end in
    record {
      bytes = all.bytes;
      place = record { line = n; cause = cannot.cause };
      read = gave_so_many (since left faults new) all.bytes n all.gave all.few;
      here = all.are ∙ ap (ended n far.lines) cannot.is;
      said = cannot.said;
      stood = all.stood;
    }

-- no refusal is said as a fault of reading
never_read : (n : ℕ) (c : Refusal) → error.Read ≡ error_at n c → ⊥
never_read n refusal.Lines is = cc
never_read n refusal.LineBytes is = cc
never_read n (refusal.Fault f) is = cc
never_read n refusal.Section is = cc
never_read n refusal.NoDevice is = cc
never_read n refusal.NotInStream is = cc
never_read n refusal.CrossDevice is = cc
never_read n refusal.Names is = cc
never_read n refusal.Events is = cc
never_read n refusal.Devices is = cc

-- what came of the end of the source: the file
pub far_finished : (left : Option (List ℕ)) (faults : ℕ) (r new : ReaderState) (i : Intake) (n : ℕ) (line : List ℕ) (ended : Result StreamFile StreamError) → SoFar left faults r i n → IsAtEnd r new line
    → IfOk ended (λ file. (lines : List FileLine) → IsIntakeOf i lines → CanEnd lines file) → IfOk ended (λ file. ReadsFile (since left faults new) (file_parts file))
far_finished left faults r new i n line (Ok file) far end can = far_ends left faults r new i n line file far end (can far.lines far.stands)
far_finished left faults r new i n line (Err e) far end can = tt

-- or an error
pub far_unfinished : (left : Option (List ℕ)) (faults : ℕ) (r new : ReaderState) (i : Intake) (n : ℕ) (line : List ℕ) (ended : Result StreamFile StreamError) → SoFar left faults r i n → IsAtEnd r new line
    → IfErr ended (EndsNot i n) → IfErr ended (ReadsNot (since left faults new))
far_unfinished left faults r new i n line (Ok file) far end ends = tt
far_unfinished left faults r new i n line (Err error.NoMemory) far end ends = end.stood ∙ far.stood
far_unfinished left faults r new i n line (Err error.Read) far end ends = let cannot = ends far.lines far.stands in absurd (never_read n cannot.cause cannot.said)
far_unfinished left faults r new i n line (Err (error.Trace l f)) far end ends = far_cannot left faults r new i n line (error.Trace l f) far end (ends far.lines far.stands)
far_unfinished left faults r new i n line (Err (error.Section l)) far end ends = far_cannot left faults r new i n line (error.Section l) far end (ends far.lines far.stands)
far_unfinished left faults r new i n line (Err (error.NoDevice l)) far end ends = far_cannot left faults r new i n line (error.NoDevice l) far end (ends far.lines far.stands)
far_unfinished left faults r new i n line (Err (error.CrossDevice l)) far end ends = far_cannot left faults r new i n line (error.CrossDevice l) far end (ends far.lines far.stands)
far_unfinished left faults r new i n line (Err (error.NotInStream l)) far end ends = far_cannot left faults r new i n line (error.NotInStream l) far end (ends far.lines far.stands)
far_unfinished left faults r new i n line (Err (error.Limit w)) far end ends = far_cannot left faults r new i n line (error.Limit w) far end (ends far.lines far.stands)

-- ---- a line that isn't taken

-- a refusal is said as one, and so is want of memory
said_refused : (source : Change) (n : ℕ) (c : Refusal) → IsRefused source (error_at n c) → ReadsNot source (error_at n c)
said_refused source n refusal.Lines is = is
said_refused source n refusal.LineBytes is = is
said_refused source n (refusal.Fault f) is = is
said_refused source n refusal.Section is = is
said_refused source n refusal.NoDevice is = is
said_refused source n refusal.NotInStream is = is
said_refused source n refusal.CrossDevice is = is
said_refused source n refusal.Names is = is
said_refused source n refusal.Events is = is
said_refused source n refusal.Devices is = is

pub far_not_taken : (left : Option (List ℕ)) (faults : ℕ) (r new : ReaderState) (i j : Intake) (n : ℕ) (line : List ℕ) (e : NotTaken) → SoFar left faults r i n → TakesNext r new n line → length new.kept ≤ MOST_LINE_BYTES + 1 → TakesText i j line (Err e)
    → ReadsNot (since left faults new) (error_of n e)
far_not_taken left faults r new i j n line (why.Refused c) far takes ahead refused = said_refused (since left faults new) n c (far_refused left faults r new i n line c far takes ahead (refused far.lines far.stands))
far_not_taken left faults r new i j n line why.NoMemory far takes ahead refused = far_ran_out left faults r new i n line far takes
