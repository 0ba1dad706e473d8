-- What a stream file is read as: its lines, or the first line that is refused and why. Source: this project.
use Rattle.std.specs.Prelude.{ℕ, ◌+◌, if◌then◌else◌, nat_lt, Option, Some, None, Result, Ok, Err, List, [], ◌∷◌, length}
use Rattle.std.specs.Str.{bytes_eq}
use Rattle.replay_base.specs.Lines.{lines_of}
use Rattle.replay_base.specs.declared.limit.TheConstants.{MOST_LINE_BYTES}
use Rattle.replay_model.specs.declared.TheConstants.{MOST_LINES}
use Rattle.stream_model.specs.declared.limits.TheConstants.{HEADER}
use Rattle.stream_model.specs.declared.refusal.Refusal.{Refusal}
use Rattle.stream_model.specs.declared.refusal.Refusal.TheVariants as refusal
use Rattle.stream_model.specs.FileLines.{FileLine, file_line}
use Rattle.stream_model.specs.Order.{first_refusal, refusal_after, refusal_at_end, refusal_or}

-- a line, from 1, and why the file is refused there
pub record Refused : Type 0 where
  pub line : ℕ
  pub cause : Refusal

-- ---- one line

-- why the line with this number isn't looked at: it is one too many, or too long
abbrev pub refusal_before : ℕ → List ℕ → Option Refusal
refusal_before n line = first_refusal ((nat_lt MOST_LINES n, refusal.Lines) ∷ (nat_lt MOST_LINE_BYTES (length line), refusal.LineBytes) ∷ [])

-- the line, unless it is refused
abbrev pub unless_refused : FileLine → Option Refusal → Result FileLine Refusal
unless_refused l None = Ok l
unless_refused l (Some r) = Err r

-- the line that was read, where it may follow those before it
abbrev pub placed : List FileLine → Result FileLine Refusal → Result FileLine Refusal
placed before (Ok l) = unless_refused l (refusal_after before l)
placed before (Err r) = Err r

-- what a line comes to, unless it isn't looked at
abbrev pub unless_before : Option Refusal → Result FileLine Refusal → Result FileLine Refusal
unless_before None r = r
unless_before (Some c) r = Err c

-- The line with this number behind these lines, or why it is refused. The limits on lines come first, then what the line has by itself, then what it has in its
-- place.
abbrev pub line_at : ℕ → List FileLine → List ℕ → Result FileLine Refusal
line_at n before line = unless_before (refusal_before n line) (placed before (file_line line))

-- ---- all lines

-- a refused line ends the reading, and the rest is read behind any other
abbrev pub next_or : ℕ → Result FileLine Refusal → (FileLine → Result (List FileLine) Refused) → Result (List FileLine) Refused
next_or n (Ok l) rest = rest l
next_or n (Err r) rest = Err (record { line = n; cause = r })

-- the lines from number n on, behind these; the newest comes first
abbrev pub lines_from : ℕ → List FileLine → List (List ℕ) → Result (List FileLine) Refused
lines_from n before [] = Ok before
lines_from n before (line ∷ lines) = next_or n (line_at n before line) (λ l. lines_from (n + 1) (l ∷ before) lines)

-- why the first line is refused: it is too long, or isn't the header
abbrev pub header_refusal : List ℕ → Option Refusal
header_refusal line = refusal_or (refusal_before 1 line) (if bytes_eq line HEADER then None else Some refusal.Section)

-- the lines behind the header, where it is one
abbrev pub lines_behind : Option Refusal → List (List ℕ) → Result (List FileLine) Refused
lines_behind None lines = lines_from 2 [] lines
lines_behind (Some r) lines = Err (record { line = 1; cause = r })

-- the lines of a file of which these are there so far
abbrev pub lines_in : List (List ℕ) → Result (List FileLine) Refused
lines_in [] = Ok []
lines_in (line ∷ lines) = lines_behind (header_refusal line) lines

-- the lines of a file that ends in front of the line with this number, where it may
abbrev pub ended : ℕ → List FileLine → Option Refusal → Result (List FileLine) Refused
ended n lines None = Ok lines
ended n lines (Some r) = Err (record { line = n; cause = r })

-- the same of lines that were read
abbrev pub ended_at : ℕ → Result (List FileLine) Refused → Result (List FileLine) Refused
ended_at n (Ok lines) = ended n lines (refusal_at_end lines)
ended_at n (Err r) = Err r

-- the lines of a whole file; what is missing at its end is refused one line behind the last
abbrev pub file_lines : List ℕ → Result (List FileLine) Refused
file_lines bytes = ended_at (length (lines_of bytes) + 1) (lines_in (lines_of bytes))
