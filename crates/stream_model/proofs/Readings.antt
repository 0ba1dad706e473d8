-- A stream file read line by line.
use Rattle.std.proofs.Common.{◌≡◌, ◌∙◌, ◌+◌, ℕ, nat_lt, Bool, true, false, cond, Option, Some, None, List, [], ◌∷◌, ◌++◌, length, refl, ap, arith}
use Rattle.std.specs.Prelude.{Result, Ok, Err}
use Rattle.std.specs.Str.{bytes_eq}
use Rattle.replay_base.specs.Lines.{lines_of}
use Rattle.replay_base.specs.declared.limit.TheConstants.{MOST_LINE_BYTES}
use Rattle.replay_model.specs.declared.TheConstants.{MOST_LINES}
use Rattle.replay_model.specs.Stop.{LineBytes, Lines, cause_before}
use Rattle.stream_model.specs.declared.limits.TheConstants.{HEADER}
use Rattle.stream_model.specs.declared.refusal.Refusal.{Refusal}
use Rattle.stream_model.specs.declared.refusal.Refusal.TheVariants as refusal
use Rattle.stream_model.specs.FileLines.{FileLine, file_line}
use Rattle.stream_model.specs.Order.{refusal_at_end, refusal_or}
use Rattle.stream_model.specs.Refusals.{Refused, ended, ended_at, file_lines, header_refusal, lines_behind, lines_from, lines_in, line_at, next_or, placed, refusal_before, unless_before}

-- ---- limits on lines, which a trace has too

-- a line that a trace may look at, a stream file may look at
pub looked_at : (n : ℕ) (line : List ℕ) → cause_before n line ≡ None → refusal_before n line ≡ None
looked_at n line is = go (nat_lt MOST_LINES n) (nat_lt MOST_LINE_BYTES (length line)) is
  where
    go : (many long : Bool) → cond many (Some Lines) (cond long (Some LineBytes) None) ≡ None → cond many (Some refusal.Lines) (cond long (Some refusal.LineBytes) None) ≡ None
    go true long p = cc
    go false true p = cc
    go false false p = refl

pub too_many_lines : (n : ℕ) (line : List ℕ) → cause_before n line ≡ Some Lines → refusal_before n line ≡ Some refusal.Lines
too_many_lines n line is = go (nat_lt MOST_LINES n) (nat_lt MOST_LINE_BYTES (length line)) is
  where
    go : (many long : Bool) → cond many (Some Lines) (cond long (Some LineBytes) None) ≡ Some Lines → cond many (Some refusal.Lines) (cond long (Some refusal.LineBytes) None) ≡ Some refusal.Lines
    go true long p = refl
    go false true p = cc
    go false false p = cc

pub too_long_line : (n : ℕ) (line : List ℕ) → cause_before n line ≡ Some LineBytes → refusal_before n line ≡ Some refusal.LineBytes
too_long_line n line is = go (nat_lt MOST_LINES n) (nat_lt MOST_LINE_BYTES (length line)) is
  where
    go : (many long : Bool) → cond many (Some Lines) (cond long (Some LineBytes) None) ≡ Some LineBytes → cond many (Some refusal.Lines) (cond long (Some refusal.LineBytes) None) ≡ Some refusal.LineBytes
    go true long p = cc
    go false true p = refl
    go false false p = cc

-- ---- one line

-- a line that is looked at
pub line_looked : (n : ℕ) (before : List FileLine) (line : List ℕ) (r : Result FileLine Refusal) → refusal_before n line ≡ None → placed before (file_line line) ≡ r → line_at n before line ≡ r
line_looked n before line r looked is = ap (λ c. unless_before c (placed before (file_line line))) looked ∙ is

-- a line that isn't
pub line_barred : (n : ℕ) (before : List FileLine) (line : List ℕ) (c : Refusal) → refusal_before n line ≡ Some c → line_at n before line ≡ Err c
line_barred n before line c is = ap (λ o. unless_before o (placed before (file_line line))) is

-- ---- all lines

-- behind lines that were read the rest is read
from_behind : (n : ℕ) (before mid : List FileLine) (text more : List (List ℕ)) → lines_from n before text ≡ Ok mid → lines_from n before (text ++ more) ≡ lines_from (n + length text) mid more
from_behind n before mid [] more is =
    let same : before ≡ mid = cc in
    let count : n ≡ n + 0 = omega arith in
    ap (λ ls. lines_from n ls more) same ∙ ap (λ k. lines_from k mid more) count
from_behind n before mid (line ∷ text) more is = go (line_at n before line) (λ l p. from_behind (n + 1) (l ∷ before) mid text more p) is
  where
    go : (r : Result FileLine Refusal) → ((l : FileLine) → lines_from (n + 1) (l ∷ before) text ≡ Ok mid → lines_from (n + 1) (l ∷ before) (text ++ more) ≡ lines_from (n + 1 + length text) mid more)
        → next_or n r (λ l. lines_from (n + 1) (l ∷ before) text) ≡ Ok mid → next_or n r (λ l. lines_from (n + 1) (l ∷ before) (text ++ more)) ≡ lines_from (n + length (line ∷ text)) mid more
    go (Err c) rest p = cc
    go (Ok l) rest p =
        let count : n + 1 + length text ≡ n + length (line ∷ text) = omega arith in
        rest l p ∙ ap (λ k. lines_from k mid more) count

in_behind : (first : List ℕ) (text more : List (List ℕ)) (lines : List FileLine) → lines_in (first ∷ text) ≡ Ok lines → lines_in (first ∷ (text ++ more)) ≡ lines_from (2 + length text) lines more
in_behind first text more lines is = go (header_refusal first) is
  where
    go : (r : Option Refusal) → lines_behind r text ≡ Ok lines → lines_behind r (text ++ more) ≡ lines_from (2 + length text) lines more
    go (Some r) p = cc
    go None p = from_behind 2 [] lines text more p

-- one line more
pub lines_next : (first : List ℕ) (text : List (List ℕ)) (lines : List FileLine) (line : List ℕ) (l : FileLine) → lines_in (first ∷ text) ≡ Ok lines → line_at (2 + length text) lines line ≡ Ok l → lines_in (first ∷ (text ++ line ∷ [])) ≡ Ok (l ∷ lines)
lines_next first text lines line l is here =
    in_behind first text (line ∷ []) lines is ∙ ap (λ r. next_or (2 + length text) r (λ m. lines_from (2 + length text + 1) (m ∷ lines) [])) here

-- a line that is refused, whatever follows
pub lines_stop : (first : List ℕ) (text more : List (List ℕ)) (lines : List FileLine) (line : List ℕ) (c : Refusal) → lines_in (first ∷ text) ≡ Ok lines → line_at (2 + length text) lines line ≡ Err c
    → lines_in (first ∷ (text ++ line ∷ more)) ≡ Err (record { line = 2 + length text; cause = c })
lines_stop first text more lines line c is here =
    in_behind first text (line ∷ more) lines is ∙ ap (λ r. next_or (2 + length text) r (λ m. lines_from (2 + length text + 1) (m ∷ lines) more)) here

-- ---- a whole file

-- one whose lines are refused
pub file_stop : (bytes : List ℕ) (text : List (List ℕ)) (place : Refused) → lines_of bytes ≡ text → lines_in text ≡ Err place → file_lines bytes ≡ Err place
file_stop bytes text place are is = ap (ended_at (length (lines_of bytes) + 1)) (ap lines_in are ∙ is)

-- one whose lines are read, by its end
pub file_end : (bytes : List ℕ) (text : List (List ℕ)) (lines : List FileLine) → lines_of bytes ≡ text → lines_in text ≡ Ok lines → file_lines bytes ≡ ended (length text + 1) lines (refusal_at_end lines)
file_end bytes text lines are is = ap (ended_at (length (lines_of bytes) + 1)) (ap lines_in are ∙ is) ∙ ap (λ k. ended (length k + 1) lines (refusal_at_end lines)) are

-- ---- the first line

pub header_barred : (line : List ℕ) (more : List (List ℕ)) (c : Refusal) → refusal_before 1 line ≡ Some c → lines_in (line ∷ more) ≡ Err (record { line = 1; cause = c })
header_barred line more c is = ap (λ r. lines_behind (refusal_or r (cond (bytes_eq line HEADER) None (Some refusal.Section))) more) is

pub header_wrong : (line : List ℕ) (more : List (List ℕ)) → refusal_before 1 line ≡ None → bytes_eq line HEADER ≡ false → lines_in (line ∷ more) ≡ Err (record { line = 1; cause = refusal.Section })
header_wrong line more looked wrong =
    ap (λ r. lines_behind (refusal_or r (cond (bytes_eq line HEADER) None (Some refusal.Section))) more) looked ∙ ap (λ b. lines_behind (cond b None (Some refusal.Section)) more) wrong

pub header_there : (line : List ℕ) → refusal_before 1 line ≡ None → bytes_eq line HEADER ≡ true → lines_in (line ∷ []) ≡ Ok []
header_there line looked there =
    ap (λ r. lines_behind (refusal_or r (cond (bytes_eq line HEADER) None (Some refusal.Section))) []) looked ∙ ap (λ b. lines_behind (cond b None (Some refusal.Section)) []) there
