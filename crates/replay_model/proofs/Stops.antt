-- A trace up to its stop: line by line, and that each of its events may follow those before it.
use Rattle.std.proofs.Common.{◌≡◌, ◌∙◌, ℕ, ◌+◌, Option, Some, None, List, [], ◌∷◌, ◌++◌, refl, sym, ap, append_assoc, append-nil, length, map, reverse, arith}
use Rattle.std.proofs.lemmas.List.{map-append, reverse-append}
use Rattle.std.specs.Prelude.{Bool, true, false, ◌&&◌, Result, Ok, Err, drop}
use Rattle.std.specs.Option.{is_none}
use Rattle.replay_base.specs.Lines.{lines_of}
use Rattle.trace_format.specs.declared.fault.TraceFault.{TraceFault}
use Rattle.trace_format.specs.Accepting.{are_accepted, exceeds_names, fault_after}
use Rattle.trace_format.specs.Content.{TraceEvent}
use Rattle.trace_format.specs.Reading.{read_line}
use Rattle.replay_model.specs.Setup.{Setup}
use Rattle.replay_model.specs.Stop.{Cause, Fault, Names, Layers, cause_after, cause_before, events_behind, events_from, events_in, events_of, events_or, exceeds_layers, first_cause, header_cause, line_after, line_at, placed, placed_behind, placed_from, placed_in, placed_or, stop, stop_behind, stop_from, stop_in, stop_or, unless_before, unless_stopped}

-- ---- one line

-- a line that is no event
pub line_faulty : (s : Setup) (before : List TraceEvent) (line : List ℕ) (f : TraceFault) → read_line line ≡ Err f → line_after s before line ≡ Err (Fault f)
line_faulty s before line f read = ap (placed s before) read

-- an event with a fault of its place
pub line_misplaced : (s : Setup) (before : List TraceEvent) (line : List ℕ) (e : TraceEvent) (f : TraceFault) → read_line line ≡ Ok e → fault_after before e ≡ Some f → line_after s before line ≡ Err (Fault f)
line_misplaced s before line e f read fault = ap (placed s before) read ∙ ap (λ o. unless_stopped e (first_cause o (exceeds_names before e) (exceeds_layers s e))) fault

-- an event in its place, by the limits that it passes
in_place : (s : Setup) (before : List TraceEvent) (line : List ℕ) (e : TraceEvent) (names layers : Bool) → read_line line ≡ Ok e → fault_after before e ≡ None → exceeds_names before e ≡ names → exceeds_layers s e ≡ layers
    → line_after s before line ≡ unless_stopped e (first_cause None names layers)
in_place s before line e names layers read none few short =
    ap (placed s before) read
    ∙ (ap (λ o. unless_stopped e (first_cause o (exceeds_names before e) (exceeds_layers s e))) none
    ∙ (ap (λ x. unless_stopped e (first_cause None x (exceeds_layers s e))) few ∙ ap (λ x. unless_stopped e (first_cause None names x)) short))

-- an event with too many names
pub line_exceeding : (s : Setup) (before : List TraceEvent) (line : List ℕ) (e : TraceEvent) → read_line line ≡ Ok e → fault_after before e ≡ None → exceeds_names before e ≡ true → line_after s before line ≡ Err Names
line_exceeding s before line e read none exceeds = in_place s before line e true (exceeds_layers s e) read none exceeds refl

-- an event whose chain would have too many layers
pub line_layered : (s : Setup) (before : List TraceEvent) (line : List ℕ) (e : TraceEvent) → read_line line ≡ Ok e → fault_after before e ≡ None → exceeds_names before e ≡ false → exceeds_layers s e ≡ true → line_after s before line ≡ Err Layers
line_layered s before line e read none few long = in_place s before line e false true read none few long

-- an event that nothing stops
pub line_placed : (s : Setup) (before : List TraceEvent) (line : List ℕ) (e : TraceEvent) → read_line line ≡ Ok e → fault_after before e ≡ None → exceeds_names before e ≡ false → exceeds_layers s e ≡ false → line_after s before line ≡ Ok e
line_placed s before line e read none few short = in_place s before line e false false read none few short

-- a line that may be looked at
pub line_looked : (s : Setup) (n : ℕ) (before : List TraceEvent) (line : List ℕ) → cause_before n line ≡ None → line_at s n before line ≡ line_after s before line
line_looked s n before line none = ap (λ c. unless_before c (line_after s before line)) none

-- a line that isn't
pub line_barred : (s : Setup) (n : ℕ) (before : List TraceEvent) (line : List ℕ) (c : Cause) → cause_before n line ≡ Some c → line_at s n before line ≡ Err c
line_barred s n before line c is = ap (λ o. unless_before o (line_after s before line)) is

-- ---- the lines

-- one event more
pub stop_next : (s : Setup) (n : ℕ) (before : List TraceEvent) (line : List ℕ) (lines : List (List ℕ)) (e : TraceEvent) → line_at s n before line ≡ Ok e → stop_from s n before (line ∷ lines) ≡ stop_from s (n + 1) (e ∷ before) lines
stop_next s n before line lines e is = ap (λ r. stop_or n r (λ d. stop_from s (n + 1) (d ∷ before) lines)) is

pub events_next : (s : Setup) (n : ℕ) (before : List TraceEvent) (line : List ℕ) (lines : List (List ℕ)) (e : TraceEvent) → line_at s n before line ≡ Ok e → events_from s n before (line ∷ lines) ≡ events_from s (n + 1) (e ∷ before) lines
events_next s n before line lines e is = ap (λ r. events_or before r (λ d. events_from s (n + 1) (d ∷ before) lines)) is

-- a line that stops
pub stop_here : (s : Setup) (n : ℕ) (before : List TraceEvent) (line : List ℕ) (lines : List (List ℕ)) (c : Cause) → line_at s n before line ≡ Err c → stop_from s n before (line ∷ lines) ≡ Some (record { line = n; cause = c })
stop_here s n before line lines c is = ap (λ r. stop_or n r (λ d. stop_from s (n + 1) (d ∷ before) lines)) is

pub events_here : (s : Setup) (n : ℕ) (before : List TraceEvent) (line : List ℕ) (lines : List (List ℕ)) (c : Cause) → line_at s n before line ≡ Err c → events_from s n before (line ∷ lines) ≡ before
events_here s n before line lines c is = ap (λ r. events_or before r (λ d. events_from s (n + 1) (d ∷ before) lines)) is

-- ---- lines that are there so far

-- behind lines of which none stops the rest decides
pub stop_behind_placed : (s : Setup) (n : ℕ) (before events : List TraceEvent) (lines more : List (List ℕ)) → placed_from s n before lines ≡ Some events → stop_from s n before (lines ++ more) ≡ stop_from s (n + length lines) events more
stop_behind_placed s n before events [] more is =
    let same : before ≡ events = cc in
    let count : n ≡ n + 0 = omega arith in
    ap (λ es. stop_from s n es more) same ∙ ap (λ k. stop_from s k events more) count
stop_behind_placed s n before events (line ∷ lines) more is = go (line_at s n before line) (λ e p. stop_behind_placed s (n + 1) (e ∷ before) events lines more p) is
  where
    go : (r : Result TraceEvent Cause) → ((e : TraceEvent) → placed_from s (n + 1) (e ∷ before) lines ≡ Some events → stop_from s (n + 1) (e ∷ before) (lines ++ more) ≡ stop_from s (n + 1 + length lines) events more)
        → placed_or r (λ e. placed_from s (n + 1) (e ∷ before) lines) ≡ Some events → stop_or n r (λ e. stop_from s (n + 1) (e ∷ before) (lines ++ more)) ≡ stop_from s (n + length (line ∷ lines)) events more
    go (Err c) rest p = cc
    go (Ok e) rest p =
        let count : n + 1 + length lines ≡ n + length (line ∷ lines) = omega arith in
        rest e p ∙ ap (λ k. stop_from s k events more) count

pub events_behind_placed : (s : Setup) (n : ℕ) (before events : List TraceEvent) (lines more : List (List ℕ)) → placed_from s n before lines ≡ Some events → events_from s n before (lines ++ more) ≡ events_from s (n + length lines) events more
events_behind_placed s n before events [] more is =
    let same : before ≡ events = cc in
    let count : n ≡ n + 0 = omega arith in
    ap (λ es. events_from s n es more) same ∙ ap (λ k. events_from s k events more) count
events_behind_placed s n before events (line ∷ lines) more is = go (line_at s n before line) (λ e p. events_behind_placed s (n + 1) (e ∷ before) events lines more p) is
  where
    go : (r : Result TraceEvent Cause) → ((e : TraceEvent) → placed_from s (n + 1) (e ∷ before) lines ≡ Some events → events_from s (n + 1) (e ∷ before) (lines ++ more) ≡ events_from s (n + 1 + length lines) events more)
        → placed_or r (λ e. placed_from s (n + 1) (e ∷ before) lines) ≡ Some events → events_or before r (λ e. events_from s (n + 1) (e ∷ before) (lines ++ more)) ≡ events_from s (n + length (line ∷ lines)) events more
    go (Err c) rest p = cc
    go (Ok e) rest p =
        let count : n + 1 + length lines ≡ n + length (line ∷ lines) = omega arith in
        rest e p ∙ ap (λ k. events_from s k events more) count

-- one line more
placed_more_from : (s : Setup) (n : ℕ) (before events : List TraceEvent) (lines : List (List ℕ)) (line : List ℕ) (e : TraceEvent) → placed_from s n before lines ≡ Some events → line_at s (n + length lines) events line ≡ Ok e
    → placed_from s n before (lines ++ line ∷ []) ≡ Some (e ∷ events)
placed_more_from s n before events [] line e is here =
    let same : before ≡ events = cc in
    let count : n ≡ n + 0 = omega arith in
    let at : line_at s n before line ≡ Ok e = ap (λ es. line_at s n es line) same ∙ (ap (λ k. line_at s k events line) count ∙ here) in
    ap (λ r. placed_or r (λ d. Some (d ∷ before))) at ∙ ap (λ es. Some (e ∷ es)) same
placed_more_from s n before events (first ∷ lines) line e is here = go (line_at s n before first) (λ d p at. placed_more_from s (n + 1) (d ∷ before) events lines line e p at) is
  where
    count : n + 1 + length lines ≡ n + length (first ∷ lines)
    count = omega arith

    go : (r : Result TraceEvent Cause) → ((d : TraceEvent) → placed_from s (n + 1) (d ∷ before) lines ≡ Some events → line_at s (n + 1 + length lines) events line ≡ Ok e → placed_from s (n + 1) (d ∷ before) (lines ++ line ∷ []) ≡ Some (e ∷ events))
        → placed_or r (λ d. placed_from s (n + 1) (d ∷ before) lines) ≡ Some events → placed_or r (λ d. placed_from s (n + 1) (d ∷ before) (lines ++ line ∷ [])) ≡ Some (e ∷ events)
    go (Err c) rest p = cc
    go (Ok d) rest p = rest d p (ap (λ k. line_at s k events line) count ∙ here)

-- behind the header
pub placed_more : (s : Setup) (first : List ℕ) (lines : List (List ℕ)) (events : List TraceEvent) (line : List ℕ) (e : TraceEvent) → placed_in s (first ∷ lines) ≡ Some events → line_at s (2 + length lines) events line ≡ Ok e
    → placed_in s (first ∷ (lines ++ line ∷ [])) ≡ Some (e ∷ events)
placed_more s first lines events line e is here = go (header_cause (first ∷ lines)) is
  where
    go : (c : Option Cause) → placed_behind s c lines ≡ Some events → placed_behind s c (lines ++ line ∷ []) ≡ Some (e ∷ events)
    go (Some c) p = cc
    go None p = placed_more_from s 2 [] events lines line e p here

-- where a trace whose first lines are placed stops, and its events
pub stop_placed : (s : Setup) (first : List ℕ) (lines more : List (List ℕ)) (events : List TraceEvent) → placed_in s (first ∷ lines) ≡ Some events → stop_in s (first ∷ (lines ++ more)) ≡ stop_from s (2 + length lines) events more
stop_placed s first lines more events is = go (header_cause (first ∷ lines)) is
  where
    go : (c : Option Cause) → placed_behind s c lines ≡ Some events → stop_behind s c (first ∷ (lines ++ more)) ≡ stop_from s (2 + length lines) events more
    go (Some c) p = cc
    go None p = stop_behind_placed s 2 [] events lines more p

pub events_placed : (s : Setup) (first : List ℕ) (lines more : List (List ℕ)) (events : List TraceEvent) → placed_in s (first ∷ lines) ≡ Some events → events_in s (first ∷ (lines ++ more)) ≡ events_from s (2 + length lines) events more
events_placed s first lines more events is = go (header_cause (first ∷ lines)) is
  where
    go : (c : Option Cause) → placed_behind s c lines ≡ Some events → events_behind s c (first ∷ (lines ++ more)) ≡ events_from s (2 + length lines) events more
    go (Some c) p = cc
    go None p = events_behind_placed s 2 [] events lines more p

-- ---- each event may follow those before it

accepted_next : (before : List TraceEvent) (e : TraceEvent) → are_accepted before ≡ true → fault_after before e ≡ None → are_accepted (e ∷ before) ≡ true
accepted_next before e accepted none = ap (λ b. b && is_none (fault_after before e)) accepted ∙ ap is_none none

one_line : (s : Setup) (n : ℕ) (before : List TraceEvent) (line : List ℕ) (more : TraceEvent → List TraceEvent) → are_accepted before ≡ true
    → ((e : TraceEvent) → are_accepted (e ∷ before) ≡ true → are_accepted (more e) ≡ true) → are_accepted (events_or before (line_at s n before line) more) ≡ true
one_line s n before line more accepted step = look (cause_before n line)
  where
    place : (e : TraceEvent) (f : Option TraceFault) (names layers : Bool) → fault_after before e ≡ f → are_accepted (events_or before (unless_stopped e (first_cause f names layers)) more) ≡ true
    place e (Some f) names layers is = accepted
    place e None true layers is = accepted
    place e None false true is = accepted
    place e None false false is = step e (accepted_next before e accepted is)

    read : (r : Result TraceEvent TraceFault) → are_accepted (events_or before (placed s before r) more) ≡ true
    read (Err f) = accepted
    read (Ok e) = place e (fault_after before e) (exceeds_names before e) (exceeds_layers s e) refl

    look : (c : Option Cause) → are_accepted (events_or before (unless_before c (line_after s before line)) more) ≡ true
    look (Some c) = accepted
    look None = read (read_line line)

lines_accepted : (s : Setup) (n : ℕ) (before : List TraceEvent) (lines : List (List ℕ)) → are_accepted before ≡ true → are_accepted (events_from s n before lines) ≡ true
lines_accepted s n before [] accepted = accepted
lines_accepted s n before (line ∷ lines) accepted = one_line s n before line (λ e. events_from s (n + 1) (e ∷ before) lines) accepted (λ e next. lines_accepted s (n + 1) (e ∷ before) lines next)

in_accepted : (s : Setup) (lines : List (List ℕ)) → are_accepted (events_in s lines) ≡ true
in_accepted s lines = go (header_cause lines)
  where
    go : (c : Option Cause) → are_accepted (events_behind s c lines) ≡ true
    go (Some c) = refl
    go None = lines_accepted s 2 [] (drop 1 lines) refl

-- of a whole trace
pub trace-accepted : (s : Setup) (bytes : List ℕ) → are_accepted (events_of s bytes) ≡ true
trace-accepted s bytes = in_accepted s (lines_of bytes)

-- of lines that are there so far
pub placed-accepted : (s : Setup) (lines : List (List ℕ)) (events : List TraceEvent) → placed_in s lines ≡ Some events → are_accepted events ≡ true
placed-accepted s [] events is = let same : [] ≡ events = cc in ap are_accepted (sym same)
placed-accepted s (first ∷ lines) events is = go (header_cause (first ∷ lines)) is
  where
    go : (c : Option Cause) → placed_behind s c lines ≡ Some events → are_accepted events ≡ true
    go (Some c) p = cc
    go None p = ap are_accepted (sym (events_behind_placed s 2 [] events lines [] p)) ∙ lines_accepted s 2 [] (lines ++ []) refl

-- ---- a trace that nothing stops

-- the event of a line was read
read_so : (s : Setup) (n : ℕ) (before : List TraceEvent) (line : List ℕ) (e : TraceEvent) → line_at s n before line ≡ Ok e → read_line line ≡ Ok e
read_so s n before line e here = look (cause_before n line) here
  where
    put : (x : TraceEvent) → read_line line ≡ Ok x → (c : Option Cause) → unless_stopped x c ≡ Ok e → read_line line ≡ Ok e
    put x is None p =
        let same : x ≡ e = cc in
        is ∙ ap (λ y. Ok y) same
    put x is (Some c) p = cc

    go : (r : Result TraceEvent TraceFault) → read_line line ≡ r → placed s before r ≡ Ok e → read_line line ≡ Ok e
    go (Err f) is p = cc
    go (Ok x) is p = put x is (cause_after s before x) p

    look : (c : Option Cause) → unless_before c (line_after s before line) ≡ Ok e → read_line line ≡ Ok e
    look (Some c) p = cc
    look None p = go (read_line line) refl p

-- the events, the oldest first, as lines are read
abbrev pub as_read : List TraceEvent → List (Result TraceEvent TraceFault)
as_read events = map (λ e. Ok e) (reverse events)

-- one event more
one_more : (e : TraceEvent) (before : List TraceEvent) → as_read (e ∷ before) ≡ as_read before ++ Ok e ∷ []
one_more e before = ap (map (λ e. Ok e)) (reverse-append (e ∷ []) before) ∙ map-append (λ e. Ok e) (reverse before) (e ∷ [])

-- where nothing stops the lines, they spell the events
lines_spelled : (s : Setup) (n : ℕ) (before : List TraceEvent) (lines : List (List ℕ)) → stop_from s n before lines ≡ None → as_read (events_from s n before lines) ≡ as_read before ++ map read_line lines
lines_spelled s n before [] none = sym (append-nil (as_read before))
lines_spelled s n before (line ∷ lines) none = go (λ e p. lines_spelled s (n + 1) (e ∷ before) lines p) (line_at s n before line) refl none
  where
    go : ((e : TraceEvent) → stop_from s (n + 1) (e ∷ before) lines ≡ None → as_read (events_from s (n + 1) (e ∷ before) lines) ≡ as_read (e ∷ before) ++ map read_line lines) → (r : Result TraceEvent Cause) → line_at s n before line ≡ r
        → stop_or n r (λ e. stop_from s (n + 1) (e ∷ before) lines) ≡ None → as_read (events_or before r (λ e. events_from s (n + 1) (e ∷ before) lines)) ≡ as_read before ++ map read_line (line ∷ lines)
    go rest (Err c) is p = cc
    go rest (Ok e) is p =
        rest e p ∙ (ap (λ xs. xs ++ map read_line lines) (one_more e before)
        ∙ (append_assoc (as_read before) (Ok e ∷ []) (map read_line lines) ∙ ap (λ r. as_read before ++ (r ∷ map read_line lines)) (sym (read_so s n before line e is))))

-- so do the lines behind the header
in_spelled : (s : Setup) (lines : List (List ℕ)) (c : Option Cause) → stop_behind s c lines ≡ None → as_read (events_behind s c lines) ≡ map read_line (drop 1 lines)
in_spelled s lines None none = lines_spelled s 2 [] (drop 1 lines) none
in_spelled s lines (Some c) none = cc

-- so do the lines of a trace
pub trace-spelled : (s : Setup) (bytes : List ℕ) → stop s bytes ≡ None → as_read (events_of s bytes) ≡ map read_line (drop 1 (lines_of bytes))
trace-spelled s bytes none = in_spelled s (lines_of bytes) (header_cause (lines_of bytes)) none
