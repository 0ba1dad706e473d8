-- Lines of a stream file that follow one another.
use Rattle.std.proofs.Common.{◌≡◌, ◌∙◌, ◌+◌, ◌≤◌, ℕ, nat_lt, Bool, true, false, cond, ◌&&◌, Option, Some, None, List, [], ◌∷◌, length, refl, sym, ap, subst}
use Rattle.std.specs.Prelude.{Result, Ok, Err, option_map}
use Rattle.std.specs.Option.{is_none}
use Rattle.std.proofs.lemmas.Bool.{ltb-false}
use Rattle.replay_base.specs.Lines.{lines_of}
use Rattle.trace_format.specs.declared.fault.TraceFault.{TraceFault}
use Rattle.trace_format.specs.Accepting.{are_accepted, fault_after, fault_at_end}
use Rattle.trace_format.specs.Content.{TraceEvent}
use Rattle.stream_model.specs.declared.heading.Heading.{Heading}
use Rattle.stream_model.specs.declared.heading.Heading.TheVariants as heading
use Rattle.stream_model.specs.declared.limits.TheConstants.{MOST_DEVICES, MOST_EVENTS, MOST_NAMES}
use Rattle.stream_model.specs.declared.refusal.Refusal.{Refusal}
use Rattle.stream_model.specs.declared.refusal.Refusal.TheVariants as refusal
use Rattle.stream_model.specs.FileLines.{FileLine, HeadingLine, EventLine, file_line}
use Rattle.stream_model.specs.FileParts.{AreInOrder, IsStreamFile, parts}
use Rattle.stream_model.specs.Order.{end_refusal, event_thread, events, is_in_order, limit_passed, limit_refusal, refusal_after, refusal_at_end, refusal_or, section, stream_refusal, stream_threads, takes_thread}
use Rattle.stream_model.specs.Refusals.{Refused, ended, ended_at, header_refusal, lines_behind, lines_from, lines_in, line_at, next_or, placed, refusal_before, unless_before, unless_refused}

-- ---- one line

-- an event that isn't refused is of the section, has no fault of its place, may stand in its stream and passes no limit
pub record NotRefused (lines : List FileLine) (e : TraceEvent) : Type 0 where
  pub thread : takes_thread (section lines) (event_thread e) ≡ true
  pub fault : fault_after (events lines) e ≡ None
  pub stream : stream_refusal lines e ≡ None
  pub limit : limit_refusal lines e ≡ None

-- by its parts
parts_none : (takes : Bool) (f : Option TraceFault) (a b : Option Refusal) → cond takes (refusal_or (option_map (λ x. refusal.Fault x) f) (refusal_or a b)) (Some refusal.Section) ≡ None → (takes ≡ true) × (f ≡ None) × (a ≡ None) × (b ≡ None)
parts_none true None None None is = (refl, refl, refl, refl)
parts_none true None None (Some r) is = cc
parts_none true None (Some r) b is = cc
parts_none true (Some x) a b is = cc
parts_none false f a b is = cc

pub not_refused : (lines : List FileLine) (e : TraceEvent) → refusal_after lines (EventLine e) ≡ None → NotRefused lines e
not_refused lines e is =
    let each = parts_none (takes_thread (section lines) (event_thread e)) (fault_after (events lines) e) (stream_refusal lines e) (limit_refusal lines e) is in
    record { thread = each.0; fault = each.1; stream = each.2; limit = each.3 }

-- a heading that isn't refused is in its order, and no call is open
in_order : (ordered : Bool) (f : Option TraceFault) → cond ordered (option_map (λ x. refusal.Fault x) f) (Some refusal.Section) ≡ None → (ordered ≡ true) × (f ≡ None)
in_order true None is = (refl, refl)
in_order true (Some x) is = cc
in_order false f is = cc

pub heading_in_order : (lines : List FileLine) (h : Heading) → refusal_after lines (HeadingLine h) ≡ None → (is_in_order (section lines) (stream_threads lines) h ≡ true) × (fault_at_end (events lines) ≡ None)
heading_in_order lines h is = in_order (is_in_order (section lines) (stream_threads lines) h) (fault_at_end (events lines)) is

-- what passes no limit
limits : (a b c : Bool) → cond a (Some refusal.Names) (cond b (Some refusal.Events) (cond c (Some refusal.Devices) None)) ≡ None → (a ≡ false) × (b ≡ false) × (c ≡ false)
limits true b c is = cc
limits false true c is = cc
limits false false true is = cc
limits false false false is = (refl, refl, refl)

pub within_limits : (names seen devices : ℕ) → limit_passed names seen devices ≡ None → (names ≤ MOST_NAMES) × (seen ≤ MOST_EVENTS) × (devices ≤ MOST_DEVICES)
within_limits names seen devices is =
    let each = limits (nat_lt MOST_NAMES names) (nat_lt MOST_EVENTS seen) (nat_lt MOST_DEVICES devices) is in
    (ltb-false MOST_NAMES names each.0, ltb-false MOST_EVENTS seen each.1, ltb-false MOST_DEVICES devices each.2)

-- ---- a trace

pub lines_accepted : (lines : List FileLine) → AreInOrder lines → are_accepted (events lines) ≡ true
lines_accepted [] order = refl
lines_accepted (HeadingLine h ∷ lines) order = lines_accepted lines order.0
lines_accepted (EventLine e ∷ lines) order =
    ap (λ b. b && is_none (fault_after (events lines) e)) (lines_accepted lines order.0) ∙ ap is_none (not_refused lines e order.1).fault

-- a file that may end has no open call
ends_closed : (s : Option Heading) (f : Option TraceFault) → end_refusal s f ≡ None → f ≡ None
ends_closed (Some heading.Teardown) None is = refl
ends_closed (Some heading.Teardown) (Some x) is = cc
ends_closed (Some heading.Setup) f is = cc
ends_closed (Some (heading.Stream t)) f is = cc
ends_closed None f is = cc

pub lines_closed : (lines : List FileLine) → refusal_at_end lines ≡ None → fault_at_end (events lines) ≡ None
lines_closed lines is = ends_closed (section lines) (fault_at_end (events lines)) is

-- ---- what was read

-- a line that was placed may follow
line_placed : (n : ℕ) (before : List FileLine) (line : List ℕ) (l : FileLine) → line_at n before line ≡ Ok l → refusal_after before l ≡ None
line_placed n before line l is = look (refusal_before n line) is
  where
    put : (x : FileLine) (r : Option Refusal) → refusal_after before x ≡ r → unless_refused x r ≡ Ok l → refusal_after before l ≡ None
    put x None none p =
        let same : x ≡ l = cc in
        ap (refusal_after before) (sym same) ∙ none
    put x (Some r) none p = cc

    read : (r : Result FileLine Refusal) → placed before r ≡ Ok l → refusal_after before l ≡ None
    read (Ok x) p = put x (refusal_after before x) refl p
    read (Err r) p = cc

    look : (c : Option Refusal) → unless_before c (placed before (file_line line)) ≡ Ok l → refusal_after before l ≡ None
    look (Some c) p = cc
    look None p = read (file_line line) p

-- lines that are read behind lines in order are in order
from_in_order : (n : ℕ) (before lines : List FileLine) (text : List (List ℕ)) → AreInOrder before → lines_from n before text ≡ Ok lines → AreInOrder lines
from_in_order n before lines [] order is = let same : before ≡ lines = cc in subst (λ ls. AreInOrder ls) same order
from_in_order n before lines (line ∷ text) order is = go (line_at n before line) refl (λ l next p. from_in_order (n + 1) (l ∷ before) lines text next p) is
  where
    go : (r : Result FileLine Refusal) → line_at n before line ≡ r → ((l : FileLine) → AreInOrder (l ∷ before) → lines_from (n + 1) (l ∷ before) text ≡ Ok lines → AreInOrder lines)
        → next_or n r (λ l. lines_from (n + 1) (l ∷ before) text) ≡ Ok lines → AreInOrder lines
    go (Ok l) here rest p = rest l (order, line_placed n before line l here) p
    go (Err r) here rest p = cc

-- so are the lines that are there so far
pub so_far_in_order : (text : List (List ℕ)) (lines : List FileLine) → lines_in text ≡ Ok lines → AreInOrder lines
so_far_in_order [] lines is = let same : [] ≡ lines = cc in subst (λ ls. AreInOrder ls) same tt
so_far_in_order (line ∷ text) lines is = go (header_refusal line) is
  where
    go : (r : Option Refusal) → lines_behind r text ≡ Ok lines → AreInOrder lines
    go None p = from_in_order 2 [] lines text tt p
    go (Some r) p = cc

-- what is read without a refusal is a whole file
ended_whole : (n : ℕ) (ls lines : List FileLine) (c : Option Refusal) → refusal_at_end ls ≡ c → ended n ls c ≡ Ok lines → (ls ≡ lines) × (refusal_at_end lines ≡ None)
ended_whole n ls lines None none p =
    let same : ls ≡ lines = cc in
    (same, ap refusal_at_end (sym same) ∙ none)
ended_whole n ls lines (Some c) none p = cc

pub whole_file : (n : ℕ) (r : Result (List FileLine) Refused) (lines : List FileLine) → ended_at n r ≡ Ok lines → (r ≡ Ok lines) × (refusal_at_end lines ≡ None)
whole_file n (Ok ls) lines is =
    let both = ended_whole n ls lines (refusal_at_end ls) refl is in
    (ap Ok both.0, both.1)
whole_file n (Err r) lines is = cc

pub file_in_order : (bytes : List ℕ) (lines : List FileLine) → ended_at (length (lines_of bytes) + 1) (lines_in (lines_of bytes)) ≡ Ok lines → IsStreamFile (parts lines)
file_in_order bytes lines is =
    let both = whole_file (length (lines_of bytes) + 1) (lines_in (lines_of bytes)) lines is in
    record { lines = lines; order = so_far_in_order (lines_of bytes) lines both.0; whole = both.1; are = refl }
