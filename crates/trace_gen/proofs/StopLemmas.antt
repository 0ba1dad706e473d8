-- What may stop a generated trace: its lines are too few and too short for the limits on them, and it has no fault.
use Rattle.std.proofs.Common.{◌≡◌, ◌∙◌, ◌+◌, ◌*◌, ◌≤◌, ◌/◌, ◌%◌, ◌||◌, ◌∷◌, ◌++◌, [], ℕ, zero, suc, Bool, true, false, cond, Option, Some, None, Ok, List, length, map, reverse, decimal, codes, refl, sym, ap, subst, arith, eqb, ltb, length-append}
use Rattle.std.proofs.lemmas.Bool.{le-ltb}
use Rattle.std.proofs.lemmas.Fmt.{length-decimal-le}
use Rattle.std.proofs.lemmas.List.{reverse-reverse}
use Rattle.std.specs.Prelude.{Result, drop}
use Rattle.std.specs.List.{AllByRecursion, flat_map, remove}
use Rattle.std.specs.Option.{option_map}
use Rattle.command_tables.specs.Table.{row_of}
use Rattle.replay_base.specs.declared.limit.TheConstants.{MOST_LINE_BYTES}
use Rattle.replay_base.specs.Lines.{lines_of}
use Rattle.replay_model.specs.declared.TheConstants.{MOST_LINES}
use Rattle.replay_model.specs.Setup.{Setup}
use Rattle.replay_model.specs.Stop.{Cause, Layers, Lines, LineBytes, at_fault, cause_before, exceeds_layers, header_cause, line_after, line_at, stop, stop_behind, stop_from, stop_in}
use Rattle.replay_model.specs.Stop.{events_of as events_seen}
use Rattle.replay_model.proofs.Stops.{line_layered, line_looked, line_placed, stop_here, stop_next, trace-spelled}
use Rattle.trace_format.specs.declared.fault.TraceFault.{TraceFault}
use Rattle.trace_format.specs.declared.limits.TheConstants.{MAX_NAMES}
use Rattle.trace_format.specs.Accepting.{header}
use Rattle.trace_format.specs.Content.{TraceEvent, Return}
use Rattle.trace_format.specs.Grammar.{IsEvent, spelling}
use Rattle.trace_format.specs.Reading.{read_line}
use Rattle.trace_format.proofs.Lines.{printed_event}
use Rattle.trace_gen.specs.declared.call.Call.{Call}
use Rattle.trace_gen.specs.declared.call.Call.TheVariants as call
use Rattle.trace_gen.specs.declared.text.TheConstants.{LINE_ROOM}
use Rattle.trace_gen.specs.declared.turns.TheConstants.{MOST_CALLS}
use Rattle.trace_gen.specs.Accepted.{Follow, IsFaultless}
use Rattle.trace_gen.specs.Stops.{StopsAtLayersAlone}
use Rattle.trace_gen.specs.Text.{begin_of, event_line, events_of, generated, generated_events}
use Rattle.trace_gen.specs.Turns.{Between, asks, calls_of, creates, destroys, drawn, ending, following, started, turn, turn_by, turns}
use Rattle.trace_gen.proofs.AcceptedLemmas.{faultless}
use Rattle.trace_gen.proofs.Bounds.{bytes_suffice, lines_suffice, seven_digits}
use Rattle.trace_gen.proofs.TextLemmas.{asks_buffer, creates_buffer, creates_device, creates_instance, destroys_buffer, destroys_device, destroys_instance, enumerates, returns}

-- ---- there are few lines

removed : (ks : List ℕ) (i : ℕ) → length (remove ks i) ≤ length ks
removed [] zero = omega arith
removed [] (suc i) = omega arith
removed (k ∷ ks) zero = omega arith
removed (k ∷ ks) (suc i) = omega (arith, removed ks i)

-- a turn makes one buffer at most
turn_adds : (b : Between) (r : ℕ) → length (turn_by b r).after.buffers ≤ length b.buffers + 1
turn_adds b r = go (eqb (length b.buffers) 0 || eqb (r % 3) 0) (eqb (r % 3) 1)
  where
    go : (none one : Bool) → length (cond none (creates b) (cond one (asks b ((r / 3) % length b.buffers)) (destroys b ((r / 3) % length b.buffers)))).after.buffers ≤ length b.buffers + 1
    go true one = omega (arith, length-append b.buffers (b.next ∷ []))
    go false true = omega arith
    go false false = omega (arith, removed b.buffers ((r / 3) % length b.buffers))

ends_few : (ks : List ℕ) → length (ending ks) ≡ length ks + 2
ends_few [] = refl
ends_few (k ∷ ks) = omega (arith, ends_few ks)

turns_few : (n : ℕ) (b : Between) → length (turns n b) ≤ n + n + length b.buffers + 2
turns_few zero b = omega (arith, ends_few b.buffers)
turns_few (suc n) b =
    let adds : length (turn b).after.buffers ≤ length b.buffers + 1 = turn_adds (record b { number = following b.number }) (drawn (following b.number)) in
    omega (arith, turns_few n (turn b).after, adds)

two_each : (calls : List Call) → length (flat_map events_of calls) ≡ length calls + length calls
two_each [] = refl
two_each (c ∷ calls) = omega (arith, two_each calls)

pub events_few : (number count : ℕ) → count ≤ MOST_CALLS → length (generated_events number count) ≤ 4 * MOST_CALLS + 10
events_few number count few = omega (arith, two_each (calls_of number count), turns_few count (started number))

-- ---- each is short

abbrev IsShort : TraceEvent → Type 0
IsShort e = length (spelling e) ≤ LINE_ROOM

-- as its line with the LF is
short_line : (e : TraceEvent) (text : List ℕ) → event_line e ≡ text → length text ≤ LINE_ROOM → IsShort e
short_line e text is few = omega (arith, length-append (spelling e) (10 ∷ []), ap length is, few)

-- a line with a buffer's number
short_number : (front back : List ℕ) (k : ℕ) → k ≤ MAX_NAMES → length front + length back + 7 ≤ LINE_ROOM → length (front ++ (decimal k ++ back)) ≤ LINE_ROOM
short_number front back k low few = omega (arith, length-append front (decimal k ++ back), length-append (decimal k) back, length-decimal-le 7 k (omega arith) (omega (arith, seven_digits)) (omega (arith, seven_digits)), few)

creates_within : (k : ℕ) → IsEvent (begin_of (call.CreateBuffer k)) → k ≤ MAX_NAMES
creates_within k event = event.names.0.1.1

asks_within : (k : ℕ) → IsEvent (begin_of (call.GetBufferMemoryRequirements k)) → k ≤ MAX_NAMES
unfolding row_of
asks_within k event = event.args.1.0.2.0.1.1

destroys_within : (k : ℕ) → IsEvent (begin_of (call.DestroyBuffer k)) → k ≤ MAX_NAMES
unfolding row_of
destroys_within k event = event.args.1.0.2.0.1.1

begin_short : (c : Call) → IsEvent (begin_of c) → IsShort (begin_of c)
begin_short call.CreateInstance event = short_line (begin_of call.CreateInstance) (codes "b 1 vkCreateInstance = %1.1 VK_SUCCESS\n") creates_instance (omega arith)
begin_short call.EnumeratePhysicalDevices event = short_line (begin_of call.EnumeratePhysicalDevices) (codes "b 1 vkEnumeratePhysicalDevices %1.1 = %1.2 VK_SUCCESS\n") enumerates (omega arith)
begin_short call.CreateDevice event = short_line (begin_of call.CreateDevice) (codes "b 1 vkCreateDevice %1.2 = %1.3 VK_SUCCESS\n") creates_device (omega arith)
begin_short (call.CreateBuffer k) event =
    short_line (begin_of (call.CreateBuffer k)) (codes "b 1 vkCreateBuffer %1.3 = %1." ++ (decimal k ++ codes " VK_SUCCESS\n")) (creates_buffer k)
    (short_number (codes "b 1 vkCreateBuffer %1.3 = %1.") (codes " VK_SUCCESS\n") k (creates_within k event) (omega arith))
begin_short (call.GetBufferMemoryRequirements k) event =
    short_line (begin_of (call.GetBufferMemoryRequirements k)) (codes "b 1 vkGetBufferMemoryRequirements %1.3 %1." ++ (decimal k ++ codes " void\n")) (asks_buffer k)
    (short_number (codes "b 1 vkGetBufferMemoryRequirements %1.3 %1.") (codes " void\n") k (asks_within k event) (omega arith))
begin_short (call.DestroyBuffer k) event =
    short_line (begin_of (call.DestroyBuffer k)) (codes "b 1 vkDestroyBuffer %1.3 %1." ++ (decimal k ++ codes " void\n")) (destroys_buffer k)
    (short_number (codes "b 1 vkDestroyBuffer %1.3 %1.") (codes " void\n") k (destroys_within k event) (omega arith))
begin_short call.DestroyDevice event = short_line (begin_of call.DestroyDevice) (codes "b 1 vkDestroyDevice %1.3 void\n") destroys_device (omega arith)
begin_short call.DestroyInstance event = short_line (begin_of call.DestroyInstance) (codes "b 1 vkDestroyInstance %1.1 void\n") destroys_instance (omega arith)

return_short : IsShort (Return 1)
return_short = short_line (Return 1) (codes "r 1\n") returns (omega arith)

calls_short : (calls : List Call) (before : List TraceEvent) → Follow before (flat_map events_of calls) → AllByRecursion IsShort (flat_map events_of calls)
calls_short [] before follow = tt
calls_short (c ∷ calls) before follow = (begin_short c follow.0, (return_short, calls_short calls (Return 1 ∷ begin_of c ∷ before) follow.3.3))

-- ---- so the limits on lines pass them

looked : (n : ℕ) (line : List ℕ) → n ≤ MOST_LINES → length line ≤ MOST_LINE_BYTES → cause_before n line ≡ None
looked n line few short = ap (λ b. cond b (Some Lines) (cond (ltb MOST_LINE_BYTES (length line)) (Some LineBytes) None)) (le-ltb MOST_LINES n few) ∙ ap (λ b. cond b (Some LineBytes) None) (le-ltb MOST_LINE_BYTES (length line) short)

-- events that follow one another, in few and short lines
stops_from : (s : Setup) (n : ℕ) (before events : List TraceEvent) → n + length events ≤ MOST_LINES → AllByRecursion IsShort events → Follow before events → StopsAtLayersAlone (stop_from s n before (map spelling events))
stops_from s n before [] few short follow = subst (λ (f : Option TraceFault). StopsAtLayersAlone (option_map (at_fault n) f)) (sym follow) tt
stops_from s n before (e ∷ events) few short follow = go (exceeds_layers s e) refl (stops_from s (n + 1) (e ∷ before) events (omega arith) short.1 follow.3)
  where
    read : read_line (spelling e) ≡ Ok e
    read = printed_event e follow.0

    at : line_at s n before (spelling e) ≡ line_after s before (spelling e)
    at = line_looked s n before (spelling e) (looked n (spelling e) (omega arith) (omega (arith, short.0, bytes_suffice)))

    go : (layers : Bool) → exceeds_layers s e ≡ layers → StopsAtLayersAlone (stop_from s (n + 1) (e ∷ before) (map spelling events)) → StopsAtLayersAlone (stop_from s n before (spelling e ∷ map spelling events))
    go true is rest = subst StopsAtLayersAlone (sym (stop_here s n before (spelling e) (map spelling events) Layers (at ∙ line_layered s before (spelling e) e read follow.1 follow.2 is))) refl
    go false is rest = subst StopsAtLayersAlone (sym (stop_next s n before (spelling e) (map spelling events) e (at ∙ line_placed s before (spelling e) e read follow.1 follow.2 is))) rest

header_passes : (lines : List (List ℕ)) → header_cause (header ∷ lines) ≡ None
header_passes lines = refl

-- any text whose lines are the header and those of such events
stops_in : (s : Setup) (lines : List (List ℕ)) (events : List TraceEvent) → lines ≡ header ∷ map spelling events → 2 + length events ≤ MOST_LINES → AllByRecursion IsShort events → Follow [] events → StopsAtLayersAlone (stop_in s lines)
stops_in s lines events are few short follow = subst (λ (ls : List (List ℕ)). StopsAtLayersAlone (stop_in s ls)) (sym are) behind
  where
    behind : StopsAtLayersAlone (stop_in s (header ∷ map spelling events))
    behind = subst (λ (c : Option Cause). StopsAtLayersAlone (stop_behind s c (header ∷ map spelling events))) (sym (header_passes (map spelling events))) (stops_from s 2 [] events few short follow)

pub only_layers : (s : Setup) (number count : ℕ) → count ≤ MOST_CALLS → StopsAtLayersAlone (stop s (generated number count))
only_layers s number count few =
    let is : IsFaultless (generated number count) (generated_events number count) = faultless number count few in
    stops_in s (lines_of (generated number count)) (generated_events number count) is.lines (omega (arith, events_few number count few, lines_suffice)) (calls_short (calls_of number count) [] is.follow) is.follow

-- ---- and where none stops, all events are there

abbrev read_as : TraceEvent → Result TraceEvent TraceFault
read_as e = Ok e

same_events : (xs ys : List TraceEvent) → map read_as xs ≡ map read_as ys → xs ≡ ys
same_events [] [] is = refl
same_events [] (y ∷ ys) is = cc
same_events (x ∷ xs) [] is = cc
same_events (x ∷ xs) (y ∷ ys) is =
    let first : x ≡ y = cc in
    let others : map read_as xs ≡ map read_as ys = cc in
    let rest : xs ≡ ys = same_events xs ys others in
    cc

-- each line is read as the event that it spells
all_read : (before events : List TraceEvent) → Follow before events → map read_line (map spelling events) ≡ map read_as events
all_read before [] follow = refl
all_read before (e ∷ events) follow = ap (λ r. r ∷ map read_line (map spelling events)) (printed_event e follow.0) ∙ ap (λ rs. read_as e ∷ rs) (all_read (e ∷ before) events follow.3)

pub all_events : (s : Setup) (number count : ℕ) → count ≤ MOST_CALLS → stop s (generated number count) ≡ None → events_seen s (generated number count) ≡ reverse (generated_events number count)
all_events s number count few none =
    let is : IsFaultless (generated number count) (generated_events number count) = faultless number count few in
    let spelled : map read_as (reverse (events_seen s (generated number count))) ≡ map read_line (drop 1 (lines_of (generated number count))) = trace-spelled s (generated number count) none in
    let read : map read_line (drop 1 (lines_of (generated number count))) ≡ map read_as (generated_events number count) = ap (λ ls. map read_line (drop 1 ls)) is.lines ∙ all_read [] (generated_events number count) is.follow in
    let same : reverse (events_seen s (generated number count)) ≡ generated_events number count = same_events (reverse (events_seen s (generated number count))) (generated_events number count) (spelled ∙ read) in
    sym (reverse-reverse (events_seen s (generated number count))) ∙ ap reverse same
