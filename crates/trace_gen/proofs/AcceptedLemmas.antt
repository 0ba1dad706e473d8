-- A generated trace has no fault.
use Rattle.std.proofs.Common.{◌≡◌, ◌∙◌, ◌+◌, ◌≤◌, ◌<◌, ◌/◌, ◌%◌, ◌||◌, ◌∷◌, ◌++◌, ◌⊎◌, inl, inr, [], ℕ, zero, suc, Bool, true, false, cond, List, Some, None, length, refl, ap, subst, arith, eqb, ltb, eq-eqb, append_assoc}
use Rattle.std.specs.Prelude.{Contains, map}
use Rattle.std.proofs.lemmas.List.Elements.{Contains-get_or}
use Rattle.std.proofs.lemmas.Bool.{cases_eq, eqb-false, le-ltb, ne_eqb}
use Rattle.std.specs.Prelude.{slice_index}
use Rattle.std.specs.List.{flat_map, remove}
use Rattle.command_tables.specs.declared.types.ObjectType.TheVariants as ty
use Rattle.command_tables.specs.Table.{row_of}
use Rattle.command_tables.specs.Tests.{same_code, same_command, same_type}
use Rattle.trace_format.specs.declared.limits.TheConstants.{MAX_NAMES}
use Rattle.trace_format.specs.Accepting.{breaks_in, exceeds_names, header, fault_after, fault_at_end, names_given, names_in, open_threads, type_given}
use Rattle.trace_format.specs.Content.{TraceEvent, Return}
use Rattle.trace_format.specs.Grammar.{IsEvent, IsName, spelling}
use Rattle.trace_format.proofs.Lines.{no_line_feed}
use Rattle.replay_base.specs.Lines.{HasNoFeed, line_text, lines_of}
use Rattle.replay_base.proofs.LineLemmas.{line_before}
use Rattle.trace_gen.specs.declared.call.Call.{Call}
use Rattle.trace_gen.specs.declared.call.Call.TheVariants as call
use Rattle.trace_gen.specs.declared.turns.TheConstants.{MOST_CALLS}
use Rattle.trace_gen.specs.Text.{begin_of, calls_text, event_line, events_of, generated, generated_events, name}
use Rattle.trace_gen.specs.Turns.{Between, Turn, calls_of, started, asks, creates, destroys, drawn, ending, following, turn, turn_by, turns}
use Rattle.trace_gen.specs.Accepted.{Follow, IsFaultless}
use Rattle.trace_gen.proofs.Bounds.{first_thread, names_suffice}

-- between two calls, of which the next creation gives the name next: no call is open, the names below it were given, name 1 is an instance's, 3 a device's,
-- and those behind are buffers'
record Past (before : List TraceEvent) (next : ℕ) : Type 0 where
  closed : open_threads before ≡ []
  given : names_given 1 before + 1 ≡ next
  names : names_in before + 1 ≡ next
  instance : type_given (name 1) before ≡ Some ty.Instance
  device : type_given (name 3) before ≡ Some ty.Device
  buffer : (k : ℕ) → 4 ≤ k → k < next → type_given (name k) before ≡ Some ty.Buffer
  settled : (e : TraceEvent) → breaks_in before e ≡ false

-- ---- one call behind such a past

asks_fits : (before : List TraceEvent) (next k : ℕ) → Past before next → 4 ≤ k → k < next → fault_after before (begin_of (call.GetBufferMemoryRequirements k)) ≡ None
unfolding row_of same_code same_command same_type
asks_fits before next k past low high = rw (past.closed, past.device, past.buffer k low high, past.settled (begin_of (call.GetBufferMemoryRequirements k))) refl

destroys_fits : (before : List TraceEvent) (next k : ℕ) → Past before next → 4 ≤ k → k < next → fault_after before (begin_of (call.DestroyBuffer k)) ≡ None
unfolding row_of same_code same_command same_type
destroys_fits before next k past low high = rw (past.closed, past.device, past.buffer k low high, past.settled (begin_of (call.DestroyBuffer k))) refl

creates_fits : (before : List TraceEvent) (next : ℕ) → Past before next → fault_after before (begin_of (call.CreateBuffer next)) ≡ None
unfolding row_of same_code same_command same_type
creates_fits before next past =
    let same : eqb next next ≡ true = eq-eqb next next refl in
    rw (past.closed, past.device, past.given, same, past.settled (begin_of (call.CreateBuffer next))) refl

device_fits : (before : List TraceEvent) (next : ℕ) → Past before next → fault_after before (begin_of call.DestroyDevice) ≡ None
unfolding row_of same_code same_command same_type
device_fits before next past = rw (past.closed, past.device, past.settled (begin_of call.DestroyDevice)) refl

instance_fits : (before : List TraceEvent) (next : ℕ) → Past before next → fault_after before (begin_of call.DestroyInstance) ≡ None
unfolding row_of same_code same_command same_type
instance_fits before next past = rw (past.closed, past.instance, past.settled (begin_of call.DestroyInstance)) refl

-- its return fits directly behind it
return_fits : (before : List TraceEvent) (c : Call) → fault_after (begin_of c ∷ before) (Return 1) ≡ None
unfolding row_of same_code same_command same_type
return_fits before call.CreateInstance = refl
return_fits before call.EnumeratePhysicalDevices = refl
return_fits before call.CreateDevice = refl
return_fits before (call.CreateBuffer k) = refl
return_fits before (call.GetBufferMemoryRequirements k) = refl
return_fits before (call.DestroyBuffer k) = refl
return_fits before call.DestroyDevice = refl
return_fits before call.DestroyInstance = refl

-- ---- the past behind a call

-- a call that gives no name leaves the past as it is
asks_past : (before : List TraceEvent) (next k : ℕ) → Past before next → Past (Return 1 ∷ begin_of (call.GetBufferMemoryRequirements k) ∷ before) next
asks_past before next k past = record {
  closed = rw past.closed refl;
  given = omega (arith, past.given);
  names = omega (arith, past.names);
  instance = past.instance;
  device = past.device;
  buffer = past.buffer;
  settled = λ e. refl;
}

destroys_past : (before : List TraceEvent) (next k : ℕ) → Past before next → Past (Return 1 ∷ begin_of (call.DestroyBuffer k) ∷ before) next
destroys_past before next k past = record {
  closed = rw past.closed refl;
  given = omega (arith, past.given);
  names = omega (arith, past.names);
  instance = past.instance;
  device = past.device;
  buffer = past.buffer;
  settled = λ e. refl;
}

device_past : (before : List TraceEvent) (next : ℕ) → Past before next → Past (Return 1 ∷ begin_of call.DestroyDevice ∷ before) next
device_past before next past = record {
  closed = rw past.closed refl;
  given = omega (arith, past.given);
  names = omega (arith, past.names);
  instance = past.instance;
  device = past.device;
  buffer = past.buffer;
  settled = λ e. refl;
}

instance_past : (before : List TraceEvent) (next : ℕ) → Past before next → Past (Return 1 ∷ begin_of call.DestroyInstance ∷ before) next
instance_past before next past = record {
  closed = rw past.closed refl;
  given = omega (arith, past.given);
  names = omega (arith, past.names);
  instance = past.instance;
  device = past.device;
  buffer = past.buffer;
  settled = λ e. refl;
}

-- a creation gives the next name to a buffer
creates_past : (before : List TraceEvent) (next : ℕ) → Past before next → 4 ≤ next → Past (Return 1 ∷ begin_of (call.CreateBuffer next) ∷ before) (next + 1)
unfolding row_of
creates_past before next past low = record {
  closed = rw past.closed refl;
  given = omega (arith, past.given);
  names = omega (arith, past.names);
  instance = rw (ne_eqb next 1 (λ e. omega arith)) past.instance;
  device = rw (ne_eqb next 3 (λ e. omega arith)) past.device;
  buffer = λ k from below. buffer_given k (cases_eq next k) from below;
  settled = λ e. refl;
}
  where
    buffer_given : (k : ℕ) → (next ≡ k) ⊎ (next ≡ k → ⊥) → 4 ≤ k → k < next + 1 → type_given (name k) (Return 1 ∷ begin_of (call.CreateBuffer next) ∷ before) ≡ Some ty.Buffer
    buffer_given k (inl same) from below = rw (eq-eqb next k same) refl
    buffer_given k (inr other) from below = rw (ne_eqb next k other) (past.buffer k from (omega arith))

-- ---- numbers of names

name_fits : (k : ℕ) → 1 ≤ k → k ≤ MOST_CALLS + 4 → IsName (name k)
name_fits k low high = (first_thread, (low, omega (arith, names_suffice)))

-- a call without names passes no limit
few_names : (before : List TraceEvent) (next : ℕ) → Past before next → next ≤ MOST_CALLS + 4 → ltb MAX_NAMES (names_in before + 0) ≡ false
few_names before next past few = le-ltb MAX_NAMES (names_in before + 0) (omega (arith, past.names, names_suffice))

few_more_names : (before : List TraceEvent) (next : ℕ) → Past before next → next + 1 ≤ MOST_CALLS + 4 → ltb MAX_NAMES (names_in before + 1) ≡ false
few_more_names before next past few = le-ltb MAX_NAMES (names_in before + 1) (omega (arith, past.names, names_suffice))

-- ---- events of the grammar

begins_buffer : (k : ℕ) → 1 ≤ k → k ≤ MOST_CALLS + 4 → IsEvent (begin_of (call.CreateBuffer k))
unfolding row_of
begins_buffer k low high = record {
  thread = first_thread;
  args = ((refl, refl, (name_fits 3 (omega arith) (omega arith), tt)), tt);
  first = (refl, tt);
  results = refl;
  names = (name_fits k low high, tt);
  code = refl;
  payload = tt;
}

begins_asking : (k : ℕ) → 1 ≤ k → k ≤ MOST_CALLS + 4 → IsEvent (begin_of (call.GetBufferMemoryRequirements k))
unfolding row_of
begins_asking k low high = record {
  thread = first_thread;
  args = ((refl, refl, (name_fits 3 (omega arith) (omega arith), tt)), ((refl, refl, (name_fits k low high, tt)), tt));
  first = (refl, tt);
  results = refl;
  names = tt;
  code = refl;
  payload = tt;
}

begins_end : (k : ℕ) → 1 ≤ k → k ≤ MOST_CALLS + 4 → IsEvent (begin_of (call.DestroyBuffer k))
unfolding row_of
begins_end k low high = record {
  thread = first_thread;
  args = ((refl, refl, (name_fits 3 (omega arith) (omega arith), tt)), ((refl, refl, (name_fits k low high, tt)), tt));
  first = (refl, tt);
  results = refl;
  names = tt;
  code = refl;
  payload = tt;
}

begins_device_end : IsEvent (begin_of call.DestroyDevice)
unfolding row_of
begins_device_end = record {
  thread = first_thread;
  args = ((refl, refl, (name_fits 3 (omega arith) (omega arith), tt)), tt);
  first = (refl, tt);
  results = refl;
  names = tt;
  code = refl;
  payload = tt;
}

begins_instance_end : IsEvent (begin_of call.DestroyInstance)
unfolding row_of
begins_instance_end = record {
  thread = first_thread;
  args = ((refl, refl, (name_fits 1 (omega arith) (omega arith), tt)), tt);
  first = (refl, tt);
  results = refl;
  names = tt;
  code = refl;
  payload = tt;
}

-- ---- calls, one behind the other

-- a call that fits comes before events that follow it
call_follows : (before : List TraceEvent) (c : Call) (events : List TraceEvent) → IsEvent (begin_of c) → fault_after before (begin_of c) ≡ None → exceeds_names before (begin_of c) ≡ false → Follow (Return 1 ∷ begin_of c ∷ before) events → Follow before (events_of c ++ events)
call_follows before c events event fits few rest = (event, fits, few, (first_thread, return_fits before c, few, rest))

-- names of buffers that were created
abbrev Within : ℕ → List ℕ → Type 0
Within next [] = Unit {0}
Within next (k ∷ ks) = (4 ≤ k) × (k < next) × Within next ks

within_at : (next : ℕ) (ks : List ℕ) (i : ℕ) → Within next ks → i < length ks → (4 ≤ slice_index ks i) × (slice_index ks i < next)
within_at next [] i all below = absurd (omega arith)
within_at next (k ∷ ks) zero all below = (all.0, all.1)
within_at next (k ∷ ks) (suc i) all below = within_at next ks i all.2 (omega arith)

-- with the next name behind them
within_more : (next : ℕ) (ks : List ℕ) → 4 ≤ next → Within next ks → Within (next + 1) (ks ++ next ∷ [])
within_more next [] low all = (low, omega arith, tt)
within_more next (k ∷ ks) low all = (all.0, omega (arith, all.1), within_more next ks low all.2)

-- without one of them
within_less : (next : ℕ) (ks : List ℕ) (i : ℕ) → Within next ks → Within next (remove ks i)
within_less next [] zero all = tt
within_less next [] (suc i) all = tt
within_less next (k ∷ ks) zero all = all.2
within_less next (k ∷ ks) (suc i) all = (all.0, all.1, within_less next ks i all.2)

-- the past behind a call
abbrev behind : Call → List TraceEvent → List TraceEvent
behind c before = Return 1 ∷ begin_of c ∷ before

-- the end: the buffers, the device and the instance
ends_follow : (before : List TraceEvent) (next : ℕ) (ks : List ℕ) → Past before next → next ≤ MOST_CALLS + 4 → Within next ks → Follow before (flat_map events_of (ending ks))
ends_follow before next [] past few all =
    let left : List TraceEvent = behind call.DestroyDevice before in
    let past_left : Past left next = device_past before next past in
    let past_last : Past (behind call.DestroyInstance left) next = instance_past left next past_left in
    let closed : fault_at_end (behind call.DestroyInstance left) ≡ None = rw past_last.closed refl in
    let last : Follow left (events_of call.DestroyInstance ++ []) = call_follows left call.DestroyInstance [] begins_instance_end (instance_fits left next past_left) (few_names left next past_left few) closed in
    call_follows before call.DestroyDevice (events_of call.DestroyInstance ++ []) begins_device_end (device_fits before next past) (few_names before next past few) last
ends_follow before next (k ∷ ks) past few all =
    call_follows before (call.DestroyBuffer k) (flat_map events_of (ending ks)) (begins_end k (omega (arith, all.0)) (omega (arith, all.1))) (destroys_fits before next k past all.0 all.1) (few_names before next past few)
    (ends_follow (behind (call.DestroyBuffer k) before) next ks (destroys_past before next k past) few all.2)

-- ---- turns

-- what is known between two turns
record Ready (before : List TraceEvent) (b : Between) (left : ℕ) : Type 0 where
  past : Past before b.next
  low : 4 ≤ b.next
  few : b.next + left ≤ MOST_CALLS + 4
  within : Within b.next b.buffers

-- a turn's call fits, and what is known then
record Turns (before : List TraceEvent) (t : Turn) (left : ℕ) : Type 0 where
  event : IsEvent (begin_of t.call)
  fits : fault_after before (begin_of t.call) ≡ None
  few : exceeds_names before (begin_of t.call) ≡ false
  then : Ready (behind t.call before) t.after left

creates_turns : (before : List TraceEvent) (b : Between) (left : ℕ) → Ready before b (suc left) → Turns before (creates b) left
creates_turns before b left r = record {
  event = begins_buffer b.next (omega (arith, r.low)) (omega (arith, r.few));
  fits = creates_fits before b.next r.past;
  few = few_more_names before b.next r.past (omega (arith, r.few));
  then = record {
    past = creates_past before b.next r.past r.low;
    low = omega (arith, r.low);
    few = omega (arith, r.few);
    within = within_more b.next b.buffers r.low r.within;
  };
}

asks_turns : (before : List TraceEvent) (b : Between) (left k : ℕ) → Ready before b (suc left) → k < length b.buffers → Turns before (asks b k) left
asks_turns before b left k r below =
    let here = within_at b.next b.buffers k r.within below in
    let buffer : ℕ = slice_index b.buffers k in
    record {
      event = begins_asking buffer (omega (arith, here.0)) (omega (arith, here.1, r.few));
      fits = asks_fits before b.next buffer r.past here.0 here.1;
      few = few_names before b.next r.past (omega (arith, r.few));
      then = record { past = asks_past before b.next buffer r.past; low = r.low; few = omega (arith, r.few); within = r.within };
    }

destroys_turns : (before : List TraceEvent) (b : Between) (left k : ℕ) → Ready before b (suc left) → k < length b.buffers → Turns before (destroys b k) left
destroys_turns before b left k r below =
    let here = within_at b.next b.buffers k r.within below in
    let buffer : ℕ = slice_index b.buffers k in
    record {
      event = begins_end buffer (omega (arith, here.0)) (omega (arith, here.1, r.few));
      fits = destroys_fits before b.next buffer r.past here.0 here.1;
      few = few_names before b.next r.past (omega (arith, r.few));
      then = record { past = destroys_past before b.next buffer r.past; low = r.low; few = omega (arith, r.few); within = within_less b.next b.buffers k r.within };
    }

-- any turn
by_turns : (before : List TraceEvent) (b : Between) (left r : ℕ) → Ready before b (suc left) → Turns before (turn_by b r) left
by_turns before b left r ready = first (eqb (length b.buffers) 0) (eqb-false (length b.buffers) 0) (eqb (r % 3) 0) (eqb (r % 3) 1)
  where
    third : (length b.buffers ≡ 0 → ⊥) → (one : Bool) → Turns before (cond one (asks b ((r / 3) % length b.buffers)) (destroys b ((r / 3) % length b.buffers))) left
    third some true = asks_turns before b left ((r / 3) % length b.buffers) ready (omega (arith, some))
    third some false = destroys_turns before b left ((r / 3) % length b.buffers) ready (omega (arith, some))

    second : (length b.buffers ≡ 0 → ⊥) → (none one : Bool) → Turns before (cond none (creates b) (cond one (asks b ((r / 3) % length b.buffers)) (destroys b ((r / 3) % length b.buffers)))) left
    second some true one = creates_turns before b left ready
    second some false one = third some one

    first : (empty : Bool) → (empty ≡ false → length b.buffers ≡ 0 → ⊥) → (none one : Bool) → Turns before (cond (empty || none) (creates b) (cond one (asks b ((r / 3) % length b.buffers)) (destroys b ((r / 3) % length b.buffers)))) left
    first true is none one = creates_turns before b left ready
    first false is none one = second (is refl) none one

-- all turns and the end
turns_follow : (n : ℕ) (before : List TraceEvent) (b : Between) → Ready before b n → Follow before (flat_map events_of (turns n b))
turns_follow zero before b ready = ends_follow before b.next b.buffers ready.past (omega (arith, ready.few)) ready.within
turns_follow (suc n) before b ready =
    let x : ℕ = following b.number in
    let t : Turns before (turn b) n = by_turns before (record b { number = x }) n (drawn x) (record { past = ready.past; low = ready.low; few = ready.few; within = ready.within }) in
    call_follows before (turn b).call (flat_map events_of (turns n (turn b).after)) t.event t.fits t.few (turns_follow n (behind (turn b).call before) (turn b).after t.then)

-- ---- from the first call on

begins_instance : IsEvent (begin_of call.CreateInstance)
unfolding row_of
begins_instance = record {
  thread = first_thread;
  args = tt;
  first = tt;
  results = refl;
  names = (name_fits 1 (omega arith) (omega arith), tt);
  code = refl;
  payload = tt;
}

begins_devices : IsEvent (begin_of call.EnumeratePhysicalDevices)
unfolding row_of
begins_devices = record {
  thread = first_thread;
  args = ((refl, refl, (name_fits 1 (omega arith) (omega arith), tt)), tt);
  first = (refl, tt);
  results = refl;
  names = (name_fits 2 (omega arith) (omega arith), tt);
  code = refl;
  payload = tt;
}

begins_device : IsEvent (begin_of call.CreateDevice)
unfolding row_of
begins_device = record {
  thread = first_thread;
  args = ((refl, refl, (name_fits 2 (omega arith) (omega arith), tt)), tt);
  first = (refl, tt);
  results = refl;
  names = (name_fits 3 (omega arith) (omega arith), tt);
  code = refl;
  payload = tt;
}

-- what stands behind the first call
abbrev first_call : List TraceEvent
first_call = behind call.CreateInstance []

-- behind the second
abbrev second_call : List TraceEvent
second_call = behind call.EnumeratePhysicalDevices first_call

-- behind the third
abbrev third_call : List TraceEvent
third_call = behind call.CreateDevice second_call

first_fits : fault_after [] (begin_of call.CreateInstance) ≡ None
unfolding row_of same_code same_command same_type
first_fits = refl

second_fits : fault_after first_call (begin_of call.EnumeratePhysicalDevices) ≡ None
unfolding row_of same_code same_command same_type
second_fits = refl

third_fits : fault_after second_call (begin_of call.CreateDevice) ≡ None
unfolding row_of same_code same_command same_type
third_fits = refl

third_past : Past third_call 4
unfolding row_of same_command
third_past = record {
  closed = refl;
  given = refl;
  names = refl;
  instance = refl;
  device = refl;
  buffer = λ k low high. absurd (omega arith);
  settled = λ e. refl;
}

follow_all : (number count : ℕ) → count ≤ MOST_CALLS → Follow [] (generated_events number count)
follow_all number count few =
    let later : List TraceEvent = flat_map events_of (turns count (started number)) in
    let ready : Ready third_call (started number) count = record { past = third_past; low = omega arith; few = omega arith; within = tt } in
    let third : Follow second_call (events_of call.CreateDevice ++ later) = call_follows second_call call.CreateDevice later begins_device third_fits (le-ltb MAX_NAMES 3 (omega (arith, names_suffice))) (turns_follow count third_call (started number) ready) in
    let second : Follow first_call (events_of call.EnumeratePhysicalDevices ++ (events_of call.CreateDevice ++ later)) =
    call_follows first_call call.EnumeratePhysicalDevices (events_of call.CreateDevice ++ later) begins_devices second_fits (le-ltb MAX_NAMES 2 (omega (arith, names_suffice))) third in
    call_follows [] call.CreateInstance (events_of call.EnumeratePhysicalDevices ++ (events_of call.CreateDevice ++ later)) begins_instance first_fits (le-ltb MAX_NAMES 1 (omega (arith, names_suffice))) second

-- ---- lines

-- no spelling holds a line feed
no_feed : (e : TraceEvent) → IsEvent e → HasNoFeed (spelling e)
no_feed e event = record { none = λ k below is. no_line_feed (spelling e) e (record { event = event; text = refl }) (subst (λ (b : ℕ). Contains (spelling e) b) is (Contains-get_or (spelling e) k 0 below)) }

-- an event's line comes before the lines behind it
line_first : (e : TraceEvent) (more : List ℕ) → IsEvent e → lines_of (event_line e ++ more) ≡ spelling e ∷ lines_of more
line_first e more event = line_before (spelling e) more true (no_feed e event) (λ not. absurd (cc))

-- the lines of calls are those of their events
calls_lines : (calls : List Call) (before : List TraceEvent) → Follow before (flat_map events_of calls) → lines_of (calls_text calls) ≡ map spelling (flat_map events_of calls)
calls_lines [] before follow = refl
calls_lines (c ∷ calls) before follow =
    let rest : lines_of (calls_text calls) ≡ map spelling (flat_map events_of calls) = calls_lines calls (behind c before) follow.3.3 in
    let second : lines_of (event_line (Return 1) ++ calls_text calls) ≡ spelling (Return 1) ∷ map spelling (flat_map events_of calls) = line_first (Return 1) (calls_text calls) follow.3.0 ∙ ap (λ ls. spelling (Return 1) ∷ ls) rest in
    ap lines_of (append_assoc (event_line (begin_of c)) (event_line (Return 1)) (calls_text calls))
    ∙ (line_first (begin_of c) (event_line (Return 1) ++ calls_text calls) follow.0 ∙ ap (λ ls. spelling (begin_of c) ∷ ls) second)

header_first : (more : List ℕ) → lines_of (line_text header true ++ more) ≡ header ∷ lines_of more
header_first more = refl

pub faultless : (number count : ℕ) → count ≤ MOST_CALLS → IsFaultless (generated number count) (generated_events number count)
faultless number count few =
    let follow : Follow [] (generated_events number count) = follow_all number count few in
    record { lines = header_first (calls_text (calls_of number count)) ∙ ap (λ ls. header ∷ ls) (calls_lines (calls_of number count) [] follow); follow = follow }
