-- The state of a stream file takes one line after another.
use Rattle.std.proofs.Common.{◌≡◌, ◌∙◌, ◌+◌, ◌≤◌, ◌<◌, ℕ, Bool, true, false, cond, Option, Some, None, List, ◌∷◌, length, sym, ap, subst, arith, eqb-true, lit≤}
use Rattle.std.specs.Prelude.{Result, Ok, Err, option_map}
use Rattle.std.proofs.lemmas.Bool.{leb-true, ltb-true}
use Rattle.command_tables.specs.declared.types.Effect.{Effect}
use Rattle.command_tables.specs.declared.types.Effect.TheVariants as eff
use Rattle.command_tables.specs.Table.{row_of}
use Rattle.trace_format.specs.declared.fault.TraceFault.{TraceFault}
use Rattle.trace_format.specs.declared.limits.TheConstants.{MAX_NAMES, MAX_PLACES}
use Rattle.trace_format.specs.Accepting.{exceeds_names, fault_after, names_in}
use Rattle.trace_format.specs.Content.{TraceEvent, Begin, Return}
use Rattle.trace_format.specs.Grammar.{IsEvent, takes}
use Rattle.trace_format.specs.State.{SumsUp}
use Rattle.stream_model.specs.declared.limits.TheConstants.{MOST_NAMES}
use Rattle.stream_model.specs.declared.refusal.Refusal.{Refusal}
use Rattle.stream_model.specs.declared.refusal.Refusal.TheVariants as refusal
use Rattle.stream_model.specs.FileLines.{EventLine}
use Rattle.stream_model.specs.Order.{event_thread, events, refusal_or, section, takes_thread}
use Rattle.threaded_replay.specs.declared.error.NotTaken.{NotTaken}
use Rattle.threaded_replay.specs.declared.error.NotTaken.TheVariants as why
use Rattle.threaded_replay.specs.declared.file_state.FileState.{FileState}
use Rattle.threaded_replay.specs.Kept.{KeptOf}
use Rattle.threaded_replay.specs.Taking.{SectionsTake, StateTakes, TraceTakes, section_refusal}

-- ---- names

-- the only proofs here that need the limits' values: what one place needs, and what keeps a stream file's names, with those of a call more, within a trace's
one_place : 1 ≤ MAX_PLACES
one_place = lit≤ tt

names_suffice : MOST_NAMES + MAX_PLACES ≤ MAX_NAMES
names_suffice = lit≤ tt

-- no call has more results than a list may have places
few_taken : (e : Effect) (n : ℕ) → takes e n ≡ true → n ≤ MAX_PLACES
few_taken (eff.Create t owner false) n is = omega (arith, eqb-true n 1 is, one_place)
few_taken (eff.Create t owner true) n is = leb-true n MAX_PLACES is
few_taken (eff.Retrieve t owner false) n is = omega (arith, eqb-true n 1 is, one_place)
few_taken (eff.Retrieve t owner true) n is = leb-true n MAX_PLACES is
few_taken eff.None n is = omega (arith, eqb-true n 0 is)
few_taken (eff.Destroy p) n is = omega (arith, eqb-true n 0 is)
few_taken (eff.Free p) n is = omega (arith, eqb-true n 0 is)
few_taken (eff.Reset p) n is = omega (arith, eqb-true n 0 is)

-- so the names of a stream file never come to the limit of a trace
pub never_exceeds : (before : List TraceEvent) (e : TraceEvent) → IsEvent e → names_in before ≤ MOST_NAMES → exceeds_names before e ≡ true → ⊥
never_exceeds before (Begin b) event few is =
    let more : MAX_NAMES < names_in before + length b.results = ltb-true MAX_NAMES (names_in before + length b.results) is in
    let results : length b.results ≤ MAX_PLACES = few_taken (row_of b.cmd).effect (length b.results) event.results in
    omega (arith, more, results, few, names_suffice)
never_exceeds before (Return thread) event few is =
    let more : MAX_NAMES < names_in before = ltb-true MAX_NAMES (names_in before) is in
    omega (arith, more, few, names_suffice)

-- ---- an event, by whether it is of the section, its fault, and what else it is refused for

-- why an event may not follow, by these three
abbrev by_parts : Bool → Option TraceFault → Option Refusal → Option Refusal
by_parts is fault rest = cond is (refusal_or (option_map (λ f. refusal.Fault f) fault) rest) (Some refusal.Section)

out_of_section : (is : Bool) (fault : Option TraceFault) (rest : Option Refusal) → is ≡ false → by_parts is fault rest ≡ Some refusal.Section
out_of_section is fault rest out = ap (λ b. by_parts b fault rest) out

by_fault : (is : Bool) (fault : Option TraceFault) (rest : Option Refusal) (r : Refusal) → is ≡ true → option_map (λ f. refusal.Fault f) fault ≡ Some r → by_parts is fault rest ≡ Some r
by_fault is fault rest r of same = ap (λ b. by_parts b fault rest) of ∙ ap (λ o. refusal_or o rest) same

by_rest : (is : Bool) (fault : Option TraceFault) (rest o : Option Refusal) → is ≡ true → fault ≡ None → rest ≡ o → by_parts is fault rest ≡ o
by_rest is fault rest o of none same = ap (λ b. by_parts b fault rest) of ∙ (ap (λ f. refusal_or (option_map (λ x. refusal.Fault x) f) rest) none ∙ same)

-- an event of the section that the trace takes, and what else is kept takes or not
pub event_taken : (old mid new : FileState) (e : TraceEvent) (r : Result (Unit {0}) NotTaken) → takes_thread old.sections.section (event_thread e) ≡ true → TraceTakes old mid e (Ok tt) → mid.sections ≡ old.sections → SectionsTake mid.sections new.sections e r → new.trace ≡ mid.trace
    → StateTakes old new (EventLine e) r
event_taken old mid new e (Ok done) of taken same kept trace = λ lines stands.
    let two = taken lines stands in
    let three = kept lines (subst (λ s. KeptOf s lines) (sym same) stands.kept) in (
      by_rest (takes_thread (section lines) (event_thread e)) (fault_after (events lines) e) (section_refusal lines e) None (ap (λ s. takes_thread s (event_thread e)) (sym stands.kept.section) ∙ of) two.0 three.0,
      record { trace = subst (λ t. SumsUp t (e ∷ events lines)) (sym trace) two.1; kept = three.1 },
    )
event_taken old mid new e (Err (why.Refused c)) of taken same kept trace = λ lines stands.
    let two = taken lines stands in
    by_rest (takes_thread (section lines) (event_thread e)) (fault_after (events lines) e) (section_refusal lines e) (Some c) (ap (λ s. takes_thread s (event_thread e)) (sym stands.kept.section) ∙ of) two.0
    (kept lines (subst (λ s. KeptOf s lines) (sym same) stands.kept))
event_taken old mid new e (Err why.NoMemory) of taken same kept trace = tt

-- an event of another section
pub event_out : (old new : FileState) (e : TraceEvent) → takes_thread old.sections.section (event_thread e) ≡ false → StateTakes old new (EventLine e) (Err (why.Refused refusal.Section))
event_out old new e out lines stands =
    out_of_section (takes_thread (section lines) (event_thread e)) (fault_after (events lines) e) (section_refusal lines e) (ap (λ s. takes_thread s (event_thread e)) (sym stands.kept.section) ∙ out)

-- an event that the trace doesn't take
pub event_at_fault : (old mid new : FileState) (e : TraceEvent) (n : NotTaken) → takes_thread old.sections.section (event_thread e) ≡ true → TraceTakes old mid e (Err n) → StateTakes old new (EventLine e) (Err n)
event_at_fault old mid new e (why.Refused c) of refused = λ lines stands.
    by_fault (takes_thread (section lines) (event_thread e)) (fault_after (events lines) e) (section_refusal lines e) c (ap (λ s. takes_thread s (event_thread e)) (sym stands.kept.section) ∙ of) (refused lines stands)
event_at_fault old mid new e why.NoMemory of refused = tt
