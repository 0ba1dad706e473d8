-- An event without a fault behind some events has none behind others that are alike to it.
use Rattle.std.proofs.Common.{◌≡◌, ◌∙◌, ◌==◌, ◌+◌, ℕ, Bool, true, false, not, cond, Option, Some, None, List, [], ◌∷◌, ◌++◌, length, refl, sym, ap}
use Rattle.std.specs.Prelude.{filter_map, map}
use Rattle.std.specs.List.{AllByRecursion, list_all, list_any}
use Rattle.std.specs.Option.{is_none, option_map_or}
use Rattle.std.proofs.lemmas.Bool.{and_from, and_parts}
use Rattle.command_tables.specs.declared.types.ObjectType.{ObjectType}
use Rattle.command_tables.specs.Table.{ParamSpec, row_of}
use Rattle.trace_format.specs.declared.event.Name.{Name}
use Rattle.trace_format.specs.declared.fault.TraceFault.{TraceFault}
use Rattle.trace_format.specs.declared.fault.TraceFault.TheVariants as fault
use Rattle.trace_format.specs.Accepting.{are_accepted, breaks_instance, count_on, fault_after, first_fault, is_known, is_of_type, is_open, names_given, names_used, type_given}
use Rattle.trace_format.specs.Content.{Arg, TraceEvent, Begin, Return}
use Rattle.chain_model.proofs.Eventing.{all_append, all_map}
use Rattle.stream_model.specs.Order.{any_name, event_thread}
use Rattle.stream_model.proofs.Comings.{known_same, neither, of_type_same, pass_each}

-- ---- faults

five_none : (a b c d e : Bool) → first_fault ((a, fault.Busy) ∷ (not b, fault.Unknown) ∷ (not c, fault.WrongType) ∷ (not d, fault.Sequence) ∷ (e, fault.Instance) ∷ []) ≡ None
    → (a ≡ false) × (b ≡ true) × (c ≡ true) × (d ≡ true) × (e ≡ false)
five_none false true true true false is = (refl, refl, refl, refl, refl)
five_none true b c d e is = cc is
five_none false false c d e is = cc is
five_none false true false d e is = cc is
five_none false true true false e is = cc is
five_none false true true true true is = cc is

none_of_five : (a b c d e : Bool) → a ≡ false → b ≡ true → c ≡ true → d ≡ true → e ≡ false
    → first_fault ((a, fault.Busy) ∷ (not b, fault.Unknown) ∷ (not c, fault.WrongType) ∷ (not d, fault.Sequence) ∷ (e, fault.Instance) ∷ []) ≡ None
none_of_five a b c d e p q r s t = rw (p, q, r, s, t) refl

two_none : (a b : Bool) → first_fault ((not a, fault.Idle) ∷ (b, fault.Instance) ∷ []) ≡ None → (a ≡ true) × (b ≡ false)
two_none true false is = (refl, refl)
two_none true true is = cc is
two_none false b is = cc is

none_of_two : (a b : Bool) → a ≡ true → b ≡ false → first_fault ((not a, fault.Idle) ∷ (b, fault.Instance) ∷ []) ≡ None
none_of_two a b p q = rw (p, q) refl

-- ---- accepted events

pub accept : (before : List TraceEvent) (e : TraceEvent) → are_accepted before ≡ true → fault_after before e ≡ None → are_accepted (e ∷ before) ≡ true
accept before e earlier none = and_from (are_accepted before) (is_none (fault_after before e)) earlier (ap is_none none)

no_fault : (f : Option TraceFault) → is_none f ≡ true → f ≡ None
no_fault None is = refl
no_fault (Some x) is = cc is

pub newest_accepted : (before : List TraceEvent) (e : TraceEvent) → are_accepted (e ∷ before) ≡ true → (are_accepted before ≡ true) × (fault_after before e ≡ None)
newest_accepted before e is = let a = and_parts (are_accepted before) (is_none (fault_after before e)) is in (a.0, no_fault (fault_after before e) a.1)

pub ends_accepted : (xs ys : List TraceEvent) → are_accepted (xs ++ ys) ≡ true → are_accepted ys ≡ true
ends_accepted [] ys is = is
ends_accepted (x ∷ xs) ys is = ends_accepted xs ys (newest_accepted (xs ++ ys) x is).0

-- ---- an event that is moved

-- the names that an event takes
abbrev pub used : TraceEvent → List (ObjectType × Name)
used (Begin b) = names_used (row_of b.cmd).params b.args
used (Return thread) = []

-- a test that no name of the arguments passes fails at each that is taken
places_fail : (test : Name → Bool) (ty : ObjectType) (names : List (Option Name)) → list_any (λ place. option_map_or test place false) names ≡ false
    → AllByRecursion (λ (x : ObjectType × Name). test x.1 ≡ false) (map (λ n. (ty, n)) (filter_map (λ n. n) names))
places_fail test ty [] none = tt
places_fail test ty (None ∷ names) none = places_fail test ty names none
places_fail test ty (Some n ∷ names) none = let a = neither (test n) (list_any (λ place. option_map_or test place false) names) none in (a.0, places_fail test ty names a.1)

pub used_fail : (test : Name → Bool) (ps : List ParamSpec) (args : List Arg) → any_name test args ≡ false → AllByRecursion (λ (x : ObjectType × Name). test x.1 ≡ false) (names_used ps args)
used_fail test [] args none = tt
used_fail test (p ∷ ps) [] none = tt
used_fail test (p ∷ ps) (a ∷ args) none =
    let each = neither (list_any (λ place. option_map_or test place false) a.names) (any_name test args) none in
    all_append (λ (x : ObjectType × Name). test x.1 ≡ false) (map (λ n. (p.ty, n)) (filter_map (λ n. n) a.names)) (names_used ps args) (places_fail test p.ty a.names each.0) (used_fail test ps args each.1)

-- Two lists of events are alike to an event: its thread's call is open in both or in neither, and was given as many names in both; the second knows what the event takes
-- as the first does; and the event breaks no creation of an instance of the second where it breaks none of the first.
pub record IsMoved (before after : List TraceEvent) (e : TraceEvent) : Type 0 where
  pub opens : is_open (event_thread e) before ≡ is_open (event_thread e) after
  pub given : names_given (event_thread e) before ≡ names_given (event_thread e) after
  pub typed : AllByRecursion (λ (x : ObjectType × Name). (ty : ObjectType) → type_given x.1 before ≡ Some ty → type_given x.1 after ≡ Some ty) (used e)
  pub whole : breaks_instance before e ≡ false → breaks_instance after e ≡ false

pub moved : (before after : List TraceEvent) (e : TraceEvent) → IsMoved before after e → fault_after before e ≡ None → fault_after after e ≡ None
moved before after (Begin b) m is =
    let names = names_used (row_of b.cmd).params b.args in
    let f = five_none (is_open b.thread before) (list_all (is_known before) names) (list_all (is_of_type before) names) (count_on b.thread (names_given b.thread before + 1) b.results) (breaks_instance before (Begin b)) is in
    none_of_five (is_open b.thread after) (list_all (is_known after) names) (list_all (is_of_type after) names) (count_on b.thread (names_given b.thread after + 1) b.results) (breaks_instance after (Begin b))
    (sym m.opens ∙ f.0)
    (pass_each (is_known before) (is_known after) names
    (all_map (λ (x : ObjectType × Name). (ty : ObjectType) → type_given x.1 before ≡ Some ty → type_given x.1 after ≡ Some ty) (λ (x : ObjectType × Name). is_known before x ≡ true → is_known after x ≡ true) (λ x same. known_same before after x same) names m.typed) f.1)
    (pass_each (is_of_type before) (is_of_type after) names
    (all_map (λ (x : ObjectType × Name). (ty : ObjectType) → type_given x.1 before ≡ Some ty → type_given x.1 after ≡ Some ty) (λ (x : ObjectType × Name). is_of_type before x ≡ true → is_of_type after x ≡ true) (λ x same. of_type_same before after x same) names m.typed) f.2)
    (ap (λ k. count_on b.thread (k + 1) b.results) (sym m.given) ∙ f.3) (m.whole f.4)
moved before after (Return thread) m is =
    let f = two_none (is_open thread before) (breaks_instance before (Return thread)) is in none_of_two (is_open thread after) (breaks_instance after (Return thread)) (sym m.opens ∙ f.0) (m.whole f.1)

-- ---- names that were given, behind one event more

pub counted_both : (events others : List TraceEvent) (e : TraceEvent) (t : ℕ) → names_given t events ≡ names_given t others → names_given t (e ∷ events) ≡ names_given t (e ∷ others)
counted_both events others (Begin b) t same = ap (λ k. cond (b.thread == t) (k + length b.results) k) same
counted_both events others (Return thread) t same = same

pub counted_other : (events : List TraceEvent) (e : TraceEvent) (t : ℕ) → (event_thread e == t) ≡ false → names_given t (e ∷ events) ≡ names_given t events
counted_other events (Begin b) t other = ap (λ u. cond u (names_given t events + length b.results) (names_given t events)) other
counted_other events (Return thread) t other = refl
