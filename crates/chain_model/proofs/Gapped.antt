-- The names of a trace, numbered in their threads without gaps, are new and distinct.
use Rattle.std.proofs.Common.{◌≡◌, ◌==◌, ◌≤◌, ℕ, ◌+◌, Bool, true, false, not, cond, ◌&&◌, ◌||◌, List, [], ◌∷◌, ◌++◌, length, refl, sym, ◌∙◌, ap, arith}
use Rattle.std.proofs.lemmas.Bool.{eq-eqb, eqb-true}
use Rattle.std.specs.List.{AllByRecursion, list_all, list_any}
use Rattle.std.specs.Option.{is_none}
use Rattle.command_tables.specs.Table.{row_of}
use Rattle.trace_format.specs.declared.event.Name.{Name}
use Rattle.trace_format.specs.declared.fault.TraceFault.{TraceFault}
use Rattle.trace_format.specs.declared.fault.TraceFault.TheVariants as fault
use Rattle.trace_format.specs.Accepting.{are_accepted, breaks_instance, count_on, fault_after, first_fault, is_known, is_of_type, is_open, names_given, names_used, same_name}
use Rattle.trace_format.specs.Content.{TraceEvent, BeginEvent, Begin, Return}
use Rattle.layer_model.proofs.Same.{and_true}
use Rattle.chain_model.specs.Gaps.{IsGapped, are_new, is_given, may_all_come, may_come}
use Rattle.chain_model.specs.Traces.{IsTrace}
use Rattle.chain_model.proofs.Eventing.{all_append, all_map, all_names}

-- ---- names that are counted on

-- names counted on from a place
counted : (thread k : ℕ) (names : List Name) → count_on thread k names ≡ true → AllByRecursion (λ n. (n.thread ≡ thread) × (k ≤ n.number) × (n.number + 1 ≤ k + length names)) names
counted thread k [] e = tt
counted thread k (n ∷ names) e =
    let a = and_true (same_name n (record { thread = thread; number = k })) (count_on thread (k + 1) names) e in
    let b = and_true (n.thread == thread) (n.number == k) a.0 in
    let t : n.thread ≡ thread = eqb-true n.thread thread b.0 in
    let m : n.number ≡ k = eqb-true n.number k b.1 in (
      (t, omega (arith, m), omega (arith, m)),
      all_map (λ x. (x.thread ≡ thread) × (k + 1 ≤ x.number) × (x.number + 1 ≤ (k + 1) + length names)) (λ x. (x.thread ≡ thread) × (k ≤ x.number) × (x.number + 1 ≤ k + length (n ∷ names)))
          (λ x h. (h.0, omega (arith, h.1), omega (arith, h.2))) names (counted thread (k + 1) names a.1),
    )

-- a name is another than one with a greater number in its thread
differs : (m n : Name) → (m.thread ≡ n.thread → m.number + 1 ≤ n.number) → same_name m n ≡ false
differs m n less = go (same_name m n) refl
  where
    go : (u : Bool) → same_name m n ≡ u → same_name m n ≡ false
    go false e = e
    go true e =
        let a = and_true (m.thread == n.thread) (m.number == n.number) e in
        let one : m.number ≡ n.number = eqb-true m.number n.number a.1 in let small = less (eqb-true m.thread n.thread a.0) in absurd (omega (arith, one, small))

-- a name with a number above all of its thread isn't given
not_given : (n : Name) (events : List TraceEvent) → AllByRecursion (λ m. m.thread ≡ n.thread → m.number + 1 ≤ n.number) (all_names events) → is_given events n ≡ false
not_given n [] ks = refl
not_given n (Begin b ∷ before) ks = among b.results ks (λ all. not_given n before all)
  where
    among : (rs : List Name) → AllByRecursion (λ m. m.thread ≡ n.thread → m.number + 1 ≤ n.number) (rs ++ all_names before) → (AllByRecursion (λ m. m.thread ≡ n.thread → m.number + 1 ≤ n.number) (all_names before) → is_given before n ≡ false)
        → (list_any (λ r. same_name r n) rs || is_given before n) ≡ false
    among [] all earlier = earlier all
    among (r ∷ rs) all earlier = rw (differs r n all.0) (among rs all.1 earlier)
not_given n (Return thread ∷ before) ks = not_given n before ks

none_same : (n : Name) (names : List Name) → AllByRecursion (λ m. n.number + 1 ≤ m.number) names → list_any (same_name n) names ≡ false
none_same n [] ks = refl
none_same n (m ∷ names) ks = rw (differs n m (λ _. ks.0)) (none_same n names ks.1)

-- names counted on from above a thread's are new
counted_new : (events : List TraceEvent) (thread k : ℕ) (names : List Name) → AllByRecursion (λ m. m.thread ≡ thread → m.number + 1 ≤ k) (all_names events) → count_on thread k names ≡ true → are_new events names ≡ true
counted_new events thread k [] below e = refl
counted_new events thread k (n ∷ names) below e =
    let a = and_true (same_name n (record { thread = thread; number = k })) (count_on thread (k + 1) names) e in
    let b = and_true (n.thread == thread) (n.number == k) a.0 in
    let t : n.thread ≡ thread = eqb-true n.thread thread b.0 in
    let m : n.number ≡ k = eqb-true n.number k b.1 in
    let fresh : is_given events n ≡ false =
    not_given n events (all_map (λ x. x.thread ≡ thread → x.number + 1 ≤ k) (λ x. x.thread ≡ n.thread → x.number + 1 ≤ n.number) (λ x h same. let low = h (same ∙ t) in omega (arith, low, m)) (all_names events) below) in
    let other : list_any (same_name n) names ≡ false =
    none_same n names (all_map (λ x. (x.thread ≡ thread) × (k + 1 ≤ x.number) × (x.number + 1 ≤ (k + 1) + length names)) (λ x. n.number + 1 ≤ x.number) (λ x h. omega (arith, h.1, m)) names (counted thread (k + 1) names a.1)) in
    rw (fresh, other) (counted_new events thread (k + 1) names (all_map (λ x. x.thread ≡ thread → x.number + 1 ≤ k) (λ x. x.thread ≡ thread → x.number + 1 ≤ k + 1) (λ x h same. let low = h same in omega (arith, low)) (all_names events) below) a.1)

-- ---- the names of a trace

-- each thread's names are numbered up to as many as it was given
abbrev AreNumbered : List TraceEvent → Type 0
AreNumbered events = AllByRecursion (λ n. n.number ≤ names_given n.thread events) (all_names events)

numbered_begun : (events : List TraceEvent) (b : BeginEvent) → AreNumbered events → count_on b.thread (names_given b.thread events + 1) b.results ≡ true → AreNumbered (Begin b ∷ events)
numbered_begun events b numbered counts =
    all_append (λ n. n.number ≤ names_given n.thread (Begin b ∷ events)) b.results (all_names events)
    (all_map (λ n. (n.thread ≡ b.thread) × (names_given b.thread events + 1 ≤ n.number) × (n.number + 1 ≤ (names_given b.thread events + 1) + length b.results)) (λ n. n.number ≤ names_given n.thread (Begin b ∷ events))
    (λ n h. let here : names_given n.thread (Begin b ∷ events) ≡ names_given n.thread events + length b.results = ap (λ u. cond u (names_given n.thread events + length b.results) (names_given n.thread events)) (eq-eqb b.thread n.thread (sym h.0)) in
    let same_given : names_given n.thread events ≡ names_given b.thread events = ap (λ t. names_given t events) h.0 in omega (arith, here, same_given, h.2)) b.results (counted b.thread (names_given b.thread events + 1) b.results counts))
    (all_map (λ n. n.number ≤ names_given n.thread events) (λ n. n.number ≤ names_given n.thread (Begin b ∷ events)) (λ n h. grown n (b.thread == n.thread) h) (all_names events) numbered)
  where
    grown : (n : Name) (u : Bool) → n.number ≤ names_given n.thread events → n.number ≤ cond u (names_given n.thread events + length b.results) (names_given n.thread events)
    grown n true l = omega (arith, l)
    grown n false l = l

-- so those of the next begin are new
numbered_new : (events : List TraceEvent) (b : BeginEvent) → AreNumbered events → count_on b.thread (names_given b.thread events + 1) b.results ≡ true → are_new events b.results ≡ true
numbered_new events b numbered counts =
    counted_new events b.thread (names_given b.thread events + 1) b.results
    (all_map (λ n. n.number ≤ names_given n.thread events) (λ n. n.thread ≡ b.thread → n.number + 1 ≤ names_given b.thread events + 1)
    (λ n h same. let given : names_given n.thread events ≡ names_given b.thread events = ap (λ t. names_given t events) same in omega (arith, h, given)) (all_names events) numbered) counts

-- ---- each event

no_faults : (a b c d e : Bool) (f g h i j : TraceFault) → is_none (first_fault ((a, f) ∷ (not b, g) ∷ (not c, h) ∷ (not d, i) ∷ (e, j) ∷ [])) ≡ true → (a ≡ false) × (b ≡ true) × (c ≡ true) × (d ≡ true) × (e ≡ false)
no_faults false true true true false f g h i j is = (refl, refl, refl, refl, refl)
no_faults true b c d e f g h i j is = cc is
no_faults false false c d e f g h i j is = cc is
no_faults false true false d e f g h i j is = cc is
no_faults false true true false e f g h i j is = cc is
no_faults false true true true true f g h i j is = cc is

no_faults_return : (a b : Bool) (f g : TraceFault) → is_none (first_fault ((not a, f) ∷ (b, g) ∷ [])) ≡ true → (a && not b) ≡ true
no_faults_return true false f g is = refl
no_faults_return true true f g is = cc is
no_faults_return false b f g is = cc is

all_five : (a b c d e : Bool) → a ≡ false → b ≡ true → c ≡ true → d ≡ true → e ≡ false → (not a && (b && (c && (d && not e)))) ≡ true
all_five a b c d e p q r s t = rw (p, q, r, s, t) refl

both : (u v : Bool) → u ≡ true → v ≡ true → (u && v) ≡ true
both u v p q = rw (p, q) refl

each_comes : (events : List TraceEvent) → are_accepted events ≡ true → (may_all_come events ≡ true) × AreNumbered events
each_comes [] ok = (refl, tt)
each_comes (Begin b ∷ before) ok =
    let a = and_true (are_accepted before) (is_none (fault_after before (Begin b))) ok in
    let f = no_faults (is_open b.thread before) (list_all (is_known before) (names_used (row_of b.cmd).params b.args)) (list_all (is_of_type before) (names_used (row_of b.cmd).params b.args)) (count_on b.thread (names_given b.thread before + 1) b.results)
    (breaks_instance before (Begin b)) fault.Busy fault.Unknown fault.WrongType fault.Sequence fault.Instance a.1 in
    let earlier = each_comes before a.0 in (
      both (may_all_come before) (may_come before (Begin b)) earlier.0
          (all_five (is_open b.thread before) (list_all (is_known before) (names_used (row_of b.cmd).params b.args)) (list_all (is_of_type before) (names_used (row_of b.cmd).params b.args)) (are_new before b.results) (breaks_instance before (Begin b)) f.0 f.1 f.2 (numbered_new before b earlier.1 f.3) f.4),
      numbered_begun before b earlier.1 f.3,
    )
each_comes (Return thread ∷ before) ok =
    let a = and_true (are_accepted before) (is_none (fault_after before (Return thread))) ok in
    let earlier = each_comes before a.0 in (
      both (may_all_come before) (may_come before (Return thread)) earlier.0 (no_faults_return (is_open thread before) (breaks_instance before (Return thread)) fault.Idle fault.Instance a.1),
      earlier.1,
    )

-- a trace may have gaps: it has none
pub gapped : (events : List TraceEvent) → IsTrace events → IsGapped events
gapped events trace = record { grammar = trace.grammar; each = (each_comes events trace.accepted).0 }
