-- What is kept of a trace stands for its events, one event after another.
use Rattle.std.proofs.Common.{◌≡◌, ◌==◌, ◌<◌, ◌≤◌, ◌+◌, ◌-◌, ℕ, nat_lt, zero, suc, Bool, true, false, not, cond, ◌&&◌, ◌||◌, Option, Some, None, Result, Ok, Err, List, [], ◌∷◌, ◌++◌, length, map, refl, sym, ◌∙◌, ap, arith, eq-eqb, eqb-true, append-nil}
use Rattle.std.specs.Prelude.{is_some, slice_get, filter_map, filter, replicate, if◌then◌else◌}
use Rattle.std.specs.List.{list_all, list_any, AllByRecursion}
use Rattle.std.specs.Option.{option_map_or, option_or}
use Rattle.std.specs.Result.{IfOk, OnOk}
use Rattle.std.proofs.lemmas.Bool.{ne_eqb}
use Rattle.std.proofs.lemmas.List.{length-append}
use Rattle.std.proofs.lemmas.List.Folds.{list_all-append}
use Rattle.command_tables.specs.Effects.{type_made}
use Rattle.command_tables.specs.declared.types.CommandId.TheVariants as cmd
use Rattle.command_tables.specs.declared.types.Effect.{Effect}
use Rattle.command_tables.specs.declared.types.Effect.TheVariants as eff
use Rattle.command_tables.specs.declared.types.ObjectType.{ObjectType}
use Rattle.command_tables.specs.Table.{ParamSpec, row_of}
use Rattle.command_tables.specs.Tests.{same_command, same_type}
use Rattle.trace_format.specs.declared.event.Name.{Name}
use Rattle.trace_format.specs.declared.fault.TraceFault.{TraceFault}
use Rattle.trace_format.specs.declared.fault.TraceFault.TheVariants as fault
use Rattle.trace_format.specs.declared.thread.ThreadState.{ThreadState}
use Rattle.trace_format.specs.declared.state.AcceptError.{AcceptError}
use Rattle.trace_format.specs.Accepting.{breaks_in, breaks_instance, calls_begun, count_on, fault_after, fault_at_end, first_fault, is_known, is_no_return_of, exceeds_names, is_of_type, makes_instance, names_in, names_used, open_threads, same_name, type_given}
use Rattle.trace_format.specs.Content.{Arg, BeginEvent, TraceEvent, Begin, Return}
use Rattle.trace_format.specs.Gains.{gained}
use Rattle.trace_format.specs.Grammar.{FitParams, HasForm, IsBegin, IsEvent, IsName, IsOne, takes}
use Rattle.trace_format.specs.State.{Accepted, AfterBegin, AfterReturn, SumsUp, Stays, argument_fault, args_found, is_found, is_found_or_null, TraceSeen, breaks, breaks_into, call_in, counted, creating_in, fault_by_parts, fault_in, knows, knows_as, open_in, type_in, types_in}

-- two tests in a row
both : (a b : Bool) → a && b ≡ true → (a ≡ true) × (b ≡ true)
both true b h = (refl, h)
both false b h = cc

-- ---- the first fault

-- a name that is numbered from 1
from_one : (n : Name) → 1 ≤ n.number → record { thread = n.thread; number = n.number - 1 + 1 } ≡ n
from_one n some = let e : n.number - 1 + 1 ≡ n.number = omega arith in ap (λ k. record { thread = n.thread; number = k }) e

-- the type of a name
type_same : (s : TraceSeen) (before : List TraceEvent) → SumsUp s before → (n : Name) → IsName n → type_in s.threads n ≡ type_given n before
type_same s before stands n name = stands.types n.thread (n.number - 1) ∙ ap (λ m. type_given m before) (from_one n name.1.0)

-- tests that agree on names agree on a place's names
same_places : (f g : ObjectType × Name → Bool) → ((x : ObjectType × Name) → IsName x.1 → f x ≡ g x) → (t : ObjectType) (ns : List (Option Name)) → AllByRecursion IsOne ns
    → list_all f (map (λ n. (t, n)) (filter_map (λ n. n) ns)) ≡ list_all g (map (λ n. (t, n)) (filter_map (λ n. n) ns))
same_places f g agree t [] ones = refl
same_places f g agree t (None ∷ ns) ones = same_places f g agree t ns ones.1
same_places f g agree t (Some n ∷ ns) ones = rw (agree (t, n) ones.0, same_places f g agree t ns ones.1) refl

-- the places of an argument are null or names
places_in : (many : Bool) (a : Arg) → HasForm many a → AllByRecursion IsOne a.names
places_in true a form = form.2
places_in false a form = form.2

-- tests that agree on names agree on the names of arguments
same_names : (f g : ObjectType × Name → Bool) → ((x : ObjectType × Name) → IsName x.1 → f x ≡ g x) → (ps : List ParamSpec) (args : List Arg) → FitParams ps args
    → list_all f (names_used ps args) ≡ list_all g (names_used ps args)
same_names f g agree [] [] fit = refl
same_names f g agree [] (a ∷ args) fit = refl
same_names f g agree (p ∷ ps) [] fit = refl
same_names f g agree (p ∷ ps) (a ∷ args) fit =
    let here = same_places f g agree p.ty a.names (places_in p.many a fit.0) in
    let there = same_names f g agree ps args fit.1 in
    list_all-append f _ (names_used ps args) ∙ (rw (here, there) refl ∙ sym (list_all-append g _ (names_used ps args)))

-- an event breaks into the creation of an instance by what is kept just where it does
breaks_by : (x : Bool) (b : BeginEvent) (e : TraceEvent) → breaks_into (if x then Some b.thread else None) e ≡ (x && is_no_return_of (Begin b) e)
breaks_by false b e = refl
breaks_by true b (Begin c) = refl
breaks_by true b (Return thread) = refl

-- so it does after any events
breaks_same : (before : List TraceEvent) (e : TraceEvent) → breaks_into (creating_in before) e ≡ breaks_in before e
breaks_same [] e = refl
breaks_same (Begin b ∷ before) e = breaks_by (same_command b.cmd cmd.CreateInstance) b e
breaks_same (Return thread ∷ before) e = refl

-- the event is a second creation that succeeds, or breaks into one
instance_same : (s : TraceSeen) (before : List TraceEvent) → SumsUp s before → (e : TraceEvent) → breaks s e ≡ breaks_instance before e
instance_same s before stands e =
    ap (λ h. makes_instance e && h || breaks_into s.creating e) stands.instances
    ∙ ap (λ b. makes_instance e && list_any makes_instance before || b) (ap (λ c. breaks_into c e) stands.creating ∙ breaks_same before e)

-- five tests that agree give one fault
five_alike : (o p k l t u c d i j : Bool) → o ≡ p → k ≡ l → t ≡ u → c ≡ d → i ≡ j
    → first_fault ((o, fault.Busy) ∷ (not k, fault.Unknown) ∷ (not t, fault.WrongType) ∷ (not c, fault.Sequence) ∷ (i, fault.Instance) ∷ [])
    ≡ first_fault ((p, fault.Busy) ∷ (not l, fault.Unknown) ∷ (not u, fault.WrongType) ∷ (not d, fault.Sequence) ∷ (j, fault.Instance) ∷ [])
five_alike o p k l t u c d i j e1 e2 e3 e4 e5 = rw (e1, e2, e3, e4, e5) refl

-- two tests that agree give one fault
two_alike : (o p i j : Bool) → o ≡ p → i ≡ j → first_fault ((not o, fault.Idle) ∷ (i, fault.Instance) ∷ []) ≡ first_fault ((not p, fault.Idle) ∷ (j, fault.Instance) ∷ [])
two_alike o p i j e1 e2 = rw (e1, e2) refl

-- the first fault by what is kept is that of the events
pub fault_same : (s : TraceSeen) (before : List TraceEvent) → SumsUp s before → (e : TraceEvent) → IsEvent e → fault_in s e ≡ fault_after before e
fault_same s before stands (Begin b) event =
    let ps = (row_of b.cmd).params in
    five_alike _ _ _ _ _ _ _ _ _ _ (stands.opened b.thread)
    (same_names (knows s.threads) (is_known before) (λ x name. ap (λ o. is_some o) (type_same s before stands x.1 name)) ps b.args event.args)
    (same_names (knows_as s.threads) (is_of_type before) (λ x name. ap (λ o. option_map_or (λ t. same_type t x.0) o false) (type_same s before stands x.1 name)) ps b.args event.args)
    (ap (λ k. count_on b.thread (k + 1) b.results) (stands.given b.thread)) (instance_same s before stands (Begin b))
fault_same s before stands (Return thread) event = two_alike _ _ _ _ (stands.opened thread) (instance_same s before stands (Return thread))

-- ---- one event more

-- a count that stays at its end
counted_more : (n : ℕ) → counted (counted n + 1) ≡ counted (n + 1)
counted_more n = omega arith

-- a choice that agrees with one of its cases in each
chosen : {A : Type 0} (x : Bool) (a b c d : A) → (x ≡ true → a ≡ c) → (x ≡ false → b ≡ d) → cond x a b ≡ cond x c d
chosen true a b c d t f = t refl
chosen false a b c d t f = f refl

-- the length of a choice
length_of : (x : Bool) (a b : List ObjectType) → length (cond x a b) ≡ cond x (length a) (length b)
length_of true a b = refl
length_of false a b = refl

-- as many as were asked for
filled : {A : Type 0} (count : ℕ) (a : A) → length (replicate count a) ≡ count
filled zero a = refl
filled (suc n) a = ap (λ k. suc k) (filled n a)

-- a call has no more results than what its command makes
gained_all : (e : Effect) (count : ℕ) → takes e count ≡ true → length (gained (type_made e) count) ≡ count
gained_all (eff.Create t owner many) count h = filled count t
gained_all (eff.Retrieve t owner many) count h = filled count t
gained_all eff.None count h = sym (eqb-true count 0 h)
gained_all (eff.Destroy x) count h = sym (eqb-true count 0 h)
gained_all (eff.Free x) count h = sym (eqb-true count 0 h)
gained_all (eff.Reset x) count h = sym (eqb-true count 0 h)

-- the last of a list is the one that was added
got_last : {X : Type 0} (xs : List X) (x : X) → slice_get (xs ++ x ∷ []) (length xs) ≡ Some x
got_last [] x = refl
got_last (y ∷ xs) x = got_last xs x

-- any other is one of those before
got_other : {X : Type 0} (xs : List X) (x : X) (k : ℕ) → (k ≡ length xs → ⊥) → slice_get (xs ++ x ∷ []) k ≡ slice_get xs k
got_other [] x zero other = absurd (other refl)
got_other [] x (suc k) other = refl
got_other (y ∷ xs) x zero other = refl
got_other (y ∷ xs) x (suc k) other = got_other xs x k (λ e. other (ap (λ n. suc n) e))

-- one result more: the name behind those that were given has its type
named_next : (thread : ℕ) (t : ObjectType) (xs : List ObjectType) (r : Name) (n : ℕ) → same_name r (record { thread = thread; number = length xs + 1 }) ≡ true
    → slice_get (xs ++ t ∷ []) n ≡ cond (same_name r (record { thread = thread; number = n + 1 })) (Some t) (slice_get xs n)
named_next thread t xs r n next = go (r.number == n + 1) refl
  where
    is : ((r.thread == thread) ≡ true) × ((r.number == length xs + 1) ≡ true)
    is = both (r.thread == thread) (r.number == length xs + 1) next

    last : r.number ≡ length xs + 1
    last = eqb-true r.number (length xs + 1) is.1

    go : (x : Bool) → r.number == n + 1 ≡ x → slice_get (xs ++ t ∷ []) n ≡ cond ((r.thread == thread) && (r.number == n + 1)) (Some t) (slice_get xs n)
    go true s =
        let e : r.number ≡ n + 1 = eqb-true r.number (n + 1) s in
        let k : n ≡ length xs = omega (arith, last) in
        rw (is.0, s, k) (got_last xs t)
    go false s =
        rw (is.0, s) (got_other xs t n (λ e. let w : r.number == n + 1 ≡ true = eq-eqb r.number (n + 1) (omega (arith, last, e)) in cc))

-- a choice within a choice
either_of : {A : Type 0} (x y : Bool) (a b : A) → cond y a (cond x a b) ≡ cond (x || y) a b
either_of true true a b = refl
either_of true false a b = refl
either_of false y a b = refl

-- the names of a call have the types that it adds
named_more : (thread : ℕ) (t : ObjectType) (rs : List Name) (xs : List ObjectType) (n : ℕ) → count_on thread (length xs + 1) rs ≡ true
    → slice_get (xs ++ replicate (length rs) t) n ≡ cond (list_any (λ r. same_name r (record { thread = thread; number = n + 1 })) rs) (Some t) (slice_get xs n)
named_more thread t [] xs n next = ap (λ ys. slice_get ys n) (append-nil xs)
named_more thread t (r ∷ rs) xs n next =
    let is = both (same_name r (record { thread = thread; number = length xs + 1 })) (count_on thread (length xs + 1 + 1) rs) next in
    let longer : length (xs ++ t ∷ []) ≡ length xs + 1 = length-append xs (t ∷ []) in
    let more : count_on thread (length (xs ++ t ∷ []) + 1) rs ≡ true = ap (λ k. count_on thread (k + 1) rs) longer ∙ is.1 in
    let others = list_any (λ q. same_name q (record { thread = thread; number = n + 1 })) rs in
    ap (λ ys. slice_get ys n) (append_one xs t (replicate (length rs) t))
    ∙ (named_more thread t rs (xs ++ t ∷ []) n more
    ∙ (ap (λ o. cond others (Some t) o) (named_next thread t xs r n is.0) ∙ either_of (same_name r (record { thread = thread; number = n + 1 })) others (Some t) (slice_get xs n)))
  where
    append_one : (xs : List ObjectType) (t : ObjectType) (ys : List ObjectType) → xs ++ (t ∷ ys) ≡ (xs ++ t ∷ []) ++ ys
    append_one [] t ys = refl
    append_one (x ∷ xs) t ys = ap (λ zs. x ∷ zs) (append_one xs t ys)

-- the names of a call are of its thread
other_thread : (thread u k n : ℕ) (rs : List Name) → thread == u ≡ false → count_on thread k rs ≡ true → list_any (λ r. same_name r (record { thread = u; number = n })) rs ≡ false
other_thread thread u k n [] away next = refl
other_thread thread u k n (r ∷ rs) away next =
    let is = both (same_name r (record { thread = thread; number = k })) (count_on thread (k + 1) rs) next in
    let here = both (r.thread == thread) (r.number == k) is.0 in
    let at : r.thread ≡ thread = eqb-true r.thread thread here.0 in
    let not_here : r.thread == u ≡ false = ap (λ x. x == u) at ∙ away in
    rw (not_here) (other_thread thread u (k + 1) n rs away is.1)

-- no results
no_results : (rs : List Name) → length rs ≡ 0 → rs ≡ []
no_results [] e = refl
no_results (r ∷ rs) e = absurd (omega arith)

-- so the names of a thread's call have the types that its command makes
named_made : (thread : ℕ) (e : Effect) (rs : List Name) (xs : List ObjectType) (n : ℕ) → takes e (length rs) ≡ true → count_on thread (length xs + 1) rs ≡ true
    → slice_get (xs ++ gained (type_made e) (length rs)) n ≡ cond (list_any (λ r. same_name r (record { thread = thread; number = n + 1 })) rs) (type_made e) (slice_get xs n)
named_made thread (eff.Create t owner many) rs xs n h next = named_more thread t rs xs n next
named_made thread (eff.Retrieve t owner many) rs xs n h next = named_more thread t rs xs n next
named_made thread eff.None rs xs n h next = rw (no_results rs (eqb-true (length rs) 0 h)) (ap (λ ys. slice_get ys n) (append-nil xs))
named_made thread (eff.Destroy x) rs xs n h next = rw (no_results rs (eqb-true (length rs) 0 h)) (ap (λ ys. slice_get ys n) (append-nil xs))
named_made thread (eff.Free x) rs xs n h next = rw (no_results rs (eqb-true (length rs) 0 h)) (ap (λ ys. slice_get ys n) (append-nil xs))
named_made thread (eff.Reset x) rs xs n h next = rw (no_results rs (eqb-true (length rs) 0 h)) (ap (λ ys. slice_get ys n) (append-nil xs))

-- where no fault stands, the names are the thread's next ones
counts : (o k t c i : Bool) → first_fault ((o, fault.Busy) ∷ (not k, fault.Unknown) ∷ (not t, fault.WrongType) ∷ (not c, fault.Sequence) ∷ (i, fault.Instance) ∷ []) ≡ None → c ≡ true
counts true k t c i e = cc
counts false false t c i e = cc
counts false true false c i e = cc
counts false true true true i e = refl
counts false true true false i e = cc

-- the types of one thread after a begin
types_more : (s t : TraceSeen) (before : List TraceEvent) (b : BeginEvent) → SumsUp s before → IsBegin b → fault_in s (Begin b) ≡ None → AfterBegin s t b → (u n : ℕ)
    → slice_get (types_in t.threads u) n ≡ type_given (record { thread = u; number = n + 1 }) (Begin b ∷ before)
types_more s t before b stands event none began u n = ap (λ ys. slice_get ys n) (began.types u) ∙ go (b.thread == u) refl
  where
    next : count_on b.thread (length (types_in s.threads b.thread) + 1) b.results ≡ true
    next = counts _ _ _ _ _ none

    go : (x : Bool) → b.thread == u ≡ x → slice_get (cond x (types_in s.threads u ++ gained (type_made (row_of b.cmd).effect) (length b.results)) (types_in s.threads u)) n
        ≡ cond (list_any (λ r. same_name r (record { thread = u; number = n + 1 })) b.results) (type_made (row_of b.cmd).effect) (type_given (record { thread = u; number = n + 1 }) before)
    go true is =
        let same : b.thread ≡ u = eqb-true b.thread u is in
        let here : count_on u (length (types_in s.threads u) + 1) b.results ≡ true = ap (λ v. count_on v (length (types_in s.threads v) + 1) b.results) (sym same) ∙ next in
        named_made u (row_of b.cmd).effect b.results (types_in s.threads u) n event.results here
        ∙ ap (λ o. cond (list_any (λ r. same_name r (record { thread = u; number = n + 1 })) b.results) (type_made (row_of b.cmd).effect) o) (stands.types u n)
    go false is = rw (other_thread b.thread u _ (n + 1) b.results is next) (stands.types u n)

-- after a begin
stands_begun : (s t : TraceSeen) (before : List TraceEvent) (b : BeginEvent) → SumsUp s before → IsBegin b → fault_in s (Begin b) ≡ None → AfterBegin s t b → SumsUp t (Begin b ∷ before)
stands_begun s t before b stands event none began =
    let more : t.calls ≡ counted (calls_begun before + 1) = began.calls ∙ (ap (λ n. counted (n + 1)) stands.calls ∙ counted_more (calls_begun before)) in
    record {
      calls = more;
      names = began.names ∙ ap (λ n. n + length b.results) stands.names;
      most = omega (arith, began.most, began.names, stands.names);
      instances = began.instances ∙ ap (λ h. makes_instance (Begin b) || h) stands.instances;
      creating = began.creating;
      opened = λ u. began.opened u ∙ ap (λ o. (b.thread == u) || o) (stands.opened u);
      called = λ u. began.called u ∙ called_at (b.thread == u) t.calls _ _ _ more (stands.called u);
      given = λ u.
          ap (λ ys. length ys) (began.types u)
          ∙ (length_of (b.thread == u) (types_in s.threads u ++ gained (type_made (row_of b.cmd).effect) (length b.results)) (types_in s.threads u)
          ∙ chosen (b.thread == u) _ _ _ _ (λ e. length-append (types_in s.threads u) (gained (type_made (row_of b.cmd).effect) (length b.results)) ∙ (ap (λ k. length (types_in s.threads u) + k) (gained_all (row_of b.cmd).effect (length b.results) event.results) ∙ ap (λ k. k + length b.results) (stands.given u))) (λ e. stands.given u));
      types = types_more s t before b stands event none began;
    }
  where
    called_at : (x : Bool) (n k m l : ℕ) → n ≡ counted m → k ≡ counted l → cond x n k ≡ counted (cond x m l)
    called_at true n k m l e f = e
    called_at false n k m l e f = f

-- the others of a list that are one of its
left_open : (u thread : ℕ) (xs : List ℕ) → list_any (λ t. t == u) (filter (λ t. not (t == thread)) xs) ≡ (not (thread == u) && list_any (λ t. t == u) xs)
left_open u thread [] = go (thread == u)
  where
    go : (x : Bool) → false ≡ (not x && false)
    go true = refl
    go false = refl
left_open u thread (t ∷ xs) = go (left_open u thread xs) (t == thread) refl (thread == u) refl
  where
    away : thread == u ≡ true → t == thread ≡ false → (z : Bool) → t == u ≡ z → t == u ≡ false
    away to is true e = let same : t == thread ≡ true = eq-eqb t thread (eqb-true t u e ∙ sym (eqb-true thread u to)) in cc
    away to is false e = e

    go : list_any (λ t. t == u) (filter (λ t. not (t == thread)) xs) ≡ (not (thread == u) && list_any (λ t. t == u) xs) → (x : Bool) → t == thread ≡ x → (y : Bool) → thread == u ≡ y
        → list_any (λ t. t == u) (cond (not x) (t ∷ filter (λ t. not (t == thread)) xs) (filter (λ t. not (t == thread)) xs)) ≡ (not y && ((t == u) || list_any (λ t. t == u) xs))
    go rest true is true to = rest ∙ rw to refl
    go rest true is false to = let other : t == u ≡ false = ap (λ v. v == u) (eqb-true t thread is) ∙ to in rw other (rest ∙ rw to refl)
    go rest false is true to = rw (away to is (t == u) refl) (rest ∙ rw to refl)
    go rest false is false to = ap (λ o. (t == u) || o) (rest ∙ rw to refl)

-- after a return
stands_ended : (s t : TraceSeen) (before : List TraceEvent) (thread : ℕ) → SumsUp s before → AfterReturn s t thread → SumsUp t (Return thread ∷ before)
stands_ended s t before thread stands ended =
    record {
      calls = ended.calls ∙ stands.calls;
      names = ended.names ∙ stands.names;
      most = stands.most;
      instances = ended.instances ∙ stands.instances;
      creating = ended.creating;
      opened = λ u. ended.opened u ∙ (ap (λ o. not (thread == u) && o) (stands.opened u) ∙ sym (left_open u thread (open_threads before)));
      called = λ u. ended.called u ∙ stands.called u;
      given = λ u. ap (λ ys. length ys) (ended.types u) ∙ stands.given u;
      types = λ u n. ap (λ ys. slice_get ys n) (ended.types u) ∙ stands.types u n;
    }

-- ---- the end

-- a thread that has an open call
some_open : (threads : List ThreadState) → list_any (λ s. s.is_open) threads ≡ true → (t : ℕ) × (open_in threads t ≡ true)
some_open [] h = cc
some_open (s ∷ threads) h = go (λ rest. some_open threads rest) s.is_open refl h
  where
    go : (list_any (λ s. s.is_open) threads ≡ true → (t : ℕ) × (open_in threads t ≡ true)) → (x : Bool) → s.is_open ≡ x → (x || list_any (λ s. s.is_open) threads) ≡ true → (t : ℕ) × (open_in (s ∷ threads) t ≡ true)
    go next true is h = (0, is)
    go next false is h = let one = next h in (suc one.0, one.1)

-- where one has, one has
open_some : (threads : List ThreadState) (t : ℕ) → open_in threads t ≡ true → list_any (λ s. s.is_open) threads ≡ true
open_some [] zero h = cc
open_some [] (suc t) h = cc
open_some (s ∷ threads) zero h = rw h refl
open_some (s ∷ threads) (suc t) h = go s.is_open _ (open_some threads t h)
  where
    go : (x y : Bool) → y ≡ true → (x || y) ≡ true
    go true y e = refl
    go false y e = e

-- a call is open at the end just where a thread has one
end_same : (running : List ℕ) (threads : List ThreadState) → ((t : ℕ) → open_in threads t ≡ list_any (λ u. u == t) running) → not (length running == 0) ≡ list_any (λ s. s.is_open) threads
end_same [] threads same = go (list_any (λ s. s.is_open) threads) refl
  where
    go : (x : Bool) → list_any (λ s. s.is_open) threads ≡ x → false ≡ x
    go false is = refl
    go true is = let one = some_open threads is in let none : open_in threads one.0 ≡ false = same one.0 in cc
end_same (t ∷ running) threads same =
    let itself : t == t ≡ true = eq-eqb t t refl in
    let here : open_in threads t ≡ true = same t ∙ rw itself refl in
    let some : (length (t ∷ running) == 0) ≡ false = ne_eqb (length (t ∷ running)) 0 (λ e. omega arith) in
    rw some (sym (open_some threads t here))

-- the fault at the end, by whether a thread has an open call
pub end_fault : (s : TraceSeen) (before : List TraceEvent) → SumsUp s before → fault_at_end before ≡ first_fault ((list_any (λ t. t.is_open) s.threads, fault.OpenAtEnd) ∷ [])
end_fault s before stands = ap (λ x. first_fault ((x, fault.OpenAtEnd) ∷ [])) (end_same (open_threads before) s.threads stands.opened)

-- ---- events that are accepted or refused

-- a begin is kept by its parts
begun_whole : (s t : TraceSeen) (b : BeginEvent) → AfterBegin s t (record { thread = b.thread; cmd = b.cmd; args = []; results = b.results; code = b.code; payload = [] }) → AfterBegin s t b
begun_whole s t b r = record { calls = r.calls; names = r.names; most = r.most; instances = r.instances; creating = r.creating; opened = r.opened; called = r.called; types = r.types }

-- a number of names within the limit
within : (n : ℕ) → n ≤ 4194304 → nat_lt 4194304 n ≡ false
within n le = grind arith

-- a begin that is accepted
begin_accepted : (s t : TraceSeen) (b : BeginEvent) (n : ℕ) → IsBegin b → fault_in s (Begin b) ≡ None → AfterBegin s t (record { thread = b.thread; cmd = b.cmd; args = []; results = b.results; code = b.code; payload = [] }) → n ≡ t.calls
    → (before : List TraceEvent) → SumsUp s before → Accepted t before (Begin b) n
begin_accepted s t b n event none began number before stands =
    let after = stands_begun s t before b stands event none (begun_whole s t b began) in
    record { fault = sym (fault_same s before stands (Begin b) event) ∙ none; names = within _ after.most; number = number ∙ after.calls; stands = after }

-- a return that is accepted
pub return_accepted : (s t : TraceSeen) (thread n : ℕ) → IsEvent (Return thread) → fault_in s (Return thread) ≡ None → AfterReturn s t thread → n ≡ call_in s.threads thread
    → (before : List TraceEvent) → SumsUp s before → Accepted t before (Return thread) n
return_accepted s t thread n event none ended number before stands =
    record { fault = sym (fault_same s before stands (Return thread) event) ∙ none; names = within _ stands.most; number = number ∙ stands.called thread; stands = stands_ended s t before thread stands ended }

-- an event that is refused for its fault
pub refused : (s : TraceSeen) (e : TraceEvent) (f : TraceFault) → IsEvent e → fault_in s e ≡ Some f → (before : List TraceEvent) → SumsUp s before → fault_after before e ≡ Some f
refused s e f event is before stands = sym (fault_same s before stands e event) ∙ is

-- a begin that is refused for its names
pub too_many : (s : TraceSeen) (b : BeginEvent) → IsBegin b → fault_in s (Begin b) ≡ None → 4194304 < s.names + length b.results → (before : List TraceEvent) → SumsUp s before
    → (fault_after before (Begin b) ≡ None) × (exceeds_names before (Begin b) ≡ true)
too_many s b event none more before stands =
    let above : 4194304 < names_in before + length b.results = omega (arith, stands.names) in
    (sym (fault_same s before stands (Begin b) event) ∙ none, grind arith)

-- what is kept alike stands for the same events
pub still_stands : (s t : TraceSeen) → Stays s t → (before : List TraceEvent) → SumsUp s before → SumsUp t before
still_stands s t stays before stands =
    record {
      calls = stays.calls ∙ stands.calls;
      names = stays.names ∙ stands.names;
      most = stands.most;
      instances = stays.instances ∙ stands.instances;
      creating = stays.creating ∙ stands.creating;
      opened = λ u. stays.threads.opened u ∙ stands.opened u;
      called = λ u. stays.threads.called u ∙ stands.called u;
      given = λ u. ap (λ ys. length ys) (stays.threads.types u) ∙ stands.given u;
      types = λ u n. ap (λ ys. slice_get ys n) (stays.threads.types u) ∙ stands.types u n;
    }

-- ---- the parts of the first fault

-- the names of a place that are found
found_place : (threads : List ThreadState) (typed : Bool) (t : ObjectType) (ns : List (Option Name))
    → list_all (is_found_or_null threads typed t) ns ≡ list_all (is_found threads typed) (map (λ n. (t, n)) (filter_map (λ n. n) ns))
found_place threads typed t [] = refl
found_place threads typed t (None ∷ ns) = found_place threads typed t ns
found_place threads typed t (Some n ∷ ns) = ap (λ x. is_found threads typed (t, n) && x) (found_place threads typed t ns)

-- the names of the arguments that are found
found_names : (threads : List ThreadState) (typed : Bool) (ps : List ParamSpec) (args : List Arg) → args_found threads typed ps args ≡ list_all (is_found threads typed) (names_used ps args)
found_names threads typed [] args = refl
found_names threads typed (p ∷ ps) [] = refl
found_names threads typed (p ∷ ps) (a ∷ args) =
    rw (found_place threads typed p.ty a.names, found_names threads typed ps args) (sym (list_all-append (is_found threads typed) (map (λ n. (p.ty, n)) (filter_map (λ n. n) a.names)) (names_used ps args)))

-- a name of the type that is asked for is known
known_as : (threads : List ThreadState) (x : ObjectType × Name) → knows_as threads x ≡ true → knows threads x ≡ true
known_as threads x = go (type_in threads x.1)
  where
    go : (o : Option ObjectType) → option_map_or (λ t. same_type t x.0) o false ≡ true → is_some o ≡ true
    go None e = cc
    go (Some t) e = refl

-- so are all such names
all_known : (threads : List ThreadState) (xs : List (ObjectType × Name)) → list_all (knows_as threads) xs ≡ true → list_all (knows threads) xs ≡ true
all_known threads [] e = refl
all_known threads (x ∷ xs) e =
    let is = both (knows_as threads x) (list_all (knows_as threads) xs) e in
    rw (known_as threads x is.0) (all_known threads xs is.1)

-- five tests, the second and third of which are asked as one
five_tests : (o k t c i : Bool) → (t ≡ true → k ≡ true) → (rest : Option TraceFault) → rest ≡ (if t then None else (if k then Some fault.WrongType else Some fault.Unknown))
    → first_fault ((o, fault.Busy) ∷ (not k, fault.Unknown) ∷ (not t, fault.WrongType) ∷ (not c, fault.Sequence) ∷ (i, fault.Instance) ∷ [])
    ≡ cond o (Some fault.Busy) (option_or rest (cond c (cond i (Some fault.Instance) None) (Some fault.Sequence)))
five_tests true k t c i known rest e = refl
five_tests false true true true true known rest e = rw e refl
five_tests false true true true false known rest e = rw e refl
five_tests false true true false i known rest e = rw e refl
five_tests false true false c i known rest e = rw e refl
five_tests false false false c i known rest e = rw e refl
five_tests false false true c i known rest e = let k : false ≡ true = known refl in cc

-- the first fault of a begin, by its parts
pub begin_fault : (s : TraceSeen) (b : BeginEvent) → fault_in s (Begin b) ≡ fault_by_parts s b
begin_fault s b =
    five_tests (open_in s.threads b.thread) _ _ _ (breaks s (Begin b)) (λ e. all_known s.threads (names_used (row_of b.cmd).params b.args) e) _
    (rw (found_names s.threads true (row_of b.cmd).params b.args, found_names s.threads false (row_of b.cmd).params b.args) refl)

-- a begin breaks into any creation that is under way
pub breaks_some : (s : TraceSeen) (b : BeginEvent) → breaks s (Begin b) ≡ (makes_instance (Begin b) && s.has_instance || is_some s.creating)
breaks_some s b = ap (λ x. makes_instance (Begin b) && s.has_instance || x) (go s.creating)
  where
    go : (o : Option ℕ) → breaks_into o (Begin b) ≡ is_some o
    go None = refl
    go (Some t) = refl

-- a begin without its payload
abbrev pub bare : BeginEvent → BeginEvent
bare b = record { thread = b.thread; cmd = b.cmd; args = b.args; results = b.results; code = b.code; payload = [] }

-- whose fault is that of the begin
pub bare_fault : (s : TraceSeen) (b : BeginEvent) → fault_by_parts s (bare b) ≡ fault_in s (Begin b)
bare_fault s b =
    ap (λ x. cond (open_in s.threads b.thread) (Some fault.Busy) (option_or (argument_fault s.threads (row_of b.cmd).params b.args)
    (cond (count_on b.thread (length (types_in s.threads b.thread) + 1) b.results) (cond x (Some fault.Instance) None) (Some fault.Sequence))))
    (breaks_some s (bare b) ∙ sym (breaks_some s b))
    ∙ sym (begin_fault s b)

-- a begin that is kept is accepted
pub begin_kept : (r : Result ℕ AcceptError) (s t : TraceSeen) (b : BeginEvent) → IsBegin b → fault_in s (Begin b) ≡ None → OnOk r (AfterBegin s t (record { thread = b.thread; cmd = b.cmd; args = []; results = b.results; code = b.code; payload = [] }))
    → IfOk r (λ n. n ≡ t.calls) → IfOk r (λ n. (before : List TraceEvent) → SumsUp s before → Accepted t before (Begin b) n)
begin_kept (Ok n) s t b event none began number = λ before stands. begin_accepted s t b n event none began number before stands
begin_kept (Err e) s t b event none began number = tt
