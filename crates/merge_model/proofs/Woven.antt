-- Events of several threads behind a setup: where each thread's alone are accepted behind it, so are all. And what is accepted behind them in one order is behind any other
-- with the same events of each thread.
use Rattle.std.proofs.Common.{◌≡◌, ◌∙◌, ◌==◌, ℕ, Bool, true, false, cond, ◌&&◌, ◌||◌, Some, None, List, [], ◌∷◌, ◌++◌, refl, sym, ap}
use Rattle.std.specs.List.{AllByRecursion, list_any}
use Rattle.std.specs.Option.{option_map_or}
use Rattle.std.proofs.lemmas.Bool.{and_parts, eq-eqb}
use Rattle.command_tables.specs.declared.types.Code.TheVariants as code
use Rattle.command_tables.specs.declared.types.ObjectType.{ObjectType}
use Rattle.command_tables.specs.Effects.{type_made}
use Rattle.command_tables.specs.Table.{row_of}
use Rattle.command_tables.specs.Tests.{same_code}
use Rattle.trace_format.specs.declared.event.Name.{Name}
use Rattle.trace_format.specs.Accepting.{are_accepted, begins_instance, breaks_in, breaks_instance, fault_after, is_no_return_of, is_open, makes_instance, names_given, type_given}
use Rattle.trace_format.specs.Content.{TraceEvent, Begin, Return}
use Rattle.trace_format.specs.Grammar.{IsEvent}
use Rattle.chain_model.specs.Gaps.{may_all_come, may_come}
use Rattle.chain_model.proofs.Gapped.{gapped}
use Rattle.stream_model.specs.Devices.{has_result}
use Rattle.stream_model.specs.Order.{event_thread}
use Rattle.stream_model.proofs.Comings.{all_of, open_both, open_other, typed_after, typed_both, unbroken}
use Rattle.merge_model.specs.Merges.{events_of_thread}
use Rattle.merge_model.proofs.Moved.{IsMoved, accept, counted_both, counted_other, moved, newest_accepted, used}

-- none of these events begins the creation of an instance
abbrev pub MakeNone : List TraceEvent → Type 0
MakeNone events = AllByRecursion (λ e. begins_instance e ≡ false) events

-- ---- a thread's events among all

pub open_alone : (t : ℕ) (events setup : List TraceEvent) → is_open t (events ++ setup) ≡ is_open t (events_of_thread t events ++ setup)
open_alone t [] setup = refl
open_alone t (e ∷ events) setup = go (event_thread e == t) refl (open_alone t events setup)
  where
    go : (u : Bool) → (event_thread e == t) ≡ u → is_open t (events ++ setup) ≡ is_open t (events_of_thread t events ++ setup)
        → is_open t (e ∷ (events ++ setup)) ≡ is_open t (cond u (e ∷ events_of_thread t events) (events_of_thread t events) ++ setup)
    go true here same = open_both (events ++ setup) (events_of_thread t events ++ setup) e t same
    go false other same = open_other (events ++ setup) e t other ∙ same

pub counted_alone : (t : ℕ) (events setup : List TraceEvent) → names_given t (events ++ setup) ≡ names_given t (events_of_thread t events ++ setup)
counted_alone t [] setup = refl
counted_alone t (e ∷ events) setup = go (event_thread e == t) refl (counted_alone t events setup)
  where
    go : (u : Bool) → (event_thread e == t) ≡ u → names_given t (events ++ setup) ≡ names_given t (events_of_thread t events ++ setup)
        → names_given t (e ∷ (events ++ setup)) ≡ names_given t (cond u (e ∷ events_of_thread t events) (events_of_thread t events) ++ setup)
    go true here same = counted_both (events ++ setup) (events_of_thread t events ++ setup) e t same
    go false other same = counted_other (events ++ setup) e t other ∙ same

-- a name that a thread's events give, or the setup, has its type among all
pub typed_among : (t : ℕ) (n : Name) (ty : ObjectType) (events setup : List TraceEvent) → may_all_come (events ++ setup) ≡ true
    → type_given n (events_of_thread t events ++ setup) ≡ Some ty → type_given n (events ++ setup) ≡ Some ty
typed_among t n ty [] setup come is = is
typed_among t n ty (e ∷ events) setup come is =
    let each = and_parts (may_all_come (events ++ setup)) (may_come (events ++ setup) e) come in go (event_thread e == t) each.1 (typed_among t n ty events setup each.0) is
  where
    go : (u : Bool) → may_come (events ++ setup) e ≡ true → (type_given n (events_of_thread t events ++ setup) ≡ Some ty → type_given n (events ++ setup) ≡ Some ty)
        → type_given n (cond u (e ∷ events_of_thread t events) (events_of_thread t events) ++ setup) ≡ Some ty → type_given n (e ∷ (events ++ setup)) ≡ Some ty
    go true next rest p = typed_both (events_of_thread t events ++ setup) (events ++ setup) e n ty rest p
    go false next rest p = typed_after (events ++ setup) e n ty next (rest p)

-- a name that has a type among all has it among some thread's events
pub typed_alone : (R : Type 0) (n : Name) (ty : ObjectType) (events setup : List TraceEvent) → ((t : ℕ) → type_given n (events_of_thread t events ++ setup) ≡ Some ty → R) → type_given n (events ++ setup) ≡ Some ty → R
typed_alone R n ty [] setup found is = found 0 is
typed_alone R n ty (Begin b ∷ events) setup found is = go (has_result b n) refl (typed_alone R n ty events setup) is
  where
    kept : (t : ℕ) (u : Bool) → has_result b n ≡ false → type_given n (events_of_thread t events ++ setup) ≡ Some ty
        → type_given n (cond u (Begin b ∷ events_of_thread t events) (events_of_thread t events) ++ setup) ≡ Some ty
    kept t true none p = ap (λ v. cond v (type_made (row_of b.cmd).effect) (type_given n (events_of_thread t events ++ setup))) none ∙ p
    kept t false none p = p

    go : (v : Bool) → has_result b n ≡ v → (((t : ℕ) → type_given n (events_of_thread t events ++ setup) ≡ Some ty → R) → type_given n (events ++ setup) ≡ Some ty → R)
        → cond v (type_made (row_of b.cmd).effect) (type_given n (events ++ setup)) ≡ Some ty → R
    go true made rest p =
        found b.thread
        (ap (λ u. type_given n (cond u (Begin b ∷ events_of_thread b.thread events) (events_of_thread b.thread events) ++ setup)) (eq-eqb b.thread b.thread refl)
        ∙ (ap (λ v. cond v (type_made (row_of b.cmd).effect) (type_given n (events_of_thread b.thread events ++ setup))) made ∙ p))
    go false none rest p = rest (λ t q. found t (kept t (b.thread == t) none q)) p
typed_alone R n ty (Return thread ∷ events) setup found is = typed_alone R n ty events setup (λ t q. found t (kept t (thread == t) q)) is
  where
    kept : (t : ℕ) (u : Bool) → type_given n (events_of_thread t events ++ setup) ≡ Some ty → type_given n (cond u (Return thread ∷ events_of_thread t events) (events_of_thread t events) ++ setup) ≡ Some ty
    kept t true p = p
    kept t false p = p

-- ---- all threads' events

-- the events before the newest, of each thread
older : (setup events : List TraceEvent) (e : TraceEvent) → ((t : ℕ) → are_accepted (events_of_thread t (e ∷ events) ++ setup) ≡ true) → (t : ℕ) → are_accepted (events_of_thread t events ++ setup) ≡ true
older setup events e alone t = go (event_thread e == t) (alone t)
  where
    go : (u : Bool) → are_accepted (cond u (e ∷ events_of_thread t events) (events_of_thread t events) ++ setup) ≡ true → are_accepted (events_of_thread t events ++ setup) ≡ true
    go true is = (newest_accepted (events_of_thread t events ++ setup) e is).0
    go false is = is

-- the newest is accepted behind its thread's
newest : (setup events : List TraceEvent) (e : TraceEvent) → ((t : ℕ) → are_accepted (events_of_thread t (e ∷ events) ++ setup) ≡ true) → fault_after (events_of_thread (event_thread e) events ++ setup) e ≡ None
newest setup events e alone =
    let own = events_of_thread (event_thread e) events in
    (newest_accepted (own ++ setup) e (sym (ap (λ u. are_accepted (cond u (e ∷ own) own ++ setup)) (eq-eqb (event_thread e) (event_thread e) refl)) ∙ alone (event_thread e))).1

-- an event that begins no instance and breaks into none behind its thread's breaks into none behind all
unbroken_among : (t : ℕ) (setup events : List TraceEvent) (e : TraceEvent) → MakeNone events → begins_instance e ≡ false → breaks_instance (events_of_thread t events ++ setup) e ≡ false → breaks_instance (events ++ setup) e ≡ false
unbroken_among t setup [] e none begins is = is
unbroken_among t setup (f ∷ events) e none begins is = unbroken (f ∷ (events ++ setup)) e begins (ap (λ u. u && is_no_return_of f e) none.0)

pub woven : (setup events : List TraceEvent) → are_accepted setup ≡ true → AllByRecursion IsEvent (events ++ setup) → MakeNone events → ((t : ℕ) → are_accepted (events_of_thread t events ++ setup) ≡ true) → are_accepted (events ++ setup) ≡ true
woven setup [] base grammar none alone = base
woven setup (e ∷ events) base grammar none alone =
    let earlier : are_accepted (events ++ setup) ≡ true = woven setup events base grammar.1 none.1 (older setup events e alone) in
    let come = (gapped (events ++ setup) (record { grammar = grammar.1; accepted = earlier })).each in
    let t = event_thread e in
    accept (events ++ setup) e earlier (moved (events_of_thread t events ++ setup) (events ++ setup) e (record {
      opens = sym (open_alone t events setup);
      given = sym (counted_alone t events setup);
      typed = all_of (λ (x : ObjectType × Name). (ty : ObjectType) → type_given x.1 (events_of_thread t events ++ setup) ≡ Some ty → type_given x.1 (events ++ setup) ≡ Some ty) (λ x ty is. typed_among t x.1 ty events setup come is) (used e);
      whole = unbroken_among t setup events e none.1 none.0;
    }) (newest setup events e alone))

-- ---- what comes behind them

-- two lists of events are alike to all that may come
pub record AreAlike (events others : List TraceEvent) : Type 0 where
  pub opens : (t : ℕ) → is_open t events ≡ is_open t others
  pub given : (t : ℕ) → names_given t events ≡ names_given t others
  pub typed : (n : Name) (ty : ObjectType) → type_given n events ≡ Some ty → type_given n others ≡ Some ty
  pub made : list_any makes_instance events ≡ list_any makes_instance others
  pub broken : (e : TraceEvent) → breaks_in events e ≡ breaks_in others e

-- one event more behind both
alike_more : (events others : List TraceEvent) (e : TraceEvent) → AreAlike events others → AreAlike (e ∷ events) (e ∷ others)
alike_more events others e like = record {
  opens = λ t. open_both events others e t (like.opens t);
  given = λ t. counted_both events others e t (like.given t);
  typed = λ n ty is. typed_both events others e n ty (like.typed n ty) is;
  made = ap (λ u. makes_instance e || u) like.made;
  broken = λ f. refl;
}

alike_moved : (events others : List TraceEvent) (e : TraceEvent) → AreAlike events others → IsMoved events others e
alike_moved events others e like = record {
  opens = like.opens (event_thread e);
  given = like.given (event_thread e);
  typed = all_of (λ (x : ObjectType × Name). (ty : ObjectType) → type_given x.1 events ≡ Some ty → type_given x.1 others ≡ Some ty) (λ x. like.typed x.1) (used e);
  whole = λ is. sym (ap (λ u. (makes_instance e && u) || breaks_in events e) like.made ∙ ap (λ u. (makes_instance e && list_any makes_instance others) || u) (like.broken e)) ∙ is;
}

pub alike_behind : (events others latest : List TraceEvent) → AreAlike events others → AreAlike (latest ++ events) (latest ++ others)
alike_behind events others [] like = like
alike_behind events others (e ∷ latest) like = alike_more (latest ++ events) (latest ++ others) e (alike_behind events others latest like)

pub accepted_behind : (events others latest : List TraceEvent) → AreAlike events others → are_accepted others ≡ true → are_accepted (latest ++ events) ≡ true → are_accepted (latest ++ others) ≡ true
accepted_behind events others [] like base is = base
accepted_behind events others (e ∷ latest) like base is =
    let a = newest_accepted (latest ++ events) e is in
    accept (latest ++ others) e (accepted_behind events others latest like base a.0) (moved (latest ++ events) (latest ++ others) e (alike_moved (latest ++ events) (latest ++ others) e (alike_behind events others latest like)) a.1)

-- ---- two orders of the same events

makes_none : (e : TraceEvent) → begins_instance e ≡ false → makes_instance e ≡ false
makes_none (Begin b) is = ap (λ u. u && option_map_or (λ c. same_code c code.Success) b.code false) is
makes_none (Return thread) is = refl

made_before : (events setup : List TraceEvent) → MakeNone events → list_any makes_instance (events ++ setup) ≡ list_any makes_instance setup
made_before [] setup none = refl
made_before (e ∷ events) setup none = ap (λ u. u || list_any makes_instance (events ++ setup)) (makes_none e none.0) ∙ made_before events setup none.1

-- an event is among its thread's
there : (e : TraceEvent) (events : List TraceEvent) → events_of_thread (event_thread e) (e ∷ events) ≡ e ∷ events_of_thread (event_thread e) events
there e events = let own = events_of_thread (event_thread e) events in ap (λ u. cond u (e ∷ own) own) (eq-eqb (event_thread e) (event_thread e) refl)

broken_alike : (events others setup : List TraceEvent) → ((t : ℕ) → events_of_thread t events ≡ events_of_thread t others) → MakeNone events → MakeNone others → (f : TraceEvent) → breaks_in (events ++ setup) f ≡ breaks_in (others ++ setup) f
broken_alike [] [] setup same none nones f = refl
broken_alike [] (e ∷ others) setup same none nones f = let bad : [] ≡ e ∷ events_of_thread (event_thread e) others = same (event_thread e) ∙ there e others in cc bad
broken_alike (e ∷ events) [] setup same none nones f = let bad : [] ≡ e ∷ events_of_thread (event_thread e) events = sym (same (event_thread e)) ∙ there e events in cc bad
broken_alike (e ∷ events) (g ∷ others) setup same none nones f = ap (λ u. u && is_no_return_of e f) none.0 ∙ sym (ap (λ u. u && is_no_return_of g f) nones.0)

pub orders_alike : (events others setup : List TraceEvent) → ((t : ℕ) → events_of_thread t events ≡ events_of_thread t others) → MakeNone events → MakeNone others → may_all_come (others ++ setup) ≡ true
    → AreAlike (events ++ setup) (others ++ setup)
orders_alike events others setup same none nones come = record {
  opens = λ t. open_alone t events setup ∙ (ap (λ es. is_open t (es ++ setup)) (same t) ∙ sym (open_alone t others setup));
  given = λ t. counted_alone t events setup ∙ (ap (λ es. names_given t (es ++ setup)) (same t) ∙ sym (counted_alone t others setup));
  typed = λ n ty is. typed_alone (type_given n (others ++ setup) ≡ Some ty) n ty events setup (λ t q. typed_among t n ty others setup come (sym (ap (λ es. type_given n (es ++ setup)) (same t)) ∙ q)) is;
  made = made_before events setup none ∙ sym (made_before others setup nones);
  broken = broken_alike events others setup same none nones;
}
