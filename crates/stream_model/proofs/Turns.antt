-- The threads' own events behind a setup, in whatever order they take turns: where what each thread does alone may come behind the setup, so may all together.
use Rattle.std.proofs.Common.{◌≡◌, ◌∙◌, ◌==◌, ℕ, zero, suc, inl, inr, ◌⊎◌, Bool, true, false, cond, ◌&&◌, ◌||◌, Option, Some, None, List, [], ◌∷◌, ◌++◌, length, take, drop, refl, sym, ap, subst, append_assoc}
use Rattle.std.specs.Prelude.{filter, find, is_some, reverse, slice_get}
use Rattle.std.specs.List.{AllByRecursion, list_any}
use Rattle.std.specs.Option.{option_map_or}
use Rattle.std.proofs.lemmas.Bool.{and_from, and_parts, eq-eqb, eqb-true}
use Rattle.std.proofs.lemmas.List.{reverse-append, take-append-drop}
use Rattle.command_tables.specs.declared.types.ObjectType.{ObjectType}
use Rattle.command_tables.specs.Table.{row_of}
use Rattle.trace_format.specs.declared.event.Name.{Name}
use Rattle.trace_format.specs.Accepting.{begins_instance, breaks_in, is_known, is_no_return_of, is_of_type, is_open, names_used, same_name, type_given}
use Rattle.trace_format.specs.Content.{TraceEvent, Begin, Return}
use Rattle.trace_format.specs.Grammar.{IsEvent}
use Rattle.chain_model.specs.Gaps.{IsGapped, is_given, may_all_come, may_come}
use Rattle.chain_model.proofs.Eventing.{all_append, all_found, all_map}
use Rattle.stream_model.specs.FileParts.{StreamPart}
use Rattle.stream_model.specs.Order.{event_thread}
use Rattle.stream_model.specs.Plans.{Along, events_along, events_planned, next_turn, turns_of, with_event}
use Rattle.stream_model.proofs.Comings.{all_of, begin_comes, coming, ends_come, fewer_new, gives, gives_or, given_more, given_now, known_same, name_is, of_type_same, open_at_return, open_both, open_other, pass_each, return_comes, typed_after, typed_both, unbroken, whole_in}

-- ---- a thread's own events

abbrev pub results_in : TraceEvent → List Name
results_in (Begin b) = b.results
results_in (Return thread) = []

-- an event of a thread: it gives names of the thread alone, and makes no instance
pub record IsOwn (thread : ℕ) (e : TraceEvent) : Type 0 where
  pub at : event_thread e ≡ thread
  pub results : AllByRecursion (λ (n : Name). n.thread ≡ thread) (results_in e)
  pub begins : begins_instance e ≡ false
  pub event : IsEvent e

-- a stream's events are its thread's, and may come behind the setup
pub record Ready (setup : List TraceEvent) (s : StreamPart) : Type 0 where
  pub comes : may_all_come (reverse s.events ++ setup) ≡ true
  pub own : AllByRecursion (IsOwn s.thread) s.events

own_name : (thread : ℕ) (names : List Name) (n : Name) → AllByRecursion (λ (m : Name). m.thread ≡ thread) names → list_any (λ r. same_name r n) names ≡ true → n.thread ≡ thread
own_name thread [] n all is = cc is
own_name thread (m ∷ names) n all is = go (same_name m n) refl (own_name thread names n all.1) is
  where
    go : (u : Bool) → same_name m n ≡ u → (list_any (λ r. same_name r n) names ≡ true → n.thread ≡ thread) → (u || list_any (λ r. same_name r n) names) ≡ true → n.thread ≡ thread
    go true e rest p = ap (λ (x : Name). x.thread) (sym (name_is m n e)) ∙ all.0
    go false e rest p = rest p

own_given : (thread : ℕ) (e : TraceEvent) (n : Name) → IsOwn thread e → gives e n ≡ true → n.thread ≡ thread
own_given thread (Begin b) n own is = own_name thread b.results n own.results is
own_given thread (Return t) n own is = cc is

-- ---- lists

all_at : {X : Type 0} (P : X → Type 0) (xs : List X) (k : ℕ) (x : X) → AllByRecursion P xs → slice_get xs k ≡ Some x → P x
all_at P [] k x ks is = cc is
all_at P (y ∷ xs) zero x ks is = let one : y ≡ x = cc in subst P one ks.0
all_at P (y ∷ xs) (suc k) x ks is = all_at P xs k x ks.1 is

take_next : {X : Type 0} (xs : List X) (k : ℕ) (x : X) → slice_get xs k ≡ Some x → take (suc k) xs ≡ take k xs ++ x ∷ []
take_next [] k x is = cc is
take_next (y ∷ xs) zero x is = let one : y ≡ x = cc in ap (λ z. z ∷ []) one
take_next (y ∷ xs) (suc k) x is = ap (λ zs. y ∷ zs) (take_next xs k x is)

found_test : {X : Type 0} (p : X → Bool) (xs : List X) (x : X) → find p xs ≡ Some x → p x ≡ true
found_test p [] x is = cc is
found_test p (y ∷ xs) x is = go (p y) refl (found_test p xs x) is
  where
    go : (u : Bool) → p y ≡ u → (find p xs ≡ Some x → p x ≡ true) → cond u (Some y) (find p xs) ≡ Some x → p x ≡ true
    go true e rest h = let one : y ≡ x = cc in ap p (sym one) ∙ e
    go false e rest h = rest h

-- ---- one turn

-- What was done so far in turns, and by each thread alone behind the setup: the whole may come, a thread's events know no name of another type than all together do,
-- a name that is given at all is given by its own thread or in the setup, a thread's call is open among its own where it is among all, and no creation of an
-- instance is open.
record Woven (along : List TraceEvent) (alone : ℕ → List TraceEvent) : Type 0 where
  pub each : may_all_come along ≡ true
  pub typed : (t : ℕ) (n : Name) (ty : ObjectType) → type_given n (alone t) ≡ Some ty → type_given n along ≡ Some ty
  pub given : (n : Name) → is_given along n ≡ true → is_given (alone n.thread) n ≡ true
  pub opens : (t : ℕ) → is_open t along ≡ is_open t (alone t)
  pub calm : (t : ℕ) (e : TraceEvent) → may_come (alone t) e ≡ true → breaks_in along e ≡ false

-- what may come behind a thread's own events may come behind all
come_along : (along : List TraceEvent) (alone : ℕ → List TraceEvent) (t : ℕ) (e : TraceEvent) → IsOwn t e → may_come (alone t) e ≡ true → Woven along alone → may_come along e ≡ true
come_along along alone t (Begin b) own comes w =
    let c = coming (alone t) b comes in
    begin_comes along b (record {
      idle = w.opens b.thread ∙ (ap (λ x. is_open b.thread (alone x)) own.at ∙ c.idle);
      known = pass_each (is_known (alone t)) (is_known along) (names_used (row_of b.cmd).params b.args)
          (all_of (λ (x : ObjectType × Name). is_known (alone t) x ≡ true → is_known along x ≡ true) (λ x. known_same (alone t) along x (w.typed t x.1)) (names_used (row_of b.cmd).params b.args)) c.known;
      typed = pass_each (is_of_type (alone t)) (is_of_type along) (names_used (row_of b.cmd).params b.args)
          (all_of (λ (x : ObjectType × Name). is_of_type (alone t) x ≡ true → is_of_type along x ≡ true) (λ x. of_type_same (alone t) along x (w.typed t x.1)) (names_used (row_of b.cmd).params b.args)) c.typed;
      new = fewer_new (alone t) along b.results
          (all_map (λ (n : Name). n.thread ≡ t) (λ n. is_given along n ≡ true → is_given (alone t) n ≡ true) (λ n same is. subst (λ x. is_given (alone x) n ≡ true) same (w.given n is)) b.results own.results) c.new;
      whole = unbroken along (Begin b) own.begins (w.calm t (Begin b) comes);
    })
come_along along alone t (Return u) own comes w =
    return_comes along u (w.opens u ∙ (ap (λ x. is_open u (alone x)) own.at ∙ open_at_return (alone t) u comes)) (unbroken along (Return u) refl (w.calm t (Return u) comes))

-- one turn more
module _ (along : List TraceEvent) (alone next : ℕ → List TraceEvent) (t : ℕ) (e : TraceEvent) (own : IsOwn t e) (comes : may_come (alone t) e ≡ true) (here : next t ≡ e ∷ alone t)
    (others : (u : ℕ) → (t == u) ≡ false → next u ≡ alone u) (w : Woven along alone) where
  -- the thread's own events, by any name of its number
  at_turn : (u : ℕ) → (t == u) ≡ true → next u ≡ e ∷ alone u
  at_turn u same = subst (λ v. next v ≡ e ∷ alone v) (eqb-true t u same) here

  typed_next : (u : ℕ) (n : Name) (ty : ObjectType) → type_given n (next u) ≡ Some ty → type_given n (e ∷ along) ≡ Some ty
  typed_next u n ty is = go (t == u) refl
    where
      go : (v : Bool) → (t == u) ≡ v → type_given n (e ∷ along) ≡ Some ty
      go true same = typed_both (alone u) along e n ty (w.typed u n ty) (sym (ap (type_given n) (at_turn u same)) ∙ is)
      go false other = typed_after along e n ty (come_along along alone t e own comes w) (w.typed u n ty (sym (ap (type_given n) (others u other)) ∙ is))

  given_next : (n : Name) → is_given (e ∷ along) n ≡ true → is_given (next n.thread) n ≡ true
  given_next n is = go (gives_or along e n is)
    where
      earlier : (v : Bool) → (t == n.thread) ≡ v → is_given (alone n.thread) n ≡ true → is_given (next n.thread) n ≡ true
      earlier true same p = ap (λ es. is_given es n) (at_turn n.thread same) ∙ given_more (alone n.thread) e n p
      earlier false other p = ap (λ es. is_given es n) (others n.thread other) ∙ p

      go : (gives e n ≡ true) ⊎ (is_given along n ≡ true) → is_given (next n.thread) n ≡ true
      go (inl now) = ap (λ es. is_given es n) (at_turn n.thread (eq-eqb t n.thread (sym (own_given t e n own now)))) ∙ given_now (alone n.thread) e n now
      go (inr before) = earlier (t == n.thread) refl (w.given n before)

  opens_next : (u : ℕ) → is_open u (e ∷ along) ≡ is_open u (next u)
  opens_next u = go (t == u) refl
    where
      go : (v : Bool) → (t == u) ≡ v → is_open u (e ∷ along) ≡ is_open u (next u)
      go true same = open_both along (alone u) e u (w.opens u) ∙ sym (ap (is_open u) (at_turn u same))
      go false other = open_other along e u (ap (λ x. x == u) own.at ∙ other) ∙ (w.opens u ∙ sym (ap (is_open u) (others u other)))

  weave : Woven (e ∷ along) next
  weave = record {
    each = and_from (may_all_come along) (may_come along e) w.each (come_along along alone t e own comes w);
    typed = typed_next;
    given = given_next;
    opens = opens_next;
    calm = λ u f is. ap (λ x. x && is_no_return_of e f) own.begins;
  }

-- ---- all turns

-- each thread's events are its own, and may come behind the setup
record Planned (setup : List TraceEvent) (streams : List StreamPart) : Type 0 where
  pub base : may_all_come setup ≡ true
  pub comes : (t : ℕ) → may_all_come (reverse (events_planned streams t) ++ setup) ≡ true
  pub own : (t : ℕ) → AllByRecursion (IsOwn t) (events_planned streams t)

planned : (setup : List TraceEvent) (streams : List StreamPart) → may_all_come setup ≡ true → AllByRecursion (Ready setup) streams → Planned setup streams
planned setup streams base ready = record { base = base; comes = λ t. (found t (find (λ (s : StreamPart). s.thread == t) streams) refl).0; own = λ t. (found t (find (λ (s : StreamPart). s.thread == t) streams) refl).1 }
  where
    found : (t : ℕ) (s : Option StreamPart) → find (λ (s : StreamPart). s.thread == t) streams ≡ s
        → (may_all_come (reverse (option_map_or (λ (s : StreamPart). s.events) s []) ++ setup) ≡ true) × AllByRecursion (IsOwn t) (option_map_or (λ (s : StreamPart). s.events) s [])
    found t None is = (base, tt)
    found t (Some s) is =
        let r : Ready setup s = all_found (Ready setup) (λ (s : StreamPart). s.thread == t) streams s ready is in
        let thread : s.thread ≡ t = eqb-true s.thread t (found_test (λ (s : StreamPart). s.thread == t) streams s is) in
        (r.comes, subst (λ u. AllByRecursion (IsOwn u) s.events) thread r.own)

-- a thread's own events behind the setup, after these turns
abbrev alone_of : List TraceEvent → List StreamPart → List ℕ → ℕ → List TraceEvent
alone_of setup streams threads t = reverse (take (turns_of t threads) (events_planned streams t)) ++ setup

alone_turn : (setup : List TraceEvent) (streams : List StreamPart) (before : List ℕ) (t : ℕ) (e : TraceEvent) → next_turn streams t before ≡ Some e → alone_of setup streams (t ∷ before) t ≡ e ∷ alone_of setup streams before t
alone_turn setup streams before t e is =
    let count : turns_of t (t ∷ before) ≡ suc (turns_of t before) = ap (λ u. length (cond u (t ∷ filter (λ x. x == t) before) (filter (λ x. x == t) before))) (eq-eqb t t refl) in
    ap (λ k. reverse (take k (events_planned streams t)) ++ setup) count
    ∙ (ap (λ es. reverse es ++ setup) (take_next (events_planned streams t) (turns_of t before) e is)
    ∙ ap (λ es. es ++ setup) (reverse-append (take (turns_of t before) (events_planned streams t)) (e ∷ [])))

alone_other : (setup : List TraceEvent) (streams : List StreamPart) (before : List ℕ) (t u : ℕ) → (t == u) ≡ false → alone_of setup streams (t ∷ before) u ≡ alone_of setup streams before u
alone_other setup streams before t u other = ap (λ v. reverse (take (length (cond v (t ∷ filter (λ x. x == u) before) (filter (λ x. x == u) before))) (events_planned streams u)) ++ setup) other

-- the first of a thread's events may come
first_come : (setup all : List TraceEvent) (k : ℕ) → may_all_come (reverse all ++ setup) ≡ true → may_all_come (reverse (take k all) ++ setup) ≡ true
first_come setup all k is =
    let whole : reverse (take k all ++ drop k all) ≡ reverse all = ap reverse (take-append-drop k all) in
    let cut : reverse all ++ setup ≡ reverse (drop k all) ++ (reverse (take k all) ++ setup) =
    ap (λ es. es ++ setup) (sym whole ∙ reverse-append (take k all) (drop k all)) ∙ append_assoc (reverse (drop k all)) (reverse (take k all)) setup in
    ends_come (reverse (drop k all)) (reverse (take k all) ++ setup) (sym (ap may_all_come cut) ∙ is)

next_comes : (setup : List TraceEvent) (streams : List StreamPart) (before : List ℕ) (t : ℕ) (e : TraceEvent) → Planned setup streams → next_turn streams t before ≡ Some e → may_come (alone_of setup streams before t) e ≡ true
next_comes setup streams before t e plan is =
    let all : may_all_come (e ∷ alone_of setup streams before t) ≡ true =
    sym (ap may_all_come (alone_turn setup streams before t e is)) ∙ first_come setup (events_planned streams t) (turns_of t (t ∷ before)) (plan.comes t) in
    (and_parts (may_all_come (alone_of setup streams before t)) (may_come (alone_of setup streams before t) e) all).1

woven : (setup : List TraceEvent) (streams : List StreamPart) → Planned setup streams → (threads : List ℕ) → Along streams threads → Woven (events_along streams threads ++ setup) (alone_of setup streams threads)
woven setup streams plan [] along = record { each = plan.base; typed = λ t n ty is. is; given = λ n is. is; opens = λ t. refl; calm = λ t e is. whole_in setup e is }
woven setup streams plan (t ∷ before) along = go (next_turn streams t before) refl along.0 (woven setup streams plan before along.1)
  where
    go : (o : Option TraceEvent) → next_turn streams t before ≡ o → is_some o ≡ true → Woven (events_along streams before ++ setup) (alone_of setup streams before)
        → Woven (with_event o (events_along streams before) ++ setup) (alone_of setup streams (t ∷ before))
    go None e there w = cc there
    go (Some x) e there w =
        weave (events_along streams before ++ setup) (alone_of setup streams before) (alone_of setup streams (t ∷ before)) t x (all_at (IsOwn t) (events_planned streams t) (turns_of t before) x (plan.own t) e)
        (next_comes setup streams before t x plan e) (alone_turn setup streams before t x e) (alone_other setup streams before t) w

of_the_grammar : (setup : List TraceEvent) (streams : List StreamPart) → Planned setup streams → (threads : List ℕ) → AllByRecursion IsEvent (events_along streams threads)
of_the_grammar setup streams plan [] = tt
of_the_grammar setup streams plan (t ∷ before) = go (next_turn streams t before) refl (of_the_grammar setup streams plan before)
  where
    go : (o : Option TraceEvent) → next_turn streams t before ≡ o → AllByRecursion IsEvent (events_along streams before) → AllByRecursion IsEvent (with_event o (events_along streams before))
    go None e rest = rest
    go (Some x) e rest = ((all_at (IsOwn t) (events_planned streams t) (turns_of t before) x (plan.own t) e).event, rest)

pub turns_follow : (setup : List TraceEvent) (streams : List StreamPart) → IsGapped setup → AllByRecursion (Ready setup) streams → (threads : List ℕ) → Along streams threads → IsGapped (events_along streams threads ++ setup)
turns_follow setup streams gapped ready threads along =
    let plan = planned setup streams gapped.each ready in
    record { grammar = all_append IsEvent (events_along streams threads) setup (of_the_grammar setup streams plan threads) gapped.grammar; each = (woven setup streams plan threads along).each }
