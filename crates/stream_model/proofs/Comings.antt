-- Events that may come after those before them: the end of a list of them, what a begin and a return ask for, and one event more.
use Rattle.std.proofs.Common.{◌≡◌, ◌∙◌, ◌==◌, ℕ, inl, inr, ◌⊎◌, Bool, true, false, not, cond, ◌&&◌, ◌||◌, Option, Some, None, List, [], ◌∷◌, ◌++◌, refl, sym, ap, subst}
use Rattle.std.specs.Prelude.{is_some}
use Rattle.std.specs.List.{AllByRecursion, list_all, list_any}
use Rattle.std.specs.Option.{option_map_or}
use Rattle.std.proofs.lemmas.Bool.{and_from, and_parts, eq-eqb, eqb-true, not-true}
use Rattle.std.proofs.lemmas.Map.Views.{any-filter_same}
use Rattle.command_tables.specs.declared.types.Code.TheVariants as code
use Rattle.command_tables.specs.declared.types.ObjectType.{ObjectType}
use Rattle.command_tables.specs.Effects.{type_made}
use Rattle.command_tables.specs.Table.{row_of}
use Rattle.command_tables.specs.Tests.{same_code, same_type}
use Rattle.trace_format.specs.declared.event.Name.{Name}
use Rattle.trace_format.specs.Accepting.{begins_instance, breaks_in, breaks_instance, is_known, is_of_type, is_open, makes_instance, names_used, open_threads, same_name, type_given}
use Rattle.trace_format.specs.Content.{TraceEvent, BeginEvent, Begin, Return}
use Rattle.chain_model.specs.Gaps.{are_new, is_given, may_all_come, may_come}
use Rattle.stream_model.specs.Order.{event_thread}

-- ---- tests

pub neither : (u v : Bool) → (u || v) ≡ false → (u ≡ false) × (v ≡ false)
neither false v e = (refl, e)
neither true v e = cc e

-- a test that would make another one true is false where that is
not_fewer : (u v : Bool) → (u ≡ true → v ≡ true) → not v ≡ true → not u ≡ true
not_fewer false v f e = refl
not_fewer true true f e = e
not_fewer true false f e = cc (f refl)

pub differ_sym : (s t : ℕ) → (s == t) ≡ false → (t == s) ≡ false
differ_sym s t e = go (t == s) refl
  where
    go : (u : Bool) → (t == s) ≡ u → u ≡ false
    go false h = refl
    go true h = let bad : (s == t) ≡ true = eq-eqb s t (sym (eqb-true t s h)) in cc

-- ---- lists

pub ends_all : {X : Type 0} (P : X → Type 0) (xs ys : List X) → AllByRecursion P (xs ++ ys) → AllByRecursion P ys
ends_all P [] ys ks = ks
ends_all P (x ∷ xs) ys ks = ends_all P xs ys ks.1

pub all_of : {X : Type 0} (P : X → Type 0) → ((x : X) → P x) → (xs : List X) → AllByRecursion P xs
all_of P f [] = tt
all_of P f (x ∷ xs) = (f x, all_of P f xs)

pub all_both : {X : Type 0} (P Q R : X → Type 0) → ((x : X) → P x → Q x → R x) → (xs : List X) → AllByRecursion P xs → AllByRecursion Q xs → AllByRecursion R xs
all_both P Q R f [] ps qs = tt
all_both P Q R f (x ∷ xs) ps qs = (f x ps.0 qs.0, all_both P Q R f xs ps.1 qs.1)

-- where one test holds of each element, another does that it makes true
pub pass_each : {X : Type 0} (p q : X → Bool) (xs : List X) → AllByRecursion (λ x. p x ≡ true → q x ≡ true) xs → list_all p xs ≡ true → list_all q xs ≡ true
pass_each p q [] fs is = refl
pass_each p q (x ∷ xs) fs is = let a = and_parts (p x) (list_all p xs) is in and_from (q x) (list_all q xs) (fs.0 a.0) (pass_each p q xs fs.1 a.1)

-- ---- the end of events that may come

pub ends_come : (xs ys : List TraceEvent) → may_all_come (xs ++ ys) ≡ true → may_all_come ys ≡ true
ends_come [] ys is = is
ends_come (x ∷ xs) ys is = ends_come xs ys (and_parts (may_all_come (xs ++ ys)) (may_come (xs ++ ys) x) is).0

-- ---- what a begin and a return ask for

pub record Comes (before : List TraceEvent) (b : BeginEvent) : Type 0 where
  pub idle : is_open b.thread before ≡ false
  pub known : list_all (is_known before) (names_used (row_of b.cmd).params b.args) ≡ true
  pub typed : list_all (is_of_type before) (names_used (row_of b.cmd).params b.args) ≡ true
  pub new : are_new before b.results ≡ true
  pub whole : breaks_instance before (Begin b) ≡ false

five_hold : (a b c d e : Bool) → (not a && (b && (c && (d && not e)))) ≡ true → (a ≡ false) × (b ≡ true) × (c ≡ true) × (d ≡ true) × (e ≡ false)
five_hold false true true true false is = (refl, refl, refl, refl, refl)
five_hold true b c d e is = cc is
five_hold false false c d e is = cc is
five_hold false true false d e is = cc is
five_hold false true true false e is = cc is
five_hold false true true true true is = cc is

five_given : (a b c d e : Bool) → a ≡ false → b ≡ true → c ≡ true → d ≡ true → e ≡ false → (not a && (b && (c && (d && not e)))) ≡ true
five_given a b c d e p q r s t = rw (p, q, r, s, t) refl

pub coming : (before : List TraceEvent) (b : BeginEvent) → may_come before (Begin b) ≡ true → Comes before b
coming before b is =
    let f =
    five_hold (is_open b.thread before) (list_all (is_known before) (names_used (row_of b.cmd).params b.args)) (list_all (is_of_type before) (names_used (row_of b.cmd).params b.args)) (are_new before b.results) (breaks_instance before (Begin b)) is in
    record { idle = f.0; known = f.1; typed = f.2; new = f.3; whole = f.4 }

pub begin_comes : (before : List TraceEvent) (b : BeginEvent) → Comes before b → may_come before (Begin b) ≡ true
begin_comes before b c =
    five_given (is_open b.thread before) (list_all (is_known before) (names_used (row_of b.cmd).params b.args)) (list_all (is_of_type before) (names_used (row_of b.cmd).params b.args)) (are_new before b.results) (breaks_instance before (Begin b))
    c.idle c.known c.typed c.new c.whole

pub return_comes : (before : List TraceEvent) (thread : ℕ) → is_open thread before ≡ true → breaks_instance before (Return thread) ≡ false → may_come before (Return thread) ≡ true
return_comes before thread opened whole = and_from (is_open thread before) (not (breaks_instance before (Return thread))) opened (ap not whole)

pub open_at_return : (before : List TraceEvent) (thread : ℕ) → may_come before (Return thread) ≡ true → is_open thread before ≡ true
open_at_return before thread is = (and_parts (is_open thread before) (not (breaks_instance before (Return thread))) is).0

-- ---- instances

makes_none : (e : TraceEvent) → begins_instance e ≡ false → makes_instance e ≡ false
makes_none (Begin b) is = ap (λ u. u && option_map_or (λ c. same_code c code.Success) b.code false) is
makes_none (Return thread) is = refl

-- an event that begins no instance breaks none, unless it breaks into one
pub unbroken : (before : List TraceEvent) (e : TraceEvent) → begins_instance e ≡ false → breaks_in before e ≡ false → breaks_instance before e ≡ false
unbroken before e begins whole = ap (λ u. (u && list_any makes_instance before) || breaks_in before e) (makes_none e begins) ∙ whole

pub whole_in : (before : List TraceEvent) (e : TraceEvent) → may_come before e ≡ true → breaks_in before e ≡ false
whole_in before (Begin b) is = (neither (makes_instance (Begin b) && list_any makes_instance before) (breaks_in before (Begin b)) (coming before b is).whole).1
whole_in before (Return thread) is =
    not-true (breaks_in before (Return thread)) (and_parts (is_open thread before) (not (breaks_in before (Return thread))) is).1

-- where no call is open, nothing breaks into a creation
pub closed_whole : (before : List TraceEvent) (e : TraceEvent) → open_threads before ≡ [] → breaks_in before e ≡ false
closed_whole [] e closed = refl
closed_whole (Begin b ∷ before) e closed = cc
closed_whole (Return thread ∷ before) e closed = refl

-- ---- open calls

open_returned : (t thread : ℕ) (before : List TraceEvent) → is_open t (Return thread ∷ before) ≡ not (t == thread) && is_open t before
open_returned t thread before = any-filter_same (λ x. x == t) (λ x. not (x == thread)) (not (t == thread)) (λ k same. ap (λ y. not (y == thread)) (eqb-true k t same)) (open_threads before)

-- one event more behind two lists in which a thread's call is alike
pub open_both : (events others : List TraceEvent) (e : TraceEvent) (t : ℕ) → is_open t events ≡ is_open t others → is_open t (e ∷ events) ≡ is_open t (e ∷ others)
open_both events others (Begin b) t same = ap (λ u. (b.thread == t) || u) same
open_both events others (Return thread) t same = open_returned t thread events ∙ (ap (λ u. not (t == thread) && u) same ∙ sym (open_returned t thread others))

-- an event of another thread
pub open_other : (events : List TraceEvent) (e : TraceEvent) (t : ℕ) → (event_thread e == t) ≡ false → is_open t (e ∷ events) ≡ is_open t events
open_other events (Begin b) t other = ap (λ u. u || is_open t events) other
open_other events (Return thread) t other = open_returned t thread events ∙ ap (λ u. not u && is_open t events) (differ_sym thread t other)

-- ---- names

pub name_is : (a b : Name) → same_name a b ≡ true → a ≡ b
name_is a b e =
    let parts = and_parts (a.thread == b.thread) (a.number == b.number) e in
    let thread : a.thread ≡ b.thread = eqb-true a.thread b.thread parts.0 in
    let number : a.number ≡ b.number = eqb-true a.number b.number parts.1 in
    ap (λ (x : ℕ). record { thread = x; number = a.number }) thread ∙ ap (λ (y : ℕ). record { thread = b.thread; number = y }) number

-- the event gives the name
abbrev pub gives : TraceEvent → Name → Bool
gives (Begin b) n = list_any (λ r. same_name r n) b.results
gives (Return thread) n = false

pub given_more : (events : List TraceEvent) (e : TraceEvent) (n : Name) → is_given events n ≡ true → is_given (e ∷ events) n ≡ true
given_more events (Begin b) n is = go (list_any (λ r. same_name r n) b.results)
  where
    go : (u : Bool) → (u || is_given events n) ≡ true
    go true = refl
    go false = is
given_more events (Return thread) n is = is

pub given_now : (events : List TraceEvent) (e : TraceEvent) (n : Name) → gives e n ≡ true → is_given (e ∷ events) n ≡ true
given_now events (Begin b) n is = ap (λ u. u || is_given events n) is
given_now events (Return thread) n is = cc is

pub gives_or : (events : List TraceEvent) (e : TraceEvent) (n : Name) → is_given (e ∷ events) n ≡ true → (gives e n ≡ true) ⊎ (is_given events n ≡ true)
gives_or events (Begin b) n is = go (list_any (λ r. same_name r n) b.results) is
  where
    go : (u : Bool) → (u || is_given events n) ≡ true → (u ≡ true) ⊎ (is_given events n ≡ true)
    go true p = inl refl
    go false p = inr p
gives_or events (Return thread) n is = inr is

-- new names aren't given
pub new_none : (events : List TraceEvent) (names : List Name) (n : Name) → are_new events names ≡ true → list_any (λ r. same_name r n) names ≡ true → is_given events n ≡ false
new_none events [] n new is = cc is
new_none events (m ∷ names) n new is =
    let a = and_parts (not (is_given events m)) (not (list_any (same_name m) names) && are_new events names) new in
    let b = and_parts (not (list_any (same_name m) names)) (are_new events names) a.1 in
    go (same_name m n) refl a.0 (new_none events names n b.1) is
  where
    go : (u : Bool) → same_name m n ≡ u → not (is_given events m) ≡ true → (list_any (λ r. same_name r n) names ≡ true → is_given events n ≡ false) → (u || list_any (λ r. same_name r n) names) ≡ true → is_given events n ≡ false
    go true e fresh rest p = subst (λ x. is_given events x ≡ false) (name_is m n e) (not-true (is_given events m) fresh)
    go false e fresh rest p = rest p

-- names are new behind events that give fewer of them
pub fewer_new : (events others : List TraceEvent) (names : List Name) → AllByRecursion (λ n. is_given others n ≡ true → is_given events n ≡ true) names → are_new events names ≡ true → are_new others names ≡ true
fewer_new events others [] fewer new = refl
fewer_new events others (n ∷ names) fewer new =
    let a = and_parts (not (is_given events n)) (not (list_any (same_name n) names) && are_new events names) new in
    let b = and_parts (not (list_any (same_name n) names)) (are_new events names) a.1 in
    and_from (not (is_given others n)) (not (list_any (same_name n) names) && are_new others names) (not_fewer (is_given others n) (is_given events n) fewer.0 a.0)
    (and_from (not (list_any (same_name n) names)) (are_new others names) b.0 (fewer_new events others names fewer.1 b.1))

-- ---- their types

pub typed_given : (events : List TraceEvent) (n : Name) (t : ObjectType) → type_given n events ≡ Some t → is_given events n ≡ true
typed_given [] n t is = cc is
typed_given (Begin b ∷ before) n t is = go (list_any (λ r. same_name r n) b.results) (typed_given before n t) is
  where
    go : (u : Bool) → (type_given n before ≡ Some t → is_given before n ≡ true) → cond u (type_made (row_of b.cmd).effect) (type_given n before) ≡ Some t → (u || is_given before n) ≡ true
    go true rest p = refl
    go false rest p = rest p
typed_given (Return thread ∷ before) n t is = typed_given before n t is

-- a name keeps its type behind an event that may come
pub typed_after : (events : List TraceEvent) (e : TraceEvent) (n : Name) (t : ObjectType) → may_come events e ≡ true → type_given n events ≡ Some t → type_given n (e ∷ events) ≡ Some t
typed_after events (Begin b) n t comes is = go (list_any (λ r. same_name r n) b.results) (new_none events b.results n (coming events b comes).new)
  where
    go : (u : Bool) → (u ≡ true → is_given events n ≡ false) → cond u (type_made (row_of b.cmd).effect) (type_given n events) ≡ Some t
    go true none =
        let there : is_given events n ≡ true = typed_given events n t is in
        let gone : is_given events n ≡ false = none refl in cc
    go false none = is
typed_after events (Return thread) n t comes is = is

-- one event more behind two lists, of which one knows the other's name
pub typed_both : (events others : List TraceEvent) (e : TraceEvent) (n : Name) (t : ObjectType) → (type_given n events ≡ Some t → type_given n others ≡ Some t) → type_given n (e ∷ events) ≡ Some t → type_given n (e ∷ others) ≡ Some t
typed_both events others (Begin b) n t same is = go (list_any (λ r. same_name r n) b.results) is
  where
    go : (u : Bool) → cond u (type_made (row_of b.cmd).effect) (type_given n events) ≡ Some t → cond u (type_made (row_of b.cmd).effect) (type_given n others) ≡ Some t
    go true p = p
    go false p = same p
typed_both events others (Return thread) n t same is = same is

-- an argument is known, and of its type, behind events that know its name as others do
pub known_same : (events others : List TraceEvent) (x : ObjectType × Name) → ((t : ObjectType) → type_given x.1 events ≡ Some t → type_given x.1 others ≡ Some t) → is_known events x ≡ true → is_known others x ≡ true
known_same events others x same is = go (type_given x.1 events) refl is
  where
    go : (o : Option ObjectType) → type_given x.1 events ≡ o → is_some o ≡ true → is_some (type_given x.1 others) ≡ true
    go None e p = cc p
    go (Some t) e p = ap is_some (same t e)

pub of_type_same : (events others : List TraceEvent) (x : ObjectType × Name) → ((t : ObjectType) → type_given x.1 events ≡ Some t → type_given x.1 others ≡ Some t) → is_of_type events x ≡ true → is_of_type others x ≡ true
of_type_same events others x same is = go (type_given x.1 events) refl is
  where
    go : (o : Option ObjectType) → type_given x.1 events ≡ o → option_map_or (λ k. same_type k x.0) o false ≡ true → option_map_or (λ k. same_type k x.0) (type_given x.1 others) false ≡ true
    go None e p = cc p
    go (Some t) e p = ap (λ o. option_map_or (λ k. same_type k x.0) o false) (same t e) ∙ p
