-- What is open and what was born in each threads part, as a call goes down and up.
use Rattle.std.proofs.Common.{◌≡◌, ◌≤◌, ◌+◌, ℕ, suc, Bool, true, false, cond, not, ◌&&◌, ◌==◌, Option, Some, None, List, [], ◌∷◌, ◌++◌, length, map, refl, sym, ap, ◌∙◌, subst, arith}
use Rattle.std.specs.Prelude.{filter}
use Rattle.std.specs.List.{list_any}
use Rattle.std.proofs.lemmas.List.{length-append, length-map}
use Rattle.command_tables.specs.Calls.{CallContent}
use Rattle.command_tables.specs.Effects.{type_made}
use Rattle.command_tables.specs.declared.types.Effect.{Effect}
use Rattle.command_tables.specs.declared.types.Effect.TheVariants as eff
use Rattle.command_tables.specs.declared.types.Implied.{Implied}
use Rattle.command_tables.specs.declared.types.Implied.TheVariants as imp
use Rattle.command_tables.specs.declared.types.ObjectType.{ObjectType}
use Rattle.command_tables.specs.declared.types.ObjectType.TheVariants as ty
use Rattle.command_tables.specs.Table.{ParamSpec, row_of}
use Rattle.command_tables.specs.Tests.{same_type}
use Rattle.object_model.specs.declared.Argument.{Argument}
use Rattle.object_model.specs.declared.Object.{Object}
use Rattle.object_model.specs.Findings.{is_failing}
use Rattle.object_model.specs.History.{Birth, births_given, births_of, born_in, is_owned_by, owner_in, owners_given}
use Rattle.object_model.specs.Objects.{is_in, object_of}
use Rattle.object_model.specs.Uses.{InUse, as_list, implied_objects, owned_in, use_of, uses_at, uses_in}
use Rattle.layer_model.specs.Ids.{IdMap, Key, at_key, is_wrapped, issue, issue_all}
use Rattle.layer_model.specs.Parts.{UseModel, key_read, life_failures, there, unique_enter, unique_results}
use Rattle.layer_model.specs.Reading.{read_call, read_made, read_results}
use Rattle.layer_model.specs.Walks.{PartState, Threads, Lifetimes, Unique, enter_parts, leave_parts}
use Rattle.session_model.specs.Steps.{NoneOpen}
use Rattle.walk_bounds.specs.Bounds.{AllLight, HaveBorn, implied_most, uses_most, weigh}
use Rattle.walk_bounds.proofs.Light.{light_fewer, light_more}
use Rattle.walk_bounds.proofs.Weighing.{below_weighs, params_few, read_weighs}

-- ---- the uses of a call

filtered : {X : Type 0} (p : X → Bool) (xs : List X) → length (filter p xs) ≤ length xs
filtered p [] = omega arith
filtered p (x ∷ xs) = go (p x) refl (filtered p xs)
  where
    go : (b : Bool) → p x ≡ b → length (filter p xs) ≤ length xs → length (filter p (x ∷ xs)) ≤ suc (length xs)
    go true e ih = rw e (omega (arith, ih))
    go false e ih = rw e (omega (arith, ih))

owned_few : (births : List Birth) (t : ObjectType) (o : Object) → length (owned_in births t o) ≤ length births
owned_few births t o =
    let chosen = filtered (λ (b : Birth). same_type b.object.ty t && is_owned_by o b) births in
    let long = length-map {B = Object} (filter (λ (b : Birth). same_type b.object.ty t && is_owned_by o b) births) (λ b. b.object) in
    omega (arith, chosen, long)

option_few : {X : Type 0} (o : Option X) → length (as_list o) ≤ 1
option_few None = omega arith
option_few (Some x) = omega arith

implied_few : (born : ℕ) (births : List Birth) (living : Object → Bool) (mark : Implied) (o : Object) → length births ≤ born → length (implied_objects births living mark o) ≤ implied_most born mark
implied_few born births living imp.None o few = omega arith
implied_few born births living imp.PoolOf o few = option_few (owner_in births o)
implied_few born births living imp.QueuesOf o few = let owned = owned_few births ty.Queue o in omega (arith, owned, few)
implied_few born births living imp.SetsOf o few =
    let owned = owned_few births ty.DescriptorSet o in
    let chosen = filtered living (owned_in births ty.DescriptorSet o) in
    omega (arith, owned, chosen, few)

uses_few : (born : ℕ) (births : List Birth) (living : Object → Bool) → length births ≤ born → (i : ℕ) (p : ParamSpec) (k : ℕ) (a : Argument)
    → length (uses_at births living i p k (object_of a)) ≤ 1 + implied_most born p.implied
uses_few born births living few i p k a = go (object_of a)
  where
    inner : (o : Object) (b : Bool) → length (cond b (use_of i k p.sync o ∷ map (use_of i k true) (implied_objects births living p.implied o)) []) ≤ 1 + implied_most born p.implied
    inner o true =
        let implied = implied_few born births living p.implied o few in
        let long = length-map (implied_objects births living p.implied o) (use_of i k true) in
        omega (arith, implied, long)
    inner o false = omega arith

    go : (o : Option Object) → length (uses_at births living i p k o) ≤ 1 + implied_most born p.implied
    go None = omega arith
    go (Some o) = inner o (born_in births o)

uses_fit : (born : ℕ) (births : List Birth) (living : Object → Bool) (c : CallContent) → length births ≤ born → length (uses_in births living c.cmd (read_call c)) ≤ uses_most born c
uses_fit born births living c few =
    let found = params_few (λ i p k a. uses_at births living i p k (object_of a)) (λ (p : ParamSpec). 1 + implied_most born p.implied) (uses_few born births living few) 0 (row_of c.cmd).params (read_call c) in
    let read = read_weighs (λ (p : ParamSpec). 1 + implied_most born p.implied) (row_of c.cmd).params c.args c.unborn in
    omega (arith, found, read)

below_most : (born : ℕ) (c d : CallContent) → c.cmd ≡ d.cmd → weigh (λ p. 1 + implied_most born p.implied) (row_of d.cmd).params c.args ≡ weigh (λ p. 1 + implied_most born p.implied) (row_of d.cmd).params d.args → uses_most born c ≡ uses_most born d
below_most born c d same e = ap (λ x. weigh (λ p. 1 + implied_most born p.implied) (row_of x).params c.args) same ∙ e

-- ---- on the way down

pub stays_light : (n born : ℕ) (threads : List ℕ) (thread number k : ℕ) (states : List PartState) (c : CallContent) → uses_most born c ≤ n → HaveBorn born states → list_any (λ t. thread == t) threads ≡ true
    → NoneOpen thread states → AllLight n threads states → AllLight n threads (enter_parts thread number k states c).states
stays_light n born threads thread number k [] c few births mine none light = tt
stays_light n born threads thread number k (Threads m ∷ states) c few births mine none light =
    let fits = uses_fit born m.births (is_in m.living) c births.0 in
    let call : InUse = record { number = number; thread = thread; uses = uses_in m.births (is_in m.living) c.cmd (read_call c) } in
    (light_more n threads m.opens call light.0 (omega (arith, fits, few)) mine none.0, stays_light n born threads thread number (k + 1) states c few births.1 mine none.1 light.1)
stays_light n born threads thread number k (Lifetimes m ∷ states) c few births mine none light = go (is_failing (life_failures m c.cmd (read_call c))) refl (stays_light n born threads thread number (k + 1) states c few births mine none light)
  where
    go : (b : Bool) → is_failing (life_failures m c.cmd (read_call c)) ≡ b → AllLight n threads (enter_parts thread number (k + 1) states c).states → AllLight n threads (enter_parts thread number k (Lifetimes m ∷ states) c).states
    go true fails ih = rw fails light
    go false fails ih = rw fails ih
stays_light n born threads thread number k (Unique m ∷ states) c few births mine none light =
    let same : uses_most born (unique_enter m c) ≡ uses_most born c = below_weighs (λ (p : ParamSpec). 1 + implied_most born p.implied) m (row_of c.cmd).params c.args in
    stays_light n born threads thread number (k + 1) states (unique_enter m c) (subst (λ x. x ≤ n) (sym same) few) births mine none light

pub bears_none : (born thread number k : ℕ) (states : List PartState) (c : CallContent) → HaveBorn born states → HaveBorn born (enter_parts thread number k states c).states
bears_none born thread number k [] c births = tt
bears_none born thread number k (Threads m ∷ states) c births = (births.0, bears_none born thread number (k + 1) states c births.1)
bears_none born thread number k (Lifetimes m ∷ states) c births = go (is_failing (life_failures m c.cmd (read_call c))) refl (bears_none born thread number (k + 1) states c births)
  where
    go : (b : Bool) → is_failing (life_failures m c.cmd (read_call c)) ≡ b → HaveBorn born (enter_parts thread number (k + 1) states c).states → HaveBorn born (enter_parts thread number k (Lifetimes m ∷ states) c).states
    go true fails ih = rw fails births
    go false fails ih = rw fails ih
bears_none born thread number k (Unique m ∷ states) c births = bears_none born thread number (k + 1) states (unique_enter m c) births

-- ---- on the way up

pub light_up : (n : ℕ) (threads : List ℕ) (thread : ℕ) (states : List PartState) (forms : List CallContent) (hs : List ℕ) → AllLight n threads states → AllLight n threads (leave_parts thread states forms hs).states
light_up n threads thread [] forms hs light = tt
light_up n threads thread (s ∷ states) [] hs light = light
light_up n threads thread (Threads m ∷ states) (c ∷ forms) hs light = (light_fewer n threads (λ u. not (u.thread == thread)) m.opens light.0, light_up n threads thread states forms hs light.1)
light_up n threads thread (Lifetimes m ∷ states) (c ∷ forms) hs light = light_up n threads thread states forms hs light
light_up n threads thread (Unique m ∷ states) (c ∷ forms) hs light = light_up n threads thread states forms hs light

-- as many results as came from below
issued_long : (m : IdMap ℕ) (k : Option Key) (t : ObjectType) (place : ℕ) (vs : List (Option ℕ)) → length (issue_all m k t place vs).results ≡ length vs
issued_long m k t place [] = refl
issued_long m k t place (None ∷ vs) = ap suc (issued_long m k t (place + 1) vs)
issued_long m k t place (Some v ∷ vs) = ap suc (issued_long (issue m (at_key k place) t v).ids k t (place + 1) vs)

unique_long : (m : IdMap ℕ) (k : Option Key) (t : Option ObjectType) (hs : List ℕ) → length (unique_results m k t hs).results ≡ length hs
unique_long m k None hs = refl
unique_long m k (Some t) hs = go (is_wrapped t) refl
  where
    go : (b : Bool) → is_wrapped t ≡ b → length (unique_results m k (Some t) hs).results ≡ length hs
    go true e = rw e (issued_long m k t 0 (map there hs) ∙ length-map {B = Option ℕ} hs there)
    go false e = rw e refl

pub results_long : (thread : ℕ) (states : List PartState) (forms : List CallContent) (hs : List ℕ) → length (leave_parts thread states forms hs).results ≡ length hs
results_long thread [] forms hs = refl
results_long thread (s ∷ states) [] hs = refl
results_long thread (Threads m ∷ states) (c ∷ forms) hs = results_long thread states forms hs
results_long thread (Lifetimes m ∷ states) (c ∷ forms) hs = results_long thread states forms hs
results_long thread (Unique m ∷ states) (c ∷ forms) hs =
    unique_long m (key_read c.cmd c.payload (read_call c) (row_of c.cmd).effect) (type_made (row_of c.cmd).effect) (leave_parts thread states forms hs).results ∙ results_long thread states forms hs

-- what is born of results
made_few : (t : Option ObjectType) (hs : List ℕ) → length (read_made t hs) ≤ length hs
made_few None hs = omega arith
made_few (Some t) [] = omega arith
made_few (Some t) (h ∷ hs) = go (h == 0) refl (made_few (Some t) hs)
  where
    go : (b : Bool) → (h == 0) ≡ b → length (read_results t hs) ≤ length hs → length (read_results t (h ∷ hs)) ≤ suc (length hs)
    go true e ih = rw e (omega (arith, ih))
    go false e ih = rw e (omega (arith, ih))

births_few : (before : List Birth) (created : Bool) (owners made : List Object) → length (births_of before created owners made) ≤ length made
births_few before created owners made =
    let chosen = filtered (λ (o : Object). not (born_in before o)) made in
    let long = length-map {B = Birth} (filter (λ (o : Object). not (born_in before o)) made) (λ o. record { object = o; created = created; owners = owners }) in
    omega (arith, chosen, long)

given_few : (before : List Birth) (args : List (List Argument)) (e : Effect) (made : List Object) → length (births_given before args e made) ≤ length made
given_few before args eff.None made = omega arith
given_few before args (eff.Create t owner many) made = births_few before true (owners_given before args owner) made
given_few before args (eff.Retrieve t owner many) made = births_few before false (owners_given before args owner) made
given_few before args (eff.Destroy p) made = omega arith
given_few before args (eff.Free p) made = omega arith
given_few before args (eff.Reset p) made = omega arith

born_up : (born : ℕ) (m : UseModel) (c : CallContent) (results : List ℕ) (most : ℕ) → length m.births ≤ born → length results ≡ most
    → length (m.births ++ births_given m.births (read_call c) (row_of c.cmd).effect (read_made (type_made (row_of c.cmd).effect) results)) ≤ born + most
born_up born m c results most few long =
    let given = given_few m.births (read_call c) (row_of c.cmd).effect (read_made (type_made (row_of c.cmd).effect) results) in
    let made = made_few (type_made (row_of c.cmd).effect) results in
    let all = length-append m.births (births_given m.births (read_call c) (row_of c.cmd).effect (read_made (type_made (row_of c.cmd).effect) results)) in
    omega (arith, given, made, all, few, long)

more_born : (born more : ℕ) (states : List PartState) → HaveBorn born states → HaveBorn (born + more) states
more_born born more [] births = tt
more_born born more (Threads m ∷ states) births = let few = births.0 in (omega (arith, few), more_born born more states births.1)
more_born born more (Lifetimes m ∷ states) births = more_born born more states births
more_born born more (Unique m ∷ states) births = more_born born more states births

pub bears_results : (born thread : ℕ) (states : List PartState) (forms : List CallContent) (hs : List ℕ) → HaveBorn born states → HaveBorn (born + length hs) (leave_parts thread states forms hs).states
bears_results born thread [] forms hs births = tt
bears_results born thread (s ∷ states) [] hs births = more_born born (length hs) (s ∷ states) births
bears_results born thread (Threads m ∷ states) (c ∷ forms) hs births =
    (born_up born m c (leave_parts thread states forms hs).results (length hs) births.0 (results_long thread states forms hs), bears_results born thread states forms hs births.1)
bears_results born thread (Lifetimes m ∷ states) (c ∷ forms) hs births = bears_results born thread states forms hs births
bears_results born thread (Unique m ∷ states) (c ∷ forms) hs births = bears_results born thread states forms hs births
