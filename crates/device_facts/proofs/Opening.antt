-- What the rules of a stream file leave of a call, and what the call is then as it is judged.
use Rattle.std.proofs.Common.{◌≡◌, ◌∙◌, ◌==◌, ◌<◌, ℕ, zero, suc, Bool, true, false, not, cond, Option, Some, None, List, [], ◌∷◌, ◌++◌, map, refl, sym, ap}
use Rattle.std.specs.Prelude.{⊤, filter, find, option_and_then, slice_get}
use Rattle.std.specs.List.{AllByRecursion}
use Rattle.std.specs.Option.{option_map_or}
use Rattle.std.proofs.lemmas.Bool.{eq-eqb, eqb-true}
use Rattle.command_tables.specs.declared.types.CommandId.TheVariants as cmd
use Rattle.command_tables.specs.declared.types.Effect.{Effect}
use Rattle.command_tables.specs.declared.types.Effect.TheVariants as eff
use Rattle.command_tables.specs.declared.types.OwnerOf.{OwnerOf}
use Rattle.command_tables.specs.declared.types.OwnerOf.TheVariants as of
use Rattle.command_tables.specs.Table.{row_of}
use Rattle.command_tables.specs.Tests.{same_command}
use Rattle.trace_format.specs.declared.event.Name.{Name}
use Rattle.trace_format.specs.Content.{Arg, BeginEvent}
use Rattle.object_model.specs.declared.Object.{Object}
use Rattle.object_model.specs.declared.Argument.TheVariants.{Unborn, The}
use Rattle.object_model.specs.Objects.{first_in, object_of}
use Rattle.object_model.specs.Rules.{ends_parent}
use Rattle.replay_model.specs.declared.Named.{Named}
use Rattle.replay_model.specs.Setup.{Setup}
use Rattle.replay_model.specs.Past.{Opened, Past, argument_in, arguments_in, is_of, named, object_in}
use Rattle.replay_model.specs.Judged.{begun_of}
use Rattle.replay_model.proofs.Alike.{numbered}
use Rattle.stream_model.specs.Devices.{name_at}
use Rattle.stream_model.specs.Order.{device_named}
use Rattle.device_facts.proofs.Beside.{NamesAre, args_at, named_at}
use Rattle.device_facts.proofs.Homes.{FitsOpen, Given, Held, Homes, OfOwner}
use Rattle.device_facts.proofs.Looks.{all_both, find_joined, or_other}
use Rattle.device_facts.proofs.Making.{On, is_plain}

-- ---- by names

-- the name, where there is one, has this device
abbrev pub OfName : (Name → Option Name) → Option Name → Option Name → Type 0
OfName device_of None d = ⊤
OfName device_of (Some m) d = device_of m ≡ d

abbrev pub NameBy : (Name → Option Name) → List Arg → OwnerOf → Option Name → Type 0
NameBy device_of args of.Nobody d = ⊤
NameBy device_of args (of.Param p) d = OfName device_of (name_at args p) d
NameBy device_of args (of.OwnerOfParam p) d = OfName device_of (name_at args p) None

abbrev pub NameRetrieved : (Name → Option Name) → List Arg → OwnerOf → Option Name → Type 0
NameRetrieved device_of args of.Nobody d = ⊤
NameRetrieved device_of args (of.Param p) d = OfName device_of (name_at args p) d
NameRetrieved device_of args (of.OwnerOfParam p) d = ⊥

abbrev pub NameGiven : (Name → Option Name) → List Arg → Effect → Option Name → Type 0
NameGiven device_of args (eff.Create t owner many) d = NameBy device_of args owner d
NameGiven device_of args (eff.Retrieve t owner many) d = NameRetrieved device_of args owner d
NameGiven device_of args _ d = ⊤

-- a call's results have the device of their owner's name
pub record Gives (device_of : Name → Option Name) (b : BeginEvent) : Type 0 where
  pub threads : AllByRecursion (λ (n : Name). n.thread < 2048) b.results
  pub given : AllByRecursion (λ (n : Name). NameGiven device_of b.args (row_of b.cmd).effect (device_of n)) b.results

-- a call of a stream is on one device
pub record OnDevice (device_of : Name → Option Name) (d : Name) (b : BeginEvent) : Type 0 where
  pub device : device_named device_of b.cmd b.args ≡ Some d
  pub names : NamesAre (λ n. device_of n ≡ Some d) b.args
  pub ends : ends_parent b.cmd ≡ false
  pub plain : is_plain (row_of b.cmd).effect ≡ true
  pub instance : same_command b.cmd cmd.CreateInstance ≡ false

module _ (h : Homes) where
  -- ---- by objects

  of_name : (names : List Named) → AllByRecursion (λ (n : Named). h.object n.object ≡ h.name n.name) names → (args : List Arg) (p : ℕ) (d : Option Name) → OfName h.name (name_at args p) d → OfOwner h (first_in (arguments_in names args) p) d
  of_name names all [] p d is = tt
  of_name names all (a ∷ args) zero d is = go a.names is
    where
      at : (n : Name) (x : Option Object) → object_in names n ≡ x → h.name n ≡ d → OfOwner h (object_of (option_map_or The x Unborn)) d
      at n None e k = tt
      at n (Some o) e k = named_at h n names all n o e ∙ k

      go : (ns : List (Option Name)) → OfName h.name (option_and_then (λ place. place) (slice_get ns 0)) d → OfOwner h (first_in (map (argument_in names) ns ∷ arguments_in names args) 0) d
      go [] k = tt
      go (None ∷ ns) k = tt
      go (Some n ∷ ns) k = at n (object_in names n) refl k
  of_name names all (a ∷ args) (suc p) d is = of_name names all args p d is

  given_of : (names : List Named) → AllByRecursion (λ (n : Named). h.object n.object ≡ h.name n.name) names → (args : List Arg) (e : Effect) (d : Option Name) → NameGiven h.name args e d → Given h (arguments_in names args) e d
  given_of names all args (eff.Create t of.Nobody many) d is = tt
  given_of names all args (eff.Create t (of.Param p) many) d is = of_name names all args p d is
  given_of names all args (eff.Create t (of.OwnerOfParam p) many) d is = of_name names all args p None is
  given_of names all args (eff.Retrieve t of.Nobody many) d is = tt
  given_of names all args (eff.Retrieve t (of.Param p) many) d is = of_name names all args p d is
  given_of names all args (eff.Retrieve t (of.OwnerOfParam p) many) d is = is
  given_of names all args eff.None d is = tt
  given_of names all args (eff.Destroy p) d is = tt
  given_of names all args (eff.Free p) d is = tt
  given_of names all args (eff.Reset p) d is = tt

  pub fits_open : (s : Setup) (past : Past) (b : BeginEvent) → Held h past → Gives h.name b → FitsOpen h (begun_of s past b).opened
  fits_open s past b held g =
      all_both (λ (n : Name). n.thread < 2048) (λ (n : Name). NameGiven h.name b.args (row_of b.cmd).effect (h.name n)) (λ (n : Name). (n.thread < 2048) × Given h (arguments_in (named past) b.args) (row_of b.cmd).effect (h.name n))
      (λ n less given. (less, given_of (named past) held.names b.args (row_of b.cmd).effect (h.name n) given)) b.results g.threads g.given

  pub on_open : (s : Setup) (past : Past) (b : BeginEvent) (d : Name) → Held h past → OnDevice h.name d b → On h d (begun_of s past b).opened
  on_open s past b d held on = record { args = args_at h d (named past) held.names b.args on.names; plain = on.plain; instance = on.instance }

  -- ---- open calls

  -- a call that is on another device
  pub record Elsewhere (device : Name) (o : Opened) : Type 0 where
    pub other : Name
    pub apart : other ≡ device → ⊥
    pub on : On h other o

  -- a thread's open calls by two pasts, and whether its newest call is on the device: there the second has it too
  abbrev pub OpenAlike : Name → Bool → Option Opened → Option Opened → Type 0
  OpenAlike device true None None = ⊤
  OpenAlike device true None (Some q) = ⊥
  OpenAlike device true (Some o) None = ⊥
  OpenAlike device true (Some o) (Some q) = On h device o × (numbered 0 q ≡ numbered 0 o)
  OpenAlike device false None None = ⊤
  OpenAlike device false None (Some q) = ⊥
  OpenAlike device false (Some o) None = Elsewhere device o
  OpenAlike device false (Some o) (Some q) = ⊥

  pub none_there : (device : Name) (u : Bool) (g : Option Opened) → OpenAlike device u None g → g ≡ None
  none_there device true None k = refl
  none_there device true (Some q) k = absurd k
  none_there device false None k = refl
  none_there device false (Some q) k = absurd k

  pub none_alone : (device : Name) (f g : Option Opened) → OpenAlike device false f g → g ≡ None
  none_alone device None None k = refl
  none_alone device None (Some q) k = absurd k
  none_alone device (Some o) None k = refl
  none_alone device (Some o) (Some q) k = absurd k

  pub no_calls : (device : Name) (u : Bool) → OpenAlike device u None None
  no_calls device true = tt
  no_calls device false = tt

-- one call more
pub open_more : (t : ℕ) (cs : List Opened) (o : Opened) → find (is_of t) (cs ++ o ∷ []) ≡ or_other (find (is_of t) cs) (cond (o.thread == t) (Some o) None)
open_more t cs o = find_joined (is_of t) cs (o ∷ [])

-- without a thread's calls
pub open_less : (t v : ℕ) (cs : List Opened) → find (is_of t) (filter (λ c. not (is_of v c)) cs) ≡ cond (t == v) None (find (is_of t) cs)
open_less t v [] = none (t == v)
  where
    none : (u : Bool) → None ≡ cond {A = Option Opened} u None None
    none true = refl
    none false = refl
open_less t v (c ∷ cs) = go (c.thread == v) (c.thread == t) refl refl (open_less t v cs)
  where
    go : (x y : Bool) → (c.thread == v) ≡ x → (c.thread == t) ≡ y → find (is_of t) (filter (λ c. not (is_of v c)) cs) ≡ cond (t == v) None (find (is_of t) cs)
        → find (is_of t) (cond (not x) (c ∷ filter (λ c. not (is_of v c)) cs) (filter (λ c. not (is_of v c)) cs)) ≡ cond (t == v) None (cond y (Some c) (find (is_of t) cs))
    go true true e f rest =
        let same : (t == v) ≡ true = eq-eqb t v (sym (eqb-true c.thread t f) ∙ eqb-true c.thread v e) in
        rest ∙ (ap (λ u. cond u None (find (is_of t) cs)) same ∙ sym (ap (λ u. cond u None (Some c)) same))
    go true false e f rest = rest
    go false true e f rest =
        let differ : (t == v) ≡ false = sym (ap (λ x. x == v) (eqb-true c.thread t f)) ∙ e in
        ap (λ u. cond u (Some c) (find (is_of t) (filter (λ c. not (is_of v c)) cs))) f ∙ sym (ap (λ u. cond u None (Some c)) differ)
    go false false e f rest = ap (λ u. cond u (Some c) (find (is_of t) (filter (λ c. not (is_of v c)) cs))) f ∙ rest
