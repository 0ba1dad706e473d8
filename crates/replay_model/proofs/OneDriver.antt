-- With one driver every call goes to it.
use Rattle.std.proofs.Common.{◌≡◌, ◌+◌, ℕ, Bool, true, false, not, cond, ◌&&◌, ◌||◌, Option, Some, None, List, [], ◌∷◌, ◌++◌, map, refl, sym, ◌∙◌, ap, take}
use Rattle.std.specs.Prelude.{filter, find, slice_get, unwrap_or, is_some, if◌then◌else◌}
use Rattle.std.specs.List.{AllByRecursion, enumerate_from, range_with_len}
use Rattle.std.specs.Option.{option_map_or}
use Rattle.command_tables.specs.Effects.{type_made}
use Rattle.command_tables.specs.declared.types.CommandId.TheVariants as cmd
use Rattle.command_tables.specs.declared.types.ObjectType.{ObjectType}
use Rattle.command_tables.specs.declared.types.ObjectType.TheVariants as ty
use Rattle.command_tables.specs.Table.{row_of}
use Rattle.command_tables.specs.Tests.{same_command, same_type}
use Rattle.trace_format.specs.declared.event.Name.{Name}
use Rattle.trace_format.specs.Content.{TraceEvent, Begin, Return}
use Rattle.object_model.specs.declared.Object.{Object}
use Rattle.object_model.specs.Objects.{same, first_in}
use Rattle.object_model.specs.History.{Birth, births, alive}
use Rattle.replay_model.specs.declared.Born.{Born}
use Rattle.object_model.specs.declared.Routed.{Routed}
use Rattle.replay_model.specs.Setup.{Setup}
use Rattle.replay_model.specs.Past.{Opened, Retrieval, is_of, open_calls, calls_in, named, arguments_in, history, retrievals, is_new, routed_of, routed_by, routed}
use Rattle.object_model.specs.Routes.{is_routed, driver_behind}
use Rattle.replay_model.specs.Births.{bears, born_with, bearable, made_by, result_object}
use Rattle.replay_model.specs.ChainPlaces.{checked, findings}
use Rattle.replay_model.specs.Judged.{is_refused, begun_of, made_of, returned_by, judged}
use Rattle.object_model.specs.Routes.{driver_in, receivers}

-- the first driver of a call, and 0 where it has none
abbrev first_driver : List ℕ → ℕ
first_driver drivers = unwrap_or (slice_get drivers 0) 0

-- these calls go to driver 0
abbrev AllTo : List Opened → Type 0
AllTo os = AllByRecursion (λ o. first_driver o.drivers ≡ 0) os

-- the driver behind these objects is driver 0
abbrev AllBehind : List Routed → Type 0
AllBehind routes = AllByRecursion (λ r. r.driver ≡ 0) routes

all-append : {X : Type 0} (P : X → Type 0) (xs ys : List X) → AllByRecursion P xs → AllByRecursion P ys → AllByRecursion P (xs ++ ys)
all-append P [] ys a b = b
all-append P (x ∷ xs) ys a b = (a.0, all-append P xs ys a.1 b)

all-filter : {X : Type 0} (P : X → Type 0) (p : X → Bool) (xs : List X) → AllByRecursion P xs → AllByRecursion P (filter p xs)
all-filter P p [] a = tt
all-filter P p (x ∷ xs) a = elim (p x) as (λ t. AllByRecursion P (cond t (x ∷ filter p xs) (filter p xs))) [ true ↦ (a.0, all-filter P p xs a.1) | false ↦ all-filter P p xs a.1 ]

-- so a look-up gives driver 0
looked_up : (routes : List Routed) (o : Object) → AllBehind routes → driver_in routes o ≡ 0
looked_up [] o a = refl
looked_up (r ∷ routes) o a =
    elim (same r.object o) as (λ t. option_map_or (λ r. r.driver) (cond t (Some r) (find (λ r. same r.object o) routes)) 0 ≡ 0) [ true ↦ a.0 | false ↦ looked_up routes o a.1 ]

-- the receivers of a call begin with driver 0
received : (routes : List Routed) (o : Option Object) → AllBehind routes → first_driver (receivers 1 routes o) ≡ 0
received routes None a = refl
received routes (Some o) a = elim (same_type o.ty ty.Instance) as (λ t. first_driver (cond t (range_with_len 0 1) (driver_in routes o ∷ [])) ≡ 0) [ true ↦ refl | false ↦ looked_up routes o a ]

received_by : (drivers : ℕ) (routes : List Routed) (o : Option Object) → drivers ≡ 1 → AllBehind routes → first_driver (receivers drivers routes o) ≡ 0
received_by drivers routes o n a = rw n (received routes o a)

none_or : (t : Bool) (drivers : List ℕ) → first_driver drivers ≡ 0 → first_driver (if t then [] else drivers) ≡ 0
none_or true drivers e = refl
none_or false drivers e = e

-- the one physical device stands in place 0
abbrev InFirst : List Born → Type 0
InFirst made = AllByRecursion (λ b. b.place ≡ 0) made

in_first : (bs : List Birth) (kept : List Retrieval) (o : Opened) (results : List Name) → InFirst (born_with bs kept o (take 1 results))
in_first bs kept o results = go (type_made (row_of o.cmd).effect) results
  where
    go : (t : Option ObjectType) (results : List Name) → InFirst (option_map_or (λ t. map (λ (x : ℕ × Name). record { place = x.0; name = x.1; object = result_object bs kept o (row_of o.cmd).effect t x.0 x.1 }) (enumerate_from 0 (take 1 results))) t [])
    go None results = tt
    go (Some t) [] = tt
    go (Some t) (n ∷ results) = (refl, tt)

-- the driver behind what a call bears is driver 0
behind : (o : Opened) (made : List Born) → first_driver o.drivers ≡ 0 → (same_command o.cmd cmd.EnumeratePhysicalDevices ≡ true → InFirst made) → AllByRecursion (λ b. driver_behind o.cmd o.drivers b.place ≡ 0) made
behind o [] f p = tt
behind o (b ∷ made) f p = (go (same_command o.cmd cmd.EnumeratePhysicalDevices) (λ e. (p e).0), behind o made f (λ e. (p e).1))
  where
    go : (t : Bool) → (t ≡ true → b.place ≡ 0) → cond t b.place (first_driver o.drivers) ≡ 0
    go true p = p refl
    go false p = f

mapped : (o : Opened) (made : List Born) → AllByRecursion (λ b. driver_behind o.cmd o.drivers b.place ≡ 0) made → AllBehind (map (routed_of o) made)
mapped o [] a = tt
mapped o (b ∷ made) a = (a.0, mapped o made a.1)

-- results of the one driver's devices
made_one : (bs : List Birth) (living : Object → Bool) (kept : List Retrieval) (o : Opened) → same_command o.cmd cmd.EnumeratePhysicalDevices ≡ true → InFirst (made_by 1 bs living kept o)
made_one bs living kept o e = elim (bears bs living o) as (λ t. InFirst (cond t (born_with bs kept o (bearable 1 o)) [])) [ true ↦ rw e (in_first bs kept o o.results) | false ↦ tt ]

made_first : (drivers : ℕ) (bs : List Birth) (living : Object → Bool) (kept : List Retrieval) (o : Opened) → drivers ≡ 1 → same_command o.cmd cmd.EnumeratePhysicalDevices ≡ true → InFirst (made_by drivers bs living kept o)
made_first drivers bs living kept o n e = rw n (made_one bs living kept o e)

-- what is found is one of them
found : (t : ℕ) (os : List Opened) (o : Opened) → AllTo os → find (is_of t) os ≡ Some o → first_driver o.drivers ≡ 0
found t [] o a f = cc
found t (h ∷ os) o a f = go (is_of t h) refl f (λ g. found t os o a.1 g)
  where
    go : (u : Bool) → is_of t h ≡ u → cond (is_of t h) (Some h) (find (is_of t) os) ≡ Some o → (find (is_of t) os ≡ Some o → first_driver o.drivers ≡ 0) → first_driver o.drivers ≡ 0
    go true x f ih = let e : Some h ≡ Some o = rw x at f in let k : h ≡ o = cc in ap (λ (c : Opened). first_driver c.drivers) (sym k) ∙ a.0
    go false x f ih = ih (rw x at f)

-- all calls go to the one driver, and it is behind all objects
one_driver : (s : Setup) (events : List TraceEvent) → s.drivers ≡ 1 → AllTo (open_calls (judged s events)) × AllBehind (routed (judged s events))
one_driver s [] n = (tt, tt)
one_driver s (Begin e ∷ before) n =
    let past = judged s before in
    let ih = one_driver s before n in
    let o = (begun_of s past e).opened in
    let stop = (findings (checked s past (record { number = calls_in past + 1; thread = e.thread; cmd = e.cmd; args = arguments_in (named past) e.args }))).stop in
    let goes : first_driver o.drivers ≡ 0 = none_or (is_refused s e.cmd e.payload || is_some stop) (receivers s.drivers (routed past) (first_in (arguments_in (named past) e.args) 0)) (received_by s.drivers (routed past) (first_in (arguments_in (named past) e.args) 0) n ih.1) in
    (all-append (λ c. first_driver c.drivers ≡ 0) (open_calls past) (o ∷ []) ih.0 (goes, tt), ih.1)
one_driver s (Return t ∷ before) n = go (find (is_of t) (open_calls (judged s before))) refl (one_driver s before n)
  where
    go : (c : Option Opened) → find (is_of t) (open_calls (judged s before)) ≡ c → AllTo (open_calls (judged s before)) × AllBehind (routed (judged s before))
        → AllTo (open_calls (returned_by s (judged s before) c)) × AllBehind (routed (returned_by s (judged s before) c))
    go None f ih = ih
    go (Some o) f ih =
        let past = judged s before in
        let bs = births (history past) in
        let made = made_of s past o in
        let first : same_command o.cmd cmd.EnumeratePhysicalDevices ≡ true → InFirst (made_of s past o) = λ e. made_first s.drivers bs (alive (history past)) (retrievals past) o n e in
        let all = behind o made (found t (open_calls past) o ih.0 f) first in
        let kept = all-filter (λ b. driver_behind o.cmd o.drivers b.place ≡ 0) (λ b. is_routed b.object.ty && is_new bs b) made all in (
          all-filter (λ c. first_driver c.drivers ≡ 0) (λ c. not (is_of o.thread c)) (open_calls past) ih.0,
          all-append (λ r. r.driver ≡ 0) (routed past) (routed_by bs o made) ih.1 (mapped o (filter (λ b. is_routed b.object.ty && is_new bs b) made) kept),
        )

-- so a look-up gives the one driver
pub driver_in-one : (s : Setup) (events : List TraceEvent) (o : Object) → s.drivers ≡ 1 → driver_in (routed (judged s events)) o ≡ 0
driver_in-one s events o n = looked_up (routed (judged s events)) o (one_driver s events n).1
