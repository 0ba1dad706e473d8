-- A stream's calls on one device: what they take was given in setup or by the stream's earlier calls on that device, so they may come behind the setup.
use Rattle.std.proofs.Common.{◌≡◌, ◌∙◌, ◌==◌, ◌+◌, ℕ, zero, suc, Bool, true, false, not, cond, ◌&&◌, ◌||◌, Option, Some, None, List, [], ◌∷◌, ◌++◌, refl, sym, ap, subst, rules, append_assoc, append-nil}
use Rattle.std.specs.Prelude.{filter_map, map, option_and_then, reverse, slice_get}
use Rattle.std.specs.List.{AllByRecursion, list_any}
use Rattle.std.specs.Option.{is_none, option_map_or}
use Rattle.std.proofs.lemmas.Bool.{and_from, and_right, eq-eqb, not-false}
use Rattle.std.proofs.lemmas.List.{reverse-append}
use Rattle.command_tables.specs.declared.types.CommandId.{CommandId}
use Rattle.command_tables.specs.declared.types.CommandId.TheVariants as cmd
use Rattle.command_tables.specs.declared.types.Effect.{Effect}
use Rattle.command_tables.specs.declared.types.Effect.TheVariants as eff
use Rattle.command_tables.specs.declared.types.ObjectType.{ObjectType}
use Rattle.command_tables.specs.declared.types.OwnerOf.{OwnerOf}
use Rattle.command_tables.specs.declared.types.OwnerOf.TheVariants as of
use Rattle.command_tables.specs.Effects.{type_made}
use Rattle.command_tables.specs.Table.{ParamSpec, row_of}
use Rattle.command_tables.specs.Tests.{same_command, same_type}
use Rattle.trace_format.specs.declared.event.Name.{Name}
use Rattle.trace_format.specs.Accepting.{begins_instance, breaks_in, is_known, is_no_return_of, is_of_type, is_open, names_used, type_given}
use Rattle.trace_format.specs.Content.{Arg, TraceEvent, BeginEvent, Begin, Return}
use Rattle.chain_model.specs.Gaps.{is_given, may_all_come, may_come}
use Rattle.chain_model.proofs.Starting.{params_none}
use Rattle.stream_model.specs.Devices.{has_result, makes_devices, name_at, owner_among, owner_written, written_device}
use Rattle.stream_model.specs.FileLines.{FileLine, EventLine}
use Rattle.stream_model.specs.Order.{any_name, device_named, events, is_of_another_device, is_of_another_stream, is_on_no_device, same_device, stream, stream_of_name}
use Rattle.stream_model.specs.Plans.{calls_on, kept_if}
use Rattle.stream_model.proofs.Comings.{all_both, all_of, begin_comes, coming, fewer_new, given_more, given_now, known_same, name_is, neither, new_none, of_type_same, open_at_return, open_both, pass_each, return_comes, typed_given, unbroken}

-- ---- the table

-- what makes devices is on none
abbrev is_placed : CommandId → Bool
is_placed c = not (makes_devices c) || is_on_no_device (row_of c).params

placed : (c : CommandId) → is_placed c ≡ true
unfolding row_of same_type
placed c = search rules

-- a call on a device makes no device, and no instance
pub on_a_device : (f : Name → Option Name) (c : CommandId) (args : List Arg) → is_none (device_named f c args) ≡ false → is_on_no_device (row_of c).params ≡ false
on_a_device f c args is = go (is_on_no_device (row_of c).params) is
  where
    go : (u : Bool) → is_none (cond u None (option_and_then f (name_at args 0))) ≡ false → u ≡ false
    go true p = cc p
    go false p = refl

makes_none : (c : CommandId) → is_on_no_device (row_of c).params ≡ false → makes_devices c ≡ false
makes_none c on = go (makes_devices c) (is_on_no_device (row_of c).params) on (placed c)
  where
    go : (m d : Bool) → d ≡ false → (not m || d) ≡ true → m ≡ false
    go false d e p = refl
    go true true e p = e
    go true false e p = sym p

pub no_instance : (b : BeginEvent) → is_on_no_device (row_of b.cmd).params ≡ false → begins_instance (Begin b) ≡ false
no_instance b on = go (same_command b.cmd cmd.CreateInstance) (params_none b.cmd)
  where
    go : (u : Bool) → (u ≡ true → (row_of b.cmd).params ≡ []) → u ≡ false
    go false none = refl
    go true none = let bad : is_on_no_device (row_of b.cmd).params ≡ true = ap is_on_no_device (none refl) in cc

-- ---- arguments

-- a test that no name of the arguments passes
places_fail : (test : Name → Bool) (ty : ObjectType) (names : List (Option Name)) → list_any (λ place. option_map_or test place false) names ≡ false
    → AllByRecursion (λ (x : ObjectType × Name). test x.1 ≡ false) (map (λ n. (ty, n)) (filter_map (λ n. n) names))
places_fail test ty [] none = tt
places_fail test ty (None ∷ names) none = places_fail test ty names none
places_fail test ty (Some n ∷ names) none = let a = neither (test n) (list_any (λ place. option_map_or test place false) names) none in (a.0, places_fail test ty names a.1)

all_join : {X : Type 0} (P : X → Type 0) (xs ys : List X) → AllByRecursion P xs → AllByRecursion P ys → AllByRecursion P (xs ++ ys)
all_join P [] ys ks ls = ls
all_join P (x ∷ xs) ys ks ls = (ks.0, all_join P xs ys ks.1 ls)

used_fail : (test : Name → Bool) (ps : List ParamSpec) (args : List Arg) → any_name test args ≡ false → AllByRecursion (λ (x : ObjectType × Name). test x.1 ≡ false) (names_used ps args)
used_fail test [] args none = tt
used_fail test (p ∷ ps) [] none = tt
used_fail test (p ∷ ps) (a ∷ args) none =
    let each = neither (list_any (λ place. option_map_or test place false) a.names) (any_name test args) none in
    all_join (λ (x : ObjectType × Name). test x.1 ≡ false) (map (λ n. (p.ty, n)) (filter_map (λ n. n) a.names)) (names_used ps args) (places_fail test p.ty a.names each.0) (used_fail test ps args each.1)

first_fails : (test : Name → Bool) (names : List (Option Name)) (o : Name) → list_any (λ place. option_map_or test place false) names ≡ false → option_and_then (λ place. place) (slice_get names 0) ≡ Some o → test o ≡ false
first_fails test [] o none is = cc is
first_fails test (None ∷ names) o none is = cc is
first_fails test (Some n ∷ names) o none is =
    let one : n ≡ o = cc in ap test (sym one) ∙ (neither (test n) (list_any (λ place. option_map_or test place false) names) none).0

name_fails : (test : Name → Bool) (args : List Arg) (p : ℕ) (o : Name) → any_name test args ≡ false → name_at args p ≡ Some o → test o ≡ false
name_fails test [] p o none is = cc is
name_fails test (a ∷ args) zero o none is = first_fails test a.names o (neither (list_any (λ place. option_map_or test place false) a.names) (any_name test args) none).0 is
name_fails test (a ∷ args) (suc p) o none is = name_fails test args p o (neither (list_any (λ place. option_map_or test place false) a.names) (any_name test args) none).1 is

among_fails : (test : Name → Bool) (args : List Arg) (owner : OwnerOf) (o : Name) → any_name test args ≡ false → owner_among args owner ≡ Some o → test o ≡ false
among_fails test args of.Nobody o none is = cc is
among_fails test args (of.Param p) o none is = name_fails test args p o none is
among_fails test args (of.OwnerOfParam p) o none is = cc is

owner_fails : (test : Name → Bool) (args : List Arg) (effect : Effect) (o : Name) → any_name test args ≡ false → owner_written args effect ≡ Some o → test o ≡ false
owner_fails test args (eff.Create t owner many) o none is = among_fails test args owner o none is
owner_fails test args (eff.Retrieve t owner many) o none is = among_fails test args owner o none is
owner_fails test args _ o none is = cc is

-- ---- devices

same_left : (x y z : Option Name) → same_device x y ≡ true → same_device y z ≡ true → same_device x z ≡ true
same_left None y z p q = cc p
same_left (Some a) None z p q = cc p
same_left (Some a) (Some b) z p q = subst (λ n. same_device (Some n) z ≡ true) (sym (name_is a b p)) q

same_right : (x y z : Option Name) → same_device x y ≡ true → same_device x z ≡ true → same_device y z ≡ true
same_right None y z p q = cc p
same_right (Some a) None z p q = cc p
same_right (Some a) (Some b) z p q = subst (λ n. same_device (Some n) z ≡ true) (name_is a b p) q

-- a name that has a written device was given
written_given : (events : List TraceEvent) (n d : Name) → written_device events n ≡ Some d → is_given events n ≡ true
written_given [] n d is = cc is
written_given (Begin b ∷ before) n d is = go (has_result b n) (written_given before n d) is
  where
    go : (u : Bool) → (written_device before n ≡ Some d → is_given before n ≡ true)
        → cond (u && makes_devices b.cmd) (Some n) (option_and_then (written_device before) (cond u (owner_written b.args (row_of b.cmd).effect) (Some n))) ≡ Some d → (u || is_given before n) ≡ true
    go true rest p = refl
    go false rest p = rest p
written_given (Return thread ∷ before) n d is = written_given before n d is

-- a name that was given keeps its device behind an event that may come
pub written_after : (before : List TraceEvent) (e : TraceEvent) (n : Name) → may_come before e ≡ true → is_given before n ≡ true → written_device (e ∷ before) n ≡ written_device before n
written_after before (Begin b) n comes given = go (has_result b n) (new_none before b.results n (coming before b comes).new)
  where
    go : (u : Bool) → (u ≡ true → is_given before n ≡ false)
        → cond (u && makes_devices b.cmd) (Some n) (option_and_then (written_device before) (cond u (owner_written b.args (row_of b.cmd).effect) (Some n))) ≡ written_device before n
    go true none = let gone : is_given before n ≡ false = none refl in cc
    go false none = refl
written_after before (Return thread) n comes given = refl

-- what tells the devices of names tells the device of a call that is on one, where it agrees on its first argument
named_alike : (device_of other : Name → Option Name) (c : CommandId) (args : List Arg) → ((n d : Name) → other n ≡ Some d → device_of n ≡ Some d) → is_none (device_named other c args) ≡ false
    → device_named device_of c args ≡ device_named other c args
named_alike device_of other c args agree is = go (is_on_no_device (row_of c).params) (name_at args 0) is
  where
    at : (n : Name) (d : Option Name) → other n ≡ d → is_none d ≡ false → device_of n ≡ other n
    at n None e p = cc p
    at n (Some d) e p = agree n d e ∙ sym e

    go : (u : Bool) (o : Option Name) → is_none (cond u None (option_and_then other o)) ≡ false → cond u None (option_and_then device_of o) ≡ cond u None (option_and_then other o)
    go true o p = refl
    go false None p = refl
    go false (Some n) p = at n (other n) refl p

-- ---- the calls on a device, the newest first

-- the newest call is on the device
abbrev pub last_on : (Name → Option Name) → Name → List TraceEvent → Bool
last_on device_of device [] = false
last_on device_of device (Begin b ∷ before) = same_device (device_named device_of b.cmd b.args) (Some device)
last_on device_of device (Return thread ∷ before) = last_on device_of device before

abbrev pub kept_on : (Name → Option Name) → Name → List TraceEvent → List TraceEvent
kept_on device_of device [] = []
kept_on device_of device (Begin b ∷ before) = kept_if (same_device (device_named device_of b.cmd b.args) (Some device)) (Begin b) (kept_on device_of device before)
kept_on device_of device (Return thread ∷ before) = kept_if (last_on device_of device before) (Return thread) (kept_on device_of device before)

reverse_onto : (e : TraceEvent) (xs ys : List TraceEvent) → reverse (e ∷ xs) ++ ys ≡ reverse xs ++ e ∷ ys
reverse_onto e xs ys = ap (λ zs. zs ++ ys) (reverse-append (e ∷ []) xs) ∙ append_assoc (reverse xs) (e ∷ []) ys

kept_onto : (u : Bool) (e : TraceEvent) (xs ys : List TraceEvent) → reverse (kept_if u e xs) ++ ys ≡ reverse xs ++ kept_if u e ys
kept_onto true e xs ys = reverse_onto e xs ys
kept_onto false e xs ys = refl

calls_onto : (device_of : Name → Option Name) (device : Name) (events before : List TraceEvent)
    → reverse (calls_on device_of device (last_on device_of device before) events) ++ kept_on device_of device before ≡ kept_on device_of device (reverse events ++ before)
calls_onto device_of device [] before = refl
calls_onto device_of device (Begin b ∷ events) before =
    let here : Bool = same_device (device_named device_of b.cmd b.args) (Some device) in
    kept_onto here (Begin b) (calls_on device_of device here events) (kept_on device_of device before)
    ∙ (calls_onto device_of device events (Begin b ∷ before) ∙ ap (kept_on device_of device) (sym (reverse_onto (Begin b) events before)))
calls_onto device_of device (Return thread ∷ events) before =
    let on : Bool = last_on device_of device before in
    kept_onto on (Return thread) (calls_on device_of device on events) (kept_on device_of device before)
    ∙ (calls_onto device_of device events (Return thread ∷ before) ∙ ap (kept_on device_of device) (sym (reverse_onto (Return thread) events before)))

pub calls_kept : (device_of : Name → Option Name) (device : Name) (events : List TraceEvent) → reverse (calls_on device_of device false events) ≡ kept_on device_of device (reverse events)
calls_kept device_of device events =
    sym (append-nil (reverse (calls_on device_of device false events))) ∙ (calls_onto device_of device events [] ∙ ap (kept_on device_of device) (append-nil (reverse events)))

pub all_calls : (P : TraceEvent → Type 0) (device_of : Name → Option Name) (device : Name) (on : Bool) (events : List TraceEvent) → AllByRecursion P events → AllByRecursion P (calls_on device_of device on events)
all_calls P device_of device on [] all = tt
all_calls P device_of device on (Begin b ∷ events) all =
    put (same_device (device_named device_of b.cmd b.args) (Some device)) (calls_on device_of device (same_device (device_named device_of b.cmd b.args) (Some device)) events) (all_calls P device_of device (same_device (device_named device_of b.cmd b.args) (Some device)) events all.1)
  where
    put : (u : Bool) (es : List TraceEvent) → AllByRecursion P es → AllByRecursion P (kept_if u (Begin b) es)
    put true es rest = (all.0, rest)
    put false es rest = rest
all_calls P device_of device on (Return thread ∷ events) all = put on (calls_on device_of device on events) (all_calls P device_of device on events all.1)
  where
    put : (u : Bool) (es : List TraceEvent) → AllByRecursion P es → AllByRecursion P (kept_if u (Return thread) es)
    put true es rest = (all.0, rest)
    put false es rest = rest

-- ---- one event more of a stream

-- What was kept of a stream behind the setup: it may come, its thread's call is open where the newest call is on the device and is open in the file, it gives no name
-- that the file didn't, the names on the device that no other stream gave have their types, and no creation of an instance is open.
pub record Kept (device_of : Name → Option Name) (device : Name) (lines : List FileLine) (t : ℕ) (kept : List TraceEvent) (on : Bool) : Type 0 where
  pub each : may_all_come kept ≡ true
  pub opens : is_open t kept ≡ on && is_open t (events lines)
  pub given : (n : Name) → is_given kept n ≡ true → is_given (events lines) n ≡ true
  pub typed : (n : Name) (ty : ObjectType) → is_of_another_stream (stream_of_name lines) t n ≡ false → same_device (device_of n) (Some device) ≡ true → type_given n (events lines) ≡ Some ty → type_given n kept ≡ Some ty
  pub calm : (e : TraceEvent) → breaks_in kept e ≡ false

-- a begin that no line's rule refuses in a stream, and what tells the devices of names as they are written behind it
pub record BeginsIn (device_of : Name → Option Name) (lines : List FileLine) (t : ℕ) (b : BeginEvent) : Type 0 where
  pub at : b.thread ≡ t
  pub comes : may_come (events lines) (Begin b) ≡ true
  pub on_one : is_none (device_named (written_device (events lines)) b.cmd b.args) ≡ false
  pub own : any_name (is_of_another_stream (stream_of_name lines) t) b.args ≡ false
  pub devices : any_name (is_of_another_device (written_device (events lines)) (device_named (written_device (events lines)) b.cmd b.args)) b.args ≡ false
  pub agrees : (n : Name) → is_given (Begin b ∷ events lines) n ≡ true → device_of n ≡ written_device (Begin b ∷ events lines) n

module _ (device_of : Name → Option Name) (device : Name) (lines : List FileLine) (t : ℕ) (kept : List TraceEvent) (on : Bool) (b : BeginEvent) (k : Kept device_of device lines t kept on)
    (begins : BeginsIn device_of lines t b) where
  agrees_before : (n : Name) → is_given (events lines) n ≡ true → device_of n ≡ written_device (events lines) n
  agrees_before n given = begins.agrees n (given_more (events lines) (Begin b) n given) ∙ written_after (events lines) (Begin b) n begins.comes given

  named : device_named device_of b.cmd b.args ≡ device_named (written_device (events lines)) b.cmd b.args
  named = named_alike device_of (written_device (events lines)) b.cmd b.args (λ n d is. agrees_before n (written_given (events lines) n d is) ∙ is) begins.on_one

  makes_no_instance : begins_instance (Begin b) ≡ false
  makes_no_instance = no_instance b (on_a_device (written_device (events lines)) b.cmd b.args begins.on_one)

  -- a name that a call on the device takes has its type among what was kept
  name_kept : same_device (device_named device_of b.cmd b.args) (Some device) ≡ true → (n : Name) → is_of_another_stream (stream_of_name lines) t n ≡ false
      → is_of_another_device (written_device (events lines)) (device_named (written_device (events lines)) b.cmd b.args) n ≡ false → (ty : ObjectType) → type_given n (events lines) ≡ Some ty → type_given n kept ≡ Some ty
  name_kept here n stream other ty is =
      let beside : same_device (written_device (events lines) n) (device_named (written_device (events lines)) b.cmd b.args) ≡ true =
      not-false (same_device (written_device (events lines) n) (device_named (written_device (events lines)) b.cmd b.args)) other in
      let call : same_device (device_named (written_device (events lines)) b.cmd b.args) (Some device) ≡ true = sym (ap (λ d. same_device d (Some device)) named) ∙ here in
      let there : same_device (written_device (events lines) n) (Some device) ≡ true = same_left (written_device (events lines) n) (device_named (written_device (events lines)) b.cmd b.args) (Some device) beside call in
      k.typed n ty stream (ap (λ d. same_device d (Some device)) (agrees_before n (typed_given (events lines) n ty is)) ∙ there) is

  -- each argument's
  args_kept : same_device (device_named device_of b.cmd b.args) (Some device) ≡ true
      → AllByRecursion (λ (x : ObjectType × Name). (ty : ObjectType) → type_given x.1 (events lines) ≡ Some ty → type_given x.1 kept ≡ Some ty) (names_used (row_of b.cmd).params b.args)
  args_kept here =
      all_both (λ (x : ObjectType × Name). is_of_another_stream (stream_of_name lines) t x.1 ≡ false)
      (λ (x : ObjectType × Name). is_of_another_device (written_device (events lines)) (device_named (written_device (events lines)) b.cmd b.args) x.1 ≡ false)
      (λ (x : ObjectType × Name). (ty : ObjectType) → type_given x.1 (events lines) ≡ Some ty → type_given x.1 kept ≡ Some ty) (λ x p q. name_kept here x.1 p q) (names_used (row_of b.cmd).params b.args)
      (used_fail (is_of_another_stream (stream_of_name lines) t) (row_of b.cmd).params b.args begins.own)
      (used_fail (is_of_another_device (written_device (events lines)) (device_named (written_device (events lines)) b.cmd b.args)) (row_of b.cmd).params b.args begins.devices)

  idle_kept : is_open t kept ≡ false
  idle_kept = k.opens ∙ and_right on (is_open t (events lines)) (sym (ap (λ x. is_open x (events lines)) begins.at) ∙ (coming (events lines) b begins.comes).idle)

  come_kept : same_device (device_named device_of b.cmd b.args) (Some device) ≡ true → may_come kept (Begin b) ≡ true
  come_kept here =
      let c = coming (events lines) b begins.comes in
      begin_comes kept b (record {
        idle = ap (λ x. is_open x kept) begins.at ∙ idle_kept;
        known = pass_each (is_known (events lines)) (is_known kept) (names_used (row_of b.cmd).params b.args)
            (each_known (λ x. is_known (events lines) x ≡ true → is_known kept x ≡ true) (λ x same. known_same (events lines) kept x same) here) c.known;
        typed = pass_each (is_of_type (events lines)) (is_of_type kept) (names_used (row_of b.cmd).params b.args)
            (each_known (λ x. is_of_type (events lines) x ≡ true → is_of_type kept x ≡ true) (λ x same. of_type_same (events lines) kept x same) here) c.typed;
        new = fewer_new (events lines) kept b.results (all_of (λ n. is_given kept n ≡ true → is_given (events lines) n ≡ true) k.given b.results) c.new;
        whole = unbroken kept (Begin b) makes_no_instance (k.calm (Begin b));
      })
    where
      each_known : (P : ObjectType × Name → Type 0) → ((x : ObjectType × Name) → ((ty : ObjectType) → type_given x.1 (events lines) ≡ Some ty → type_given x.1 kept ≡ Some ty) → P x)
          → same_device (device_named device_of b.cmd b.args) (Some device) ≡ true → AllByRecursion P (names_used (row_of b.cmd).params b.args)
      each_known P f on_device =
          all_both (λ (x : ObjectType × Name). (ty : ObjectType) → type_given x.1 (events lines) ≡ Some ty → type_given x.1 kept ≡ Some ty)
          (λ (x : ObjectType × Name). (ty : ObjectType) → type_given x.1 (events lines) ≡ Some ty → type_given x.1 kept ≡ Some ty) P (λ x p q. f x p) (names_used (row_of b.cmd).params b.args) (args_kept on_device) (args_kept on_device)

  -- a call on the device is kept
  pub begun_here : same_device (device_named device_of b.cmd b.args) (Some device) ≡ true → Kept device_of device (EventLine (Begin b) ∷ lines) t (Begin b ∷ kept) true
  begun_here here = record {
    each = and_from (may_all_come kept) (may_come kept (Begin b)) k.each (come_kept here);
    opens = ap (λ u. u || is_open t kept) own ∙ sym (ap (λ u. u || is_open t (events lines)) own);
    given = λ n is. given (has_result b n) n is;
    typed = λ n ty stream there is. typed (has_result b n) n ty stream there is;
    calm = λ e. ap (λ u. u && is_no_return_of (Begin b) e) makes_no_instance;
  }
    where
      own : (b.thread == t) ≡ true
      own = eq-eqb b.thread t begins.at

      given : (u : Bool) (n : Name) → (u || is_given kept n) ≡ true → (u || is_given (events lines) n) ≡ true
      given true n p = refl
      given false n p = k.given n p

      typed : (u : Bool) (n : Name) (ty : ObjectType) → option_map_or (λ x. not (x == t)) (cond u (stream lines) (stream_of_name lines n)) false ≡ false → same_device (device_of n) (Some device) ≡ true
          → cond u (type_made (row_of b.cmd).effect) (type_given n (events lines)) ≡ Some ty → cond u (type_made (row_of b.cmd).effect) (type_given n kept) ≡ Some ty
      typed true n ty other there p = p
      typed false n ty other there p = k.typed n ty other there p

  -- what a call makes is on the call's device
  made_there : (n : Name) → has_result b n ≡ true → same_device (device_of n) (Some device) ≡ true → same_device (device_named device_of b.cmd b.args) (Some device) ≡ true
  made_there n made there =
      let written : device_of n ≡ written_device (Begin b ∷ events lines) n = begins.agrees n (given_now (events lines) (Begin b) n made) in
      let none : makes_devices b.cmd ≡ false = makes_none b.cmd (on_a_device (written_device (events lines)) b.cmd b.args begins.on_one) in
      let owned : written_device (Begin b ∷ events lines) n ≡ option_and_then (written_device (events lines)) (owner_written b.args (row_of b.cmd).effect) =
      ap (λ u. cond (u && makes_devices b.cmd) (Some n) (option_and_then (written_device (events lines)) (cond u (owner_written b.args (row_of b.cmd).effect) (Some n)))) made
      ∙ ap (λ u. cond u (Some n) (option_and_then (written_device (events lines)) (owner_written b.args (row_of b.cmd).effect))) none in
      by_owner (owner_written b.args (row_of b.cmd).effect) refl (sym (ap (λ d. same_device d (Some device)) (written ∙ owned)) ∙ there)
    where
      by_owner : (o : Option Name) → owner_written b.args (row_of b.cmd).effect ≡ o → same_device (option_and_then (written_device (events lines)) o) (Some device) ≡ true → same_device (device_named device_of b.cmd b.args) (Some device) ≡ true
      by_owner None e p = cc p
      by_owner (Some o) e p =
          let beside : same_device (written_device (events lines) o) (device_named (written_device (events lines)) b.cmd b.args) ≡ true =
          not-false (same_device (written_device (events lines) o) (device_named (written_device (events lines)) b.cmd b.args))
          (owner_fails (is_of_another_device (written_device (events lines)) (device_named (written_device (events lines)) b.cmd b.args)) b.args (row_of b.cmd).effect o begins.devices e) in
          ap (λ d. same_device d (Some device)) named ∙ same_right (written_device (events lines) o) (device_named (written_device (events lines)) b.cmd b.args) (Some device) beside p

  -- a call on another device is left out
  pub begun_elsewhere : same_device (device_named device_of b.cmd b.args) (Some device) ≡ false → Kept device_of device (EventLine (Begin b) ∷ lines) t kept false
  begun_elsewhere elsewhere = record {
    each = k.each;
    opens = idle_kept;
    given = λ n is. given_more (events lines) (Begin b) n (k.given n is);
    typed = λ n ty stream there is. typed (has_result b n) n ty refl stream there is;
    calm = k.calm;
  }
    where
      typed : (u : Bool) (n : Name) (ty : ObjectType) → has_result b n ≡ u → option_map_or (λ x. not (x == t)) (cond u (stream lines) (stream_of_name lines n)) false ≡ false
          → same_device (device_of n) (Some device) ≡ true → cond u (type_made (row_of b.cmd).effect) (type_given n (events lines)) ≡ Some ty → type_given n kept ≡ Some ty
      typed true n ty e other there p = let here : same_device (device_named device_of b.cmd b.args) (Some device) ≡ true = made_there n e there in cc
      typed false n ty e other there p = k.typed n ty other there p

-- a begin more
pub begun : (device_of : Name → Option Name) (device : Name) (lines : List FileLine) (t : ℕ) (setup before : List TraceEvent) (b : BeginEvent)
    → Kept device_of device lines t (kept_on device_of device before ++ setup) (last_on device_of device before) → BeginsIn device_of lines t b
    → Kept device_of device (EventLine (Begin b) ∷ lines) t (kept_on device_of device (Begin b ∷ before) ++ setup) (last_on device_of device (Begin b ∷ before))
begun device_of device lines t setup before b k begins = go (same_device (device_named device_of b.cmd b.args) (Some device)) refl
  where
    go : (u : Bool) → same_device (device_named device_of b.cmd b.args) (Some device) ≡ u → Kept device_of device (EventLine (Begin b) ∷ lines) t (kept_if u (Begin b) (kept_on device_of device before) ++ setup) u
    go true e = begun_here device_of device lines t (kept_on device_of device before ++ setup) (last_on device_of device before) b k begins e
    go false e = begun_elsewhere device_of device lines t (kept_on device_of device before ++ setup) (last_on device_of device before) b k begins e

-- a return more: it is kept where its begin is
returned_here : (device_of : Name → Option Name) (device : Name) (lines : List FileLine) (t : ℕ) (kept : List TraceEvent) → Kept device_of device lines t kept true → may_come (events lines) (Return t) ≡ true
    → Kept device_of device (EventLine (Return t) ∷ lines) t (Return t ∷ kept) true
returned_here device_of device lines t kept k comes = record {
  each = and_from (may_all_come kept) (may_come kept (Return t)) k.each (return_comes kept t (k.opens ∙ open_at_return (events lines) t comes) (unbroken kept (Return t) refl (k.calm (Return t))));
  opens = open_both kept (events lines) (Return t) t k.opens;
  given = k.given;
  typed = k.typed;
  calm = λ e. refl;
}

returned_elsewhere : (device_of : Name → Option Name) (device : Name) (lines : List FileLine) (t : ℕ) (kept : List TraceEvent) → Kept device_of device lines t kept false
    → Kept device_of device (EventLine (Return t) ∷ lines) t kept false
returned_elsewhere device_of device lines t kept k = record { each = k.each; opens = k.opens; given = k.given; typed = k.typed; calm = k.calm }

pub returned : (device_of : Name → Option Name) (device : Name) (lines : List FileLine) (t : ℕ) (setup before : List TraceEvent)
    → Kept device_of device lines t (kept_on device_of device before ++ setup) (last_on device_of device before) → may_come (events lines) (Return t) ≡ true
    → Kept device_of device (EventLine (Return t) ∷ lines) t (kept_on device_of device (Return t ∷ before) ++ setup) (last_on device_of device (Return t ∷ before))
returned device_of device lines t setup before k comes = go (last_on device_of device before) k
  where
    go : (u : Bool) → Kept device_of device lines t (kept_on device_of device before ++ setup) u → Kept device_of device (EventLine (Return t) ∷ lines) t (kept_if u (Return t) (kept_on device_of device before) ++ setup) u
    go true l = returned_here device_of device lines t (kept_on device_of device before ++ setup) l comes
    go false l = returned_elsewhere device_of device lines t (kept_on device_of device before ++ setup) l
