-- What the rules of a stream file's line leave of a begin: where its names are, and where the names that it gives are.
use Rattle.std.proofs.Common.{◌≡◌, ◌∙◌, ◌==◌, ℕ, zero, suc, Bool, true, false, not, cond, ◌&&◌, ◌||◌, Option, Some, None, List, [], ◌∷◌, ◌++◌, map, refl, sym, ap, subst, rules}
use Rattle.std.specs.Prelude.{filter_map, option_and_then, slice_get}
use Rattle.std.specs.List.{list_all, list_any}
use Rattle.std.specs.Option.{option_map_or}
use Rattle.std.proofs.lemmas.Bool.{eqb-true, not-true}
use Rattle.command_tables.specs.declared.types.CommandId.{CommandId}
use Rattle.command_tables.specs.declared.types.CommandId.TheVariants as cmd
use Rattle.command_tables.specs.declared.types.Effect.{Effect}
use Rattle.command_tables.specs.declared.types.Effect.TheVariants as eff
use Rattle.command_tables.specs.declared.types.ObjectType.{ObjectType}
use Rattle.command_tables.specs.declared.types.ObjectType.TheVariants as ty
use Rattle.command_tables.specs.declared.types.OwnerOf.{OwnerOf}
use Rattle.command_tables.specs.declared.types.OwnerOf.TheVariants as of
use Rattle.command_tables.specs.Effects.{type_made}
use Rattle.command_tables.specs.Table.{ParamSpec, row_of}
use Rattle.command_tables.specs.Tests.{same_command, same_type}
use Rattle.trace_format.specs.declared.event.Name.{Name}
use Rattle.trace_format.specs.Accepting.{is_of_type, names_used, type_given}
use Rattle.trace_format.specs.Content.{Arg, TraceEvent, Begin, Return}
use Rattle.trace_format.specs.Grammar.{FitParams}
use Rattle.chain_model.specs.Gaps.{may_all_come, may_come}
use Rattle.stream_model.specs.Devices.{has_result, makes_devices, name_at, owner_among, owner_written, written_device}
use Rattle.stream_model.specs.Order.{any_name, is_on_no_device}
use Rattle.stream_model.proofs.Comings.{coming, neither}
use Rattle.layer_model.proofs.Same.{type_is}
use Rattle.device_facts.proofs.Beside.{NamesAre, Places}
use Rattle.device_facts.proofs.Making.{is_plain}

-- ---- the table

-- objects of these types are of no device
abbrev pub is_global : ObjectType → Bool
is_global t = same_type t ty.Instance || same_type t ty.PhysicalDevice

abbrev pub first_is : ObjectType → List ParamSpec → Bool
first_is t [] = false
first_is t (p ∷ ps) = same_type p.ty t

-- A device alone gets the owner of another object, of a physical device that comes first. What is of no device has none or an instance as its owner.
abbrev pub owner_fits : ObjectType → OwnerOf → List ParamSpec → Bool
owner_fits t of.Nobody ps = not (same_type t ty.Device)
owner_fits t (of.Param p) ps = not (same_type t ty.Device) && (not (is_global t) || (p == 0 && first_is ty.Instance ps))
owner_fits t (of.OwnerOfParam p) ps = not (is_global t) && (p == 0 && first_is ty.PhysicalDevice ps)

abbrev pub gives_owner : Effect → Bool
gives_owner (eff.Retrieve t (of.OwnerOfParam p) many) = true
gives_owner _ = false

abbrev pub effect_fits : Effect → List ParamSpec → Bool
effect_fits (eff.Create t owner many) ps = owner_fits t owner ps
effect_fits (eff.Retrieve t owner many) ps = owner_fits t owner ps
effect_fits _ ps = true

pub fits : (c : CommandId) → (effect_fits (row_of c).effect (row_of c).params && not (gives_owner (row_of c).effect)) ≡ true
unfolding row_of same_type
fits c = search rules

pub ends_none : (c : CommandId) → (not (same_command c cmd.DestroyInstance) || is_on_no_device (row_of c).params) ≡ true
unfolding row_of same_type same_command
ends_none c = search rules

pub both_true : (a b : Bool) → (a && b) ≡ true → (a ≡ true) × (b ≡ true)
both_true true b e = (refl, e)
both_true false b e = cc e

-- on a device, nothing is made that gets the owner of another object
no_owner_there : (t : ObjectType) (p : ℕ) (ps : List ParamSpec) → owner_fits t (of.OwnerOfParam p) ps ≡ true → is_on_no_device ps ≡ false → ⊥
no_owner_there t p ps fit on = physical ps (both_true (p == 0) (first_is ty.PhysicalDevice ps) (both_true (not (is_global t)) (p == 0 && first_is ty.PhysicalDevice ps) fit).1).1 on
  where
    right : (u : Bool) → (u || true) ≡ false → ⊥
    right true e = cc e
    right false e = cc e

    physical : (qs : List ParamSpec) → first_is ty.PhysicalDevice qs ≡ true → is_on_no_device qs ≡ false → ⊥
    physical [] f o = cc f
    physical (q ∷ qs) f o = right (same_type q.ty ty.Instance) (ap (λ u. same_type q.ty ty.Instance || u) (sym f) ∙ o)

pub plain_there : (e : Effect) (ps : List ParamSpec) → effect_fits e ps ≡ true → is_on_no_device ps ≡ false → is_plain e ≡ true
plain_there (eff.Create t of.Nobody many) ps fit on = refl
plain_there (eff.Create t (of.Param p) many) ps fit on = refl
plain_there (eff.Create t (of.OwnerOfParam p) many) ps fit on = absurd (no_owner_there t p ps fit on)
plain_there (eff.Retrieve t of.Nobody many) ps fit on = refl
plain_there (eff.Retrieve t (of.Param p) many) ps fit on = refl
plain_there (eff.Retrieve t (of.OwnerOfParam p) many) ps fit on = absurd (no_owner_there t p ps fit on)
plain_there eff.None ps fit on = refl
plain_there (eff.Destroy p) ps fit on = refl
plain_there (eff.Free p) ps fit on = refl
plain_there (eff.Reset p) ps fit on = refl

-- ---- the names of arguments

pub names_not : (test : Name → Bool) (args : List Arg) → any_name test args ≡ false → NamesAre (λ n. test n ≡ false) args
names_not test [] none = tt
names_not test (a ∷ args) none = let each = neither (list_any (λ place. option_map_or test place false) a.names) (any_name test args) none in (places a.names each.0, names_not test args each.1)
  where
    places : (ns : List (Option Name)) → list_any (λ place. option_map_or test place false) ns ≡ false → Places (λ n. test n ≡ false) ns
    places [] p = tt
    places (None ∷ ns) p = places ns p
    places (Some n ∷ ns) p = let both = neither (test n) (list_any (λ place. option_map_or test place false) ns) p in (both.0, places ns both.1)

all_left : (p : ObjectType × Name → Bool) (xs ys : List (ObjectType × Name)) → list_all p (xs ++ ys) ≡ true → (list_all p xs ≡ true) × (list_all p ys ≡ true)
all_left p [] ys is = (refl, is)
all_left p (x ∷ xs) ys is = let a = both_true (p x) (list_all p (xs ++ ys)) is in let b = all_left p xs ys a.1 in (ap (λ u. u && list_all p xs) a.0 ∙ b.0, b.1)

-- each name with the type that its parameter asks for passes a test
abbrev pub Asked : (ObjectType × Name → Bool) → Name → Type 0
Asked test n = (t : ObjectType) × (test (t, n) ≡ true)

pub names_used_all : (test : ObjectType × Name → Bool) (ps : List ParamSpec) (args : List Arg) → FitParams ps args → list_all test (names_used ps args) ≡ true → NamesAre (Asked test) args
names_used_all test [] [] fit is = tt
names_used_all test [] (a ∷ args) fit is = absurd fit
names_used_all test (p ∷ ps) [] fit is = tt
names_used_all test (p ∷ ps) (a ∷ args) fit is =
    let each = all_left test (map (λ n. (p.ty, n)) (filter_map (λ n. n) a.names)) (names_used ps args) is in
    (places a.names each.0, names_used_all test ps args fit.1 each.1)
  where
    places : (ns : List (Option Name)) → list_all test (map (λ n. (p.ty, n)) (filter_map (λ n. n) ns)) ≡ true → Places (Asked test) ns
    places [] e = tt
    places (None ∷ ns) e = places ns e
    places (Some n ∷ ns) e = let both = both_true (test (p.ty, n)) (list_all test (map (λ n. (p.ty, n)) (filter_map (λ n. n) ns))) e in ((p.ty, both.0), places ns both.1)

pub names_both : (P Q R : Name → Type 0) → ((n : Name) → P n → Q n → R n) → (args : List Arg) → NamesAre P args → NamesAre Q args → NamesAre R args
names_both P Q R f [] ps qs = tt
names_both P Q R f (a ∷ args) ps qs = (places a.names ps.0 qs.0, names_both P Q R f args ps.1 qs.1)
  where
    places : (ns : List (Option Name)) → Places P ns → Places Q ns → Places R ns
    places [] us vs = tt
    places (None ∷ ns) us vs = places ns us vs
    places (Some n ∷ ns) us vs = (f n us.0 vs.0, places ns us.1 vs.1)

pub name_in : (P : Name → Type 0) (args : List Arg) (p : ℕ) (m : Name) → NamesAre P args → name_at args p ≡ Some m → P m
name_in P [] p m all is = cc is
name_in P (a ∷ args) zero m all is = first a.names all.0 is
  where
    first : (ns : List (Option Name)) → Places P ns → option_and_then (λ place. place) (slice_get ns 0) ≡ Some m → P m
    first [] us e = cc e
    first (None ∷ ns) us e = cc e
    first (Some n ∷ ns) us e = let one : n ≡ m = cc in subst P one us.0
name_in P (a ∷ args) (suc p) m all is = name_in P args p m all.1 is

-- the first argument has its parameter's type
first_used : (test : ObjectType × Name → Bool) (q : ParamSpec) (ps : List ParamSpec) (args : List Arg) (m : Name) → list_all test (names_used (q ∷ ps) args) ≡ true → name_at args 0 ≡ Some m → test (q.ty, m) ≡ true
first_used test q ps [] m all is = cc is
first_used test q ps (a ∷ args) m all is = go a.names (all_left test (map (λ n. (q.ty, n)) (filter_map (λ n. n) a.names)) (names_used ps args) all).0 is
  where
    go : (ns : List (Option Name)) → list_all test (map (λ n. (q.ty, n)) (filter_map (λ n. n) ns)) ≡ true → option_and_then (λ place. place) (slice_get ns 0) ≡ Some m → test (q.ty, m) ≡ true
    go [] e k = cc k
    go (None ∷ ns) e k = cc k
    go (Some n ∷ ns) e k = let one : n ≡ m = cc in subst (λ x. test (q.ty, x) ≡ true) one (both_true (test (q.ty, n)) (list_all test (map (λ n. (q.ty, n)) (filter_map (λ n. n) ns))) e).0

pub typed_first : (before : List TraceEvent) (t : ObjectType) (ps : List ParamSpec) (args : List Arg) (m : Name) → first_is t ps ≡ true → list_all (is_of_type before) (names_used ps args) ≡ true → name_at args 0 ≡ Some m → type_given m before ≡ Some t
typed_first before t [] args m first all is = cc first
typed_first before t (q ∷ ps) args m first all is = go (type_given m before) (first_used (is_of_type before) q ps args m all is)
  where
    go : (g : Option ObjectType) → option_map_or (λ k. same_type k q.ty) g false ≡ true → g ≡ Some t
    go None e = cc e
    go (Some k) e = ap Some (type_is k q.ty e ∙ type_is q.ty t first)

-- ---- names that are of no device

pub physical_global : is_global ty.PhysicalDevice ≡ true
unfolding same_type
physical_global = refl

pub instance_global : is_global ty.Instance ≡ true
unfolding same_type
instance_global = refl

owner_nowhere : (before : List TraceEvent) (args : List Arg) (ps : List ParamSpec) (t : ObjectType) (owner : OwnerOf) (n : Name) → ((m : Name) (k : ObjectType) → is_global k ≡ true → type_given m before ≡ Some k → written_device before m ≡ None)
    → list_all (is_of_type before) (names_used ps args) ≡ true → is_global t ≡ true → owner_fits t owner ps ≡ true → cond (same_type t ty.Device) (Some n) (option_and_then (written_device before) (owner_among args owner)) ≡ None
owner_nowhere before args ps t of.Nobody n rest typed global fit = ap (λ u. cond u (Some n) None) (not-true (same_type t ty.Device) fit)
owner_nowhere before args ps t (of.Param p) n rest typed global fit =
    let parts = both_true (not (same_type t ty.Device)) (not (is_global t) || (p == 0 && first_is ty.Instance ps)) fit in
    let placed : (p == 0 && first_is ty.Instance ps) ≡ true = ap (λ u. u || (p == 0 && first_is ty.Instance ps)) (sym (ap not global)) ∙ parts.1 in
    let where_first = both_true (p == 0) (first_is ty.Instance ps) placed in
    ap (λ u. cond u (Some n) (option_and_then (written_device before) (name_at args p))) (not-true (same_type t ty.Device) parts.0)
    ∙ (ap (λ k. option_and_then (written_device before) (name_at args k)) (eqb-true p 0 where_first.0) ∙ go (name_at args 0) refl where_first.1)
  where
    go : (o : Option Name) → name_at args 0 ≡ o → first_is ty.Instance ps ≡ true → option_and_then (written_device before) o ≡ None
    go None e first = refl
    go (Some m) e first = rest m ty.Instance instance_global (typed_first before ty.Instance ps args m first typed e)
owner_nowhere before args ps t (of.OwnerOfParam p) n rest typed global fit =
    let bad : not (is_global t) ≡ true = (both_true (not (is_global t)) (p == 0 && first_is ty.PhysicalDevice ps) fit).0 in
    let good : not (is_global t) ≡ false = ap not global in cc

effect_nowhere : (before : List TraceEvent) (args : List Arg) (ps : List ParamSpec) (e : Effect) (n : Name) (t : ObjectType) → ((m : Name) (k : ObjectType) → is_global k ≡ true → type_given m before ≡ Some k → written_device before m ≡ None)
    → list_all (is_of_type before) (names_used ps args) ≡ true → is_global t ≡ true → effect_fits e ps ≡ true → type_made e ≡ Some t
    → cond (option_map_or (λ k. same_type k ty.Device) (type_made e) false) (Some n) (option_and_then (written_device before) (owner_written args e)) ≡ None
effect_nowhere before args ps (eff.Create k owner many) n t rest typed global fit is =
    let one : k ≡ t = cc in owner_nowhere before args ps k owner n rest typed (ap is_global one ∙ global) fit
effect_nowhere before args ps (eff.Retrieve k owner many) n t rest typed global fit is =
    let one : k ≡ t = cc in owner_nowhere before args ps k owner n rest typed (ap is_global one ∙ global) fit
effect_nowhere before args ps eff.None n t rest typed global fit is = cc is
effect_nowhere before args ps (eff.Destroy p) n t rest typed global fit is = cc is
effect_nowhere before args ps (eff.Free p) n t rest typed global fit is = cc is
effect_nowhere before args ps (eff.Reset p) n t rest typed global fit is = cc is

pub global_nowhere : (before : List TraceEvent) → may_all_come before ≡ true → (n : Name) (t : ObjectType) → is_global t ≡ true → type_given n before ≡ Some t → written_device before n ≡ None
global_nowhere [] each n t global is = cc is
global_nowhere (Begin b ∷ before) each n t global is =
    let come = both_true (may_all_come before) (may_come before (Begin b)) each in
    go (has_result b n) (global_nowhere before come.0) (coming before b come.1).typed is
  where
    go : (u : Bool) → ((m : Name) (k : ObjectType) → is_global k ≡ true → type_given m before ≡ Some k → written_device before m ≡ None) → list_all (is_of_type before) (names_used (row_of b.cmd).params b.args) ≡ true
        → cond u (type_made (row_of b.cmd).effect) (type_given n before) ≡ Some t
        → cond (u && makes_devices b.cmd) (Some n) (option_and_then (written_device before) (cond u (owner_written b.args (row_of b.cmd).effect) (Some n))) ≡ None
    go true rest typed e =
        effect_nowhere before b.args (row_of b.cmd).params (row_of b.cmd).effect n t rest typed global (both_true (effect_fits (row_of b.cmd).effect (row_of b.cmd).params) (not (gives_owner (row_of b.cmd).effect)) (fits b.cmd)).0 e
    go false rest typed e = rest n t global e
global_nowhere (Return thread ∷ before) each n t global is = global_nowhere before (both_true (may_all_come before) (may_come before (Return thread)) each).0 n t global is
