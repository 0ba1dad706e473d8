-- What becomes of replies, by what the command makes.
use Rattle.std.proofs.Common.{◌≡◌, ◌==◌, ◌&&◌, ◌+◌, ℕ, Bool, true, false, not, cond, Option, Some, None, List, [], ◌∷◌, ◌++◌, map, refl, ap, sym, subst, ◌∙◌}
use denote.Enum.Bare.{same_true}
use Rattle.command_tables.specs.declared.types.CommandId.{CommandId}
use Rattle.command_tables.specs.declared.types.CommandId.TheVariants as cmd
use Rattle.command_tables.specs.declared.types.Effect.{Effect}
use Rattle.command_tables.specs.declared.types.Effect.TheVariants as eff
use Rattle.command_tables.specs.declared.types.ObjectType.{ObjectType}
use Rattle.command_tables.specs.declared.types.ObjectType.TheVariants as ty
use Rattle.command_tables.specs.contracts.types.CommandId as command
use Rattle.command_tables.specs.Calls.{CallContent}
use Rattle.command_tables.specs.Effects.{type_made}
use Rattle.command_tables.specs.Facts.{is_dispatchable}
use Rattle.command_tables.specs.Table.{row_of}
use Rattle.command_tables.specs.Tests.{same_command, same_type}
use Rattle.object_model.specs.declared.Argument.{Argument}
use Rattle.object_model.specs.declared.Routed.{Routed}
use Rattle.object_model.specs.Routes.{driver_behind, is_routed}
use Rattle.object_model.specs.Values.{Answered, Value}
use Rattle.layer_model.specs.Ids.{IdMap, IssuedAll, Key, at_key, is_bare, is_wrapped, issue_all}
use Rattle.layer_model.specs.Parts.{key_read}
use Rattle.layer_model.specs.Reading.{read_call}
use Rattle.layer_model.specs.Routes.{add_route, has_route, route_all, routes_then}
use Rattle.layer_model.specs.Terminator.{plain_handle, terminator_leave, terminator_results, values_from}
use Rattle.command_tables.specs.Calls.{ReplyContent}
use Rattle.terminator.specs.Calls.{TerminatorState, answered, born_where, drivers_for, left_by, routes_left}
use Rattle.terminator.specs.Shown.{IsKeyOf, IsPlain}

-- ---- types

bare_not_wrapped : (t : ObjectType) → is_bare t ≡ true → is_wrapped t ≡ false
bare_not_wrapped t bare = go (is_wrapped t) bare
  where
    go : (u : Bool) → not u ≡ true → u ≡ false
    go true is = cc is
    go false is = refl

other_wrapped : (t : ObjectType) → is_bare t ≡ false → is_wrapped t ≡ true
other_wrapped t bare = go (is_wrapped t) bare
  where
    go : (u : Bool) → not u ≡ false → u ≡ true
    go true is = refl
    go false is = cc is

wrapped_not_routed : (t : ObjectType) → is_wrapped t ≡ true → is_routed t ≡ false
wrapped_not_routed t wrapped = go (is_dispatchable t) (same_type t ty.Surface) (same_type t ty.Instance) wrapped
  where
    go : (u v w : Bool) → (not u && not v) ≡ true → (u && not w) ≡ false
    go true v w is = cc is
    go false v w is = refl

-- a key is of the type that the command makes
pub key_type : (c : CommandId) (payload : List ℕ) (args : List (List Argument)) (e : Effect) (t : ObjectType) → type_made e ≡ Some t → IsKeyOf t (key_read c payload args e)
key_type c payload args eff.None t made = tt
key_type c payload args (eff.Create u owner many) t made = tt
key_type c payload args (eff.Retrieve u owner many) t made = cc made
key_type c payload args (eff.Destroy p) t made = tt
key_type c payload args (eff.Free p) t made = tt
key_type c payload args (eff.Reset p) t made = tt

-- ---- a type for which ids are issued

pub left_bare : (m : IdMap (List Value)) (c : CallContent) (ans : List Answered) (born : List Bool) (t : ObjectType) → type_made (row_of c.cmd).effect ≡ Some t → is_bare t ≡ true
    → terminator_leave m c ans born ≡ issue_all m (key_read c.cmd c.payload (read_call c) (row_of c.cmd).effect) t 0 (values_from c.cmd ans 0 born)
left_bare m c ans born t made bare =
    ap (λ (o : Option ObjectType). terminator_results m (key_read c.cmd c.payload (read_call c) (row_of c.cmd).effect) o (values_from c.cmd ans 0 born)) made
    ∙ ap (λ (u : Bool). cond u (record { results = map plain_handle (values_from c.cmd ans 0 born); ids = m }) (issue_all m (key_read c.cmd c.payload (read_call c) (row_of c.cmd).effect) t 0 (values_from c.cmd ans 0 born))) (bare_not_wrapped t bare)

pub routes_bare : (routes : List Routed) (c : CommandId) (ds : List ℕ) (t : ObjectType) (hs : List ℕ) → type_made (row_of c).effect ≡ Some t → routes_then routes c ds (type_made (row_of c).effect) hs ≡ route_all routes c ds t 0 hs
routes_bare routes c ds t hs made = ap (λ (o : Option ObjectType). routes_then routes c ds o hs) made

-- ---- any other

pub left_plain : (m : IdMap (List Value)) (c : CallContent) (ans : List Answered) (born : List Bool) → IsPlain (type_made (row_of c.cmd).effect) → terminator_leave m c ans born ≡ record { results = map plain_handle (values_from c.cmd ans 0 born); ids = m }
left_plain m c ans born plain = go (type_made (row_of c.cmd).effect) plain.wrapped
  where
    go : (o : Option ObjectType) → ((t : ObjectType) → o ≡ Some t → is_bare t ≡ false) → terminator_results m (key_read c.cmd c.payload (read_call c) (row_of c.cmd).effect) o (values_from c.cmd ans 0 born) ≡ record { results = map plain_handle (values_from c.cmd ans 0 born); ids = m }
    go None other = refl
    go (Some t) other = ap (λ (u : Bool). cond u (record { results = map plain_handle (values_from c.cmd ans 0 born); ids = m }) (issue_all m (key_read c.cmd c.payload (read_call c) (row_of c.cmd).effect) t 0 (values_from c.cmd ans 0 born))) (other_wrapped t (other t refl))

no_routes : (routes : List Routed) (c : CommandId) (ds : List ℕ) (t : ObjectType) (k : ℕ) (hs : List ℕ) → is_routed t ≡ false → route_all routes c ds t k hs ≡ routes
no_routes routes c ds t k [] none = refl
no_routes routes c ds t k (h ∷ hs) none = ap (λ (rs : List Routed). route_all rs c ds t (k + 1) hs) (same (h == 0)) ∙ no_routes routes c ds t (k + 1) hs none
  where
    same : (u : Bool) → cond u routes (add_route routes (record { ty = t; number = h }) (driver_behind c ds k)) ≡ routes
    same true = refl
    same false = ap (λ (v : Bool). cond (v && not (has_route routes (record { ty = t; number = h }))) (routes ++ (let r : Routed = record { object = record { ty = t; number = h }; driver = driver_behind c ds k } in r) ∷ []) routes) none

pub routes_plain : (routes : List Routed) (c : CommandId) (ds hs : List ℕ) → IsPlain (type_made (row_of c).effect) → routes_then routes c ds (type_made (row_of c).effect) hs ≡ routes
routes_plain routes c ds hs plain = go (type_made (row_of c).effect) plain.wrapped
  where
    go : (o : Option ObjectType) → ((t : ObjectType) → o ≡ Some t → is_bare t ≡ false) → routes_then routes c ds o hs ≡ routes
    go None other = refl
    go (Some t) other = no_routes routes c ds t 0 hs (wrapped_not_routed t (other_wrapped t (other t refl)))

command_is : (a b : CommandId) → same_command a b ≡ true → a ≡ b
unfolding same_command
command_is a b e = same_true command.the_type tt a b e

-- such a command doesn't enumerate physical devices
pub not_devices : (c : CommandId) → IsPlain (type_made (row_of c).effect) → same_command c cmd.EnumeratePhysicalDevices ≡ false
unfolding row_of
not_devices c plain = go (same_command c cmd.EnumeratePhysicalDevices) refl
  where
    go : (u : Bool) → same_command c cmd.EnumeratePhysicalDevices ≡ u → u ≡ false
    go true is = let bare : true ≡ false = plain.wrapped ty.PhysicalDevice (ap (λ (x : CommandId). type_made (row_of x).effect) (command_is c cmd.EnumeratePhysicalDevices is)) in cc bare
    go false is = refl

-- ---- as the code has it

pub plain_none : (made : Option ObjectType) → made ≡ None → IsPlain made
plain_none made none = record { wrapped = λ (t : ObjectType) (is : made ≡ Some t). cc (none, is) }

pub plain_some : (made : Option ObjectType) (t : ObjectType) → made ≡ Some t → is_bare t ≡ false → IsPlain made
plain_some made t some other = record { wrapped = λ (u : ObjectType) (is : made ≡ Some u). let same : t ≡ u = cc (some, is) in ap is_bare (sym same) ∙ other }

pub leaves_bare : (s : TerminatorState) (c : CallContent) (rs : List ReplyContent) (flags ds : List ℕ) (t : ObjectType) (k : Option Key) → type_made (row_of c.cmd).effect ≡ Some t → is_bare t ≡ true → ds ≡ drivers_for s c
    → k ≡ key_read c.cmd c.payload (read_call c) (row_of c.cmd).effect → issue_all s.ids k t 0 (values_from c.cmd (answered ds rs) 0 (born_where flags)) ≡ left_by s c rs flags
leaves_bare s c rs flags ds t k made bare drivers key =
    ap (λ (x : Option Key). issue_all s.ids x t 0 (values_from c.cmd (answered ds rs) 0 (born_where flags))) key
    ∙ (ap (λ (xs : List ℕ). issue_all s.ids (key_read c.cmd c.payload (read_call c) (row_of c.cmd).effect) t 0 (values_from c.cmd (answered xs rs) 0 (born_where flags))) drivers
    ∙ sym (left_bare s.ids c (answered (drivers_for s c) rs) (born_where flags) t made bare))

pub leaves_bare_routes : (s : TerminatorState) (c : CallContent) (results ds : List ℕ) (t : ObjectType) → type_made (row_of c.cmd).effect ≡ Some t → ds ≡ drivers_for s c → route_all s.routes c.cmd ds t 0 results ≡ routes_left s c results
leaves_bare_routes s c results ds t made drivers = ap (λ (xs : List ℕ). route_all s.routes c.cmd xs t 0 results) drivers ∙ sym (routes_bare s.routes c.cmd (drivers_for s c) t results made)

pub leaves_plain : (s : TerminatorState) (c : CallContent) (rs : List ReplyContent) (flags results ds : List ℕ) → IsPlain (type_made (row_of c.cmd).effect) → ds ≡ drivers_for s c → results ≡ map plain_handle (values_from c.cmd (answered ds rs) 0 (born_where flags))
    → record { results = results; ids = s.ids } ≡ left_by s c rs flags
leaves_plain s c rs flags results ds plain drivers is =
    ap (λ (xs : List ℕ). let all : IssuedAll (List Value) = record { results = xs; ids = s.ids } in all) (is ∙ ap (λ (xs : List ℕ). map plain_handle (values_from c.cmd (answered xs rs) 0 (born_where flags))) drivers)
    ∙ sym (left_plain s.ids c (answered (drivers_for s c) rs) (born_where flags) plain)

pub leaves_plain_routes : (s : TerminatorState) (c : CallContent) (results : List ℕ) → IsPlain (type_made (row_of c.cmd).effect) → s.routes ≡ routes_left s c results
leaves_plain_routes s c results plain = sym (routes_plain s.routes c.cmd (drivers_for s c) results plain)

-- the place changes nothing in a key's type
pub key_type_at : (t : ObjectType) (k : Option Key) (place : ℕ) → IsKeyOf t k → IsKeyOf t (at_key k place)
key_type_at t None place is = tt
key_type_at t (Some k) place is = is

pub key_type_read : (c : CallContent) (k : Option Key) (t : ObjectType) → type_made (row_of c.cmd).effect ≡ Some t → k ≡ key_read c.cmd c.payload (read_call c) (row_of c.cmd).effect → IsKeyOf t k
key_type_read c k t made is = subst (λ (x : Option Key). IsKeyOf t x) (sym is) (key_type c.cmd c.payload (read_call c) (row_of c.cmd).effect t made)
