-- What a checker was given, and which objects are born, owned and alive after it.
-- Source: Vulkan 1.3 specification, "Fundamentals", section "Object Lifetime".
use Rattle.std.specs.Prelude.{ℕ, Bool, true, false, not, ◌&&◌, ◌||◌, Option, Some, None, List, [], ◌∷◌, ◌++◌, map, filter, find, slice_get}
use Rattle.std.specs.List.{list_any}
use Rattle.std.specs.Option.{option_map_or}
use Rattle.command_tables.specs.declared.types.CommandId.{CommandId}
use Rattle.command_tables.specs.declared.types.ObjectType.TheVariants as ty
use Rattle.command_tables.specs.declared.types.OwnerOf.{OwnerOf}
use Rattle.command_tables.specs.declared.types.OwnerOf.TheVariants as of
use Rattle.command_tables.specs.declared.types.Effect.{Effect}
use Rattle.command_tables.specs.declared.types.Effect.TheVariants as eff
use Rattle.command_tables.specs.Table.{row_of}
use Rattle.command_tables.specs.Tests.{same_type}
use Rattle.object_model.specs.declared.Object.{Object}
use Rattle.object_model.specs.declared.Argument.{Argument}
use Rattle.object_model.specs.Objects.{same, are_same, is_in, objects_in, first_in}

-- a call: its number, its thread, its command and what stands in its places
pub record Call : Type 0 where
  pub number : ℕ
  pub thread : ℕ
  pub cmd : CommandId
  pub args : List (List Argument)

-- A call comes in, and it is told whether it is skipped; or a call goes back, with the objects of its results. A lost result has no object.
pub data Step : Type 0 where
  Begins : (call : Call) (skipped : Bool) → Step
  Returns : (call : Call) (made : List Object) → Step

-- what a checker was given so far, the newest first; all other lists have the oldest first
abbrev pub History : Type 0
History = List Step

-- ---- births and owners

-- a born object: whether a call created it (else it was retrieved), and its owner, its owner's owner, and so on
pub record Birth : Type 0 where
  pub object : Object
  pub created : Bool
  pub owners : List Object

-- the object is born
abbrev pub born_in : List Birth → Object → Bool
born_in births o = list_any (λ b. same b.object o) births

-- the object is born, by a creation
abbrev pub created_in : List Birth → Object → Bool
created_in births o = list_any (λ b. same b.object o && b.created) births

-- the owner of an object, the owner's owner, and so on
abbrev pub owners_in : List Birth → Object → List Object
owners_in births o = option_map_or (λ b. b.owners) (find (λ b. same b.object o) births) []

-- the owner of an object, if it has one
abbrev pub owner_in : List Birth → Object → Option Object
owner_in births o = slice_get (owners_in births o) 0

-- the device of an object: the object itself if it is a device, else the device among its owners
abbrev pub device_in : List Birth → Object → Option Object
device_in births o = find (λ d. same_type d.ty ty.Device) (o ∷ owners_in births o)

-- an object with its owners
abbrev pub line_of : List Birth → Option Object → List Object
line_of births None = []
line_of births (Some o) = o ∷ owners_in births o

-- the owners of what a call makes: the object of a parameter with its owners, the owners of that object, or none
abbrev pub owners_given : List Birth → List (List Argument) → OwnerOf → List Object
owners_given births args of.Nobody = []
owners_given births args (of.Param p) = line_of births (first_in args p)
owners_given births args (of.OwnerOfParam p) = option_map_or (owners_in births) (first_in args p) []

-- each of these objects that isn't born yet is born with these owners
abbrev pub births_of : List Birth → Bool → List Object → List Object → List Birth
births_of before created owners made =
    map (λ o. record { object = o; created = created; owners = owners }) (filter (λ o. not (born_in before o)) made)

-- the births at the return of a call, by the effect of its row
abbrev pub births_given : List Birth → List (List Argument) → Effect → List Object → List Birth
births_given before args (eff.Create t owner many) made = births_of before true (owners_given before args owner) made
births_given before args (eff.Retrieve t owner many) made = births_of before false (owners_given before args owner) made
births_given before args _ made = []

-- all births of a history
abbrev pub births : History → List Birth
births [] = []
births (Begins call skipped ∷ past) = births past
births (Returns call made ∷ past) = births past ++ births_given (births past) call.args (row_of call.cmd).effect made

-- the object is born in a history
abbrev pub is_born : History → Object → Bool
is_born h o = born_in (births h) o

-- ---- ends

-- the object goes with a created object that a destroy or free names: it is that object, or is owned by it at any depth
abbrev pub ends_with : List Birth → Object → Object → Bool
ends_with before o named = created_in before named && (same o named || is_in (owners_in before o) named)

-- A destroy or free ends the created objects that it names, with all that they own; a reset ends what the named pool owns, and not the pool.
abbrev pub ends_by : List Birth → List (List Argument) → Effect → Object → Bool
ends_by before args (eff.Destroy p) o = list_any (ends_with before o) (objects_in args p)
ends_by before args (eff.Free p) o = list_any (ends_with before o) (objects_in args p)
ends_by before args (eff.Reset p) o = list_any (is_in (owners_in before o)) (objects_in args p)
ends_by before args _ o = false

-- the call ends the object
abbrev pub ends : History → Call → Object → Bool
ends past call o = ends_by (births past) call.args (row_of call.cmd).effect o

-- An object is alive from its first birth on, until a call that isn't skipped ends it at its begin.
abbrev pub alive : History → Object → Bool
alive [] o = false
alive (Begins call skipped ∷ past) o = alive past o && (skipped || not (ends past call o))
alive (Returns call made ∷ past) o = alive past o || (not (is_born past o) && is_born (Returns call made ∷ past) o)

-- a call that isn't skipped, begun after the object's first birth, has ended it
abbrev pub is_ended : History → Object → Bool
is_ended [] o = false
is_ended (Begins call skipped ∷ past) o = is_ended past o || (is_born past o && not skipped && ends past call o)
is_ended (Returns call made ∷ past) o = is_ended past o

-- the owner of what was born is this object
abbrev pub is_owned_by : Object → Birth → Bool
is_owned_by o b = are_same (slice_get b.owners 0) (Some o)

-- the created objects that live and whose owner is this object; what these own isn't among them
abbrev pub children_in : List Birth → (Object → Bool) → Object → List Object
children_in births living o = map (λ b. b.object) (filter (λ b. b.created && living b.object && is_owned_by o b) births)

-- the children of an object in a history
abbrev pub children : History → Object → List Object
children h o = children_in (births h) (alive h) o
