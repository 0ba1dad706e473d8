-- When the rules on arguments fail at a call, and in which order the failures are found.
-- Source: Vulkan 1.3 specification, "Fundamentals", section "Valid Usage" (implicit valid usage of handles) and section "Object Lifetime".
-- That children fail at the destruction of a device or an instance alone, and the marks of owners, are this project's.
use Rattle.std.specs.Prelude.{ℕ, ◌+◌, Bool, true, false, not, ◌&&◌, ◌||◌, if◌then◌else◌, ◌==◌, List, [], ◌∷◌, ◌++◌, length}
use Rattle.std.specs.Option.{option_map_or}
use Rattle.command_tables.specs.declared.types.CommandId.{CommandId}
use Rattle.command_tables.specs.declared.types.CommandId.TheVariants as cmd
use Rattle.command_tables.specs.declared.types.OwnerMark.{OwnerMark}
use Rattle.command_tables.specs.declared.types.OwnerMark.TheVariants as own
use Rattle.command_tables.specs.declared.types.Rule.{Rule}
use Rattle.command_tables.specs.declared.types.Rule.TheVariants as rule
use Rattle.command_tables.specs.Table.{ParamSpec, row_of}
use Rattle.command_tables.specs.Tests.{same_command}
use Rattle.object_model.specs.declared.Object.{Object}
use Rattle.object_model.specs.declared.Argument.{Argument}
use Rattle.object_model.specs.declared.Argument.TheVariants.{Null, Unborn, The}
use Rattle.object_model.specs.Objects.{are_same, first_in}
use Rattle.object_model.specs.History.{Call, History, Birth, births, owner_in, device_in, alive, children_in}

-- a rule that fails at a parameter and a place in its list, with a number: of children, or of the call with which a use conflicts
pub record Failure : Type 0 where
  pub param : ℕ
  pub index : ℕ
  pub rule : Rule
  pub detail : ℕ

-- such a failure
abbrev pub failure : ℕ → ℕ → Rule → ℕ → Failure
failure param index rule detail = record { param = param; index = index; rule = rule; detail = detail }

-- ---- what must hold of an argument

-- it stands for a living object, or is a null that the row allows
abbrev pub parameter_holds : (Object → Bool) → ParamSpec → Argument → Bool
parameter_holds living p Null = p.optional
parameter_holds living p Unborn = false
parameter_holds living p (The o) = living o

-- by its mark, the object has the device of the first argument, or is owned by the object of another parameter
abbrev pub owner_holds : List Birth → List (List Argument) → OwnerMark → Object → Bool
owner_holds births args own.None o = true
owner_holds births args own.Device o = option_map_or (λ first. are_same (device_in births o) (device_in births first)) (first_in args 0) false
owner_holds births args (own.Param p) o = are_same (owner_in births o) (first_in args p)

-- what stands for a living object has its owner
abbrev pub parent_holds : List Birth → (Object → Bool) → List (List Argument) → ParamSpec → Argument → Bool
parent_holds births living args p Null = true
parent_holds births living args p Unborn = true
parent_holds births living args p (The o) = not (living o) || owner_holds births args p.owner o

-- how many children the argument's object has
abbrev pub children_at : List Birth → (Object → Bool) → Argument → ℕ
children_at births living Null = 0
children_at births living Unborn = 0
children_at births living (The o) = length (children_in births living o)

-- the command destroys a device or an instance
abbrev pub ends_parent : CommandId → Bool
ends_parent c = same_command c cmd.DestroyDevice || same_command c cmd.DestroyInstance

-- ---- each argument of a call

-- what f gives at the places of a parameter, from place k on
abbrev pub places_from : {X : Type 0} → (ℕ → Argument → List X) → ℕ → List Argument → List X
places_from f k [] = []
places_from f k (a ∷ args) = f k a ++ places_from f (k + 1) args

-- what f gives at the arguments of the parameters, from parameter i on
abbrev pub params_from : {X : Type 0} → (ℕ → ParamSpec → ℕ → Argument → List X) → ℕ → List ParamSpec → List (List Argument) → List X
params_from f i [] parts = []
params_from f i (p ∷ params) [] = []
params_from f i (p ∷ params) (args ∷ parts) = places_from (f i p) 0 args ++ params_from f (i + 1) params parts

-- What f gives at each argument of a call, by parameter and place: f is given the parameter's number, its column, the place and the argument.
abbrev pub each_argument : {X : Type 0} → (ℕ → ParamSpec → ℕ → Argument → List X) → CommandId → List (List Argument) → List X
each_argument f c args = params_from f 0 (row_of c).params args

-- nothing where it holds, else this
abbrev pub unless : {X : Type 0} → Bool → X → List X
unless holds x = if holds then [] else x ∷ []

-- the failures at one argument
abbrev pub failures_at : List Birth → (Object → Bool) → CommandId → List (List Argument) → ℕ → ParamSpec → ℕ → Argument → List Failure
failures_at births living c args i p k a =
    unless (parameter_holds living p a) (failure i k rule.Parameter 0) ++ unless (parent_holds births living args p a) (failure i k rule.Parent 0)
    ++ unless (not (ends_parent c && i == 0) || children_at births living a == 0) (failure i k rule.Children (children_at births living a))

-- the failures of the rules parameter, parent and children at a call, by these births and this test of what lives
abbrev pub failures_in : List Birth → (Object → Bool) → CommandId → List (List Argument) → List Failure
failures_in births living c args = each_argument (failures_at births living c args) c args

-- the same after a history: what a lifetimes checker reports
abbrev pub failures : History → Call → List Failure
failures h call = failures_in (births h) (alive h) call.cmd call.args

-- the rule parameter at the first argument alone, by these columns: what the loader reports
abbrev pub loader_failures : (Object → Bool) → List ParamSpec → List (List Argument) → List Failure
loader_failures living [] parts = []
loader_failures living (p ∷ params) [] = []
loader_failures living (p ∷ params) ([] ∷ parts) = []
loader_failures living (p ∷ params) ((a ∷ args) ∷ parts) = unless (parameter_holds living p a) (failure 0 0 rule.Parameter 0)
