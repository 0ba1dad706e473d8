-- What holds of the rows of the table. Source: this project.
use Rattle.std.specs.Prelude.{ℕ, ◌+◌, Bool, true, false, not, ◌&&◌, nat_le, nat_lt, List, [], ◌∷◌}
use Rattle.std.specs.Cmp.Lexicographic.{slice_cmp}
use Rattle.std.specs.Ordering.{is_lt, nat_cmp}
use Rattle.command_tables.specs.declared.types.CommandId.{CommandId}
use Rattle.command_tables.specs.declared.types.CommandId.TheVariants as cmd
use Rattle.command_tables.specs.declared.types.ObjectType.{ObjectType}
use Rattle.command_tables.specs.declared.types.ObjectType.TheVariants as ty
use Rattle.command_tables.specs.declared.types.OwnerMark.{OwnerMark}
use Rattle.command_tables.specs.declared.types.OwnerMark.TheVariants as own
use Rattle.command_tables.specs.declared.types.OwnerOf.{OwnerOf}
use Rattle.command_tables.specs.declared.types.OwnerOf.TheVariants as of
use Rattle.command_tables.specs.declared.types.Implied.{Implied}
use Rattle.command_tables.specs.declared.types.Implied.TheVariants as imp
use Rattle.command_tables.specs.declared.types.Effect.{Effect}
use Rattle.command_tables.specs.declared.types.Effect.TheVariants as eff
use Rattle.command_tables.specs.Table.{ParamSpec}

-- the first five object types are dispatchable (Vulkan 1.3, "Object Model")
abbrev pub is_dispatchable : ObjectType → Bool
is_dispatchable ty.Instance = true
is_dispatchable ty.PhysicalDevice = true
is_dispatchable ty.Device = true
is_dispatchable ty.Queue = true
is_dispatchable ty.CommandBuffer = true
is_dispatchable _ = false

-- an implied use stands at an object of the type that has what is used: a command buffer its pool, a descriptor pool its sets, a
-- device its queues
abbrev pub implied_fits : Implied → ObjectType → Bool
implied_fits imp.None t = true
implied_fits imp.PoolOf ty.CommandBuffer = true
implied_fits imp.SetsOf ty.DescriptorPool = true
implied_fits imp.QueuesOf ty.Device = true
implied_fits _ _ = false

-- a mark of an owner at parameter i names an earlier or equal parameter
abbrev pub mark_fits : ℕ → OwnerMark → Bool
mark_fits i (own.Param p) = nat_le p i
mark_fits i _ = true

-- each parameter's mark does, the first of them being parameter i
abbrev pub marks_fit : ℕ → List ParamSpec → Bool
marks_fit i [] = true
marks_fit i (p ∷ ps) = mark_fits i p.owner && marks_fit (i + 1) ps

-- an owner names one of n parameters, or nobody
abbrev pub owner_fits : ℕ → OwnerOf → Bool
owner_fits n of.Nobody = true
owner_fits n (of.Param p) = nat_lt p n
owner_fits n (of.OwnerOfParam p) = nat_lt p n

-- an effect names one of n parameters, or none
abbrev pub effect_fits : ℕ → Effect → Bool
effect_fits n eff.None = true
effect_fits n (eff.Create t owner many) = owner_fits n owner
effect_fits n (eff.Retrieve t owner many) = owner_fits n owner
effect_fits n (eff.Destroy p) = nat_lt p n
effect_fits n (eff.Free p) = nat_lt p n
effect_fits n (eff.Reset p) = nat_lt p n

-- the first parameter is dispatchable, single and not null; the creation of an instance alone has none
abbrev pub first_fits : CommandId → List ParamSpec → Bool
first_fits cmd.CreateInstance [] = true
first_fits cmd.CreateInstance (p ∷ ps) = false
first_fits _ [] = false
first_fits _ (p ∷ ps) = is_dispatchable p.ty && not p.many && not p.optional

-- the first text comes before the second in byte order
abbrev pub comes_before : List ℕ → List ℕ → Bool
comes_before x y = is_lt (slice_cmp nat_cmp x y)

-- these texts rise strictly in byte order
abbrev pub rise : List (List ℕ) → Bool
rise [] = true
rise (x ∷ []) = true
rise (x ∷ y ∷ rest) = comes_before x y && rise (y ∷ rest)
