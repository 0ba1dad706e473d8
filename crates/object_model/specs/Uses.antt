-- What a call uses, and where its uses conflict with those of the open calls of other threads.
-- Source: Vulkan 1.3 specification, "Fundamentals", section "Threading Behavior" (externally synchronized parameters, and implicitly
-- externally synchronized parameters). Which parameters have these marks, as the command table has them, is this project's choice.
use Rattle.std.specs.Prelude.{ℕ, Bool, true, not, ◌&&◌, ◌||◌, if◌then◌else◌, ◌==◌, Option, Some, None, List, [], ◌∷◌, ◌++◌, map, filter, fold, min}
use Rattle.std.specs.List.{list_any, flat_map}
use Rattle.command_tables.specs.declared.types.CommandId.{CommandId}
use Rattle.command_tables.specs.declared.types.ObjectType.{ObjectType}
use Rattle.command_tables.specs.declared.types.ObjectType.TheVariants as ty
use Rattle.command_tables.specs.declared.types.Implied.{Implied}
use Rattle.command_tables.specs.declared.types.Implied.TheVariants as imp
use Rattle.command_tables.specs.declared.types.Rule.TheVariants as rule
use Rattle.command_tables.specs.Table.{ParamSpec}
use Rattle.command_tables.specs.Tests.{same_type}
use Rattle.object_model.specs.declared.Object.{Object}
use Rattle.object_model.specs.declared.Argument.{Argument}
use Rattle.object_model.specs.Objects.{same, object_of}
use Rattle.object_model.specs.History.{Call, Begins, Returns, History, Birth, born_in, owner_in, is_owned_by, births, alive}
use Rattle.object_model.specs.Rules.{Failure, failure, each_argument}

-- an object that a call reads or writes, at a parameter and a place in its list
pub record Use : Type 0 where
  pub param : ℕ
  pub index : ℕ
  pub object : Object
  pub write : Bool

-- such a use
abbrev pub use_of : ℕ → ℕ → Bool → Object → Use
use_of i k write o = record { param = i; index = k; object = o; write = write }

-- an open call with its uses, as they were at its begin
pub record InUse : Type 0 where
  pub number : ℕ
  pub thread : ℕ
  pub uses : List Use

-- nothing, or the one
abbrev pub as_list : {X : Type 0} → Option X → List X
as_list None = []
as_list (Some x) = x ∷ []

-- the born objects of a type whose owner is this object
abbrev pub owned_in : List Birth → ObjectType → Object → List Object
owned_in births t o = map (λ b. b.object) (filter (λ b. same_type b.object.ty t && is_owned_by o b) births)

-- The objects that are written besides, by the mark of the parameter: a command buffer's pool, a device's queues, or those sets of a pool that live.
abbrev pub implied_objects : List Birth → (Object → Bool) → Implied → Object → List Object
implied_objects births living imp.None o = []
implied_objects births living imp.PoolOf o = as_list (owner_in births o)
implied_objects births living imp.QueuesOf o = owned_in births ty.Queue o
implied_objects births living imp.SetsOf o = filter living (owned_in births ty.DescriptorSet o)

-- the uses of one argument: of the object itself, a write where the row has the mark, and of what its mark implies, each a write
abbrev pub uses_at : List Birth → (Object → Bool) → ℕ → ParamSpec → ℕ → Option Object → List Use
uses_at births living i p k None = []
uses_at births living i p k (Some o) = if born_in births o then use_of i k p.sync o ∷ map (use_of i k true) (implied_objects births living p.implied o) else []

-- the uses of a call, by these births and this test of what lives
abbrev pub uses_in : List Birth → (Object → Bool) → CommandId → List (List Argument) → List Use
uses_in births living c args = each_argument (λ i p k a. uses_at births living i p k (object_of a)) c args

-- the same after a history: what the place that was given it counts as living, also where a place further on skipped the call that would end it
abbrev pub uses : History → Call → List Use
uses h call = uses_in (births h) (alive h) call.cmd call.args

-- the open calls with their uses; a skipped call is open too, until its return
abbrev pub in_use : History → List InUse
in_use [] = []
in_use (Begins call skipped ∷ past) = in_use past ++ record { number = call.number; thread = call.thread; uses = uses past call } ∷ []
in_use (Returns call made ∷ past) = filter (λ c. not (c.thread == call.thread)) (in_use past)

-- two uses are of one object, and one of them is a write
abbrev pub clashes : Use → Use → Bool
clashes u v = same u.object v.object && (u.write || v.write)

-- the numbers of the open calls of other threads with which a use conflicts
abbrev pub conflicts_in : List InUse → ℕ → Use → List ℕ
conflicts_in opens thread u = map (λ c. c.number) (filter (λ c. not (c.thread == thread) && list_any (clashes u) c.uses) opens)

-- the least of these numbers
abbrev pub least : List ℕ → Option ℕ
least [] = None
least (n ∷ ns) = Some (fold min n ns)

-- a failure of the rule overlap, where there is a call with which a use conflicts
abbrev pub overlap_at : ℕ → ℕ → Option ℕ → List Failure
overlap_at i k None = []
overlap_at i k (Some j) = failure i k rule.Overlap j ∷ []

-- the failures of the rule overlap at a call of a thread: at each argument, one, with the least number of a call with which a use of the argument conflicts
abbrev pub overlaps_in : List InUse → List Birth → (Object → Bool) → ℕ → CommandId → List (List Argument) → List Failure
overlaps_in opens births living thread c args =
    each_argument (λ i p k a. overlap_at i k (least (flat_map (conflicts_in opens thread) (uses_at births living i p k (object_of a))))) c args

-- the same after a history: what a threads checker reports
abbrev pub overlaps : History → Call → List Failure
overlaps h call = overlaps_in (in_use h) (births h) (alive h) call.thread call.cmd call.args
