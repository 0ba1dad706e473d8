-- A history with other numbers for its objects. Source: this project.
use Rattle.std.specs.Prelude.{◌≡◌, Bool, true, List, [], ◌∷◌, map, ⊤}
use Rattle.std.specs.List.{filter_map, AllByRecursion}
use Rattle.object_model.specs.declared.Object.{Object}
use Rattle.object_model.specs.declared.Argument.{Argument}
use Rattle.object_model.specs.declared.Argument.TheVariants.{Null, Unborn, The}
use Rattle.object_model.specs.Objects.{same, object_of}
use Rattle.object_model.specs.History.{Call, Step, Begins, Returns, History}
use Rattle.object_model.specs.Uses.{Use}

-- the argument for the renamed object
abbrev pub renamed_argument : (Object → Object) → Argument → Argument
renamed_argument f Null = Null
renamed_argument f Unborn = Unborn
renamed_argument f (The o) = The (f o)

-- all arguments of a call, renamed
abbrev pub renamed_args : (Object → Object) → List (List Argument) → List (List Argument)
renamed_args f args = map (map (renamed_argument f)) args

-- the call with renamed arguments
abbrev pub renamed_call : (Object → Object) → Call → Call
renamed_call f c = record c { args = renamed_args f c.args }

-- the step with its objects renamed
abbrev pub renamed_step : (Object → Object) → Step → Step
renamed_step f (Begins c skipped) = Begins (renamed_call f c) skipped
renamed_step f (Returns c made) = Returns (renamed_call f c) (map f made)

-- the history with its objects renamed
abbrev pub renamed : (Object → Object) → History → History
renamed f h = map (renamed_step f) h

-- the use of the renamed object
abbrev pub renamed_use : (Object → Object) → Use → Use
renamed_use f u = record u { object = f u.object }

-- f keeps types, and keeps known objects apart
pub record IsOneToOne (known : Object → Bool) (f : Object → Object) : Type 0 where
  pub type_kept : (o : Object) → (f o).ty ≡ o.ty
  pub same_kept : (a b : Object) → known a ≡ true → known b ≡ true → same (f a) (f b) ≡ same a b

-- these objects are known
abbrev pub AreKnown : (Object → Bool) → List Object → Type 0
AreKnown known os = AllByRecursion (λ o. known o ≡ true) os

-- the objects in the arguments are known
abbrev pub KnowsArgs : (Object → Bool) → List (List Argument) → Type 0
KnowsArgs known parts = AllByRecursion (λ args. AreKnown known (filter_map object_of args)) parts

-- every object of the history is known
abbrev pub KnowsAll : (Object → Bool) → History → Type 0
KnowsAll known [] = ⊤
KnowsAll known (Begins c skipped ∷ past) = KnowsArgs known c.args × KnowsAll known past
KnowsAll known (Returns c made ∷ past) = KnowsArgs known c.args × AreKnown known made × KnowsAll known past
