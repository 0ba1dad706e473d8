-- Which handles a model driver answers. A driver's values are numbered from 1, and it has given each up to the greatest;
-- a list tells of each, from 1 on, whether it has come back. What has not come back is out.
-- Source: this project; that a handle may be used again once its object is destroyed is of the Vulkan 1.3 specification, "Fundamentals",
-- section "Object Lifetime".
use Rattle.std.specs.Prelude.{ℕ, zero, suc, ◌+◌, ◌-◌, Bool, true, false, if◌then◌else◌, nat_le, List, [], ◌∷◌, ◌++◌, length, take, replicate, slice_set, slice_index_or}
use Rattle.command_tables.specs.declared.types.Effect.{Effect}
use Rattle.command_tables.specs.declared.types.Effect.TheVariants as eff
use Rattle.command_tables.specs.Calls.{DriverCallContent}
use Rattle.command_tables.specs.Handles.{list_at}
use Rattle.command_tables.specs.Table.{row_of}
use Rattle.model_driver.specs.declared.driver.Policy.{Policy}
use Rattle.model_driver.specs.declared.driver.Policy.TheVariants as policy

-- the value was given, and has come back
abbrev pub is_back : List Bool → ℕ → Bool
is_back back zero = false
is_back back (suc i) = slice_index_or back i false

-- the least positive value that is not out
abbrev pub least_not_out : List Bool → ℕ
least_not_out [] = 1
least_not_out (true ∷ back) = 1
least_not_out (false ∷ back) = suc (least_not_out back)

-- a value that has come back may be given again
abbrev pub gives_again : Policy → Bool
gives_again policy.Fresh = false
gives_again policy.Reuse = true
gives_again policy.Share = true

-- the value that is given next: a new one, the least that is not out, or 1
abbrev pub next_value : Policy → List Bool → ℕ
next_value policy.Fresh back = length back + 1
next_value policy.Reuse back = least_not_out back
next_value policy.Share back = 1

-- the value is given, so that it is out: one that was given before, or the first new one
abbrev pub with_given : List Bool → ℕ → List Bool
with_given back value = if nat_le value (length back) then slice_set back (value - 1) false else back ++ false ∷ []

-- so many values, one after another
abbrev pub values_given : Policy → List Bool → ℕ → List ℕ
values_given p back zero = []
values_given p back (suc n) = next_value p back ∷ values_given p (with_given back (next_value p back)) n

-- what has come back once they are given
abbrev pub after_giving : Policy → List Bool → ℕ → List Bool
after_giving p back zero = back
after_giving p back (suc n) = after_giving p (with_given back (next_value p back)) n

-- a value comes back; a null and a value that was never given change nothing
abbrev pub with_back : List Bool → ℕ → List Bool
with_back back zero = back
with_back back (suc i) = slice_set back i true

-- these values come back, one after another
abbrev pub with_all_back : List Bool → List ℕ → List Bool
with_all_back back [] = back
with_all_back back (v ∷ values) = with_all_back (with_back back v) values

-- the handles in the parameter that an effect destroys or frees
abbrev pub ended_in : Effect → List (List ℕ) → List ℕ
ended_in (eff.Destroy p) args = list_at args p
ended_in (eff.Free p) args = list_at args p
ended_in _ args = []

-- the handles that come back by a call, whatever it answers
abbrev pub values_ended : DriverCallContent → List ℕ
values_ended c = ended_in (row_of c.cmd).effect c.args

-- so many handles from a list, and 1 where the list has ended
abbrev pub given_from : List ℕ → ℕ → List ℕ
given_from values n = take n values ++ replicate (n - length values) 1
