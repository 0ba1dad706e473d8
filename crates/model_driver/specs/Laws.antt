-- What the values that a policy gives are, in the words of the policies. Source: this project.
use Rattle.std.specs.Prelude.{◌≡◌, ◌≢◌, ◌↔◌, ◌⊎◌, ℕ, ◌≤◌, ◌<◌, Bool, false, List, length}
use Rattle.model_driver.specs.Policies.{is_back, next_value, with_back, with_given}
use Rattle.model_driver.specs.declared.driver.Policy.{Policy}
use Rattle.model_driver.specs.declared.driver.Policy.TheVariants as policy

-- the value was given, and has not come back
pub record IsOut (back : List Bool) (value : ℕ) : Type 0 where
  pub positive : 1 ≤ value
  pub given : value ≤ length back
  pub not_back : is_back back value ≡ false

-- the value is positive and not out, and each lesser positive value is out
pub record IsLeastNotOut (back : List Bool) (value : ℕ) : Type 0 where
  pub positive : 1 ≤ value
  pub not_out : IsOut back value → ⊥
  pub least : (lesser : ℕ) → 1 ≤ lesser → lesser < value → IsOut back lesser

-- a fresh value was never given
abbrev pub FreshIsNew : Type 0
FreshIsNew = (back : List Bool) → length back < next_value policy.Fresh back

-- a value that is used again is the least positive one that is not out
abbrev pub ReusedIsLeast : Type 0
ReusedIsLeast = (back : List Bool) → IsLeastNotOut back (next_value policy.Reuse back)

-- behind a gift by any policy just what was out and the value are out
abbrev pub GivenIsOut : Type 0
GivenIsOut = (p : Policy) (back : List Bool) (other : ℕ) → IsOut (with_given back (next_value p back)) other ↔ (IsOut back other ⊎ (other ≡ next_value p back))

-- where a value comes back, just the other values that were out still are
abbrev pub BackIsNotOut : Type 0
BackIsNotOut = (back : List Bool) (value other : ℕ) → IsOut (with_back back value) other ↔ (IsOut back other × (other ≢ value))
