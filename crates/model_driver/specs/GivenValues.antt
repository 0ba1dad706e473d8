-- What a model driver keeps, for each driver of the chain by itself. Source: this project.
use Rattle.std.specs.Prelude.{ℕ, ◌-◌, Bool, if◌then◌else◌, ◌==◌, List, [], ◌∷◌}
use Rattle.command_tables.specs.Calls.{DriverCallContent}
use Rattle.model_driver.specs.declared.driver.Policy.{Policy}
use Rattle.model_driver.specs.Driver.{handles_due}
use Rattle.model_driver.specs.Policies.{after_giving, values_ended, values_given, with_all_back}

-- a driver by its number in the chain, and which of the values that it gave have come back
pub record GivenState : Type 0 where
  pub driver : ℕ
  pub back : List Bool

-- the policy by which handles are answered, and the drivers that were called, in the order of their first calls
pub record ModelState : Type 0 where
  pub policy : Policy
  pub given : List GivenState

-- what a driver has given: nothing before its first call
abbrev pub back_of : List GivenState → ℕ → List Bool
back_of [] driver = []
back_of (s ∷ given) driver = if s.driver == driver then s.back else back_of given driver

-- the driver has this list now
abbrev pub with_back_of : List GivenState → ℕ → List Bool → List GivenState
with_back_of [] driver back = record { driver = driver; back = back } ∷ []
with_back_of (s ∷ given) driver back = if s.driver == driver then record { driver = driver; back = back } ∷ given else s ∷ with_back_of given driver back

-- what a call leaves of what its driver has given: what it destroys or frees has come back, and then what it asks for is given
abbrev pub back_after : Policy → List Bool → DriverCallContent → List Bool
back_after policy back c = after_giving policy (with_all_back back (values_ended c)) (handles_due c)

-- the handles that a call is answered
abbrev pub handles_for : ModelState → DriverCallContent → List ℕ
handles_for m c = values_given m.policy (with_all_back (back_of m.given c.driver) (values_ended c)) (handles_due c)

-- what is kept behind a call: only what its driver has given changes
abbrev pub after_call : ModelState → DriverCallContent → ModelState
after_call m c = record m { given = with_back_of m.given c.driver (back_after m.policy (back_of m.given c.driver) c) }

-- a seat of the shared model driver: the policy by which it answers, which of the values that it gave have come back, and how
-- many values there is still room for
pub record SeatState : Type 0 where
  pub policy : Policy
  pub back : List Bool
  pub left : ℕ

-- the handles that a call at a seat is answered: the seat counts for itself, whichever driver of the chain is called
abbrev pub handles_at_seat : SeatState → DriverCallContent → List ℕ
handles_at_seat s c = values_given s.policy (with_all_back s.back (values_ended c)) (handles_due c)

-- what a seat keeps behind a call
abbrev pub seat_after : SeatState → DriverCallContent → SeatState
seat_after s c = record s { back = back_after s.policy s.back c; left = s.left - handles_due c }
