-- The chains over which small traces are run, and what comes of a run. Source: this project.
use Rattle.std.specs.Prelude.{ℕ, List, [], ◌∷◌, ◌++◌, map, codes}
use Rattle.command_tables.specs.Calls.{DriverCallContent}
use Rattle.trace_format.specs.Content.{TraceEvent}
use Rattle.object_model.specs.declared.PartKind.{PartKind}
use Rattle.object_model.specs.declared.PartKind.TheVariants as part
use Rattle.replay_rows.specs.Setups.{parts_alone}
use Rattle.replay_rows.specs.Traces.{buffer_destroyed, events, replies, said}
use Rattle.chain_rows.specs.Runs.{Run, Stood, fresh_run, run_on, stood}

-- threads, lifetimes, unique: the parts of the Khronos validation layer
abbrev pub as_validation : List PartKind
as_validation = part.Threads ∷ part.Lifetimes ∷ part.Unique ∷ []

-- lifetimes above threads
abbrev pub lifetimes_first : List PartKind
lifetimes_first = part.Lifetimes ∷ part.Threads ∷ part.Unique ∷ []

-- two unique parts below a lifetimes part
abbrev pub unique_twice : List PartKind
unique_twice = part.Lifetimes ∷ part.Unique ∷ part.Unique ∷ []

-- no layers
abbrev pub no_parts : List PartKind
no_parts = []

-- what comes of a run: its report lines, the handles of each driver call, and what stands in each part at the end
pub record Ran : Type 0 where
  pub reports : List ℕ
  pub told : List (List (List ℕ))
  pub parts : List Stood

-- a run that came to these lines, calls and parts
abbrev pub came_to : List (List ℕ) → List (List (List ℕ)) → List Stood → Ran
came_to lines told parts = record { reports = said lines; told = told; parts = parts }

-- what came of it
abbrev pub shown : Run → Ran
shown r = record { reports = r.reports; told = map (λ c. c.args) r.told; parts = map stood r.kept.states }

-- a trace over a chain of these parts, with one driver that answers these handles in turn
abbrev pub ran : List PartKind → List (List ℕ) → List TraceEvent → Ran
ran parts handles trace = shown (run_on (parts_alone parts) (fresh_run (replies handles)) trace)

-- the driver calls with two drivers
abbrev pub over_two : List PartKind → List (List ℕ) → List TraceEvent → List DriverCallContent
over_two parts handles trace = (run_on (record (parts_alone parts) { drivers = 2 }) (fresh_run (replies handles)) trace).told

-- a driver with the handles that it is told
abbrev pub driver_told : DriverCallContent → ℕ × List (List ℕ)
driver_told c = (c.driver, c.args)

-- a destroyed buffer that two threads destroy at once
abbrev pub destroyed_on_two_threads : List TraceEvent
destroyed_on_two_threads = buffer_destroyed ++ events (codes "b 1 vkDestroyBuffer %1.3 %1.4 void" ∷ codes "b 2 vkDestroyBuffer %1.3 %1.4 void" ∷ codes "r 1" ∷ codes "r 2" ∷ [])
