-- Before an instance is made.
use Rattle.std.specs.Prelude.{◌≡◌, ◌≤◌, ◌||◌, not, ℕ, Bool, true, false, is_some, slice_get, List, [], ◌∷◌}
use Rattle.std.specs.List.{AllByRecursion}
use Rattle.command_tables.specs.declared.types.CommandId.{CommandId}
use Rattle.command_tables.specs.declared.types.CommandId.TheVariants as cmd
use Rattle.command_tables.specs.Table.{ParamSpec, row_of}
use Rattle.command_tables.specs.Tests.{same_command}
use Rattle.trace_format.specs.Accepting.{begins_instance}
use Rattle.trace_format.specs.Content.{Arg, TraceEvent, BeginEvent, Begin, Return}
use Rattle.object_model.specs.History.{births}
use Rattle.replay_model.specs.Setup.{Setup}
use Rattle.replay_model.specs.Past.{Opened, Past, history, retrievals, open_calls}
use Rattle.replay_model.specs.ChainPlaces.{reaches, parts_in_force}
use Rattle.command_tables.specs.Effects.{succeeds}

-- the first argument is written
abbrev pub has_first : List Arg → Bool
has_first [] = false
has_first (a ∷ args) = is_some (slice_get a.names 0)

-- the first parameter is there, and isn't null
abbrev pub first_needed : List ParamSpec → Bool
first_needed [] = false
first_needed (p ∷ ps) = not p.optional

-- the creation of an instance alone has no first argument
abbrev pub first_fits_row : CommandId → Bool
first_fits_row c = same_command c cmd.CreateInstance || first_needed (row_of c).params

-- a begin of the grammar has a code where its command answers one, and a first argument where it isn't the creation of an instance
pub record IsWhole (b : BeginEvent) : Type 0 where
  pub code : is_some b.code ≡ (row_of b.cmd).returns
  pub first : same_command b.cmd cmd.CreateInstance ≡ false → has_first b.args ≡ true

abbrev pub IsWholeEvent : TraceEvent → Type 0
IsWholeEvent (Begin b) = IsWhole b
IsWholeEvent (Return thread) = Unit {0}

-- an open call makes no instance, and any other comes to no part
pub record IsIdle (x : Opened) : Type 0 where
  pub fails : same_command x.cmd cmd.CreateInstance ≡ true → succeeds x.cmd x.code ≡ false
  pub stopped : same_command x.cmd cmd.CreateInstance ≡ false → (j : ℕ) → 1 ≤ j → reaches x j ≡ false

-- nothing was born, no part is in force, and the open calls will bear nothing
pub record IsQuiet (s : Setup) (past : Past) : Type 0 where
  pub born : births (history past) ≡ []
  pub kept : retrievals past ≡ []
  pub parts : parts_in_force s past ≡ []
  pub opens : AllByRecursion IsIdle (open_calls past)

-- the last event begins the creation of an instance
abbrev pub last_begins : List TraceEvent → Bool
last_begins [] = false
last_begins (e ∷ before) = begins_instance e
