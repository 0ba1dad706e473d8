-- The calls that are held on a walk down. Source: this project.
use Rattle.std.specs.Prelude.{◌≡◌, ◌≤◌, ℕ, List, [], ◌∷◌, length, map, take}
use Rattle.command_tables.specs.declared.types.CommandId.{CommandId}
use Rattle.command_tables.specs.declared.call.LayerCall.{LayerCall}
use Rattle.command_tables.specs.Calls.{CallContent, call_content}
use Rattle.command_tables.specs.Table.{row_of}
use Rattle.object_model.specs.declared.PartKind.{PartKind}
use Rattle.dispatch_chain.specs.Forms.{FormRoom}
use Rattle.dispatch_chain.specs.Rows.{picked}

-- the command of a walk, and the call as it stood above each part that it came to; and the room of each buffer, from the first on
pub record HeldCalls : Type 0 where
  pub cmd : CommandId
  pub forms : List CallContent
  pub rooms : List FormRoom

-- each is a call of the command
abbrev pub AllOf : CommandId → List CallContent → Type 0
AllOf cmd [] = Unit {0}
AllOf cmd (c ∷ cs) = (c.cmd ≡ cmd) × AllOf cmd cs

-- each is a call of the command, and has its row's shape
abbrev pub AllShaped : CommandId → List CallContent → Type 0
AllShaped cmd [] = Unit {0}
AllShaped cmd (c ∷ cs) = ((c.cmd ≡ cmd) × (length c.args ≡ length (row_of c.cmd).params)) × AllShaped cmd cs

-- so many of these calls are held, each of the command
pub record AreHeld (cmd : CommandId) (count : ℕ) (calls : List LayerCall) : Type 0 where
  pub within : count ≤ length calls
  pub shaped : AllShaped cmd (map call_content (take count calls))

-- what is held are those of these forms that stand above the parts that intercept the command, and the forms are all of the command
pub record IsHeldOf (held : HeldCalls) (kinds : List PartKind) (forms : List CallContent) : Type 0 where
  pub picked : held.forms ≡ picked held.cmd kinds forms
  pub one : AllOf held.cmd forms
