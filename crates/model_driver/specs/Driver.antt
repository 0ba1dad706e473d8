-- What a driver is asked, and what it may answer.
-- Source: Vulkan 1.3 specification, the chapters of the commands that create, allocate, get or enumerate; this project.
use Rattle.std.specs.Prelude.{ℕ, ◌≡◌, ◌≤◌, Bool, true, false, if◌then◌else◌, nat_le, IsTrue, Option, Some, None, List, [], ◌∷◌, length}
use Rattle.std.specs.List.{list_all}
use Rattle.command_tables.specs.declared.types.Effect.{Effect}
use Rattle.command_tables.specs.declared.types.Effect.TheVariants as eff
use Rattle.command_tables.specs.Table.{ParamSpec, row_of}
use Rattle.command_tables.specs.Effects.{succeeds}
use Rattle.command_tables.specs.Calls.{DriverCallContent, ReplyContent, driver_call_content}
use Rattle.model_driver.specs.declared.driver.DriverCall.{DriverCall}
use Rattle.model_driver.specs.declared.driver.DriverReply.{DriverReply}
use Rattle.model_driver.specs.declared.driver.Policy.{Policy}

-- the content of a call
abbrev pub call_shown : DriverCall → DriverCallContent
call_shown c = driver_call_content c.driver c.body

-- the content of a reply
abbrev pub reply_shown : DriverReply → ReplyContent
reply_shown r = record { code = r.code; handles = r.handles.items }

-- how many handles are due: as many as were asked for where the call succeeds, else none
abbrev pub handles_due : DriverCallContent → ℕ
handles_due c = if succeeds c.cmd c.code then c.asked else 0

-- no handle is 0
abbrev pub are_handles : List ℕ → Bool
are_handles handles = list_all (λ h. nat_le 1 h) handles

-- the reply has the call's code, and the handles that are due, none of them 0
pub record IsAnsweredBy (c : DriverCallContent) (r : ReplyContent) : Type 0 where
  pub code : r.code ≡ c.code
  pub count : length r.handles ≡ handles_due c
  pub handles : IsTrue (are_handles r.handles)

-- a parameter's list: one handle where the parameter takes no list, and at most 1,024
pub record FitsParam (p : ParamSpec) (handles : List ℕ) : Type 0 where
  pub single : p.many ≡ false → length handles ≡ 1
  pub most : length handles ≤ 1024

-- one list for each parameter
abbrev pub FitsRow : List ParamSpec → List (List ℕ) → Type 0
FitsRow [] [] = Unit {0}
FitsRow (p ∷ ps) (a ∷ more) = FitsParam p a × FitsRow ps more
FitsRow _ _ = ⊥

-- how many handles a command may ask for
abbrev pub FitsAsked : Effect → ℕ → Type 0
FitsAsked (eff.Create t owner false) n = n ≡ 1
FitsAsked (eff.Create t owner true) n = n ≤ 1024
FitsAsked (eff.Retrieve t owner false) n = n ≡ 1
FitsAsked (eff.Retrieve t owner true) n = n ≤ 1024
FitsAsked _ n = n ≡ 0

-- the call has the shape of its command's row
pub record HasShape (c : DriverCallContent) : Type 0 where
  pub params : FitsRow (row_of c.cmd).params c.args
  pub asked : FitsAsked (row_of c.cmd).effect c.asked

-- the policy by which a driver answers once it is told one: that one, where it tells its policy
abbrev pub prepared : Option Policy → Policy → Option Policy
prepared None policy = None
prepared (Some before) policy = Some policy
