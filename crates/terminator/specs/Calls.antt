-- What the terminator keeps, as contracts see it; the calls that it tells, and what it makes of their replies. Source: this project.
use Rattle.std.specs.Prelude.{ℕ, Bool, true, not, ◌≤◌, ◌||◌, ◌==◌, Option, Some, None, List, map, vec_capacity}
use Rattle.std.specs.List.{zip}
use Rattle.command_tables.specs.declared.call.LayerCall.{LayerCall}
use Rattle.command_tables.specs.Handles.{HasRoom}
use Rattle.command_tables.specs.Calls.{CallContent, DriverCallContent, ReplyContent}
use Rattle.command_tables.specs.Effects.{type_made}
use Rattle.command_tables.specs.Table.{row_of}
use Rattle.command_tables.specs.Tests.{same_type}
use Rattle.command_tables.specs.declared.types.ObjectType.TheVariants as ty
use Rattle.object_model.specs.declared.Object.{Object}
use Rattle.object_model.specs.declared.Routed.{Routed}
use Rattle.object_model.specs.Values.{Answered, Value}
use Rattle.layer_model.specs.Ids.{IdMap, IssuedAll}
use Rattle.layer_model.specs.Routes.{drivers_at, has_route, routes_then}
use Rattle.layer_model.specs.Terminator.{terminator_leave, told_call}
use Rattle.model_driver.specs.Driver.{FitsAsked, FitsRow}

-- the ids with each driver's values, the driver behind each id that has one of its own, and how many drivers there are; and how many
-- further ids, how many further values in all, and how many further bytes of payloads can be held with no further memory
pub record TerminatorState : Type 0 where
  pub ids : IdMap (List Value)
  pub routes : List Routed
  pub drivers : ℕ
  pub spare : ℕ
  pub values : ℕ
  pub bytes : ℕ

-- the drivers that a call goes to
abbrev pub drivers_for : TerminatorState → CallContent → List ℕ
drivers_for s c = drivers_at s.drivers s.routes c

-- what each of them is told, in order
abbrev pub targets_of : TerminatorState → CallContent → List DriverCallContent
targets_of s c = map (told_call s.ids c) (drivers_for s c)

-- drivers with the handles of their replies, in order
abbrev pub answered : List ℕ → List ReplyContent → List Answered
answered drivers replies = map (λ (x : ℕ × ReplyContent). record { driver = x.0; handles = x.1.handles }) (zip drivers replies)

-- which results are born: a flag that isn't 0
abbrev pub born_where : List ℕ → List Bool
born_where flags = map (λ h. not (h == 0)) flags

-- the results, and the ids then, by the call as it stood above, the replies and the flags
abbrev pub left_by : TerminatorState → CallContent → List ReplyContent → List ℕ → IssuedAll (List Value)
left_by s c replies flags = terminator_leave s.ids c (answered (drivers_for s c) replies) (born_where flags)

-- the routes after these results
abbrev pub routes_left : TerminatorState → CallContent → List ℕ → List Routed
routes_left s c results = routes_then s.routes c.cmd (drivers_for s c) (type_made (row_of c.cmd).effect) results

-- the call has the shape of its command's row
pub record FitsCall (c : CallContent) : Type 0 where
  pub params : FitsRow (row_of c.cmd).params c.args
  pub asked : FitsAsked (row_of c.cmd).effect c.asked

-- the drivers of this first argument are known: it has a route, or is an instance, or there is none
abbrev pub is_settled : List Routed → Option Object → Bool
is_settled routes None = true
is_settled routes (Some o) = same_type o.ty ty.Instance || has_route routes o

-- what the one call could hold with no further memory, the other can
pub record KeepsCallRoom (old new : LayerCall) : Type 0 where
  pub handles : HasRoom new.args old.args.slots old.args.room
  pub bytes : vec_capacity old.payload ≤ vec_capacity new.payload
