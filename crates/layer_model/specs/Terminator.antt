-- The end of a chain: ids of dispatchable handles and surfaces with each driver's values, what the drivers are told, and what becomes of their replies.
-- Source: Khronos Vulkan-Loader interface documents (the loader's terminators unwrap dispatchable handles and surfaces for each driver).
use Rattle.std.specs.Prelude.{ℕ, ◌+◌, Bool, true, false, if◌then◌else◌, Option, Some, None, List, [], ◌∷◌, map, unwrap_or}
use Rattle.command_tables.specs.declared.types.CommandId.{CommandId}
use Rattle.command_tables.specs.declared.types.ObjectType.{ObjectType}
use Rattle.command_tables.specs.Calls.{CallContent, DriverCallContent}
use Rattle.command_tables.specs.Table.{ParamSpec, row_of}
use Rattle.command_tables.specs.Effects.{type_made}
use Rattle.object_model.specs.Values.{Answered, Value, first_value, value_for, asked_of_each, values_answered}
use Rattle.layer_model.specs.Ids.{is_wrapped, Key, IdMap, IssuedAll, issue_all}
use Rattle.handle_map.specs.Pairs.{values_of}
use Rattle.layer_model.specs.Reading.{read_call}
use Rattle.layer_model.specs.Parts.{key_read}

-- the ids with the values of each driver
abbrev pub Terminator : Type 0
Terminator = IdMap (List Value)

-- ---- on the way down

-- what a driver is told for the handles of one parameter
abbrev pub told_handles : Terminator → ℕ → ObjectType → List ℕ → List ℕ
told_handles m driver t hs = if is_wrapped t then hs else map (λ h. value_for driver (unwrap_or (values_of m.entries t h) [])) hs

-- and for all parameters
abbrev pub told_params : Terminator → ℕ → List ParamSpec → List (List ℕ) → List (List ℕ)
told_params m driver [] lists = lists
told_params m driver (p ∷ ps) [] = []
told_params m driver (p ∷ ps) (hs ∷ lists) = told_handles m driver p.ty hs ∷ told_params m driver ps lists

-- the call that a driver is told
abbrev pub told_call : Terminator → CallContent → ℕ → DriverCallContent
told_call m c driver =
    record { driver = driver; cmd = c.cmd; args = told_params m driver (row_of c.cmd).params c.args; asked = asked_of_each c.cmd c.asked; code = c.code; payload = c.payload }

-- the values of the results from a place on, by which of them aren't lost
abbrev pub values_from : CommandId → List Answered → ℕ → List Bool → List (Option (List Value))
values_from c answers k [] = []
values_from c answers k (true ∷ born) = Some (values_answered c answers k) ∷ values_from c answers (k + 1) born
values_from c answers k (false ∷ born) = None ∷ values_from c answers (k + 1) born

-- a handle as a driver gave it, and 0 for a lost one
abbrev pub plain_handle : Option (List Value) → ℕ
plain_handle None = 0
plain_handle (Some values) = first_value values

-- results of a type for which it issues ids get ids; of others the driver's handle goes up
abbrev pub terminator_results : Terminator → Option Key → Option ObjectType → List (Option (List Value)) → IssuedAll (List Value)
terminator_results m k None values = record { results = map plain_handle values; ids = m }
terminator_results m k (Some t) values = if is_wrapped t then record { results = map plain_handle values; ids = m } else issue_all m k t 0 values

-- replies, by the call as it stood above the terminator, and by which results aren't lost
abbrev pub terminator_leave : Terminator → CallContent → List Answered → List Bool → IssuedAll (List Value)
terminator_leave m c answers born =
    terminator_results m (key_read c.cmd c.payload (read_call c) (row_of c.cmd).effect) (type_made (row_of c.cmd).effect) (values_from c.cmd answers 0 born)
