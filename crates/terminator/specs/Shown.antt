-- What the parts of the terminator say. Source: this project.
use Rattle.std.specs.Prelude.{◌≡◌, ℕ, false, Option, Some, None, List, [], ◌∷◌, ◌++◌, length, map, take, drop}
use Rattle.std.specs.List.{range_with_len}
use Rattle.command_tables.specs.declared.types.Effect.{Effect}
use Rattle.command_tables.specs.declared.types.Effect.TheVariants as eff
use Rattle.command_tables.specs.declared.types.ObjectType.{ObjectType}
use Rattle.command_tables.specs.Table.{ParamSpec}
use Rattle.object_model.specs.declared.Argument.{Argument}
use Rattle.object_model.specs.declared.Routed.{Routed}
use Rattle.object_model.specs.Values.{Answered, Value}
use Rattle.layer_model.specs.Ids.{Key, KeptId, IdMap, IssuedAll, is_bare}
use Rattle.layer_model.specs.Parts.{owner_read}
use Rattle.layer_model.specs.Terminator.{told_params}
use Rattle.model_driver.specs.Driver.{reply_shown}
use Rattle.terminator.specs.Calls.{answered}
use Rattle.terminator.specs.declared.answers.Answers.{Answers}
use Rattle.terminator.specs.declared.receivers.Receivers.{Receivers}
use Rattle.terminator.specs.declared.receivers.Receivers.TheVariants.{All, One}
use Rattle.terminator.specs.declared.key.RetrievedKey.{RetrievedKey}
use Rattle.terminator.specs.declared.entry.KeptEntry.{KeptEntry}

-- the ids that are kept of retrieved objects; and how many further ones, and how many further bytes of their payloads, can be kept with no
-- further memory
pub record KeptState : Type 0 where
  pub ids : List KeptId
  pub spare : ℕ
  pub bytes : ℕ

-- the ids with each driver's values, and the driver behind each id that has one of its own; and how many further ids, how many further
-- values, and how many further bytes of payloads can be held with no further memory
pub record IssuedState : Type 0 where
  pub ids : IdMap (List Value)
  pub routes : List Routed
  pub spare : ℕ
  pub room : ℕ
  pub bytes : ℕ

-- how many bytes of payload are kept with a key
abbrev pub bytes_of : Option Key → ℕ
bytes_of None = 0
bytes_of (Some k) = length k.payload

-- the drivers, in order
abbrev pub drivers_named : Receivers → List ℕ
drivers_named (All count) = range_with_len 0 count
drivers_named (One driver) = driver ∷ []

-- what they answered
abbrev pub answers_in : Answers → List Answered
answers_in a = answered (drivers_named a.receivers) (map reply_shown a.replies.now)

-- a key
abbrev pub key_of : RetrievedKey → Key
key_of k = record { owner = k.owner; ty = k.ty; place = k.place; payload = k.payload.now }

-- a key, where the call retrieves
abbrev pub key_asked : Option RetrievedKey → Option Key
key_asked None = None
key_asked (Some k) = Some (key_of k)

-- the objects of a key are of this type
abbrev pub IsKeyOf : ObjectType → Option Key → Type 0
IsKeyOf t None = Unit {0}
IsKeyOf t (Some k) = k.ty ≡ t

-- a kept id, with its payload among those of all
abbrev pub kept_of : List ℕ → KeptEntry → KeptId
kept_of bytes e = record { key = record { owner = e.owner; ty = e.ty; place = e.place; payload = take e.len (drop e.start bytes) }; id = e.id }

-- by what a call of an effect retrieves, but for the place in the answer
abbrev pub key_named : List ℕ → List (List Argument) → Effect → Option Key
key_named payload args (eff.Retrieve t owner many) = Some (record { owner = owner_read args owner; ty = t; place = 0; payload = payload })
key_named payload args _ = None

-- the first so many handles are replaced
abbrev pub told_so_far : (ℕ → ℕ) → ℕ → List ℕ → List ℕ
told_so_far f k xs = map f (take k xs) ++ drop k xs

-- the first so many parameters are told
abbrev pub params_so_far : IdMap (List Value) → ℕ → ℕ → List ParamSpec → List (List ℕ) → List (List ℕ)
params_so_far m driver p params lists = told_params m driver (take p params) (take p lists) ++ drop p lists

-- results that stand in front of what was issued
abbrev pub issued_behind : List ℕ → IssuedAll (List Value) → IssuedAll (List Value)
issued_behind front all = record { results = front ++ all.results; ids = all.ids }

-- what a command makes, if anything, is of a type for which no ids are issued
pub record IsPlain (made : Option ObjectType) : Type 0 where
  pub wrapped : (t : ObjectType) → made ≡ Some t → is_bare t ≡ false
