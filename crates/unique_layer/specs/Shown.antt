-- What a unique part's lists say. Source: this project.
use Rattle.std.specs.Prelude.{ℕ, Option, Some, None, List, [], ◌++◌, map, take, drop, slice_index_or}
use Rattle.command_tables.specs.declared.types.Effect.{Effect}
use Rattle.command_tables.specs.declared.types.Effect.TheVariants as eff
use Rattle.command_tables.specs.Table.{ParamSpec}
use Rattle.object_model.specs.declared.Argument.{Argument}
use Rattle.layer_model.specs.Ids.{Key, KeptId, IdMap, IssuedAll}
use Rattle.layer_model.specs.Parts.{below_params, owner_read}
use Rattle.unique_layer.specs.declared.key.RetrievedKey.{RetrievedKey}
use Rattle.unique_layer.specs.declared.entry.KeptEntry.{KeptEntry}

-- the first value of an entry
abbrev pub first_of : List ℕ → ℕ
first_of values = slice_index_or values 0 0

-- the ids that are kept of retrieved objects, and how many further ones can be kept with no further memory
pub record KeptState : Type 0 where
  pub ids : List KeptId
  pub spare : ℕ

-- the ids of a unique part, and how many objects can still be born to it with no further memory
pub record UniqueKept : Type 0 where
  pub ids : IdMap ℕ
  pub spare : ℕ

-- a key; no payload is part of it
abbrev pub key_of : RetrievedKey → Key
key_of k = record { owner = k.owner; ty = k.ty; place = k.place; payload = [] }

-- a key, where the call retrieves
abbrev pub key_asked : Option RetrievedKey → Option Key
key_asked None = None
key_asked (Some k) = Some (key_of k)

-- a kept id
abbrev pub kept_of : KeptEntry → KeptId
kept_of e = record { key = key_of e.key; id = e.id }

-- by what a call of an effect retrieves, but for the place in the answer and a payload
abbrev pub key_named : List (List Argument) → Effect → Option Key
key_named args (eff.Retrieve t owner many) = Some (record { owner = owner_read args owner; ty = t; place = 0; payload = [] })
key_named args _ = None

-- the first so many handles are replaced
abbrev pub mapped : (ℕ → ℕ) → ℕ → List ℕ → List ℕ
mapped f k xs = map f (take k xs) ++ drop k xs

-- the first so many parameters are replaced
abbrev pub entered : IdMap ℕ → ℕ → List ParamSpec → List (List ℕ) → List (List ℕ)
entered m p params lists = below_params m (take p params) (take p lists) ++ drop p lists

-- results that stand in front of what was issued
abbrev pub issued_onto : List ℕ → IssuedAll ℕ → IssuedAll ℕ
issued_onto front all = record { results = front ++ all.results; ids = all.ids }
