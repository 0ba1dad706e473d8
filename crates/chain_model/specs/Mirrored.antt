-- What a part that issues ids keeps, as a plain function of the births, the values and the retrievals of the past. Source: this project.
use Rattle.std.specs.Prelude.{◌≡◌, ℕ, suc, Bool, if◌then◌else◌, Option, List, [], ◌∷◌, map, filter}
use Rattle.std.specs.Option.{option_map}
use Rattle.command_tables.specs.declared.types.ObjectType.{ObjectType}
use Rattle.object_model.specs.declared.Object.{Object}
use Rattle.object_model.specs.History.{Birth}
use Rattle.replay_model.specs.Past.{Retrieval}
use Rattle.layer_model.specs.Ids.{Key, KeptId, IdMap}
use Rattle.handle_map.specs.Pairs.{MapEntry}
use Rattle.chain_model.specs.Tokens.{number_in, token_in}

-- one entry for each birth of these types, in their order, numbered from n on, with these values
abbrev pub entries_from : {V : Type 0} → (ObjectType → Bool) → (Object → V) → ℕ → List Birth → List (MapEntry V)
entries_from issues f n [] = []
entries_from issues f n (b ∷ bs) = if issues b.object.ty then record { ty = b.object.ty; id = n; values = f b.object } ∷ entries_from issues f (suc n) bs else entries_from issues f n bs

-- the key of a retrieved object, with the token of its owner
abbrev pub key_in : List Birth → Option Object → ObjectType → ℕ → List ℕ → Key
key_in bs owner t place payload = record { owner = option_map (token_in bs) owner; ty = t; place = place; payload = payload }

-- a retrieved object with its key and its id
abbrev pub kept_in : List Birth → Retrieval → KeptId
kept_in bs r = record { key = key_in bs r.owner r.object.ty r.place r.payload; id = number_in bs r.object }

-- the retrieved objects of these types with their ids
abbrev pub kept_from : (ObjectType → Bool) → List Birth → List Retrieval → List KeptId
kept_from issues bs rs = map (kept_in bs) (filter (λ r. issues r.object.ty) rs)

-- a part keeps the ids of all births of these types, with these values
pub record Mirrors (V : Type 0) (issues : ObjectType → Bool) (f : Object → V) (bs : List Birth) (rs : List Retrieval) (m : IdMap V) : Type 0 where
  pub entries : m.entries ≡ entries_from issues f 1 bs
  pub kept : m.kept ≡ kept_from issues bs rs

-- ---- results one by one
