-- What each part of a chain keeps, what it finds at a call or makes of it, and what results change.
-- Source: Khronos validation layers (object lifetimes, thread safety, unique objects); the rules are those of histories of pairs.
use Rattle.std.specs.Prelude.{ℕ, not, if◌then◌else◌, ◌==◌, Option, Some, None, List, [], ◌∷◌, ◌++◌, map, filter, unwrap_or}
use Rattle.command_tables.specs.declared.types.CommandId.{CommandId}
use Rattle.command_tables.specs.declared.types.ObjectType.{ObjectType}
use Rattle.command_tables.specs.declared.types.OwnerOf.{OwnerOf}
use Rattle.command_tables.specs.declared.types.OwnerOf.TheVariants as of
use Rattle.command_tables.specs.declared.types.Effect.{Effect}
use Rattle.command_tables.specs.declared.types.Effect.TheVariants as eff
use Rattle.object_model.specs.declared.Object.{Object}
use Rattle.object_model.specs.declared.Argument.{Argument}
use Rattle.command_tables.specs.Calls.{CallContent}
use Rattle.command_tables.specs.Table.{ParamSpec, row_of}
use Rattle.command_tables.specs.Effects.{type_made}
use Rattle.object_model.specs.Objects.{is_in, first_in}
use Rattle.object_model.specs.History.{Birth, births_given, ends_by}
use Rattle.object_model.specs.Rules.{Failure, failures_in}
use Rattle.object_model.specs.Uses.{InUse, uses_in, overlaps_in}
use Rattle.object_model.specs.Keys.{key_payload}
use Rattle.layer_model.specs.Ids.{is_wrapped, Key, IdMap, IssuedAll, issue_all}
use Rattle.handle_map.specs.Pairs.{values_of}
use Rattle.layer_model.specs.Reading.{read_call}

-- ---- a lifetimes part

-- all births with their owners, and what lives
pub record LifeModel : Type 0 where
  pub births : List Birth
  pub living : List Object

-- what it finds at a call
abbrev pub life_failures : LifeModel → CommandId → List (List Argument) → List Failure
life_failures m c args = failures_in m.births (is_in m.living) c args

-- what lives on after a call that isn't skipped
abbrev pub living_on : List Birth → List Object → CommandId → List (List Argument) → List Object
living_on births living c args = filter (λ x. not (ends_by births args (row_of c).effect x)) living

-- a call that it lets pass
abbrev pub life_passed : LifeModel → CommandId → List (List Argument) → LifeModel
life_passed m c args = record { births = m.births; living = living_on m.births m.living c args }

-- results
abbrev pub life_leave : LifeModel → CommandId → List (List Argument) → List Object → LifeModel
life_leave m c args made =
    let given = births_given m.births args (row_of c).effect made in record { births = m.births ++ given; living = m.living ++ map (λ b. b.object) given }

-- ---- a threads part

-- the same, with the open calls and their uses
pub record UseModel : Type 0 where
  pub births : List Birth
  pub living : List Object
  pub opens : List InUse

-- what it finds at a call
abbrev pub use_failures : UseModel → ℕ → CommandId → List (List Argument) → List Failure
use_failures m thread c args = overlaps_in m.opens m.births (is_in m.living) thread c args

-- a call with its uses; a threads part skips none
abbrev pub use_enter : UseModel → ℕ → ℕ → CommandId → List (List Argument) → UseModel
use_enter m thread number c args =
    record {
      births = m.births;
      living = living_on m.births m.living c args;
      opens = m.opens ++ record { number = number; thread = thread; uses = uses_in m.births (is_in m.living) c args } ∷ [];
    }

-- results
abbrev pub use_leave : UseModel → ℕ → CommandId → List (List Argument) → List Object → UseModel
use_leave m thread c args made =
    let given = births_given m.births args (row_of c).effect made in
    record {
      births = m.births ++ given;
      living = m.living ++ map (λ b. b.object) given;
      opens = filter (λ u. not (u.thread == thread)) m.opens;
    }

-- ---- a unique part

-- the handles below the ids of one parameter; 0 for an unknown one
abbrev pub below_handles : IdMap ℕ → ObjectType → List ℕ → List ℕ
below_handles m t hs = if is_wrapped t then map (λ h. unwrap_or (values_of m.entries t h) 0) hs else hs

-- the same for all parameters
abbrev pub below_params : IdMap ℕ → List ParamSpec → List (List ℕ) → List (List ℕ)
below_params m [] lists = lists
below_params m (p ∷ ps) [] = []
below_params m (p ∷ ps) (hs ∷ lists) = below_handles m p.ty hs ∷ below_params m ps lists

-- the call as it goes on
abbrev pub unique_enter : IdMap ℕ → CallContent → CallContent
unique_enter m c = record c { args = below_params m (row_of c.cmd).params c.args }

-- the owner that an effect names, as a pair
abbrev pub owner_read : List (List Argument) → OwnerOf → Option Object
owner_read args of.Nobody = None
owner_read args (of.Param p) = first_in args p
owner_read args (of.OwnerOfParam p) = None

-- by what a call retrieves, as a key but for the place in the answer
abbrev pub key_read : CommandId → List ℕ → List (List Argument) → Effect → Option Key
key_read c payload args (eff.Retrieve t owner many) = Some (record { owner = owner_read args owner; ty = t; place = 0; payload = key_payload c payload })
key_read c payload args _ = None

-- a result that isn't lost
abbrev pub there : ℕ → Option ℕ
there h = if h == 0 then None else Some h

-- results of a type for which it issues ids get ids; others stay
abbrev pub unique_results : IdMap ℕ → Option Key → Option ObjectType → List ℕ → IssuedAll ℕ
unique_results m k None hs = record { results = hs; ids = m }
unique_results m k (Some t) hs = if is_wrapped t then issue_all m k t 0 (map there hs) else record { results = hs; ids = m }

-- results, by the call as it stood above the part
abbrev pub unique_leave : IdMap ℕ → CallContent → List ℕ → IssuedAll ℕ
unique_leave m c hs = unique_results m (key_read c.cmd c.payload (read_call c) (row_of c.cmd).effect) (type_made (row_of c.cmd).effect) hs
