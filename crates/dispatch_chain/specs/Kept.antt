-- What unique parts keep of retrieved objects: each id that is kept was issued, and no two are the same. Source: this project.
use Rattle.std.specs.Prelude.{◌≡◌, ℕ, ◌<◌, ◌≤◌, Bool, true, false, List, [], ◌∷◌, map}
use Rattle.std.specs.Option.{option_map_or}
use Rattle.command_tables.specs.declared.types.CommandId.{CommandId}
use Rattle.command_tables.specs.Effects.{type_made}
use Rattle.command_tables.specs.Table.{row_of}
use Rattle.handle_map.specs.Pairs.{greatest_id}
use Rattle.layer_model.specs.Ids.{IdMap, KeptId, is_wrapped}
use Rattle.layer_model.specs.Reading.{read_made}
use Rattle.layer_model.specs.Walks.{PartState}
use Rattle.layer_model.specs.Walks.{Threads, Lifetimes, Unique}
use Rattle.object_records.specs.Shape.{AreNewOnce}
use Rattle.dispatch_chain.specs.declared.part.Part.{Part}
use Rattle.dispatch_chain.specs.Seats.{kinds_of, seat_of, seats_from, state_of}

-- kept ids rise, from above the one number up to the other
abbrev pub AreRising : ℕ → ℕ → List KeptId → Type 0
AreRising low high [] = Unit {0}
AreRising low high (r ∷ rs) = (low < r.id) × ((r.id ≤ high) × AreRising r.id high rs)

-- the ids that are kept of retrieved objects rise up to the greatest that was issued
abbrev pub IsRising : IdMap ℕ → Type 0
IsRising m = AreRising 0 (greatest_id m.entries) m.kept

-- those that a unique part keeps do
abbrev pub IsKept : PartState → Type 0
IsKept (Threads m) = Unit {0}
IsKept (Lifetimes m) = Unit {0}
IsKept (Unique m) = IsRising m

-- in each of the parts
abbrev pub AllKept : List PartState → Type 0
AllKept [] = Unit {0}
AllKept (s ∷ ss) = IsKept s × AllKept ss

-- parts stand in their places, and what unique ones keep rises
pub record AreInOrder (parts : List Part) : Type 0 where
  pub seats : map seat_of parts ≡ seats_from 1 (kinds_of (map state_of parts))
  pub kept : AllKept (map state_of parts)

-- the command makes or gives objects for which unique parts issue ids
abbrev pub makes_wrapped : CommandId → Bool
makes_wrapped cmd = option_map_or is_wrapped (type_made (row_of cmd).effect) false

-- of results for which no unique part issues ids, no two are the same that are new to a checking part
abbrev pub IsBareOnce : CommandId → List ℕ → PartState → Type 0
IsBareOnce cmd results (Threads m) = makes_wrapped cmd ≡ false → AreNewOnce m.births (read_made (type_made (row_of cmd).effect) results)
IsBareOnce cmd results (Lifetimes m) = makes_wrapped cmd ≡ false → AreNewOnce m.births (read_made (type_made (row_of cmd).effect) results)
IsBareOnce cmd results (Unique m) = Unit {0}

-- to any of the checking parts
abbrev pub AllBareOnce : CommandId → List ℕ → List PartState → Type 0
AllBareOnce cmd results [] = Unit {0}
AllBareOnce cmd results (s ∷ ss) = IsBareOnce cmd results s × AllBareOnce cmd results ss

-- each result is lost
abbrev pub AllLost : List ℕ → Type 0
AllLost [] = Unit {0}
AllLost (h ∷ hs) = (h ≡ 0) × AllLost hs

-- lost results are new once to each checking part
abbrev pub LostAreOnce : Type 0
LostAreOnce = (cmd : CommandId) (hs : List ℕ) (states : List PartState) → AllLost hs → AllBareOnce cmd hs states

-- a single result is
abbrev pub OneIsOnce : Type 0
OneIsOnce = (cmd : CommandId) (h : ℕ) (states : List PartState) → AllBareOnce cmd (h ∷ []) states

-- results for which unique parts issue ids are
abbrev pub WrappedAreOnce : Type 0
WrappedAreOnce = (cmd : CommandId) (hs : List ℕ) (states : List PartState) → makes_wrapped cmd ≡ true → AllBareOnce cmd hs states
