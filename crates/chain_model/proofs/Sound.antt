-- What holds of the past of an accepted trace.
use Rattle.std.specs.Prelude.{◌≡◌, ◌≤◌, ℕ, true, false, ◌==◌, List, [], ◌∷◌}
use Rattle.std.specs.List.{AllByRecursion}
use Rattle.command_tables.specs.Table.{row_of}
use Rattle.object_model.specs.History.{births, born_in}
use Rattle.object_model.specs.Uses.{in_use}
use Rattle.object_model.specs.Renaming.{renamed, KnowsAll, KnowsArgs}
use Rattle.replay_model.specs.Past.{Opened, Past, history, retrievals, open_calls}
use Rattle.replay_model.specs.ChainPlaces.{seen_past, reaches}
use Rattle.layer_model.specs.Walks.{PartState}
use Rattle.chain_model.proofs.OneByOne.{AreOnce, AreRetrieved}
use Rattle.chain_model.proofs.Passing.{AreTyped, LivesSeen}
use Rattle.chain_model.specs.Tokens.{token_in}

-- what holds of the past of an accepted trace: no object is born twice, whatever is spoken of is born, each place has seen every birth,
-- a lifetimes part of the chain has seen everything live and end, and the open calls have the arguments of their rows
pub record Sound (past : Past) (states : List PartState) : Type 0 where
  pub once : AreOnce (births (history past))
  pub retrieved : AreRetrieved (births (history past)) (retrievals past)
  pub known : (k : ℕ) → KnowsAll (born_in (births (history past))) (seen_past past k)
  pub born : (k : ℕ) → births (seen_past past k) ≡ births (history past)
  pub lives : LivesSeen (seen_past past) (history past) 1 states
  pub open_known : AllByRecursion (λ o. KnowsArgs (born_in (births (history past))) o.args) (open_calls past)
  pub open_typed : AllByRecursion (λ o. AreTyped (row_of o.cmd).params o.args) (open_calls past)

-- beside this call, which goes through all places and has no arguments, no open call has come to a part
pub record IsBeside (o x : Opened) : Type 0 where
  pub own : (x.thread == o.thread) ≡ true → (x ≡ o) × (x.args ≡ []) × ((j : ℕ) → reaches x j ≡ true)
  pub other : (x.thread == o.thread) ≡ false → (j : ℕ) → 1 ≤ j → reaches x j ≡ false

-- nothing was born before, and each part has seen this call open and no other
pub record IsFirst (past : Past) (o : Opened) : Type 0 where
  pub born : births (history past) ≡ []
  pub retrieved : retrievals past ≡ []
  pub opens : (k : ℕ) → 1 ≤ k → in_use (renamed (token_in (births (history past))) (seen_past past k)) ≡ record { number = o.number; thread = o.thread; uses = [] } ∷ []
