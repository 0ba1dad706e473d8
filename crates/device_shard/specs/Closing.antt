-- What the closed logs of a set say. Source: this project.
use Rattle.std.specs.Prelude.{◌≡◌, ◌+◌, ⊤, ℕ, Bool, nat_lt, Option, Some, Vec, List, [], ◌∷◌, length, map, option_and_then, position, reverse, slice_get}
use Rattle.stream_log.specs.declared.entry.Entry.{Entry}
use Rattle.stream_log.specs.declared.line.Line.{Line}
use Rattle.stream_log.specs.Log.{IsPast, OwnerView, RisesFrom, SeenView, line_of}
use Rattle.trace_format.specs.declared.event.Name.{Name}
use Rattle.trace_format.specs.Accepting.{same_name}
use Rattle.shard_model.specs.Followed.{Follows}
use Rattle.device_shard.specs.Shards.{ShardName}

-- what stands at the place of a device: none for another device
abbrev pub at_device : {X : Type 0} → List Name → List X → Name → Option X
at_device devices xs device = option_and_then (slice_get xs) (position (λ (d : Name). same_name d device) devices)

-- the lists that owners have
abbrev pub lists_of : List OwnerView → List (List Line)
lists_of owners = map (λ (o : OwnerView). o.list) owners

-- the list of a closed log
abbrev pub closed_list : {A : Type 0} → Name × Vec Entry A → List Line
closed_list x = map line_of x.1.items

-- the closed list of a device
abbrev pub closed_in : {A : Type 0} → List (Name × Vec Entry A) → Name → Option (List Line)
closed_in {A} closed device = at_device (map (λ (x : Name × Vec Entry A). x.0) closed) (map (closed_list {A = A}) closed) device

-- there is a list, which begins with what a token has seen, and no later entry is of the token's thread
pub record IsSeenIn (list : Option (List Line)) (t : SeenView) : Type 0 where
  pub whole : List Line
  pub is : list ≡ Some whole
  pub past : IsPast t.thread t.list whole

-- the list follows this plan, and its times rise from above 0
pub record IsClosed (n : ShardName) (list : List Line) : Type 0 where
  pub follows : Follows n.plan.streams (reverse list)
  pub rises : RisesFrom 0 list

-- ---- while it is closed

-- the owner of this plan's log, whose list follows the plan
pub record IsOwnerOf (n : ShardName) (o : OwnerView) : Type 0 where
  pub log : o.log ≡ n.log
  pub follows : Follows n.plan.streams (reverse o.list)

-- fields, from a number on, hold a lock where there is a plan with their number
abbrev pub AreHeldFrom : List ShardName → ℕ → List Bool → Type 0
AreHeldFrom names k [] = ⊤
AreHeldFrom names k (b ∷ held) = (b ≡ nat_lt k (length names)) × AreHeldFrom names (k + 1) held
