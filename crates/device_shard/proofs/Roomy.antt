-- Room for all calls of a plan.
use Rattle.std.proofs.Common.{◌≡◌, ◌≤◌, ◌+◌, ◌*◌, ℕ, suc, max, Bool, true, Option, Some, None, List, [], ◌∷◌, length, refl, sym, ◌∙◌, ap, subst, arith}
use Rattle.std.specs.Prelude.{vec_capacity, if◌then◌else◌}
use Rattle.std.specs.List.{AllByRecursion}
use Rattle.std.proofs.Math.Nat.{mul-le-mul_left}
use Rattle.std.proofs.lemmas.List.{length-map}
use Rattle.command_tables.specs.Handles.{HasRoom}
use Rattle.command_tables.specs.Table.{row_of}
use Rattle.command_tables.specs.Tests.{same_type}
use Rattle.command_tables.specs.declared.call.LayerCall.{LayerCall}
use Rattle.command_tables.specs.declared.types.CommandId.TheVariants as cmd
use Rattle.object_model.specs.declared.PartKind.{PartKind}
use Rattle.object_model.specs.declared.PartKind.TheVariants as kind
use Rattle.layer_model.specs.Walks.{PartState, intercepts, kind_of}
use Rattle.dispatch_chain.specs.Forms.{AreForms}
use Rattle.dispatch_chain.specs.Holding.{HeldCalls}
use Rattle.dispatch_chain.specs.Room.{AllCanOpen, PartRoom}
use Rattle.dispatch_chain.specs.Rows.{entries_from, entries_of}
use Rattle.dispatch_chain.specs.Seats.{kinds_of}
use Rattle.dispatch_chain.specs.declared.entry.Entry.{Entry}
use Rattle.stream_model.specs.FileParts.{StreamPart}
use Rattle.session_parts.specs.declared.parts.SessionParts.{SessionParts}
use Rattle.session_parts.specs.Parts.{KeepAlike}
use Rattle.chain_session.specs.declared.kept.Kept.{Kept}
use Rattle.chain_session.specs.Splitting.{AreSplit, kinds_in_force}
use Rattle.walk_bounds.specs.Bounds.{AllHaveUses, AllLight, HaveBorn}
use Rattle.shard_room.specs.Needs.{Needs}
use Rattle.shard_room.specs.Room.{HasCallRoom, HasPlanRoom}
use Rattle.device_shard.specs.declared.lane.Lane.{Lane}
use Rattle.device_shard.specs.Making.{results_planned}
use Rattle.device_shard.specs.Rooms.{IsIdle, IsReady, IsReserved, IsStreamWithin, IsUnused}
use Rattle.device_shard.specs.Shards.{threads_of}

-- ---- the parts of a chain

-- a unique part intercepts the command, since it makes a buffer
buffer_made : intercepts kind.Unique cmd.CreateBuffer ≡ true
unfolding row_of same_type
buffer_made = refl

each_intercepts : (place : ℕ) (kinds : List PartKind) → length (entries_from cmd.CreateBuffer place kinds) ≡ length kinds
each_intercepts place [] = refl
each_intercepts place (kind.Threads ∷ kinds) = ap (λ n. suc n) (each_intercepts (place + 1) kinds)
each_intercepts place (kind.Lifetimes ∷ kinds) = ap (λ n. suc n) (each_intercepts (place + 1) kinds)
each_intercepts place (kind.Unique ∷ kinds) =
    let rest : List Entry = entries_from cmd.CreateBuffer (place + 1) kinds in
    ap (λ (b : Bool). length (if b then record { place = place; kind = kind.Unique } ∷ rest else rest)) buffer_made ∙ ap (λ n. suc n) (each_intercepts (place + 1) kinds)

-- all parts intercept it
pub all_intercept : (kinds : List PartKind) → length (entries_of cmd.CreateBuffer kinds) ≡ length kinds
all_intercept kinds = each_intercepts 1 kinds

-- parts that keep what split ones keep are split as well
pub split_still : (k : Option Kept) (x y : SessionParts) → KeepAlike y x → AreSplit k x → AreSplit k y
split_still None x y a s = record { states = a.states ∙ s.states; ids = a.ids ∙ s.ids; routes = a.routes ∙ s.routes; drivers = a.drivers ∙ s.drivers; names = a.names ∙ s.names }
split_still (Some k) x y a s = record { states = a.states ∙ s.states; ids = a.ids ∙ s.ids; routes = a.routes ∙ s.routes; drivers = a.drivers ∙ s.drivers; names = a.names ∙ s.names }

-- ---- room

pub one_value_each : (n drivers values : ℕ) → n * max 1 drivers ≤ values → n ≤ values
one_value_each n drivers values fits =
    let some : 1 ≤ max 1 drivers = omega arith in
    let more : n * 1 ≤ n * max 1 drivers = mul-le-mul_left n some in
    omega (arith, more, fits)

pub call_room : (n : Needs) (parts : ℕ) (call : LayerCall) (held : HeldCalls) (findings found : ℕ) → HasRoom call.args 6 n.args → n.bytes ≤ vec_capacity call.payload → AreForms held.rooms parts n.args n.bytes → found ≡ parts * (3 * n.args) → max found 1 ≤ findings
    → HasCallRoom n parts call held findings
call_room n parts call held findings found handles bytes forms is fits = record {
  handles = handles;
  bytes = bytes;
  held = record { count = forms.count; each = λ i r less at. forms.each i r at };
  first = omega (arith, fits);
  found = omega (arith, is, fits);
}

-- parts for which room was taken, and which are idle, have room for a plan
pub plan_room : (n : Needs) (streams : List StreamPart) (due held : ℕ) (x : SessionParts) → ((uses : ℕ) (states : List PartState) (rooms : List PartRoom) → AllCanOpen uses states rooms → AllHaveUses uses states rooms) → IsReserved n (length streams) due x → n.results ≡ due
    → held + due ≤ n.born → AllLight n.uses (threads_of streams) x.states.kept → HaveBorn held x.states.kept → HasPlanRoom n (threads_of streams) due x
plan_room n streams due held x opens r same few light born = record {
  scratch = record { count = r.scratch.count; each = λ i m low at. r.scratch.each i m at; handles = r.scratch.handles; results = omega (arith, same, r.scratch.results) };
  names = r.names;
  births = r.births;
  uses = subst (λ m. AllHaveUses (m + m * n.uses) x.states.kept x.states.rooms) (sym (length-map streams (λ (s : StreamPart). s.thread))) (opens (length streams + length streams * n.uses) x.states.kept x.states.rooms r.uses);
  light = light;
  born = record { so_far = held; have = born; few = few };
  ids = r.ids;
  values = r.values;
  bytes = r.bytes;
  few = r.few;
}

-- all that a plan starts with
pub is_ready : (k : Option Kept) (streams : List StreamPart) (x y : SessionParts) (lanes : List Lane) (m : Needs) (threads due held parts results : ℕ)
    → ((uses : ℕ) (states : List PartState) (rooms : List PartRoom) → AllCanOpen uses states rooms → AllHaveUses uses states rooms) → IsIdle k held → AreSplit k x → kinds_of x.states.kept ≡ kinds_in_force k → KeepAlike y x → IsReserved m threads due y
    → threads ≡ length streams → due ≡ results_planned streams → m.results ≡ due → m.born ≡ held + due → AllByRecursion (IsStreamWithin m) streams → length lanes ≡ threads → parts ≡ length (kinds_in_force k)
    → AllByRecursion (IsUnused m parts) lanes → due ≤ results → IsReady k streams y lanes results
is_ready k streams x y lanes m threads due held parts results opens idle split kinds alike reserved each planned same born within count all unused fits =
    let now : AreSplit k y = split_still k x y alike split in
    let room : HasPlanRoom m (threads_of streams) due y =
    plan_room m streams due held y opens (subst (λ t. IsReserved m t due y) each reserved) same (omega (arith, born)) (idle.light y m.uses (threads_of streams) now) (idle.born y now) in
    let parts_now : parts ≡ length y.states.kept =
    all ∙ (ap (λ (ks : List PartKind). length ks) (sym kinds) ∙ (length-map x.states.kept kind_of ∙ ap (λ (ss : List PartState). length ss) (sym alike.states))) in
    record {
      split = now;
      needs = m;
      within = within;
      room = subst (λ d. HasPlanRoom m (threads_of streams) d y) planned room;
      count = count ∙ each;
      unused = subst (λ p. AllByRecursion (IsUnused m p) lanes) parts_now unused;
      results = omega (arith, same, fits);
    }
