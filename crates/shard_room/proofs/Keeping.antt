-- Room for what is due: for fewer results, when some have come, and in what a thread keeps.
use Rattle.std.proofs.Common.{◌≡◌, ◌≤◌, ◌+◌, ℕ, Some, List, [], ◌∷◌, get_or, slice_get, vec_capacity, arith}
use Rattle.std.proofs.lemmas.Option.{slice_get-get_or}
use Rattle.command_tables.specs.declared.call.LayerCall.{LayerCall}
use Rattle.lifetime_layer.specs.declared.verdict.Verdict.{Verdict}
use Rattle.layer_model.specs.Walks.{PartState, Threads, Lifetimes, Unique}
use Rattle.dispatch_chain.specs.Forms.{FormRoom, KeepsForms}
use Rattle.dispatch_chain.specs.Holding.{HeldCalls}
use Rattle.session_parts.specs.declared.parts.SessionParts.{SessionParts}
use Rattle.session_parts.specs.Names.{CanKeep, NamesRoom, TakesRoom}
use Rattle.session_parts.specs.Room.{LosesNoRoom}
use Rattle.walk_bounds.specs.Bounds.{HaveBorn}
use Rattle.shard_room.specs.Needs.{Needs}
use Rattle.shard_room.specs.Room.{HasCallRoom, HoldForms}

-- ---- births so far

pub born_more : (few most : ℕ) (states : List PartState) → few ≤ most → HaveBorn few states → HaveBorn most states
born_more few most [] more born = tt
born_more few most (Threads m ∷ states) more born = let had = born.0 in (omega (arith, had, more), born_more few most states more born.1)
born_more few most (Lifetimes m ∷ states) more born = born_more few most states more born
born_more few most (Unique m ∷ states) more born = born_more few most states more born

-- ---- names

-- room for some of them
pub names_fewer : (less due key whole : ℕ) (room : NamesRoom) → less ≤ due → key ≤ whole → CanKeep due whole room → CanKeep less key room
names_fewer less due key whole room fewer short can =
    let had = can.settle in
    record {
      settle = record {
        names = omega (arith, had.names, fewer);
        births = omega (arith, had.births, fewer);
        links = omega (arith, had.links, fewer);
        owners = had.owners;
        retrieved = omega (arith, had.retrieved, fewer);
        bytes = omega (arith, had.bytes, short);
      };
      handed = omega (arith, can.handed, fewer);
    }

-- what is left where some took theirs
pub names_left : (due many rest whole key left : ℕ) (old new : NamesRoom) → many + rest ≤ due → key + left ≤ whole → CanKeep due whole old → TakesRoom many key old new → CanKeep rest left new
names_left due many rest whole key left old new fewer short can takes =
    let had = can.settle in
    record {
      settle = record {
        names = omega (arith, had.names, takes.names, fewer);
        births = omega (arith, had.births, takes.births, fewer);
        links = omega (arith, had.links, takes.links, fewer);
        owners = omega (arith, had.owners, takes.owners);
        retrieved = omega (arith, had.retrieved, takes.retrieved, fewer);
        bytes = omega (arith, had.bytes, takes.bytes, short);
      };
      handed = omega (arith, can.handed, takes.handed, fewer);
    }

-- ---- what a thread keeps

forms_stay : (n : Needs) (parts : ℕ) (old new : List FormRoom) → KeepsForms old new → HoldForms n parts old → HoldForms n parts new
forms_stay n parts old new keep hold = record {
  count = omega (arith, hold.count, keep.count);
  each = λ i r less at.
      let was : slice_get old i ≡ Some (get_or old i r) = slice_get-get_or old i r (omega (arith, less, hold.count)) in
      let fits = hold.each i (get_or old i r) less was in
      let more = keep.each i (get_or old i r) r was at in
      let slots = fits.0 in
      let handles = fits.1.0 in
      let bytes = fits.1.1 in
      (omega (arith, slots, more.slots), (omega (arith, handles, more.handles), omega (arith, bytes, more.bytes)));
}

pub thread_stays : (n : Needs) (parts : ℕ) (x y : SessionParts) (call below : LayerCall) (held after : HeldCalls) (before verdict : Verdict) → HasCallRoom n parts call held (vec_capacity before.findings)
    → LosesNoRoom x call held before y below after verdict → HasCallRoom n parts below after (vec_capacity verdict.findings)
thread_stays n parts x y call below held after before verdict room lost = record {
  handles = record { slots = omega (arith, room.handles.slots, lost.form.slots); room = omega (arith, room.handles.room, lost.form.handles) };
  bytes = omega (arith, room.bytes, lost.form.bytes);
  held = forms_stay n parts held.rooms after.rooms lost.held room.held;
  first = omega (arith, room.first, lost.findings);
  found = omega (arith, room.found, lost.findings);
}
