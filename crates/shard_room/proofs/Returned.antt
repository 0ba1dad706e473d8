-- Room for a return, and the room of a plan behind it.
use Rattle.std.proofs.Common.{◌≡◌, ◌≤◌, ◌+◌, ◌*◌, ℕ, Bool, true, false, Some, List, length, slice_get, refl, ap, sym, subst, arith}
use Rattle.std.proofs.lemmas.Nat.{mul-le}
use Rattle.command_tables.specs.Calls.{CallContent, ReplyContent}
use Rattle.command_tables.specs.Table.{row_of}
use Rattle.trace_format.specs.Content.{BeginEvent}
use Rattle.trace_format.specs.declared.event.Name.{Name}
use Rattle.object_model.specs.Keys.{key_payload}
use Rattle.layer_model.specs.Walks.{PartState, leave_parts}
use Rattle.terminator.specs.Calls.{TerminatorState, drivers_for}
use Rattle.terminator.specs.Room.{HasRoomForResults, bytes_with}
use Rattle.dispatch_chain.specs.Holding.{HeldCalls}
use Rattle.dispatch_chain.specs.Room.{AllHaveBirths, PartRoom}
use Rattle.dispatch_chain.specs.Seats.{kinds_of}
use Rattle.session_tables.specs.Lined.{owners_made}
use Rattle.session_parts.specs.declared.parts.SessionParts.{SessionParts}
use Rattle.session_parts.specs.Leaving.{CanLeave, Departed, Leaves, opened_again}
use Rattle.session_parts.specs.Names.{CanKeep, TakesRoom}
use Rattle.session_parts.specs.Room.{HasRoomToComeUp, HasRoomToLeave, TakesResults, TakesResultsWith, key_bytes}
use Rattle.walk_bounds.specs.Bounds.{AllHaveUses, AllLight, HaveBorn, uses_together}
use Rattle.shard_room.specs.Needs.{IsWithin, Needs, names_at}
use Rattle.shard_room.specs.Room.{HasLists, HasPlanRoom, IsBelow}
use Rattle.shard_room.proofs.Fitting.{fit_call, lists_stay}
use Rattle.shard_room.proofs.Keeping.{born_more, names_fewer, names_left}
use Rattle.shard_room.proofs.Laws.{BearsFew, LeavesLight}
use Rattle.shard_room.proofs.Results.{returned_by}
use Rattle.shard_room.proofs.Seats.{births_fewer, uses_kinds, uses_rooms}
use Rattle.shard_room.proofs.Sizes.{args_six, bytes_few, key_short}

-- ---- bytes

-- the keys of results have no more bytes than a call of these needs
key_within : (n : Needs) (b : BeginEvent) → IsWithin n b → length (key_payload b.cmd b.payload) ≤ n.bytes
key_within n b within = let short = key_short b.cmd b.payload in omega (arith, short, within.bytes)

-- nor has what is kept with them at the chain's end
bytes_within : (n : Needs) (b : BeginEvent) (call : CallContent) (x : SessionParts) → IsWithin n b → IsBelow b call x → bytes_with call ≤ n.bytes
bytes_within n b call x within below =
    let few = bytes_few call in
    let same = ap (λ (p : List ℕ). length p) below.bytes in
    omega (arith, few, same, within.bytes)

-- ---- room for a return

module _ (n : Needs) (threads : List ℕ) (due : ℕ) (x : SessionParts) (b : BeginEvent) (call : CallContent) (plan : HasPlanRoom n threads due x) (within : IsWithin n b) (mine : length b.results ≤ due) where
  keys_fit : key_bytes (opened_again x b call) (length b.results) ≤ due * n.bytes
  keys_fit = mul-le (length b.results) (length (key_payload b.cmd b.payload)) due n.bytes mine (key_within n b within)

  ends_fit : IsBelow b call x → (hs : List ℕ) → length hs ≡ length b.results → HasRoomForResults x.terminator call hs
  ends_fit below hs same =
      let fewer : length hs ≤ due = omega (arith, same, mine) in
      let one = mul-le (length hs) (length (drivers_for x.terminator call)) due 1 fewer (omega (arith, below.one)) in
      let bytes = mul-le (length hs) (bytes_with call) due n.bytes fewer (bytes_within n b call x within below) in
      record { ids = omega (arith, fewer, plan.ids); values = omega (arith, one, plan.values); bytes = omega (arith, bytes, plan.bytes); few = omega (arith, fewer, plan.few) }

  comes_up : (results : ℕ) → length b.results ≤ results → IsBelow b call x → length (owners_made x.names.kept.births (opened_again x b call).args (row_of b.cmd).effect) ≤ 3 → HasRoomToComeUp x (opened_again x b call) call results
  comes_up results many below owners = record {
    owners = owners;
    names = names_fewer (length b.results) due (key_bytes (opened_again x b call) (length b.results)) (due * n.bytes) x.names.room mine keys_fit plan.names;
    parts = births_fewer (length b.results) due x.states.rooms mine plan.births;
    ends = ends_fit below;
    results = many;
  }

pub leaves_so : (n : Needs) (threads : List ℕ) (due : ℕ) (x : SessionParts) (b : BeginEvent) (call : CallContent) (skip : Bool) (results : ℕ) → HasPlanRoom n threads due x → IsWithin n b → length b.results ≤ due
    → length b.results ≤ results → (skip ≡ false → IsBelow b call x) → (skip ≡ false → length (owners_made x.names.kept.births (opened_again x b call).args (row_of b.cmd).effect) ≤ 3) → HasRoomToLeave x b call skip results
leaves_so n threads due x b call skip results plan within mine many below owners = record {
  few = omega (arith, mine, plan.few);
  sent = λ goes. (
    fit_call n.wide n.results x.names.room.scratch (names_at b) plan.scratch (args_six n b within) within.wide,
    (omega (arith, within.results, plan.scratch.results), comes_up n threads due x b call plan within mine results many (below goes) (owners goes)),
  );
  lost = λ skipped. (many, births_fewer (length b.results) due x.states.rooms mine plan.births);
}

-- ---- what is kept then

module _ (n : Needs) (threads : List ℕ) (rest : ℕ) (x y : SessionParts) (b : BeginEvent) (call : CallContent) (held : HeldCalls) (skip : Bool) (own : List ReplyContent) (count : ℕ) (plan : HasPlanRoom n threads (length b.results + rest) x)
    (within : IsWithin n b) (can : CanLeave x b call held skip own) (leaves : Leaves x b call held skip own y count) where
  departed : Departed can.setup can.kept can.sent can.form y count
  departed = leaves can.setup can.kept can.sent can.form can.shows can.opens can.stays can.returns

  since : (P : List PartState → Type 0) → ((forms : List CallContent) (hs : List ℕ) → length hs ≤ length b.results → P (leave_parts can.sent.opened.thread x.states.kept forms hs).states) → P y.states.kept
  since P came =
      let same : length can.sent.opened.results ≡ length b.results = ap (λ (names : List Name). length names) can.opens.left.results in
      subst P (sym departed.shows.states)
      (returned_by P can.setup can.kept can.sent can.form can.stays
      (λ forms hs few. subst (λ (states : List PartState). P (leave_parts can.sent.opened.thread states forms hs).states) can.shows.states (came forms hs (omega (arith, few, same)))))

  light_then : LeavesLight → AllLight n.uses threads y.states.kept
  light_then stays = since (λ states. AllLight n.uses threads states) (λ forms hs few. stays n.uses threads can.sent.opened.thread x.states.kept forms hs plan.light)

  born_then : BearsFew → HaveBorn (plan.born.so_far + length b.results) y.states.kept
  born_then bears =
      since (λ states. HaveBorn (plan.born.so_far + length b.results) states)
      (λ forms hs few. born_more (plan.born.so_far + length hs) (plan.born.so_far + length b.results) (leave_parts can.sent.opened.thread x.states.kept forms hs).states (omega (arith, few))
      (bears plan.born.so_far can.sent.opened.thread x.states.kept forms hs plan.born.have))

-- ---- and the room then

-- what the results take: a skipped call has none but in the parts
module _ (n : Needs) (threads : List ℕ) (rest : ℕ) (x y : SessionParts) (b : BeginEvent) (call : CallContent) (skip : Bool) (plan : HasPlanRoom n threads (length b.results + rest) x) (within : IsWithin n b)
    (below : skip ≡ false → IsBelow b call x) (owners : skip ≡ false → length (owners_made x.names.kept.births (opened_again x b call).args (row_of b.cmd).effect) ≤ 3) (takes : TakesResults x (opened_again x b call) call y)
    (none : skip ≡ true → TakesRoom 0 0 x.names.room y.names.room) (ends : skip ≡ true → y.terminator ≡ x.terminator) where
  lists_then : HasLists n.wide n.results y.names.room.scratch
  lists_then = go skip refl
    where
      go : (u : Bool) → skip ≡ u → HasLists n.wide n.results y.names.room.scratch
      go true skipped = lists_stay n.wide n.results x.names.room.scratch y.names.room.scratch (none skipped).scratch plan.scratch
      go false goes = lists_stay n.wide n.results x.names.room.scratch y.names.room.scratch (takes.names (owners goes)).scratch plan.scratch

  names_then : CanKeep rest (rest * n.bytes) y.names.room
  names_then = go skip refl
    where
      keys : key_bytes (opened_again x b call) (length b.results) ≤ length b.results * n.bytes
      keys = mul-le (length b.results) (length (key_payload b.cmd b.payload)) (length b.results) n.bytes (omega arith) (key_within n b within)

      go : (u : Bool) → skip ≡ u → CanKeep rest (rest * n.bytes) y.names.room
      go true skipped = names_left (length b.results + rest) 0 rest ((length b.results + rest) * n.bytes) 0 (rest * n.bytes) x.names.room y.names.room (omega arith) (omega arith) plan.names (none skipped)
      go false goes =
          names_left (length b.results + rest) (length b.results) rest ((length b.results + rest) * n.bytes) (key_bytes (opened_again x b call) (length b.results)) (rest * n.bytes) x.names.room y.names.room
          (omega arith) (omega (arith, keys)) plan.names (takes.names (owners goes))

  births_then : AllHaveBirths rest y.states.rooms
  births_then = takes.births rest (births_fewer (rest + length b.results) (length b.results + rest) x.states.rooms (omega arith) plan.births)

  ids_then : rest ≤ y.terminator.spare
  ids_then = omega (arith, plan.ids, takes.spare)

  values_then : rest ≤ y.terminator.values
  values_then = go skip refl
    where
      go : (u : Bool) → skip ≡ u → rest ≤ y.terminator.values
      go true skipped = let same = ap (λ (t : TerminatorState). t.values) (ends skipped) in omega (arith, plan.values, same)
      go false goes =
          let one = mul-le (length b.results) (length (drivers_for x.terminator call)) (length b.results) 1 (omega arith) (omega (arith, (below goes).one)) in
          omega (arith, plan.values, takes.values, one)

  bytes_then : rest * n.bytes ≤ y.terminator.bytes
  bytes_then = go skip refl
    where
      go : (u : Bool) → skip ≡ u → rest * n.bytes ≤ y.terminator.bytes
      go true skipped = let same = ap (λ (t : TerminatorState). t.bytes) (ends skipped) in omega (arith, plan.bytes, same)
      go false goes =
          let most = mul-le (length b.results) (bytes_with call) (length b.results) n.bytes (omega arith) (bytes_within n b call x within (below goes)) in
          omega (arith, plan.bytes, takes.bytes, most)

-- the room for uses stays, where the parts keep their kinds and none loses any
uses_then : (u : ℕ) (x y : SessionParts) → kinds_of y.states.kept ≡ kinds_of x.states.kept → length y.states.rooms ≡ length x.states.rooms
    → ((i : ℕ) (q r : PartRoom) → slice_get x.states.rooms i ≡ Some q → slice_get y.states.rooms i ≡ Some r → q.uses ≤ r.uses) → AllHaveUses u x.states.kept x.states.rooms → AllHaveUses u y.states.kept y.states.rooms
uses_then u x y kinds count keep have = uses_rooms u y.states.kept x.states.rooms y.states.rooms count keep (uses_kinds u x.states.kept y.states.kept x.states.rooms kinds have)

pub stays_so : LeavesLight → BearsFew → (n : Needs) (threads : List ℕ) (rest : ℕ) (x y : SessionParts) (b : BeginEvent) (call : CallContent) (held : HeldCalls) (skip : Bool) (own : List ReplyContent) (count : ℕ)
    → HasPlanRoom n threads (length b.results + rest) x → IsWithin n b → (skip ≡ false → IsBelow b call x)
    → (skip ≡ false → length (owners_made x.names.kept.births (opened_again x b call).args (row_of b.cmd).effect) ≤ 3)
    → CanLeave x b call held skip own → Leaves x b call held skip own y count → TakesResultsWith x b call skip y → kinds_of y.states.kept ≡ kinds_of x.states.kept → HasPlanRoom n threads rest y
stays_so stays bears n threads rest x y b call held skip own count plan within below owners can leaves takes kinds =
    let room = takes.0 in
    let none : skip ≡ true → TakesRoom 0 0 x.names.room y.names.room = λ skipped. (takes.1 skipped).names in
    let ends : skip ≡ true → y.terminator ≡ x.terminator = λ skipped. (takes.1 skipped).terminator in
    record {
      scratch = lists_then n threads rest x y b call skip plan within below owners room none ends;
      names = names_then n threads rest x y b call skip plan within below owners room none ends;
      births = births_then n threads rest x y b call skip plan within below owners room none ends;
      uses = uses_then (uses_together threads n.uses) x y kinds room.uses.count room.uses.each plan.uses;
      light = light_then n threads rest x y b call held skip own count plan within can leaves stays;
      born = record {
        so_far = plan.born.so_far + length b.results;
        have = born_then n threads rest x y b call held skip own count plan within can leaves bears;
        few = omega (arith, plan.born.few);
      };
      ids = ids_then n threads rest x y b call skip plan within below owners room none ends;
      values = values_then n threads rest x y b call skip plan within below owners room none ends;
      bytes = bytes_then n threads rest x y b call skip plan within below owners room none ends;
      few = omega (arith, plan.few);
    }
