-- A begin at a device's lock.
use Rattle.std.proofs.Common.{◌≡◌, ◌≤◌, ◌<◌, ◌+◌, ◌==◌, ◌^◌, ℕ, suc, rules, find, Bool, true, false, cond, not, ◌||◌, Option, Some, List, [], ◌∷◌, ◌++◌, length, map, reverse, refl, sym, ◌∙◌, ap, subst, arith}
use Rattle.std.specs.Prelude.{slice_get, slice_set, vec_capacity}
use Rattle.std.specs.List.{AllByRecursion, list_any}
use Rattle.std.proofs.lemmas.Bool.{eq-eqb}
use Rattle.std.proofs.lemmas.List.{append-nil, length-map, reverse-append}
use Rattle.std.proofs.lemmas.List.Sums.{sum_by-cons}
use Rattle.trace_format.specs.declared.event.Name.{Name}
use Rattle.atomic_table.specs.Seated.{TableId}
use Rattle.command_tables.specs.Calls.{CallContent, DriverCallContent, HasRoomFor, call_content}
use Rattle.command_tables.specs.Handles.{count_in}
use Rattle.command_tables.specs.Tests.{same_command, same_type}
use Rattle.command_tables.specs.Table.{row_of}
use Rattle.command_tables.specs.declared.call.LayerCall.{LayerCall}
use Rattle.command_tables.specs.declared.types.CommandId.{CommandId}
use Rattle.command_tables.specs.declared.types.CommandId.TheVariants as cmd
use Rattle.stream_log.specs.Log.{last_from, last_time, line}
use Rattle.stream_log.specs.declared.line.Line.{Line}
use Rattle.trace_format.specs.Content.{Arg, BeginEvent, TraceEvent, Begin}
use Rattle.terminator.specs.Calls.{drivers_for, targets_of}
use Rattle.model_driver.specs.Driver.{HasShape}
use Rattle.layer_model.specs.Ids.{IdMap}
use Rattle.layer_model.specs.Terminator.{told_call}
use Rattle.object_model.specs.Values.{Value}
use Rattle.replay_model.specs.Past.{Opened, is_skipped}
use Rattle.session_model.specs.Beginning.{begun_kept}
use Rattle.stream_model.specs.FileParts.{StreamPart}
use Rattle.stream_model.specs.Order.{is_on_no_device}
use Rattle.session_parts.specs.declared.parts.SessionParts.{SessionParts}
use Rattle.session_parts.specs.Entering.{CanEnter, Enters}
use Rattle.shard_model.specs.Followed.{Follows, IsNextStep, begins_in, next_event}
use Rattle.shard_model.specs.Replays.{IsOnInstance, IsReplay, NoneOf, OpenStep, Tells, is_step_of, open_step, told_by}
use Rattle.shard_room.specs.Needs.{IsWithin, IsWithinAt, names_at, names_in}
use Rattle.shard_room.specs.Room.{HasPlanRoom}
use Rattle.shard_start.specs.Starting.{ArePairs, IsOnDevice, IsPassedOn, events_in}
use Rattle.device_shard.specs.declared.lane.Lane.{Lane}
use Rattle.device_shard.specs.Lanes.{EntersOne}
use Rattle.device_shard.specs.Shards.{IsLane, IsSentFor, IsShard, KeepsCall, KeepsLast, LaneHasRoom, ShardKept, ShardName, due_to, last_made, sum_lanes, threads_of, to_come}
use Rattle.device_shard.specs.Steps.{HasRoomForBegin, IsToldOf}
use Rattle.device_shard.specs.Turns.{CanBegin, HasBegun, IsNextAt, begun_then}
use Rattle.device_shard.proofs.Beside.{LaneAt, lane_at, lanes_set, sum_set}
use Rattle.device_shard.proofs.Given.{MayBegin, OneDriver, PartsStay, Passed, ReplaysBegin, RoomEnters, RoomStays, TellsBegin, ThreadStays}
use Rattle.device_shard.proofs.Lists.{all_at, all_set, among, part_fits, within}
use Rattle.device_shard.proofs.Others.{beside_more, lane_stays}
use Rattle.device_shard.proofs.Past.{step_more}
use Rattle.device_shard.proofs.Planned.{due_at_begin, last_before, less_to_come, next_at}
use Rattle.device_shard.proofs.Sent.{held_code, told_all}
use Rattle.device_shard.proofs.Steps.{next_turned, steps_of}
use Rattle.device_shard.proofs.Told.{begin_gapped}

-- a call on a device doesn't make the instance, nor does it ask each driver for one
abbrev is_apart : CommandId → CommandId → Bool
is_apart c other = is_on_no_device (row_of c).params || not (same_command c other)

apart_instance : (c : CommandId) → is_apart c cmd.CreateInstance ≡ true
unfolding row_of same_command same_type
apart_instance c = search rules

apart_devices : (c : CommandId) → is_apart c cmd.EnumeratePhysicalDevices ≡ true
unfolding row_of same_command same_type
apart_devices c = search rules

other_command : (a b : Bool) → (a || not b) ≡ true → a ≡ false → b ≡ false
other_command false false apart on = refl
other_command false true apart on = cc apart
other_command true b apart on = cc on

pub made_on : (c : CommandId) → is_on_no_device (row_of c).params ≡ false → same_command c cmd.CreateInstance ≡ false
made_on c on = other_command (is_on_no_device (row_of c).params) (same_command c cmd.CreateInstance) (apart_instance c) on

asked_on : (c : CommandId) → is_on_no_device (row_of c).params ≡ false → same_command c cmd.EnumeratePhysicalDevices ≡ false
asked_on c on = other_command (is_on_no_device (row_of c).params) (same_command c cmd.EnumeratePhysicalDevices) (apart_devices c) on

-- each driver is asked for the results of the begin
all_asked : (b : BeginEvent) (call : CallContent) (ids : IdMap (List Value)) → IsPassedOn b call → IsOnDevice (Begin b) → (drivers : List ℕ) → AllByRecursion (λ (c : DriverCallContent). c.asked ≡ length b.results) (map (told_call ids call) drivers)
all_asked b call ids passed on [] = tt
all_asked b call ids passed on (d ∷ drivers) =
    let plain : same_command call.cmd cmd.EnumeratePhysicalDevices ≡ false = ap (λ c. same_command c cmd.EnumeratePhysicalDevices) passed.cmd ∙ asked_on b.cmd on in
    (ap (λ (u : Bool). cond u 1 call.asked) plain ∙ passed.asked, all_asked b call ids passed on drivers)

-- the list with one entry more, from the newest on
pub turned_more : (list : List Line) (e : Line) → reverse (list ++ e ∷ []) ≡ e ∷ reverse list
turned_more list e = reverse-append list (e ∷ [])

pub last_pushed : (n : ℕ) (list : List Line) (e : Line) → last_from n (list ++ e ∷ []) ≡ e.time
last_pushed n [] e = refl
last_pushed n (x ∷ list) e = last_pushed x.time list e

-- as many handles as names
same_count : (lists : List (List ℕ)) (args : List Arg) → map (λ (hs : List ℕ). length hs) lists ≡ map (λ a. length a.names) args → count_in lists ≡ names_in (map (λ a. a.names) args)
same_count [] [] same = refl
same_count [] (a ∷ args) same = cc same
same_count (hs ∷ lists) [] same = cc same
same_count (hs ∷ lists) (a ∷ args) same =
    let first : length hs ≡ length a.names = cc same in
    let rest = same_count lists args (cc same) in
    sum_by-cons (λ (ns : List ℕ). length ns) hs lists ∙ (ap (λ n. n + count_in lists) first ∙ (ap (λ n. length a.names + n) rest ∙ sym (sum_by-cons (λ (ns : List (Option Name)). length ns) a.names (map (λ c. c.names) args))))

module _ (n : ShardName) (counts : TableId) (x : ShardKept) (is : IsShard n counts x) (b : BeginEvent) (i : ℕ) (s : StreamPart) (comes : IsNextAt n x.owner.list b.thread (Begin b) i s) where
  abbrev entries : List Line
  entries = reverse x.owner.list

  abbrev streams : List StreamPart
  streams = n.plan.streams

  abbrev IsKept : StreamPart → Lane → Type 0
  IsKept = IsLane n.start streams x.owner.list is.opens

  pub mine : LaneAt IsKept x.lanes i s
  mine = lane_at IsKept streams x.lanes i s is.lanes comes.here

  event_here : slice_get s.events mine.lane.steps ≡ Some (Begin b)
  event_here = next_at streams i s b.thread x.owner.list mine.lane.steps (Begin b) is.starts.distinct comes.here comes.own mine.holds.steps comes.next

  pairs : ArePairs s.events
  pairs = all_at (λ (p : StreamPart). ArePairs p.events) streams i s is.starts.pairs comes.here

  turned : next_event streams b.thread entries ≡ Some (Begin b)
  turned = next_turned streams b.thread x.owner.list ∙ comes.next

  none : NoneOf b.thread is.opens
  none = subst (λ t. NoneOf t is.opens) comes.own (
      last_before (KeepsLast n.start streams x.owner.list is.opens s.thread mine.lane) (NoneOf s.thread is.opens) s mine.lane.steps b pairs event_here (λ k. k) (λ t k. k) mine.holds.last
      )

  on_device : IsOnDevice (Begin b)
  on_device = all_at IsOnDevice s.events mine.lane.steps (Begin b) (all_at (λ (p : StreamPart). AllByRecursion IsOnDevice p.events) streams i s is.starts.on_device comes.here) event_here

  on_instance : IsOnInstance b
  on_instance = made_on b.cmd on_device

  needed : IsWithin is.needs b
  needed = all_at (IsWithinAt is.needs) s.events mine.lane.steps (Begin b) (all_at (λ (p : StreamPart). AllByRecursion (IsWithinAt is.needs) p.events) streams i s is.within comes.here) event_here

  one_of : list_any (λ t. b.thread == t) (threads_of streams) ≡ true
  one_of = subst (λ u. list_any (λ t. u == t) (threads_of streams) ≡ true) comes.own (among (λ (p : StreamPart). p.thread) streams i s comes.here)

  number : x.calls + 1 ≡ n.start.calls + begins_in entries + 1
  number = ap (λ k. k + 1) is.calls

  pub can_enter : MayBegin → CanEnter x.parts (x.calls + 1) b
  can_enter may =
      subst (λ k. CanEnter x.parts k b) (sym number) (
      may n.start streams entries x.parts is.opens b is.starts.setup is.starts.events is.starts.replies is.starts.stands (begin_gapped n.start streams is.starts entries b is.follows turned) is.replay is.follows on_instance
      )

  pub few_steps : mine.lane.steps < 2 ^ 32
  few_steps =
      let far = within s.events mine.lane.steps (Begin b) event_here in
      let all : length s.events ≤ events_in streams = part_fits (λ (p : StreamPart). p.events) streams i s comes.here in
      let few = is.starts.few in
      omega (arith, far, all, few)

  -- what it can be
  fits_body : (body : LayerCall) (call : CallContent) → IsPassedOn b call → HasRoomForBegin body b → HasRoomFor body call
  fits_body body call passed has =
      let args : length call.args ≡ length b.args = sym (length-map call.args (λ (hs : List ℕ). length hs)) ∙ (ap length passed.sizes ∙ length-map b.args (λ a. length a.names)) in
      let handles : count_in call.args ≡ names_in (names_at b) = same_count call.args b.args passed.sizes in
      let bytes = ap length passed.bytes in
      let slots = has.handles.slots in
      let room = has.handles.room in
      let payload = has.bytes in
      record { handles = record { slots = omega (arith, args, slots); room = omega (arith, handles, room) }; bytes = omega (arith, bytes, payload) }

  enters_one : OneDriver → Passed → (body : LayerCall) → HasRoomForBegin body b → EntersOne x.parts (x.calls + 1) (Begin b) body
  enters_one single passes body has call held verdict y enters goes =
      let so = subst (λ k. Enters x.parts k b call held verdict y) number enters in (
        single n.start streams entries x.parts y is.opens b call held verdict is.starts is.replay is.follows turned none on_device so goes,
        fits_body body call (passes n.start streams entries x.parts y is.opens b call held verdict is.starts is.replay is.follows turned none on_device so goes) has,
      )

  pub can : MayBegin → RoomEnters → OneDriver → Passed → CanBegin x b i mine.lane
  can may room single passes =
      let far = within s.events mine.lane.steps (Begin b) event_here in
      let have = is.entries in
      let few = is.few in
      let some : 1 ≤ sum_lanes to_come streams x.lanes = some_to_come far in
      record {
        at = mine.at;
        steps = few_steps;
        can = can_enter may;
        room = room is.needs (threads_of streams) (sum_lanes due_to streams x.lanes) x.parts (x.calls + 1) b mine.lane.call mine.lane.held (vec_capacity mine.lane.verdict.findings) is.room
            (all_at (LaneHasRoom is.needs (length x.parts.states.kept)) x.lanes i mine.lane is.lane_room mine.at) needed one_of (can_enter may);
        one = enters_one single passes;
        entries = omega (arith, some, have);
        calls = omega (arith, some, few);
      }
    where
      some_to_come : mine.lane.steps < length s.events → 1 ≤ sum_lanes to_come streams x.lanes
      some_to_come far =
          let next : Lane = record mine.lane { steps = mine.lane.steps + 1 } in
          let set = sum_set to_come streams x.lanes i s mine.lane next comes.here mine.at in
          let less = less_to_come s mine.lane next (Begin b) event_here refl in
          omega (arith, set, less)

  -- what it makes of the lane
  module _ (new : Lane) (y : SessionParts) (has : HasBegun x b i mine.lane new y) where
    enters_so : Enters x.parts (n.start.calls + begins_in entries + 1) b (call_content new.call) new.held new.verdict y
    enters_so = subst (λ k. Enters x.parts k b (call_content new.call) new.held new.verdict y) number has.enters

    pub told : TellsBegin → Tells n.start streams entries b new.verdict.skip (told_by y (call_content new.call) new.verdict.skip)
    told tells = tells n.start streams entries x.parts y is.opens b (call_content new.call) new.held new.verdict is.replay is.follows turned on_instance none enters_so

    pub sent_so : MayBegin → Passed → new.verdict.skip ≡ false → AllByRecursion (IsToldOf b) (told_by y (call_content new.call) new.verdict.skip)
    sent_so may passes goes =
        let call : CallContent = call_content new.call in
        let passed = passes n.start streams entries x.parts y is.opens b call new.held new.verdict is.starts is.replay is.follows turned none on_device enters_so goes in
        let can : CanEnter x.parts (x.calls + 1) b = can_enter may in
        let entered = has.enters can.setup can.kept can.shows can.counted can.allowed in
        let o : Opened = (begun_kept can.setup can.kept b).opened in
        let sends : is_skipped o ≡ false = sym entered.leaves.skips ∙ goes in
        let code : call.code ≡ b.code = ap (λ (c : CallContent). c.code) (entered.leaves.bottom sends) ∙ (held_code can.kept b o ∙ entered.leaves.code) in
        let plain : same_command call.cmd cmd.EnumeratePhysicalDevices ≡ false = ap (λ c. same_command c cmd.EnumeratePhysicalDevices) passed.cmd ∙ asked_on b.cmd on_device in
        let shapes : AllByRecursion HasShape (targets_of y.terminator call) = subst (λ (cs : List DriverCallContent). AllByRecursion HasShape cs) (sym (entered.told goes)) can.steps.shapes in
        subst (λ (u : Bool). AllByRecursion (IsToldOf b) (cond u [] (targets_of y.terminator call))) (sym goes) (told_all b call y.terminator.ids passed code plain (drivers_for y.terminator call) shapes)

    abbrev added : OpenStep
    added = open_step b (call_content new.call) new.held new.verdict y

    comes_less : suc (sum_lanes to_come streams (slice_set x.lanes i new)) ≡ sum_lanes to_come streams x.lanes
    comes_less =
        let set = sum_set to_come streams x.lanes i s mine.lane new comes.here mine.at in
        let less = less_to_come s mine.lane new (Begin b) event_here has.steps in
        omega (arith, set, less)

    due_same : sum_lanes due_to streams (slice_set x.lanes i new) ≡ sum_lanes due_to streams x.lanes
    due_same =
        let set = sum_set due_to streams x.lanes i s mine.lane new comes.here mine.at in
        let same = due_at_begin s mine.lane new b pairs event_here has.steps in
        omega (arith, set, same)

    module _ (time : ℕ) (later : last_time x.owner.list < time) (tells : TellsBegin) (single : OneDriver) (passes : Passed) where
      abbrev entry : Line
      entry = line b.thread time true []

      passed_on : added.skip ≡ false → IsPassedOn b (call_content new.call)
      passed_on goes = passes n.start streams entries x.parts y is.opens b (call_content new.call) new.held new.verdict is.starts is.replay is.follows turned none on_device enters_so goes

      sent : added.skip ≡ false → IsSentFor b added
      sent goes =
          let driver = single n.start streams entries x.parts y is.opens b (call_content new.call) new.held new.verdict is.starts is.replay is.follows turned none on_device enters_so goes in
          let all : added.told ≡ targets_of y.terminator (call_content new.call) = ap (λ (u : Bool). cond u [] (targets_of y.terminator (call_content new.call))) goes in
          record {
            one = ap length all ∙ (length-map (drivers_for y.terminator (call_content new.call)) (told_call y.terminator.ids (call_content new.call)) ∙ driver);
            asks = subst (λ (cs : List DriverCallContent). AllByRecursion (λ (c : DriverCallContent). c.asked ≡ length b.results) cs) (sym all)
                (all_asked b (call_content new.call) y.terminator.ids (passed_on goes) on_device (drivers_for y.terminator (call_content new.call)));
            passed = passed_on goes;
          }

      keeps : KeepsCall n.start streams (x.owner.list ++ entry ∷ []) (added ∷ is.opens) b.thread new b
      keeps =
          record {
            step = added;
            found = ap (λ (u : Bool). cond u (Some added) (find (is_step_of b.thread) is.opens)) (eq-eqb b.thread b.thread refl);
            begins = refl;
            call = refl;
            held = refl;
            skip = refl;
            before = x.owner.list;
            entry = entry;
            own = refl;
            later = [];
            past = sym (append-nil (x.owner.list ++ entry ∷ []));
            apart = refl;
            came = turned;
            tells = told tells;
            silent = λ stops. ap (λ (u : Bool). cond u [] (targets_of y.terminator (call_content new.call))) stops;
            sent = sent;
          }

      new_lane : IsLane n.start streams (x.owner.list ++ entry ∷ []) (added ∷ is.opens) s new
      new_lane =
          let far = within s.events mine.lane.steps (Begin b) event_here in
          let more = has.steps in
          let step : steps_of s.thread (x.owner.list ++ entry ∷ []) ≡ suc (steps_of s.thread x.owner.list) = step_more s.thread x.owner.list entry (eq-eqb b.thread s.thread (sym comes.own)) in
          let was = mine.holds.steps in
          let next : new.steps ≡ suc mine.lane.steps = omega (arith, more) in
          record {
            steps = omega (arith, more, step, was);
            made = omega (arith, far, more);
            last = subst (λ (o : Option TraceEvent). KeepsLast n.start streams (x.owner.list ++ entry ∷ []) (added ∷ is.opens) s.thread new o) (sym (ap (last_made s) next ∙ event_here))
                (subst (λ t. KeepsCall n.start streams (x.owner.list ++ entry ∷ []) (added ∷ is.opens) t new b) (sym comes.own) keeps);
          }

      pub stays : ReplaysBegin → RoomStays → ThreadStays → PartsStay → MayBegin → IsShard n counts (begun_then x b i new y time)
      stays replays room thread parts may =
          let fewer = comes_less in
          let same_due = due_same in
          let few = is.few in
          let have = is.entries in
          let owed = is.results in
          let turn : reverse (x.owner.list ++ entry ∷ []) ≡ entry ∷ entries = turned_more x.owner.list entry in
          let same_parts : length y.states.kept ≡ length x.parts.states.kept = parts x.parts y has.kinds in
          record {
            log = is.log;
            plan = is.plan;
            starts = is.starts;
            follows = subst (Follows streams) (sym turn) (subst (IsNextStep entry) (sym turned) (refl, refl), is.follows);
            opens = added ∷ is.opens;
            apart = (none, is.apart);
            lanes = lanes_set IsKept (IsLane n.start streams (x.owner.list ++ entry ∷ []) (added ∷ is.opens)) streams x.lanes i s new is.lanes comes.here is.starts.distinct
                (lane_stays n.start streams x.owner.list is.opens (added ∷ is.opens) s.thread entry (sym comes.own) (beside_more s.thread added is.opens (sym comes.own))) new_lane;
            replay = subst (λ (es : List Line). IsReplay n.start streams es y (added ∷ is.opens)) (sym turn)
                (replays n.start streams entries x.parts y is.opens b time (call_content new.call) new.held new.verdict is.replay is.follows turned on_instance none enters_so);
            calls = number ∙ (counted ∙ ap (λ es. n.start.calls + begins_in es) (sym turn));
            few = omega (arith, few, fewer);
            kinds = has.kinds ∙ is.kinds;
            clock = is.clock;
            seen = subst (λ k. k ≤ time) (sym (last_pushed 0 x.owner.list entry)) (omega arith);
            spent = refl;
            entries = omega (arith, have, fewer);
            results = omega (arith, owed, same_due);
            needs = is.needs;
            within = is.within;
            room = subst (λ d. HasPlanRoom is.needs (threads_of streams) d y) (sym same_due)
                (room is.needs (threads_of streams) (sum_lanes due_to streams x.lanes) x.parts y (x.calls + 1) b mine.lane.call new.call mine.lane.held new.held 0 mine.lane.verdict new.verdict is.room needed one_of (can_enter may) has.enters has.room);
            lane_room = subst (λ k. AllByRecursion (LaneHasRoom is.needs k) (slice_set x.lanes i new)) (sym same_parts)
                (all_set (LaneHasRoom is.needs (length x.parts.states.kept)) x.lanes i new is.lane_room
                (thread is.needs (length x.parts.states.kept) x.parts y mine.lane.call new.call mine.lane.held new.held mine.lane.verdict new.verdict (all_at (LaneHasRoom is.needs (length x.parts.states.kept)) x.lanes i mine.lane is.lane_room mine.at) has.room));
            result_room = is.result_room;
          }
        where
          counted : n.start.calls + begins_in entries + 1 ≡ n.start.calls + begins_in (entry ∷ entries)
          counted = omega arith
