-- A return at a device's lock.
use Rattle.std.proofs.Common.{◌≡◌, ◌≤◌, ◌<◌, ◌+◌, ◌^◌, ℕ, suc, Bool, true, false, cond, Option, Some, List, [], ◌∷◌, ◌++◌, length, reverse, refl, sym, ◌∙◌, ap, subst, arith}
use Rattle.std.specs.Prelude.{slice_get, slice_set}
use Rattle.std.specs.List.{AllByRecursion}
use Rattle.std.proofs.lemmas.Bool.{eq-eqb, eqb-true}
use Rattle.std.proofs.lemmas.List.{append_assoc, append-nil, reverse-append}
use Rattle.atomic_table.specs.Seated.{TableId}
use Rattle.command_tables.specs.Calls.{CallContent, DriverCallContent, ReplyContent, call_content}
use Rattle.command_tables.specs.Effects.{succeeds}
use Rattle.command_tables.specs.Table.{row_of}
use Rattle.stream_log.specs.Log.{IsPast, SeenView, last_time, line}
use Rattle.stream_log.specs.declared.line.Line.{Line}
use Rattle.trace_format.specs.Content.{BeginEvent, TraceEvent, Begin, Return}
use Rattle.dispatch_chain.specs.Holding.{HeldCalls}
use Rattle.session_model.specs.Stands.{AreRepliesTo}
use Rattle.session_tables.specs.Lined.{owners_made}
use Rattle.terminator.specs.Calls.{drivers_for}
use Rattle.stream_model.specs.FileParts.{StreamPart}
use Rattle.session_parts.specs.declared.parts.SessionParts.{SessionParts}
use Rattle.session_parts.specs.Leaving.{CanLeave, Leaves, opened_again}
use Rattle.shard_model.specs.Followed.{Follows, IsNextStep, begins_in, next_event}
use Rattle.shard_model.specs.Replies.{handles_of}
use Rattle.shard_model.specs.Replays.{IsOnInstance, IsReplay, Tells, without_step}
use Rattle.shard_model.proofs.Opens.{found_thread}
use Rattle.shard_room.specs.Needs.{IsWithin, IsWithinAt}
use Rattle.shard_room.specs.Room.{HasPlanRoom, IsBelow}
use Rattle.shard_start.specs.Starting.{ArePairs, IsOnDevice, events_in}
use Rattle.device_shard.specs.declared.lane.Lane.{Lane}
use Rattle.device_shard.specs.Lanes.{replies_read}
use Rattle.device_shard.specs.Shards.{IsLane, IsShard, KeepsCall, KeepsLast, LaneHasRoom, ShardKept, ShardName, due_to, last_made, sum_lanes, threads_of, to_come}
use Rattle.device_shard.specs.Steps.{AreResults, IsReplied}
use Rattle.device_shard.specs.Turns.{CanReturn, HasReturned, IsNextAt, results_read, returned_then}
use Rattle.device_shard.proofs.Beginning.{last_pushed, made_on, turned_more}
use Rattle.device_shard.proofs.Beside.{LaneAt, lane_at, lanes_set, sum_set}
use Rattle.device_shard.proofs.Given.{FewOwners, MayReturn, NoneLeft, PartsStay, ReplaysReturn, RoomLeaves, RoomTaken, SameDrivers, StillApart}
use Rattle.device_shard.proofs.Lists.{all_at, all_set, one, part_fits, within}
use Rattle.device_shard.proofs.Others.{beside_less, lane_stays}
use Rattle.device_shard.proofs.Past.{last_alike, step_more}
use Rattle.device_shard.proofs.Planned.{BeginBefore, due_at_return, less_to_come, next_at, return_behind}
use Rattle.device_shard.proofs.Steps.{next_turned, steps_none, steps_of}
use Rattle.device_shard.proofs.Told.{skip_alike, told_alike}

module _ (n : ShardName) (counts : TableId) (x : ShardKept) (is : IsShard n counts x) (thread : ℕ) (i : ℕ) (s : StreamPart) (comes : IsNextAt n x.owner.list thread (Return thread) i s) where
  abbrev entries : List Line
  entries = reverse x.owner.list

  abbrev streams : List StreamPart
  streams = n.plan.streams

  abbrev IsKept : StreamPart → Lane → Type 0
  IsKept = IsLane n.start streams x.owner.list is.opens

  pub mine : LaneAt IsKept x.lanes i s
  mine = lane_at IsKept streams x.lanes i s is.lanes comes.here

  event_here : slice_get s.events mine.lane.steps ≡ Some (Return thread)
  event_here = next_at streams i s thread x.owner.list mine.lane.steps (Return thread) is.starts.distinct comes.here comes.own mine.holds.steps comes.next

  pub behind : BeginBefore s.events mine.lane.steps
  behind = return_behind s.events mine.lane.steps thread (all_at (λ (p : StreamPart). ArePairs p.events) streams i s is.starts.pairs comes.here) event_here

  abbrev pub begin_of : BeginEvent
  begin_of = behind.begin

  last_is : last_made s mine.lane.steps ≡ Some (Begin behind.begin)
  last_is = ap (last_made s) behind.before ∙ behind.at

  pub kept : KeepsCall n.start streams x.owner.list is.opens thread mine.lane behind.begin
  kept =
      subst (λ t. KeepsCall n.start streams x.owner.list is.opens t mine.lane behind.begin) comes.own
      (subst (KeepsLast n.start streams x.owner.list is.opens s.thread mine.lane) last_is mine.holds.last)

  turned : next_event streams thread entries ≡ Some (Return thread)
  turned = next_turned streams thread x.owner.list ∙ comes.next

  on_device : IsOnDevice (Begin behind.begin)
  on_device = all_at IsOnDevice s.events behind.place (Begin behind.begin) (all_at (λ (p : StreamPart). AllByRecursion IsOnDevice p.events) streams i s is.starts.on_device comes.here) behind.at

  on_instance : IsOnInstance kept.step.begin
  on_instance = subst IsOnInstance (sym kept.begins) (made_on behind.begin.cmd on_device)

  needed : IsWithin is.needs behind.begin
  needed = all_at (IsWithinAt is.needs) s.events behind.place (Begin behind.begin) (all_at (λ (p : StreamPart). AllByRecursion (IsWithinAt is.needs) p.events) streams i s is.within comes.here) behind.at

  pub few_steps : mine.lane.steps < 2 ^ 32
  few_steps =
      let far = within s.events mine.lane.steps (Return thread) event_here in
      let all : length s.events ≤ events_in streams = part_fits (λ (p : StreamPart). p.events) streams i s comes.here in
      let few = is.starts.few in
      omega (arith, far, all, few)

  -- the begin is known by its place
  pub same_begin : (l : Lane) (b : BeginEvent) (reply : ReplyContent) → mine.lane ≡ l → CanReturn x s i l b reply → begin_of ≡ b
  same_begin l b reply same could =
      let places : behind.place ≡ could.place = (let mine_made = behind.before in let his_made = could.made in let steps = ap (λ (m : Lane). m.steps) same in omega (arith, mine_made, his_made, steps)) in
      let both : Some (Begin behind.begin) ≡ Some (Begin b) = sym behind.at ∙ (ap (slice_get s.events) places ∙ could.begin) in
      cc both

  -- the log, from the newest entry on, behind the begin
  split : entries ≡ reverse kept.later ++ (kept.entry ∷ reverse kept.before)
  split = ap reverse kept.past ∙ (reverse-append (kept.before ++ kept.entry ∷ []) kept.later ∙ ap (λ es. reverse kept.later ++ es) (turned_more kept.before kept.entry))

  -- ---- with a reply

  module _ (seen : SeenView) (past : IsPast thread seen.list x.owner.list) (own_seen : seen.thread ≡ thread) where
    -- what the token saw last is the begin
    before_is : (before : List Line) (entry : Line) → seen.list ≡ before ++ entry ∷ [] → entry.thread ≡ seen.thread → kept.before ≡ before
    before_is before entry ends own =
        last_alike thread kept.before before kept.entry entry kept.later past.0 kept.own (own ∙ own_seen) kept.apart (steps_none thread past.0 past.2) (sym kept.past ∙ (past.1 ∙ ap (λ es. es ++ past.0) ends))

    came_alike : (before : List Line) (entry : Line) (begin : BeginEvent) → seen.list ≡ before ++ entry ∷ [] → entry.thread ≡ seen.thread → next_event streams seen.thread (reverse before) ≡ Some (Begin begin) → behind.begin ≡ begin
    came_alike before entry begin ends own came =
        let same : Some (Begin behind.begin) ≡ Some (Begin begin) =
        sym kept.came ∙ (ap (λ es. next_event streams thread (reverse es)) (before_is before entry ends own) ∙ (ap (λ t. next_event streams t (reverse before)) (sym own_seen) ∙ came)) in
        cc same

    tells_here : (before : List Line) (entry : Line) (begin : BeginEvent) (skip : Bool) (told : List DriverCallContent) → seen.list ≡ before ++ entry ∷ [] → entry.thread ≡ seen.thread → next_event streams seen.thread (reverse before) ≡ Some (Begin begin)
        → Tells n.start streams (reverse before) begin skip told → Tells n.start streams (reverse kept.before) behind.begin skip told
    tells_here before entry begin skip told ends own came tells =
        subst (λ (es : List Line). Tells n.start streams (reverse es) behind.begin skip told) (sym (before_is before entry ends own))
        (subst (λ (c : BeginEvent). Tells n.start streams (reverse before) c skip told) (sym (came_alike before entry begin ends own came)) tells)

    begin_thread : behind.begin.thread ≡ thread
    begin_thread = ap (λ (c : BeginEvent). c.thread) (sym kept.begins) ∙ eqb-true kept.step.begin.thread thread (found_thread thread is.opens kept.step kept.found)

    came_at : next_event streams behind.begin.thread (reverse kept.before) ≡ Some (Begin behind.begin)
    came_at = ap (λ t. next_event streams t (reverse kept.before)) begin_thread ∙ kept.came

    -- two say the same of the begin
    follows_split : Follows streams ((reverse kept.later ++ kept.entry ∷ []) ++ reverse kept.before)
    follows_split = subst (Follows streams) (split ∙ sym (append_assoc (reverse kept.later) (kept.entry ∷ []) (reverse kept.before))) is.follows

    replay_split : IsReplay n.start streams ((reverse kept.later ++ kept.entry ∷ []) ++ reverse kept.before) x.parts is.opens
    replay_split = subst (λ (es : List Line). IsReplay n.start streams es x.parts is.opens) (split ∙ sym (append_assoc (reverse kept.later) (kept.entry ∷ []) (reverse kept.before))) is.replay

    skip_is : (skip : Bool) (told : List DriverCallContent) → Tells n.start streams (reverse kept.before) behind.begin skip told → kept.step.skip ≡ skip
    skip_is skip told tells =
        skip_alike n.start streams is.starts (reverse kept.later ++ kept.entry ∷ []) (reverse kept.before) x.parts is.opens follows_split replay_split behind.begin came_at kept.step.skip skip kept.step.told told kept.tells tells

    told_is : (skip : Bool) (told : List DriverCallContent) → Tells n.start streams (reverse kept.before) behind.begin skip told → kept.step.told ≡ told
    told_is skip told tells =
        told_alike n.start streams is.starts (reverse kept.later ++ kept.entry ∷ []) (reverse kept.before) x.parts is.opens follows_split replay_split behind.begin came_at kept.step.skip skip kept.step.told told kept.tells tells

    -- the results of the entry
    pub results_are : (reply : ReplyContent) → AreResults n seen reply (results_read mine.lane.verdict.skip reply)
    results_are reply =
        record {
          sent = λ before entry begin told ends own came tells. ap (λ (u : Bool). cond u [] reply.handles) (kept.skip ∙ skip_is false told (tells_here before entry begin false told ends own came tells));
          skipped = λ before entry begin told ends own came tells. ap (λ (u : Bool). cond u [] reply.handles) (kept.skip ∙ skip_is true told (tells_here before entry begin true told ends own came tells));
        }

    module _ (reply : ReplyContent) (replied : IsReplied n seen reply) where
      abbrev own : List ReplyContent
      own = replies_read mine.lane.verdict.skip reply

      tells_so : Tells n.start streams (reverse kept.before) behind.begin replied.skip replied.told
      tells_so = tells_here replied.before replied.entry replied.begin replied.skip replied.told replied.ends replied.own replied.came replied.tells

      same_skip : mine.lane.verdict.skip ≡ replied.skip
      same_skip = kept.skip ∙ skip_is replied.skip replied.told tells_so

      told_same : kept.step.told ≡ replied.told
      told_same = told_is replied.skip replied.told tells_so

      may_have : AreRepliesTo kept.step.told own
      may_have = go mine.lane.verdict.skip refl
        where
          go : (u : Bool) → mine.lane.verdict.skip ≡ u → AreRepliesTo kept.step.told (replies_read u reply)
          go true e = subst (λ (cs : List DriverCallContent). AreRepliesTo cs []) (sym (kept.silent (sym kept.skip ∙ e))) tt
          go false e = subst (λ (cs : List DriverCallContent). AreRepliesTo cs (reply ∷ [])) (sym told_same) (replied.answers (sym same_skip ∙ e))

      leaves_own : MayReturn → CanLeave x.parts kept.step.begin kept.step.call kept.step.held kept.step.skip own
      leaves_own may =
          may n.start streams entries x.parts is.opens thread kept.step own is.starts.setup is.starts.events is.starts.replies is.starts.stands (is.starts.goes_on entries is.follows) is.replay kept.found is.apart on_instance may_have

      -- the open call, as its lane keeps it
      as_kept : (P : BeginEvent → CallContent → HeldCalls → Bool → Type 0) → P kept.step.begin kept.step.call kept.step.held kept.step.skip → P behind.begin (call_content mine.lane.call) mine.lane.held mine.lane.verdict.skip
      as_kept P p =
          subst (λ c. P c (call_content mine.lane.call) mine.lane.held mine.lane.verdict.skip) kept.begins
          (subst (λ c. P kept.step.begin c mine.lane.held mine.lane.verdict.skip) (sym kept.call)
          (subst (λ c. P kept.step.begin kept.step.call c mine.lane.verdict.skip) (sym kept.held) (subst (λ c. P kept.step.begin kept.step.call kept.step.held c) (sym kept.skip) p)))

      can_leave : MayReturn → CanLeave x.parts behind.begin (call_content mine.lane.call) mine.lane.held mine.lane.verdict.skip own
      can_leave may = as_kept (λ b c h k. CanLeave x.parts b c h k own) (leaves_own may)

      few_owners : FewOwners → mine.lane.verdict.skip ≡ false → length (owners_made x.parts.names.kept.births (opened_again x.parts behind.begin (call_content mine.lane.call)).args (row_of behind.begin.cmd).effect) ≤ 3
      few_owners few goes =
          as_kept (λ b c h k. length (owners_made x.parts.names.kept.births (opened_again x.parts b c).args (row_of b.cmd).effect) ≤ 3)
          (few n.start streams entries x.parts is.opens thread kept.step own is.starts is.replay is.follows kept.found is.apart may_have (sym kept.skip ∙ goes))

      below : SameDrivers → mine.lane.verdict.skip ≡ false → IsBelow behind.begin (call_content mine.lane.call) x.parts
      below same goes =
          let sent = kept.sent (sym kept.skip ∙ goes) in
          record {
            cmd = ap (λ (c : CallContent). c.cmd) kept.call ∙ sent.passed.cmd;
            bytes = ap (λ (c : CallContent). c.payload) kept.call ∙ sent.passed.bytes;
            one = ap (λ (c : CallContent). length (drivers_for x.parts.terminator c)) kept.call
                ∙ (same n.start streams entries x.parts is.opens thread kept.step own is.starts is.replay is.follows kept.found is.apart may_have (sym kept.skip ∙ goes) ∙ sent.one);
          }

      -- ---- what is due

      due_less : (new : Lane) → new.steps ≡ mine.lane.steps + 1 → sum_lanes due_to streams x.lanes ≡ length behind.begin.results + sum_lanes due_to streams (slice_set x.lanes i new)
      due_less new more =
          let set = sum_set due_to streams x.lanes i s mine.lane new comes.here mine.at in
          let less = due_at_return s mine.lane new behind.begin thread last_is event_here more in
          omega (arith, set, less)

      comes_less : (new : Lane) → new.steps ≡ mine.lane.steps + 1 → suc (sum_lanes to_come streams (slice_set x.lanes i new)) ≡ sum_lanes to_come streams x.lanes
      comes_less new more =
          let set = sum_set to_come streams x.lanes i s mine.lane new comes.here mine.at in
          let less = less_to_come s mine.lane new (Return thread) event_here more in
          omega (arith, set, less)

      abbrev next_lane : Lane
      next_lane = record mine.lane { steps = mine.lane.steps + 1 }

      -- a reply has no more handles than the call has results
      handles_few : mine.lane.verdict.skip ≡ false → length reply.handles ≤ length behind.begin.results
      handles_few goes = go kept.step.told (kept.sent (sym kept.skip ∙ goes)).one (kept.sent (sym kept.skip ∙ goes)).asks (subst (λ (cs : List DriverCallContent). AreRepliesTo cs (reply ∷ [])) (sym told_same) (replied.answers (sym same_skip ∙ goes)))
        where
          due : (u : Bool) (asked : ℕ) → asked ≡ length behind.begin.results → length reply.handles ≡ cond u asked 0 → length reply.handles ≤ length behind.begin.results
          due true asked e h = omega (arith, e, h)
          due false asked e h = omega (arith, h)

          go : (cs : List DriverCallContent) → length cs ≡ 1 → AllByRecursion (λ (c : DriverCallContent). c.asked ≡ length behind.begin.results) cs → AreRepliesTo cs (reply ∷ []) → length reply.handles ≤ length behind.begin.results
          go [] one asks answers = absurd answers
          go (c ∷ cs) one asks answers = due (succeeds c.cmd c.code) c.asked asks.0 answers.0.count

      pub can : MayReturn → FewOwners → SameDrivers → RoomLeaves → CanReturn x s i mine.lane behind.begin reply
      can may owners same room =
          let due = due_less next_lane refl in
          let come = comes_less next_lane refl in
          let have = is.entries in
          let owed = is.results in
          let few = needed.results in
          let most = is.result_room in
          record {
            at = mine.at;
            steps = few_steps;
            place = behind.place;
            made = (let b = behind.before in omega (arith, b));
            begin = behind.at;
            can = can_leave may;
            room = room is.needs (threads_of streams) (sum_lanes due_to streams x.lanes) x.parts behind.begin (call_content mine.lane.call) mine.lane.verdict.skip x.results is.room needed (omega (arith, due)) (omega (arith, few, most)) (below same) (few_owners owners);
            entries = omega (arith, come, have);
            results = λ goes. (let handles = handles_few goes in omega (arith, handles, due, owed));
          }

      -- ---- what it leaves

      module _ (y : SessionParts) (count : ℕ) (has : HasReturned x behind.begin i mine.lane y reply count) (time results : ℕ) (later : last_time x.owner.list < time) (more : x.results ≤ results) where
        abbrev entry : Line
        entry = line thread time false (results_read mine.lane.verdict.skip reply)

        leaves_kept : Leaves x.parts kept.step.begin kept.step.call kept.step.held kept.step.skip own y count
        leaves_kept =
            subst (λ c. Leaves x.parts c kept.step.call kept.step.held kept.step.skip own y count) (sym kept.begins)
            (subst (λ c. Leaves x.parts behind.begin c kept.step.held kept.step.skip own y count) kept.call
            (subst (λ c. Leaves x.parts behind.begin (call_content mine.lane.call) c kept.step.skip own y count) kept.held (subst (λ c. Leaves x.parts behind.begin (call_content mine.lane.call) mine.lane.held c own y count) kept.skip has.leaves)))

        handles_are : handles_of own ≡ results_read mine.lane.verdict.skip reply
        handles_are = go mine.lane.verdict.skip
          where
            go : (u : Bool) → handles_of (replies_read u reply) ≡ results_read u reply
            go true = refl
            go false = append-nil reply.handles

        read_few : length (results_read mine.lane.verdict.skip reply) ≤ length behind.begin.results
        read_few = go mine.lane.verdict.skip refl
          where
            go : (u : Bool) → mine.lane.verdict.skip ≡ u → length (results_read u reply) ≤ length behind.begin.results
            go true e = omega arith
            go false e = handles_few e

        new_lane : NoneLeft → IsLane n.start streams (x.owner.list ++ entry ∷ []) (without_step s.thread is.opens) s next_lane
        new_lane none_left =
            let far = within s.events mine.lane.steps (Return thread) event_here in
            let step : steps_of s.thread (x.owner.list ++ entry ∷ []) ≡ suc (steps_of s.thread x.owner.list) = step_more s.thread x.owner.list entry (eq-eqb thread s.thread (sym comes.own)) in
            let was = mine.holds.steps in
            let next : next_lane.steps ≡ suc mine.lane.steps = omega arith in
            record {
              steps = omega (arith, step, was);
              made = omega (arith, far);
              last = subst (λ (o : Option TraceEvent). KeepsLast n.start streams (x.owner.list ++ entry ∷ []) (without_step s.thread is.opens) s.thread next_lane o) (sym (ap (last_made s) next ∙ event_here)) (none_left s.thread is.opens);
            }

        pub stays : ReplaysReturn → RoomTaken → PartsStay → FewOwners → SameDrivers → MayReturn → StillApart → NoneLeft → IsShard n counts (returned_then x thread i mine.lane y reply time results)
        stays replays room parts owners same may still none_left =
            let due = due_less next_lane refl in
            let come = comes_less next_lane refl in
            let few = is.few in
            let have = is.entries in
            let owed = is.results in
            let read = read_few in
            let most = is.result_room in
            let turn : reverse (x.owner.list ++ entry ∷ []) ≡ entry ∷ entries = turned_more x.owner.list entry in
            let same_parts : length y.states.kept ≡ length x.parts.states.kept = parts x.parts y has.kinds in
            record {
              log = is.log;
              plan = is.plan;
              starts = is.starts;
              follows = subst (Follows streams) (sym turn) (subst (IsNextStep entry) (sym turned) refl, is.follows);
              opens = without_step s.thread is.opens;
              apart = still s.thread is.opens is.apart;
              lanes = lanes_set IsKept (IsLane n.start streams (x.owner.list ++ entry ∷ []) (without_step s.thread is.opens)) streams x.lanes i s next_lane is.lanes comes.here is.starts.distinct
                  (lane_stays n.start streams x.owner.list is.opens (without_step s.thread is.opens) s.thread entry (sym comes.own) (beside_less s.thread is.opens)) (new_lane none_left);
              replay = subst (λ (t : ℕ). IsReplay n.start streams (reverse (x.owner.list ++ entry ∷ [])) y (without_step t is.opens)) (sym comes.own)
                  (subst (λ (es : List Line). IsReplay n.start streams es y (without_step thread is.opens)) (sym turn)
                  (subst (λ (hs : List ℕ). IsReplay n.start streams (line thread time false hs ∷ entries) y (without_step thread is.opens)) handles_are
                  (replays n.start streams entries x.parts y is.opens thread time kept.step own count is.replay turned kept.found is.apart on_instance may_have leaves_kept)));
              calls = is.calls ∙ ap (λ es. n.start.calls + begins_in es) (sym turn);
              few = omega (arith, few, come);
              kinds = has.kinds ∙ is.kinds;
              clock = is.clock;
              seen = subst (λ k. k ≤ time) (sym (last_pushed 0 x.owner.list entry)) (omega arith);
              spent = refl;
              entries = omega (arith, have, come);
              results = omega (arith, owed, due, read);
              needs = is.needs;
              within = is.within;
              room = room is.needs (threads_of streams) (sum_lanes due_to streams (slice_set x.lanes i next_lane)) x.parts y behind.begin (call_content mine.lane.call) mine.lane.held mine.lane.verdict.skip own count
                  (subst (λ d. HasPlanRoom is.needs (threads_of streams) d x.parts) due is.room) needed (below same) (few_owners owners) (can_leave may) has.leaves has.takes has.kinds;
              lane_room = subst (λ k. AllByRecursion (LaneHasRoom is.needs k) (slice_set x.lanes i next_lane)) (sym same_parts)
                  (all_set (LaneHasRoom is.needs (length x.parts.states.kept)) x.lanes i next_lane is.lane_room (all_at (LaneHasRoom is.needs (length x.parts.states.kept)) x.lanes i mine.lane is.lane_room mine.at));
              result_room = omega (arith, most, more);
            }
