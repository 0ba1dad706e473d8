-- The open call of a worker returns.
use Rattle.std.proofs.Common.{◌≡◌, ◌+◌, ◌-◌, ◌<◌, ◌≤◌, ◌^◌, ℕ, Bool, true, false, Option, Some, List, [], ◌∷◌, ◌++◌, length, get_or, set, refl, sym, ◌∙◌, ap, subst, arith}
use Rattle.std.specs.Prelude.{reverse, slice_get, vec_capacity, vec_len}
use Rattle.std.specs.Option.{option_map_or}
use Rattle.std.proofs.lemmas.Option.{slice_get_within}
use Rattle.command_tables.specs.Calls.{ReplyContent}
use Rattle.stream_log.specs.declared.line.Line.{Line}
use Rattle.stream_log.specs.Clock.{TickView, tick_view}
use Rattle.stream_log.specs.Log.{SeenView, line, seen_view}
use Rattle.trace_format.specs.Content.{Begin, Return}
use Rattle.model_driver.specs.declared.driver.DriverCall.{DriverCall}
use Rattle.model_driver.specs.declared.driver.DriverReply.{DriverReply}
use Rattle.model_driver.specs.Driver.{reply_shown}
use Rattle.model_driver.specs.Seats.{FitsIn, SeatRoom}
use Rattle.stream_model.specs.FileParts.{StreamPart}
use Rattle.stream_model.specs.Plans.{events_planned}
use Rattle.shard_model.specs.Followed.{next_event}
use Rattle.shard_model.specs.Replays.{Tells}
use Rattle.shard_start.specs.Starting.{CanStart, events_in}
use Rattle.device_shard.specs.Shards.{ShardName}
use Rattle.device_shard.specs.Steps.{AreResults, IsReplied}
use Rattle.device_shard.proofs.Lists.{all_at, part_fits, within}
use Rattle.stream_workers.specs.declared.worker.Worker.{Worker}
use Rattle.merge_model.specs.Planned.{PlannedCall, calls_at, events_of_calls}
use Rattle.stream_workers.specs.Calls.{BegunCall, IsMade, results_made}
use Rattle.stream_workers.specs.Held.{HaveGrown, Holds, list_at}
use Rattle.stream_workers.specs.Opens.{HasReturned, HaveGainedOne, IsToReturn}
use Rattle.stream_workers.specs.Steps.{ReturnsAt}
use Rattle.stream_workers.specs.Work.{AllFit, Course, IsCourse, OwnsStream, needs_of_calls}
use Rattle.stream_workers.proofs.Holding.{Ends, drop_first, ended_holds, ends, gained_one, goes_same, grown_one, list_set, next_seen, stream_there}

module _ {S : Type 0} (room : S → SeatRoom) (c : Course) (b : BegunCall) (rest : List PlannedCall) (w : Worker S) (open_ : IsToReturn room c b rest w) where
  pub ending : Ends c.names w.thread b rest w.tokens.items w.made.items open_.opened.begun.name
  ending = ends c.names w.thread b rest w.tokens.items w.made.items open_.opened.begun.name open_.opened.holds open_.opened.begun.is

  pub next_back : next_event open_.opened.begun.name.plan.streams w.thread (b.before ++ b.entry ∷ []) ≡ Some (Return w.thread)
  next_back = next_seen open_.opened.begun.name w.thread (b.before ++ b.entry ∷ []) (get_or w.made.items b.place 0) (Return w.thread) (events_of_calls w.thread (calls_at b.place rest)) ending.seen

  -- the worker has fewer steps there than 2 ^ 32
  pub few_back : IsCourse c → get_or w.made.items b.place 0 < 2 ^ 32
  few_back is =
      let name : ShardName = open_.opened.begun.name in
      let here = open_.opened.begun.is in
      let stands = stream_there name.plan.streams w.stream (events_planned name.plan.streams w.thread) (get_or w.made.items b.place 0) (Return w.thread)
      (all_at (λ (m : ShardName). option_map_or (λ (s : StreamPart). s.events) (slice_get m.plan.streams w.stream) [] ≡ events_planned m.plan.streams w.thread) c.names b.place name open_.opened.stream here)
      (drop_first (events_planned name.plan.streams w.thread) (get_or w.made.items b.place 0) (Return w.thread) (events_of_calls w.thread (calls_at b.place rest)) ending.seen.left) in
      let far = within stands.0.events (get_or w.made.items b.place 0) (Return w.thread) stands.2 in
      let all : length stands.0.events ≤ events_in name.plan.streams = part_fits (λ (s : StreamPart). s.events) name.plan.streams w.stream stands.0 stands.1 in
      let few = (all_at (λ (m : ShardName). CanStart m.start m.plan.streams) c.names b.place name is.starts here).few in
      omega (arith, far, all, few)

  -- what its token has seen ends in its begin, and the reply is one that its driver may give
  pub replied : IsReplied open_.opened.begun.name (seen_view open_.opened.begun.name.log w.thread (b.before ++ b.entry ∷ [])) (reply_shown w.reply)
  replied =
      record {
        before = b.before;
        entry = b.entry;
        ends = refl;
        own = ap (λ (e : Line). e.thread) open_.opened.begun.own;
        begin = b.begin;
        came = open_.opened.begun.came;
        skip = b.skip;
        told = b.told;
        tells = open_.opened.begun.tells;
        answers = open_.replied;
      }

-- the results that the entry has
results_are : (n : ShardName) (thread : ℕ) (b : BegunCall) (reply : ReplyContent) (results : List ℕ) (until : List Line) (e : Line) (u : Bool) → b.skip ≡ u → b.entry.thread ≡ thread → next_event n.plan.streams thread (reverse b.before) ≡ Some (Begin b.begin)
    → Tells n.start n.plan.streams (reverse b.before) b.begin b.skip b.told → AreResults n (seen_view n.log thread (b.before ++ b.entry ∷ [])) reply results → results ≡ results_made (record { begun = b; until = until; entry = e; reply = reply })
results_are n thread b reply results until e true stops own came tells are =
    are.skipped b.before b.entry b.begin b.told refl own came (subst (λ (u : Bool). Tells n.start n.plan.streams (reverse b.before) b.begin u b.told) stops tells)
    ∙ ap (λ (u : Bool). results_made (record { begun = record b { skip = u }; until = until; entry = e; reply = reply })) (sym stops)
results_are n thread b reply results until e false goes own came tells are =
    are.sent b.before b.entry b.begin b.told refl own came (subst (λ (u : Bool). Tells n.start n.plan.streams (reverse b.before) b.begin u b.told) goes tells)
    ∙ ap (λ (u : Bool). results_made (record { begun = record b { skip = u }; until = until; entry = e; reply = reply })) (sym goes)

module _ {S : Type 0} (room : S → SeatRoom) (c : Course) (b : BegunCall) (rest : List PlannedCall) (old new : Worker S) (open_ : IsToReturn room c b rest old) (time : ℕ) (token : SeenView)
    (at : ReturnsAt open_.opened.begun.name (seen_view open_.opened.begun.name.log old.thread (b.before ++ b.entry ∷ [])) (reply_shown old.reply) old.tick.seen time token)
    (same : new ≡ record old { tokens = new.tokens; made = new.made; tick = new.tick }) (tick : new.tick ≡ tick_view c.clock (old.tick.left - 1) time) (tokens : new.tokens.items ≡ set old.tokens.items b.place (Some token))
    (made : new.made.items ≡ set old.made.items b.place (get_or old.made.items b.place 0 + 1)) where
  thread_is : new.thread ≡ old.thread
  thread_is = ap (λ (w : Worker S). w.thread) same

  slots_are : new.tokens.items ≡ set old.tokens.items b.place (Some (seen_view open_.opened.begun.name.log old.thread (at.until ++ line old.thread time false at.results ∷ [])))
  slots_are = tokens ∙ ap (λ (s : SeenView). set old.tokens.items b.place (Some s)) at.token_is

  is_made : IsMade c.names old.thread (record { begun = b; until = at.until; entry = line old.thread time false at.results; reply = reply_shown old.reply })
  is_made =
      let seen = open_.opened.seen in
      let later = at.later in
      record {
        begun = open_.opened.begun;
        replied = open_.replied;
        past = at.past;
        own = ap (line old.thread time false) (results_are open_.opened.begun.name old.thread b (reply_shown old.reply) at.results at.until (line old.thread time false at.results) b.skip refl
            (ap (λ (e : Line). e.thread) open_.opened.begun.own) open_.opened.begun.came open_.opened.begun.tells at.are);
        later = omega (arith, seen, later);
      }

  pub has_returned : HasReturned room c b rest old new
  has_returned =
      let holds = ended_holds c.names old.thread b rest old.tokens.items old.made.items open_.opened.begun.name at.until (line old.thread time false at.results) open_.opened.holds open_.opened.begun.is at.past refl in
      let inside = slice_get_within c.names b.place open_.opened.begun.name open_.opened.begun.is in
      let many = open_.opened.holds.slots_are in
      let draws = open_.opened.draws in
      let left = ap (λ (t : TickView). t.left) tick in
      record {
        call = record { begun = b; until = at.until; entry = line old.thread time false at.results; reply = reply_shown old.reply };
        begun = refl;
        reply = refl;
        made = is_made;
        stepped = record {
          thread = thread_is;
          stream = ap (λ (w : Worker S). w.stream) same;
          places = ap (λ (w : Worker S). w.places) same;
          seat = ap (λ (w : Worker S). w.seat) same;
          later = at.later;
          seen = ap (λ (t : TickView). t.seen) tick;
          gained = subst (λ (ss : List (Option SeenView)). HaveGainedOne old.thread b.place (line old.thread time false at.results) old.tokens.items ss) (sym slots_are)
              (gained_one old.thread b.place (line old.thread time false at.results) old.tokens.items open_.opened.begun.name (b.before ++ b.entry ∷ []) at.until (ending room c b rest old open_).token at.past refl (omega (arith, inside, many)));
          grown = subst (λ (ss : List (Option SeenView)). HaveGrown old.tokens.items ss) (sym slots_are)
              (grown_one old.thread b.place (line old.thread time false at.results) old.tokens.items open_.opened.begun.name (b.before ++ b.entry ∷ []) at.until (ending room c b rest old open_).token at.past (omega (arith, inside, many)));
        };
        stands = goes_same (at.until ++ line old.thread time false at.results ∷ []) (list_at new.tokens.items b.place)
            (ap (λ (ss : List (Option SeenView)). list_at ss b.place) slots_are
            ∙ list_set old.tokens.items b.place (seen_view open_.opened.begun.name.log old.thread (at.until ++ line old.thread time false at.results ∷ [])) (omega (arith, inside, many)));
        sent = ap (λ (w : Worker S). w.sent) same;
        ready = record {
          holds = subst (λ t. Holds c.names t rest new.tokens.items new.made.items) (sym thread_is)
              (subst (λ (ss : List (Option SeenView)). Holds c.names old.thread rest ss new.made.items) (sym slots_are)
              (subst (λ (ks : List ℕ). Holds c.names old.thread rest (set old.tokens.items b.place (Some (seen_view open_.opened.begun.name.log old.thread (at.until ++ line old.thread time false at.results ∷ [])))) ks) (sym made) holds));
          stream = subst (λ t. OwnsStream c.names t new.stream) (sym thread_is) (subst (OwnsStream c.names old.thread) (sym (ap (λ (w : Worker S). w.stream) same)) open_.opened.stream);
          clock = ap (λ (t : TickView). t.clock) tick;
          room_is = record {
            draws = omega (arith, draws, left);
            seat = subst (λ (s : S). FitsIn (needs_of_calls rest) (room s)) (sym (ap (λ (w : Worker S). w.seat) same)) open_.seat;
            fit = subst (λ (r : DriverReply). AllFit new.call r rest) (sym (ap (λ (w : Worker S). w.reply) same)) (subst (λ (d : DriverCall). AllFit d old.reply rest) (sym (ap (λ (w : Worker S). w.call) same)) open_.opened.fit);
            sent = subst (λ v. length rest ≤ vec_capacity v - vec_len v) (sym (ap (λ (w : Worker S). w.sent) same)) open_.opened.sent;
          };
        };
      }
