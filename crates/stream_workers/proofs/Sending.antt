-- The open call of a worker is sent.
use Rattle.std.proofs.Common.{◌≡◌, ◌+◌, ◌-◌, ◌≤◌, ℕ, Bool, true, false, cond, not, Option, List, [], ◌∷◌, ◌++◌, length, map, append-nil, refl, sym, ◌∙◌, ap, subst, arith, Some, None}
use Rattle.std.specs.Prelude.{slice_get, vec_capacity}
use Rattle.std.specs.List.{zip}
use Rattle.std.proofs.lemmas.List.{length-append}
use Rattle.std.proofs.lemmas.List.Sums.{sum_by-cons}
use Rattle.command_tables.specs.Calls.{DriverCallContent, ReplyContent}
use Rattle.command_tables.specs.Effects.{succeeds}
use Rattle.command_tables.specs.Handles.{count_in}
use Rattle.trace_format.specs.declared.event.Name.{Name}
use Rattle.trace_format.specs.Content.{Arg, BeginEvent}
use Rattle.model_driver.specs.declared.driver.DriverCall.{DriverCall}
use Rattle.model_driver.specs.declared.driver.DriverReply.{DriverReply}
use Rattle.model_driver.specs.Driver.{IsAnsweredBy, call_shown, handles_due, reply_shown}
use Rattle.model_driver.specs.Logs.{Log, logged}
use Rattle.model_driver.proofs.Telling.{logged_nothing}
use Rattle.model_driver.specs.Seats.{FitsIn, SeatRoom, joined_room, room_for}
use Rattle.session_model.specs.Stands.{AreRepliesTo}
use Rattle.shard_room.specs.Needs.{names_at, names_in}
use Rattle.device_shard.specs.Lanes.{replies_read}
use Rattle.device_shard.specs.Steps.{IsToldOf}
use Rattle.stream_workers.specs.declared.worker.Worker.{Worker}
use Rattle.merge_model.specs.Planned.{PlannedCall}
use Rattle.stream_workers.specs.Calls.{BegunCall}
use Rattle.stream_workers.specs.Opens.{HasSent, IsOpen, IsToSend}
use Rattle.stream_workers.specs.Work.{AllFit, Course, needs_of_begin, needs_of_calls}

-- as many handles as names
same_count : (lists : List (List ℕ)) (args : List Arg) → map (λ (hs : List ℕ). length hs) lists ≡ map (λ a. length a.names) args → count_in lists ≡ names_in (map (λ a. a.names) args)
same_count [] [] same = refl
same_count [] (a ∷ args) same = cc same
same_count (hs ∷ lists) [] same = cc same
same_count (hs ∷ lists) (a ∷ args) same =
    let first : length hs ≡ length a.names = cc same in
    let rest = same_count lists args (cc same) in
    sum_by-cons (λ (ns : List ℕ). length ns) hs lists
    ∙ (ap (λ n. n + count_in lists) first ∙ (ap (λ n. length a.names + n) rest ∙ sym (sum_by-cons (λ (ns : List (Option Name)). length ns) a.names (map (λ c. c.names) args))))

-- what a told call takes is no more than what its begin takes
pub due_few : (c : DriverCallContent) → handles_due c ≤ c.asked
due_few c = go (succeeds c.cmd c.code)
  where
    go : (u : Bool) → cond u c.asked 0 ≤ c.asked
    go true = omega arith
    go false = omega arith

pub needs_few : (b : BeginEvent) (c : DriverCallContent) → IsToldOf b c → FitsIn (room_for c) (needs_of_begin b)
needs_few b c told =
    let names : count_in c.args ≡ names_in (names_at b) = same_count c.args b.args told.sizes in
    let due = due_few c in
    let asked = told.asked in
    let bytes = ap length told.bytes in
    record { calls = omega arith; handles = omega (arith, names, due, asked); bytes = omega (arith, bytes) }

pub fits_through : (a b c : SeatRoom) → FitsIn a b → FitsIn b c → FitsIn a c
fits_through a b c first second =
    let k = first.calls in
    let h = first.handles in
    let n = first.bytes in
    let l = second.calls in
    let i = second.handles in
    let m = second.bytes in
    record { calls = omega (arith, k, l); handles = omega (arith, h, i); bytes = omega (arith, n, m) }

pub first_fits : (a b c : SeatRoom) → FitsIn (joined_room a b) c → FitsIn a c
first_fits a b c all =
    let k = all.calls in
    let h = all.handles in
    let n = all.bytes in
    record { calls = omega (arith, k); handles = omega (arith, h); bytes = omega (arith, n) }

-- what is left once it is taken
rest_fits : (few most rest old new : SeatRoom) → FitsIn few most → FitsIn (joined_room most rest) old → FitsIn old (joined_room few new) → FitsIn rest new
rest_fits few most rest old new small all left =
    let a = small.calls in
    let b = small.handles in
    let c = small.bytes in
    let d = all.calls in
    let e = all.handles in
    let f = all.bytes in
    let g = left.calls in
    let h = left.handles in
    let i = left.bytes in
    record { calls = omega (arith, a, d, g); handles = omega (arith, b, e, h); bytes = omega (arith, c, f, i) }

more_reply : (call : DriverCall) (old new : DriverReply) (calls : List PlannedCall) → vec_capacity old.handles ≤ vec_capacity new.handles → AllFit call old calls → AllFit call new calls
more_reply call old new [] more fit = tt
more_reply call old new (c ∷ calls) more fit = let enough = fit.0.1 in ((fit.0.0, omega (arith, enough, more)), more_reply call old new calls more fit.1)

-- whether the last mark is of a call that isn't skipped
pub goes_on : (u : Bool) → not u ≡ true → u ≡ false
goes_on true marks = cc marks
goes_on false marks = refl

pub stops_at : (u : Bool) → not u ≡ false → u ≡ true
stops_at true marks = refl
stops_at false marks = cc marks

last_at : (front : List Bool) (mark : Bool) → slice_get (front ++ mark ∷ []) (length front) ≡ Some mark
last_at [] mark = refl
last_at (x ∷ front) mark = last_at front mark

pub last_mark : (front marks : List Bool) (mark : Bool) → marks ≡ front ++ mark ∷ [] → slice_get marks (length marks - 1) ≡ Some mark
last_mark front marks mark are =
    let long = ap length are in
    let more = length-append front (mark ∷ []) in
    let last : length marks - 1 ≡ length front = omega (arith, long, more) in
    ap (slice_get marks) last ∙ (ap (λ (ms : List Bool). slice_get ms (length front)) are ∙ last_at front mark)

module _ {S : Type 0} (room : S → SeatRoom) (log : S → Log) (c : Course) (b : BegunCall) (rest : List PlannedCall) (old : Worker S) (open_ : IsToSend room c b rest old) where
  -- another seat and another reply
  still_open : (seat : S) (reply : DriverReply) → vec_capacity old.reply.handles ≤ vec_capacity reply.handles → IsOpen c b rest (record old { seat = seat; reply = reply })
  still_open seat reply more =
      record {
        begun = open_.opened.begun;
        holds = open_.opened.holds;
        stream = open_.opened.stream;
        clock = open_.opened.clock;
        seen = open_.opened.seen;
        draws = open_.opened.draws;
        fit = more_reply old.call old.reply reply rest more open_.opened.fit;
        sent = open_.opened.sent;
      }

  pub is_sent : b.skip ≡ false → (seat : S) (reply : DriverReply) → IsAnsweredBy (call_shown old.call) (reply_shown reply) → log seat ≡ logged (log old.seat) ((call_shown old.call, reply_shown reply) ∷ [])
      → FitsIn (room old.seat) (joined_room (room_for (call_shown old.call)) (room seat)) → vec_capacity old.reply.handles ≤ vec_capacity reply.handles → HasSent room log c b rest old (record old { seat = seat; reply = reply })
  is_sent goes seat reply answers told left more =
      record {
        same = refl;
        told = told ∙ ap (logged (log old.seat)) (ap (λ (cs : List DriverCallContent). zip cs (reply_shown reply ∷ [])) (sym (open_.told goes)) ∙ ap (λ (u : Bool). zip b.told (replies_read u (reply_shown reply))) (sym goes));
        to_return = record {
          opened = still_open seat reply more;
          replied = λ _. subst (λ (cs : List DriverCallContent). AreRepliesTo cs (reply_shown reply ∷ [])) (sym (open_.told goes)) (answers, tt);
          seat = rest_fits (room_for (call_shown old.call)) (needs_of_begin b.begin) (needs_of_calls rest) (room old.seat) (room seat) (needs_few b.begin (call_shown old.call) (open_.told_is goes)) open_.seat left;
        };
      }

  pub is_not_sent : b.skip ≡ true → HasSent room log c b rest old old
  is_not_sent stops =
      record {
        same = refl;
        told = logged_nothing (log old.seat) ∙ ap (logged (log old.seat)) (sym (ap (λ (cs : List DriverCallContent). zip cs (replies_read b.skip (reply_shown old.reply))) (open_.opened.begun.silent stops)));
        to_return = record {
          opened = open_.opened;
          replied = λ goes. absurd (both goes stops);
          seat = rest_fits (record { calls = 0; handles = 0; bytes = 0 }) (needs_of_begin b.begin) (needs_of_calls rest) (room old.seat) (room old.seat) (record { calls = omega arith; handles = omega arith; bytes = omega arith }) open_.seat
              (record { calls = omega arith; handles = omega arith; bytes = omega arith });
        };
      }
    where
      both : b.skip ≡ false → b.skip ≡ true → ⊥
      both goes stops = let bad : false ≡ true = sym goes ∙ stops in cc bad
