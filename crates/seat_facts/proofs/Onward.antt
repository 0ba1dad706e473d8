-- From one entry to the next: what the trace says of the entries so far, with their replies.
use Rattle.std.proofs.Common.{◌≡◌, ◌∙◌, ◌==◌, ◌+◌, ℕ, Bool, true, false, cond, ◌&&◌, Option, Some, List, [], ◌∷◌, ◌++◌, length, map, take, refl, sym, ap, subst, arith, append-nil}
use Rattle.std.specs.Prelude.{filter, find, reverse, slice_get}
use Rattle.std.specs.List.{flat_map}
use Rattle.std.proofs.lemmas.Bool.{eq-eqb, eqb-true}
use Rattle.std.proofs.lemmas.Grind.{flat_map-append}
use Rattle.std.proofs.lemmas.List.{length-append}
use Rattle.command_tables.specs.Calls.{DriverCallContent, ReplyContent}
use Rattle.stream_log.specs.declared.line.Line.{Line}
use Rattle.trace_format.specs.declared.event.Name.{Name}
use Rattle.trace_format.specs.Content.{BeginEvent, TraceEvent, Begin, Return}
use Rattle.replay_model.specs.Direct.{before_call, begin_exchanges, driver_calls, own_replies, sends_in, valued}
use Rattle.replay_model.specs.Judged.{begun_of, judged}
use Rattle.replay_model.specs.Past.{Opened, Past, is_of, open_calls}
use Rattle.replay_model.specs.Setup.{Setup}
use Rattle.chain_model.specs.Traces.{GivesGuarded}
use Rattle.chain_session.specs.declared.kept.Kept.{Kept}
use Rattle.stream_model.specs.FileLines.{FileLine}
use Rattle.stream_model.specs.FileParts.{parts}
use Rattle.stream_model.specs.Plans.{events_along, next_turn, plan_cut, with_event}
use Rattle.merge_model.proofs.InTurn.{reverse_onto}
use Rattle.log_merge.specs.Merged.{NumberedLine, lines_of_log}
use Rattle.shard_model.specs.Followed.{next_event}
use Rattle.shard_model.specs.Replays.{Start, StartStands}
use Rattle.shard_model.specs.Replies.{handles_of, last_replies}
use Rattle.device_facts.specs.Apart.{ComesOn, device_replies, device_so_far, is_call_on, merged_so_far, replies_on, with_own}
use Rattle.device_shard.specs.Lanes.{replies_read}
use Rattle.device_shard.specs.Making.{IsStartOf}
use Rattle.stream_merge.specs.Gathered.{begun_by_thread, next_results, reply_at}
use Rattle.stream_workers.specs.Calls.{MadeCall, exchange_made}
use Rattle.stream_run.specs.Gathering.{lines_of}
use Rattle.stream_run.specs.Running.{marks_of}
use Rattle.seat_facts.specs.Told.{AreAnswered, told_by_thread}
use Rattle.seat_facts.proofs.Begun.{AtDevice, IsReplied, at_both, before_is, begin_at_device, code_of_reply, counted, exchange_is, front_is, may_there, opened_at, past_at, return_at_device, same_either, sends_returned, take_next}
use Rattle.seat_facts.proofs.Replying.{last_open, last_told, replies_back, reply_begun, reply_none}
use Rattle.seat_facts.proofs.Steps.{BeginAt, BeginStep, Known, ReturnStep, Step, along_back, begun_here, events_back, returned_here, threads_in}
use Rattle.seat_facts.proofs.Threads.{calls_in}

-- a device by itself
abbrev pub ByItself : Type 0
ByItself =
    (s : Setup) (lines : List FileLine) (device : Name) (turns : List ℕ) (b : BeginEvent) (replies : List ReplyContent) → ComesOn s lines device turns b → length replies ≡ sends_in (judged s (merged_so_far (parts lines) turns))
    → driver_calls (valued (judged s (merged_so_far (parts lines) turns)) replies) (begun_of s (judged s (merged_so_far (parts lines) turns)) b).opened
    ≡ driver_calls (valued (judged s (device_so_far (parts lines) device turns)) (device_replies s (parts lines) device turns replies)) (begun_of s (judged s (device_so_far (parts lines) device turns)) b).opened

-- the events of entries
abbrev pub said_by : List FileLine → List NumberedLine → List TraceEvent
said_by lines back = events_along (parts lines).streams (threads_in back)

-- what is judged behind them
abbrev pub past_of : Setup → List FileLine → List NumberedLine → Past
past_of s lines back = judged s (said_by lines back ++ reverse (parts lines).setup)

-- the replies behind them
abbrev pub given_by : List FileLine → List (List MadeCall) → List ReplyContent → List NumberedLine → List NumberedLine → List ReplyContent
given_by lines made first back rest = replies_back (parts lines).streams (marks_of made) first back rest

-- those on a device
abbrev pub given_on : Setup → List FileLine → List (List MadeCall) → List ReplyContent → Name → List NumberedLine → List NumberedLine → List ReplyContent
given_on s lines made first d back rest = device_replies s (parts lines) d (threads_in back) (given_by lines made first back rest)

-- those to the last call of a thread in a log
abbrev pub last_by : Setup → List FileLine → List (List MadeCall) → List ReplyContent → ℕ → List NumberedLine → List NumberedLine → ℕ → List ReplyContent
last_by s lines made first n back rest t = last_told (parts lines).streams (marks_of made) (last_replies (judged s (reverse (parts lines).setup)) first t) n t back rest

-- the exchanges of the calls that a thread has begun
abbrev pub exchanged_by : List FileLine → List (List MadeCall) → ℕ → List Line → List (DriverCallContent × ReplyContent)
exchanged_by lines made t entries = flat_map exchange_made (take (begun_by_thread t entries) (calls_in (parts lines).streams made t))

-- so it is behind these entries, before those
pub record Good (s : Setup) (lines : List FileLine) (devices : List Name) (made : List (List MadeCall)) (first : List ReplyContent) (back rest : List NumberedLine) : Type 0 where
  pub enough : length (given_by lines made first back rest) ≡ sends_in (past_of s lines back)
  pub answered : AreAnswered s (reverse (parts lines).setup) first (said_by lines back) (given_by lines made first back rest)
  pub told : (t : ℕ) → told_by_thread s t (reverse (parts lines).setup) (said_by lines back) (given_by lines made first back rest) ≡ exchanged_by lines made t (lines_of back)
  pub on_devices : (n : ℕ) (d : Name) → slice_get devices n ≡ Some d
      → AtDevice s lines first (plan_cut (parts lines) d).streams (lines_of_log n back) (given_on s lines made first d back rest) (last_by s lines made first n back rest)

module _ (s : Setup) (k : Option Kept) (lines : List FileLine) (devices : List Name) (logs : List (List Line)) (made : List (List MadeCall)) (merged : List NumberedLine) (first : List ReplyContent) (known : Known lines devices logs merged)
    (guarded : GivesGuarded s) (starts : (start : Start) → IsStartOf k start → StartStands start s (reverse (parts lines).setup) first) (by_itself : ByItself)
    (steps : (back rest : List NumberedLine) (x : NumberedLine) → merged ≡ reverse back ++ x ∷ rest → Step k lines devices made back rest x) where
  -- ---- a begin

  module _ (back rest : List NumberedLine) (x : NumberedLine) (is : merged ≡ reverse back ++ x ∷ rest) (good : Good s lines devices made first back (x ∷ rest)) (m : MadeCall) (st : BeginStep k lines devices made back rest x m) where
    abbrev own : List ReplyContent
    own = replies_read m.begun.skip m.reply

    abbrev given : List ReplyContent
    given = given_by lines made first back (x ∷ rest)

    abbrev opened : Opened
    opened = (begun_of s (past_of s lines back) m.begun.begin).opened

    replied : IsReplied m
    replied = record { silent = st.silent; single = st.single; replied = st.replied }

    -- what it tells at a device by itself, which is that of its log
    told_at_device : (d : Name) (n : ℕ) → slice_get devices n ≡ Some d → BeginAt k lines d x.line.thread (lines_of_log n back) m
        → driver_calls (valued (past_at s lines (plan_cut (parts lines) d).streams (lines_of_log n back)) (given_on s lines made first d back (x ∷ rest))) (opened_at s lines (plan_cut (parts lines) d).streams (lines_of_log n back) m.begun.begin) ≡ m.begun.told
    told_at_device d n there at =
        at.tells.calls s (reverse (parts lines).setup) first (given_on s lines made first d back (x ∷ rest)) (starts at.start at.starts) at.gapped (good.on_devices n d there).replies

    comes : ComesOn s lines st.device (threads_in back) m.begun.begin
    comes = record {
      guarded = guarded;
      order = known.order;
      grammar = known.grammar;
      along = along_back lines devices logs merged known back (x ∷ rest) is;
      next = ap (λ (t : ℕ). next_turn (parts lines).streams t (threads_in back)) st.own ∙ st.next;
      on = st.on x.log st.device st.there ∙ eq-eqb x.log x.log refl;
    }

    -- and in the trace
    told_here : driver_calls (valued (past_of s lines back) (given_by lines made first back (x ∷ rest))) (begun_of s (past_of s lines back) m.begun.begin).opened ≡ m.begun.told
    told_here =
        by_itself s lines st.device (threads_in back) m.begun.begin (given_by lines made first back (x ∷ rest)) comes good.enough
        ∙ (ap (λ (es : List TraceEvent). driver_calls (valued (judged s (es ++ reverse (parts lines).setup)) (given_on s lines made first st.device back (x ∷ rest))) (begun_of s (judged s (es ++ reverse (parts lines).setup)) m.begun.begin).opened)
        (events_back lines devices logs merged known back (x ∷ rest) x.log st.device is st.there)
        ∙ told_at_device st.device x.log st.there st.at)

    drivers : length (begun_of s (past_of s lines back) m.begun.begin).opened.drivers ≡ length (replies_read m.begun.skip m.reply)
    drivers = counted (valued (past_of s lines back) (given_by lines made first back (x ∷ rest))) (begun_of s (past_of s lines back) m.begun.begin).opened m replied told_here

    reply_is : reply_at (parts lines).streams (marks_of made) (lines_of back) x.line (lines_of rest) ≡ replies_read m.begun.skip m.reply
    reply_is = reply_begun k lines devices made back rest x m st (λ skip. code_of_reply (valued (past_of s lines back) (given_by lines made first back (x ∷ rest))) (begun_of s (past_of s lines back) m.begun.begin).opened m replied told_here skip)

    given_is : given_by lines made first (x ∷ back) rest ≡ replies_read m.begun.skip m.reply ++ given_by lines made first back (x ∷ rest)
    given_is = ap (λ (rs : List ReplyContent). rs ++ given_by lines made first back (x ∷ rest)) reply_is

    said_is : said_by lines (x ∷ back) ≡ Begin m.begun.begin ∷ said_by lines back
    said_is = ap (λ (o : Option TraceEvent). with_event o (said_by lines back)) st.next

    begin_enough : length (given_by lines made first (x ∷ back) rest) ≡ sends_in (past_of s lines (x ∷ back))
    begin_enough =
        at_both (λ es rs. length rs ≡ sends_in (judged s (es ++ reverse (parts lines).setup))) (said_by lines (x ∷ back)) (Begin m.begun.begin ∷ said_by lines back) (given_by lines made first (x ∷ back) rest) (own ++ given) said_is given_is there
      where
        there : length (replies_read m.begun.skip m.reply ++ given_by lines made first back (x ∷ rest)) ≡ sends_in (past_of s lines back) + length (begun_of s (past_of s lines back) m.begun.begin).opened.drivers
        there =
            let both : length (own ++ given) ≡ length own + length given = length-append own given in
            let before : length given ≡ sends_in (past_of s lines back) = good.enough in
            let here : length opened.drivers ≡ length own = drivers in
            omega (arith, both, before, here)

    begin_answered : AreAnswered s (reverse (parts lines).setup) first (said_by lines (x ∷ back)) (given_by lines made first (x ∷ back) rest)
    begin_answered =
        at_both (λ es rs. AreAnswered s (reverse (parts lines).setup) first es rs) (said_by lines (x ∷ back)) (Begin m.begun.begin ∷ said_by lines back) (given_by lines made first (x ∷ back) rest) (own ++ given) said_is given_is
        (may_there opened m given drivers (past_of s lines back) replied told_here, subst (AreAnswered s (reverse (parts lines).setup) first (said_by lines back)) (sym (before_is opened m given drivers)) good.answered)

    -- one call more of its thread
    one_more : (t : ℕ) → exchanged_by lines made t (lines_of back) ++ cond (x.line.thread == t) (exchange_made m) [] ≡ exchanged_by lines made t (lines_of (x ∷ back))
    one_more t =
        go (x.line.thread == t) refl
        ∙ sym (ap (λ (v : Bool). flat_map exchange_made (take (length (cond (x.line.thread == t && v) (x.line ∷ filter (λ (e : Line). e.thread == t && e.begins) (lines_of back)) (filter (λ (e : Line). e.thread == t && e.begins) (lines_of back))))
        (calls_in (parts lines).streams made t))) st.begins_is)
      where
        go : (u : Bool) → (x.line.thread == t) ≡ u
            → exchanged_by lines made t (lines_of back) ++ cond u (exchange_made m) []
            ≡ flat_map exchange_made (take (length (cond (u && true) (x.line ∷ filter (λ (e : Line). e.thread == t && e.begins) (lines_of back)) (filter (λ (e : Line). e.thread == t && e.begins) (lines_of back)))) (calls_in (parts lines).streams made t))
        go true same =
            let at : slice_get (calls_in (parts lines).streams made t) (begun_by_thread t (lines_of back)) ≡ Some m =
            subst (λ (v : ℕ). slice_get (calls_in (parts lines).streams made v) (begun_by_thread v (lines_of back)) ≡ Some m) (eqb-true x.line.thread t same) st.place in
            ap (λ (es : List (DriverCallContent × ReplyContent)). exchanged_by lines made t (lines_of back) ++ es) (sym (append-nil (exchange_made m)))
            ∙ (sym (flat_map-append exchange_made (take (begun_by_thread t (lines_of back)) (calls_in (parts lines).streams made t)) (m ∷ []))
            ∙ sym (ap (flat_map exchange_made) (take_next (calls_in (parts lines).streams made t) (begun_by_thread t (lines_of back)) m at)))
        go false other = append-nil (exchanged_by lines made t (lines_of back))

    begin_told : (t : ℕ) → told_by_thread s t (reverse (parts lines).setup) (said_by lines (x ∷ back)) (given_by lines made first (x ∷ back) rest) ≡ exchanged_by lines made t (lines_of (x ∷ back))
    begin_told t =
        at_both (λ es rs. told_by_thread s t (reverse (parts lines).setup) es rs ≡ exchanged_by lines made t (lines_of (x ∷ back))) (said_by lines (x ∷ back)) (Begin m.begun.begin ∷ said_by lines back) (given_by lines made first (x ∷ back) rest)
        (own ++ given) said_is given_is
        (ap (λ (rs : List ReplyContent).
        told_by_thread s t (reverse (parts lines).setup) (said_by lines back) rs
        ++ cond (m.begun.begin.thread == t) (begin_exchanges (valued (past_of s lines back) (before_call opened (own ++ given))) opened (own_replies opened (own ++ given))) []) (before_is opened m given drivers)
        ∙ (ap (λ (es : List (DriverCallContent × ReplyContent)).
        told_by_thread s t (reverse (parts lines).setup) (said_by lines back) given ++ cond (m.begun.begin.thread == t) es []) (exchange_is opened m given drivers (past_of s lines back) told_here)
        ∙ (ap (λ (es : List (DriverCallContent × ReplyContent)). es ++ cond (m.begun.begin.thread == t) (exchange_made m) []) (good.told t)
        ∙ (ap (λ (v : ℕ). exchanged_by lines made t (lines_of back) ++ cond (v == t) (exchange_made m) []) st.own ∙ one_more t))))

    -- the replies on a device
    on_device : (n : ℕ) (d : Name) → slice_get devices n ≡ Some d
        → given_on s lines made first d (x ∷ back) rest ≡ cond (x.log == n) (replies_read m.begun.skip m.reply ++ given_on s lines made first d back (x ∷ rest)) (given_on s lines made first d back (x ∷ rest))
    on_device n d there =
        at_both (λ es rs. replies_on s (parts lines) d (reverse (parts lines).setup) es rs ≡ cond (x.log == n) (own ++ given_on s lines made first d back (x ∷ rest)) (given_on s lines made first d back (x ∷ rest)))
        (said_by lines (x ∷ back)) (Begin m.begun.begin ∷ said_by lines back) (given_by lines made first (x ∷ back) rest) (own ++ given) said_is given_is
        (ap (λ (rs : List ReplyContent). with_own (is_call_on (parts lines) d m.begun.begin) (length opened.drivers) (own ++ given) (replies_on s (parts lines) d (reverse (parts lines).setup) (said_by lines back) rs)) (before_is opened m given drivers)
        ∙ (ap (λ (u : Bool). with_own u (length opened.drivers) (own ++ given) (given_on s lines made first d back (x ∷ rest))) (st.on n d there) ∙ go (x.log == n)))
      where
        go : (u : Bool) → with_own u (length (begun_of s (past_of s lines back) m.begun.begin).opened.drivers) (replies_read m.begun.skip m.reply ++ given_by lines made first back (x ∷ rest)) (given_on s lines made first d back (x ∷ rest))
            ≡ cond u (replies_read m.begun.skip m.reply ++ given_on s lines made first d back (x ∷ rest)) (given_on s lines made first d back (x ∷ rest))
        go true = ap (λ (rs : List ReplyContent). rs ++ given_on s lines made first d back (x ∷ rest)) (front_is opened m given drivers)
        go false = refl

    -- the device of a number is that of the log
    at_its_log : (n : ℕ) (d : Name) → slice_get devices n ≡ Some d → (x.log == n) ≡ true → BeginAt k lines d x.line.thread (lines_of_log n back) m
    at_its_log n d there same =
        let log : x.log ≡ n = eqb-true x.log n same in
        let both : Some st.device ≡ Some d = sym st.there ∙ (ap (slice_get devices) log ∙ there) in
        let device : st.device ≡ d = cc in
        subst (λ (e : Name). BeginAt k lines e x.line.thread (lines_of_log n back) m) device (subst (λ (q : ℕ). BeginAt k lines st.device x.line.thread (lines_of_log q back) m) log st.at)

    begin_on_devices : (n : ℕ) (d : Name) → slice_get devices n ≡ Some d
        → AtDevice s lines first (plan_cut (parts lines) d).streams (lines_of_log n (x ∷ back)) (given_on s lines made first d (x ∷ back) rest) (last_by s lines made first n (x ∷ back) rest)
    begin_on_devices n d there =
        subst (λ (rs : List ReplyContent). AtDevice s lines first (plan_cut (parts lines) d).streams (lines_of_log n (x ∷ back)) rs (last_by s lines made first n (x ∷ back) rest)) (sym (on_device n d there)) (go (x.log == n) refl)
      where
        before : AtDevice s lines first (plan_cut (parts lines) d).streams (lines_of_log n back) (given_on s lines made first d back (x ∷ rest)) (last_by s lines made first n back (x ∷ rest))
        before = good.on_devices n d there

        go : (u : Bool) → (x.log == n) ≡ u
            → AtDevice s lines first (plan_cut (parts lines) d).streams (map (λ (y : NumberedLine). y.line) (cond u (x ∷ filter (λ (y : NumberedLine). y.log == n) back) (filter (λ (y : NumberedLine). y.log == n) back)))
            (cond u (replies_read m.begun.skip m.reply ++ given_on s lines made first d back (x ∷ rest)) (given_on s lines made first d back (x ∷ rest)))
            (λ t. cond (x.line.thread == t)
            (cond u (cond x.line.begins (reply_at (parts lines).streams (marks_of made) (lines_of back) x.line (lines_of rest)) (last_by s lines made first n back (x ∷ rest) t)) (last_by s lines made first n back (x ∷ rest) t))
            (last_by s lines made first n back (x ∷ rest) t))
        go true same =
            let at : BeginAt k lines d x.line.thread (lines_of_log n back) m = at_its_log n d there same in
            let here = begin_at_device s lines first (plan_cut (parts lines) d).streams (lines_of_log n back) (given_on s lines made first d back (x ∷ rest)) (last_by s lines made first n back (x ∷ rest)) before x.line m replied st.own at.next
            (told_at_device d n there at) in
            record {
              replies = here.replies;
              last_is = λ t.
                  here.last_is t
                  ∙ ap (λ (rs : List ReplyContent). cond (x.line.thread == t) rs (last_by s lines made first n back (x ∷ rest) t))
                  (sym (ap (λ (v : Bool). cond v (reply_at (parts lines).streams (marks_of made) (lines_of back) x.line (lines_of rest)) (last_by s lines made first n back (x ∷ rest) t)) st.begins_is ∙ reply_is));
            }
        go false other = record { replies = before.replies; last_is = λ t. before.last_is t ∙ sym (same_either (x.line.thread == t) (last_by s lines made first n back (x ∷ rest) t)) }

    good_begin : Good s lines devices made first (x ∷ back) rest
    good_begin = record { enough = begin_enough; answered = begin_answered; told = begin_told; on_devices = begin_on_devices }

  -- ---- a return

  module _ (back rest : List NumberedLine) (x : NumberedLine) (is : merged ≡ reverse back ++ x ∷ rest) (good : Good s lines devices made first back (x ∷ rest)) (st : ReturnStep lines devices back x) where
    none_given : given_by lines made first (x ∷ back) rest ≡ given_by lines made first back (x ∷ rest)
    none_given = ap (λ (rs : List ReplyContent). rs ++ given_by lines made first back (x ∷ rest)) (reply_none k lines devices made back rest x st.ends)

    return_said : said_by lines (x ∷ back) ≡ Return x.line.thread ∷ said_by lines back
    return_said = ap (λ (o : Option TraceEvent). with_event o (said_by lines back)) st.next

    none_begun : (t : ℕ) → begun_by_thread t (lines_of back) ≡ begun_by_thread t (lines_of (x ∷ back))
    none_begun t =
        sym (ap (λ (v : Bool). length (cond (x.line.thread == t && v) (x.line ∷ filter (λ (e : Line). e.thread == t && e.begins) (lines_of back)) (filter (λ (e : Line). e.thread == t && e.begins) (lines_of back)))) st.ends ∙ go (x.line.thread == t))
      where
        go : (u : Bool) → length (cond (u && false) (x.line ∷ filter (λ (e : Line). e.thread == t && e.begins) (lines_of back)) (filter (λ (e : Line). e.thread == t && e.begins) (lines_of back))) ≡ begun_by_thread t (lines_of back)
        go true = refl
        go false = refl

    -- the results are those of the open call
    results_are : (n : ℕ) → (x.log == n) ≡ true → handles_of (last_by s lines made first n back (x ∷ rest) x.line.thread) ≡ x.line.results
    results_are n same =
        last_open k lines devices made merged steps (last_replies (judged s (reverse (parts lines).setup)) first x.line.thread) n x.line.thread back (x ∷ rest) st.first st.others is st.behind (ap (λ (q : ℕ). q == n) st.same_log ∙ same) st.begun
        ∙ (ap (λ (u : Bool). cond u (cond x.line.begins [] x.line.results) (next_results x.line.thread (lines_of rest))) (eq-eqb x.line.thread x.line.thread refl) ∙ ap (λ (v : Bool). cond v [] x.line.results) st.ends)

    none_on_device : (n : ℕ) (d : Name) → given_on s lines made first d (x ∷ back) rest ≡ given_on s lines made first d back (x ∷ rest)
    none_on_device n d =
        at_both (λ es rs. replies_on s (parts lines) d (reverse (parts lines).setup) es rs ≡ given_on s lines made first d back (x ∷ rest)) (said_by lines (x ∷ back)) (Return x.line.thread ∷ said_by lines back)
        (given_by lines made first (x ∷ back) rest) (given_by lines made first back (x ∷ rest)) return_said none_given refl

    return_on_devices : (n : ℕ) (d : Name) → slice_get devices n ≡ Some d
        → AtDevice s lines first (plan_cut (parts lines) d).streams (lines_of_log n (x ∷ back)) (given_on s lines made first d (x ∷ back) rest) (last_by s lines made first n (x ∷ back) rest)
    return_on_devices n d there =
        subst (λ (rs : List ReplyContent). AtDevice s lines first (plan_cut (parts lines) d).streams (lines_of_log n (x ∷ back)) rs (last_by s lines made first n (x ∷ back) rest)) (sym (none_on_device n d)) (go (x.log == n) refl)
      where
        before : AtDevice s lines first (plan_cut (parts lines) d).streams (lines_of_log n back) (given_on s lines made first d back (x ∷ rest)) (last_by s lines made first n back (x ∷ rest))
        before = good.on_devices n d there

        next : (x.log == n) ≡ true → next_event (plan_cut (parts lines) d).streams x.line.thread (lines_of_log n back) ≡ Some (Return x.line.thread)
        next same =
            let log : x.log ≡ n = eqb-true x.log n same in
            subst (λ (q : ℕ). next_event (plan_cut (parts lines) d).streams x.line.thread (lines_of_log q back) ≡ Some (Return x.line.thread)) log (st.plan_next d (ap (slice_get devices) log ∙ there))

        unchanged : (u : Bool) (t : ℕ)
            → cond (x.line.thread == t)
            (cond u (cond x.line.begins (reply_at (parts lines).streams (marks_of made) (lines_of back) x.line (lines_of rest)) (last_by s lines made first n back (x ∷ rest) t)) (last_by s lines made first n back (x ∷ rest) t))
            (last_by s lines made first n back (x ∷ rest) t)
            ≡ last_by s lines made first n back (x ∷ rest) t
        unchanged u t =
            ap (λ (v : Bool). cond (x.line.thread == t) (cond u (cond v (reply_at (parts lines).streams (marks_of made) (lines_of back) x.line (lines_of rest)) (last_by s lines made first n back (x ∷ rest) t)) (last_by s lines made first n back (x ∷ rest) t))
            (last_by s lines made first n back (x ∷ rest) t)) st.ends
            ∙ (ap (λ (rs : List ReplyContent). cond (x.line.thread == t) rs (last_by s lines made first n back (x ∷ rest) t)) (same_either u (last_by s lines made first n back (x ∷ rest) t))
            ∙ same_either (x.line.thread == t) (last_by s lines made first n back (x ∷ rest) t))

        go : (u : Bool) → (x.log == n) ≡ u
            → AtDevice s lines first (plan_cut (parts lines) d).streams (map (λ (y : NumberedLine). y.line) (cond u (x ∷ filter (λ (y : NumberedLine). y.log == n) back) (filter (λ (y : NumberedLine). y.log == n) back)))
            (given_on s lines made first d back (x ∷ rest))
            (λ t. cond (x.line.thread == t)
            (cond u (cond x.line.begins (reply_at (parts lines).streams (marks_of made) (lines_of back) x.line (lines_of rest)) (last_by s lines made first n back (x ∷ rest) t)) (last_by s lines made first n back (x ∷ rest) t))
            (last_by s lines made first n back (x ∷ rest) t))
        go true same =
            let here = return_at_device s lines first (plan_cut (parts lines) d).streams (lines_of_log n back) (given_on s lines made first d back (x ∷ rest)) (last_by s lines made first n back (x ∷ rest)) before x.line (next same) (results_are n same) in
            record { replies = here.replies; last_is = λ t. here.last_is t ∙ sym (unchanged true t) }
        go false other = record { replies = before.replies; last_is = λ t. before.last_is t ∙ sym (unchanged false t) }

    good_return : Good s lines devices made first (x ∷ back) rest
    good_return = record {
      enough = at_both (λ es rs. length rs ≡ sends_in (judged s (es ++ reverse (parts lines).setup))) (said_by lines (x ∷ back)) (Return x.line.thread ∷ said_by lines back) (given_by lines made first (x ∷ back) rest) (given_by lines made first back (x ∷ rest))
          return_said none_given (good.enough ∙ sym (sends_returned s (past_of s lines back) (find (is_of x.line.thread) (open_calls (past_of s lines back)))));
      answered = at_both (λ es rs. AreAnswered s (reverse (parts lines).setup) first es rs) (said_by lines (x ∷ back)) (Return x.line.thread ∷ said_by lines back) (given_by lines made first (x ∷ back) rest) (given_by lines made first back (x ∷ rest))
          return_said none_given good.answered;
      told = λ t.
          at_both (λ es rs. told_by_thread s t (reverse (parts lines).setup) es rs ≡ exchanged_by lines made t (lines_of (x ∷ back))) (said_by lines (x ∷ back)) (Return x.line.thread ∷ said_by lines back) (given_by lines made first (x ∷ back) rest)
          (given_by lines made first back (x ∷ rest)) return_said none_given (good.told t ∙ ap (λ (n : ℕ). flat_map exchange_made (take n (calls_in (parts lines).streams made t))) (none_begun t));
      on_devices = return_on_devices;
    }

  -- ---- all entries

  onward : (back rest : List NumberedLine) (x : NumberedLine) → merged ≡ reverse back ++ x ∷ rest → Good s lines devices made first back (x ∷ rest) → Step k lines devices made back rest x → Good s lines devices made first (x ∷ back) rest
  onward back rest x is good (begun_here m st) = good_begin back rest x is good m st
  onward back rest x is good (returned_here st) = good_return back rest x is good st

  pub all_good : length first ≡ sends_in (judged s (reverse (parts lines).setup)) → (back rest : List NumberedLine) → merged ≡ reverse back ++ rest → Good s lines devices made first back rest
  all_good enough [] rest is = record { enough = enough; answered = refl; told = λ t. refl; on_devices = λ n d there. record { replies = refl; last_is = λ t. refl } }
  all_good enough (x ∷ back) rest is =
      let at : merged ≡ reverse back ++ x ∷ rest = is ∙ reverse_onto x back rest in onward back rest x at (all_good enough back (x ∷ rest) at) (steps back rest x at)
