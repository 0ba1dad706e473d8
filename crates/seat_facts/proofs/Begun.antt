-- What a begin and its replies come to: at its device alone, and in the whole trace.
use Rattle.std.proofs.Common.{◌≡◌, ◌∙◌, ◌==◌, ℕ, zero, suc, Bool, true, false, cond, Option, Some, None, List, [], ◌∷◌, ◌++◌, length, map, take, drop, refl, sym, ap, subst}
use Rattle.std.specs.Prelude.{find, reverse, slice_get}
use Rattle.std.specs.List.{zip}
use Rattle.std.proofs.lemmas.List.{length-map}
use Rattle.command_tables.specs.Calls.{DriverCallContent, ReplyContent}
use Rattle.stream_log.specs.declared.line.Line.{Line}
use Rattle.trace_format.specs.Content.{BeginEvent, TraceEvent, Begin, Return}
use Rattle.replay_model.specs.Direct.{Valued, before_call, driver_call, driver_calls, own_replies, sends_in, valued}
use Rattle.replay_model.specs.Judged.{begun_of, judged, returned_by}
use Rattle.replay_model.specs.Past.{Opened, Past, is_of, open_calls}
use Rattle.replay_model.specs.Setup.{Setup}
use Rattle.session_model.specs.Stands.{AreRepliesTo}
use Rattle.stream_model.specs.FileLines.{FileLine}
use Rattle.stream_model.specs.FileParts.{StreamPart, parts}
use Rattle.stream_model.specs.Plans.{with_event}
use Rattle.shard_model.specs.Followed.{events_of, next_event}
use Rattle.shard_model.specs.Replies.{AreReplies, BeginReplies, RepliesAt, handles_of, last_replies}
use Rattle.device_shard.specs.Lanes.{replies_read}
use Rattle.stream_workers.specs.Calls.{MadeCall, exchange_made}
use Rattle.seat_facts.proofs.Replying.{drops_own, takes_own, turns_own}

-- ---- small facts

-- what holds of other events and replies holds of the same ones
pub at_both : (P : List TraceEvent → List ReplyContent → Type 0) (es fs : List TraceEvent) (rs qs : List ReplyContent) → es ≡ fs → rs ≡ qs → P fs qs → P es rs
at_both P es fs rs qs events replies holds = subst (λ (ds : List TraceEvent). P ds rs) (sym events) (subst (λ (ps : List ReplyContent). P fs ps) (sym replies) holds)

pub same_either : {X : Type 0} (u : Bool) (x : X) → cond u x x ≡ x
same_either true x = refl
same_either false x = refl

pub take_next : {X : Type 0} (xs : List X) (n : ℕ) (x : X) → slice_get xs n ≡ Some x → take (suc n) xs ≡ take n xs ++ x ∷ []
take_next [] n x is = cc is
take_next (y ∷ xs) zero x is = let one : y ≡ x = cc in ap (λ z. z ∷ []) one
take_next (y ∷ xs) (suc n) x is = ap (λ zs. y ∷ zs) (take_next xs n x is)

pub sends_returned : (s : Setup) (past : Past) (f : Option Opened) → sends_in (returned_by s past f) ≡ sends_in past
sends_returned s past None = refl
sends_returned s past (Some o) = refl

pub last_returned : (s : Setup) (past : Past) (f : Option Opened) (replies : List ReplyContent) (t : ℕ) → last_replies (returned_by s past f) replies t ≡ last_replies past replies t
last_returned s past None replies t = refl
last_returned s past (Some o) replies t = refl

-- ---- a call that was made

-- what is known of what a call told and what was replied
pub record IsReplied (m : MadeCall) : Type 0 where
  pub silent : m.begun.skip ≡ true → m.begun.told ≡ []
  pub single : m.begun.skip ≡ false → length m.begun.told ≡ 1
  pub replied : m.begun.skip ≡ false → AreRepliesTo m.begun.told (m.reply ∷ [])

counted_by : (vs : List Valued) (o : Opened) (told : List DriverCallContent) (skip : Bool) (reply : ReplyContent) → driver_calls vs o ≡ told → (skip ≡ true → told ≡ []) → (skip ≡ false → length told ≡ 1) → length o.drivers ≡ length (replies_read skip reply)
counted_by vs o told true reply is silent single = sym (length-map o.drivers (driver_call vs o)) ∙ ap length (is ∙ silent refl)
counted_by vs o told false reply is silent single = sym (length-map o.drivers (driver_call vs o)) ∙ (ap length is ∙ single refl)

-- it has as many drivers as replies
pub counted : (vs : List Valued) (o : Opened) (m : MadeCall) → IsReplied m → driver_calls vs o ≡ m.begun.told → length o.drivers ≡ length (replies_read m.begun.skip m.reply)
counted vs o m r is = counted_by vs o m.begun.told m.begun.skip m.reply is r.silent r.single

may_by : (told : List DriverCallContent) (skip : Bool) (reply : ReplyContent) → (skip ≡ true → told ≡ []) → (skip ≡ false → AreRepliesTo told (reply ∷ [])) → AreRepliesTo told (replies_read skip reply)
may_by told true reply silent replied = subst (λ (cs : List DriverCallContent). AreRepliesTo cs []) (sym (silent refl)) tt
may_by told false reply silent replied = replied refl

pub may_reply : (m : MadeCall) → IsReplied m → AreRepliesTo m.begun.told (replies_read m.begun.skip m.reply)
may_reply m r = may_by m.begun.told m.begun.skip m.reply r.silent r.replied

code_of_first : (vs : List Valued) (o : Opened) (reply : ReplyContent) (drivers : List ℕ) → AreRepliesTo (map (driver_call vs o) drivers) (reply ∷ []) → reply.code ≡ o.code
code_of_first vs o reply [] may = absurd may
code_of_first vs o reply (d ∷ drivers) may = may.0.code

-- its reply has its code
pub code_of_reply : (vs : List Valued) (o : Opened) (m : MadeCall) → IsReplied m → driver_calls vs o ≡ m.begun.told → m.begun.skip ≡ false → m.reply.code ≡ o.code
code_of_reply vs o m r is skip = code_of_first vs o m.reply o.drivers (subst (λ (cs : List DriverCallContent). AreRepliesTo cs (m.reply ∷ [])) (sym is) (r.replied skip))

-- ---- the replies in front of others

module _ (o : Opened) (m : MadeCall) (before : List ReplyContent) (drivers : length o.drivers ≡ length (replies_read m.begun.skip m.reply)) where
  pub before_is : before_call o (replies_read m.begun.skip m.reply ++ before) ≡ before
  before_is = ap (λ (n : ℕ). drop n (replies_read m.begun.skip m.reply ++ before)) drivers ∙ drops_own m.begun.skip m.reply before

  pub front_is : take (length o.drivers) (replies_read m.begun.skip m.reply ++ before) ≡ replies_read m.begun.skip m.reply
  front_is = ap (λ (n : ℕ). take n (replies_read m.begun.skip m.reply ++ before)) drivers ∙ takes_own m.begun.skip m.reply before

  pub own_is : own_replies o (replies_read m.begun.skip m.reply ++ before) ≡ replies_read m.begun.skip m.reply
  own_is = ap reverse front_is ∙ turns_own m.begun.skip m.reply

  pub exchange_is : (past : Past) → driver_calls (valued past before) o ≡ m.begun.told
      → zip (driver_calls (valued past (before_call o (replies_read m.begun.skip m.reply ++ before))) o) (own_replies o (replies_read m.begun.skip m.reply ++ before)) ≡ exchange_made m
  exchange_is past is =
      ap (λ (rs : List ReplyContent). zip (driver_calls (valued past rs) o) (own_replies o (replies_read m.begun.skip m.reply ++ before))) before_is
      ∙ (ap (λ (rs : List ReplyContent). zip (driver_calls (valued past before) o) rs) own_is ∙ ap (λ (cs : List DriverCallContent). zip cs (replies_read m.begun.skip m.reply)) is)

  pub may_there : (past : Past) → IsReplied m → driver_calls (valued past before) o ≡ m.begun.told
      → AreRepliesTo (driver_calls (valued past (before_call o (replies_read m.begun.skip m.reply ++ before))) o) (own_replies o (replies_read m.begun.skip m.reply ++ before))
  may_there past r is =
      subst (λ (rs : List ReplyContent). AreRepliesTo (driver_calls (valued past rs) o) (own_replies o (replies_read m.begun.skip m.reply ++ before))) (sym before_is)
      (subst (λ (rs : List ReplyContent). AreRepliesTo (driver_calls (valued past before) o) rs) (sym own_is)
      (subst (λ (cs : List DriverCallContent). AreRepliesTo cs (replies_read m.begun.skip m.reply)) (sym is) (may_reply m r)))

-- ---- at a device

-- Of a device these are the replies to the calls of its log, and this was replied to the last call of each thread there.
pub record AtDevice (s : Setup) (lines : List FileLine) (first : List ReplyContent) (plan : List StreamPart) (entries : List Line) (own : List ReplyContent) (last : ℕ → List ReplyContent) : Type 0 where
  pub replies : AreReplies s (reverse (parts lines).setup) first plan entries own
  pub last_is : (t : ℕ) → last_replies (judged s (events_of plan entries ++ reverse (parts lines).setup)) own t ≡ last t

-- what is judged behind a log, and a begin there
abbrev pub past_at : Setup → List FileLine → List StreamPart → List Line → Past
past_at s lines plan entries = judged s (events_of plan entries ++ reverse (parts lines).setup)

abbrev pub opened_at : Setup → List FileLine → List StreamPart → List Line → BeginEvent → Opened
opened_at s lines plan entries b = (begun_of s (past_at s lines plan entries) b).opened

module _ (s : Setup) (lines : List FileLine) (first : List ReplyContent) (plan : List StreamPart) (entries : List Line) (own : List ReplyContent) (last : ℕ → List ReplyContent) (here : AtDevice s lines first plan entries own last) where
  -- a return adds no reply
  pub return_at_device : (e : Line) → next_event plan e.thread entries ≡ Some (Return e.thread) → handles_of (last e.thread) ≡ e.results → AtDevice s lines first plan (e ∷ entries) own last
  return_at_device e next handles = record {
    replies = subst (λ (o : Option TraceEvent). RepliesAt s (past_at s lines plan entries) e o (AreReplies s (reverse (parts lines).setup) first plan entries) own) (sym next)
        (here.replies, ap handles_of (here.last_is e.thread) ∙ handles);
    last_is = λ t.
        ap (λ (o : Option TraceEvent). last_replies (judged s (with_event o (events_of plan entries) ++ reverse (parts lines).setup)) own t) next
        ∙ (last_returned s (past_at s lines plan entries) (find (is_of e.thread) (open_calls (past_at s lines plan entries))) own t ∙ here.last_is t);
  }

  -- a begin adds those to its call
  pub begin_at_device : (e : Line) (m : MadeCall) → IsReplied m → m.begun.begin.thread ≡ e.thread → next_event plan e.thread entries ≡ Some (Begin m.begun.begin)
      → driver_calls (valued (past_at s lines plan entries) own) (opened_at s lines plan entries m.begun.begin) ≡ m.begun.told
      → AtDevice s lines first plan (e ∷ entries) (replies_read m.begun.skip m.reply ++ own) (λ t. cond (e.thread == t) (replies_read m.begun.skip m.reply) (last t))
  begin_at_device e m r thread next told = record {
    replies = subst (λ (o : Option TraceEvent). RepliesAt s (past_at s lines plan entries) e o (AreReplies s (reverse (parts lines).setup) first plan entries) (replies_read m.begun.skip m.reply ++ own)) (sym next) begin_replies;
    last_is = λ t.
        ap (λ (q : Option TraceEvent). last_replies (judged s (with_event q (events_of plan entries) ++ reverse (parts lines).setup)) (replies_read m.begun.skip m.reply ++ own) t) next
        ∙ (ap (λ (v : ℕ). cond (v == t) (own_replies (opened_at s lines plan entries m.begun.begin) (replies_read m.begun.skip m.reply ++ own)) (last_replies (past_at s lines plan entries) (before_call (opened_at s lines plan entries m.begun.begin) (replies_read m.begun.skip m.reply ++ own)) t)) thread
        ∙ (ap (λ (rs : List ReplyContent). cond (e.thread == t) rs (last_replies (past_at s lines plan entries) (before_call (opened_at s lines plan entries m.begun.begin) (replies_read m.begun.skip m.reply ++ own)) t)) (own_is (opened_at s lines plan entries m.begun.begin) m own drivers)
        ∙ ap (λ (rs : List ReplyContent). cond (e.thread == t) (replies_read m.begun.skip m.reply) rs) (ap (λ (rs : List ReplyContent). last_replies (past_at s lines plan entries) rs t) (before_is (opened_at s lines plan entries m.begun.begin) m own drivers) ∙ here.last_is t)));
  }
    where
      drivers : length (opened_at s lines plan entries m.begun.begin).drivers ≡ length (replies_read m.begun.skip m.reply)
      drivers = counted (valued (past_at s lines plan entries) own) (opened_at s lines plan entries m.begun.begin) m r told

      begin_replies : BeginReplies s (past_at s lines plan entries) m.begun.begin (AreReplies s (reverse (parts lines).setup) first plan entries) (replies_read m.begun.skip m.reply ++ own)
      begin_replies = record {
        before = own;
        own = replies_read m.begun.skip m.reply;
        earlier = here.replies;
        may = subst (λ (cs : List DriverCallContent). AreRepliesTo cs (replies_read m.begun.skip m.reply)) (sym told) (may_reply m r);
        are = ap (λ (rs : List ReplyContent). rs ++ own) (sym (turns_own m.begun.skip m.reply));
      }
