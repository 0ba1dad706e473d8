-- A session stands for the events of a trace and the replies of its drivers, and what a begin and a return come to then. Events and replies stand newest first.
-- Source: this project.
use Rattle.std.specs.Prelude.{◌≡◌, ℕ, Some, None, List, [], ◌∷◌, ◌++◌, find, length, map, reverse}
use Rattle.std.specs.List.{zip}
use Rattle.command_tables.specs.Calls.{DriverCallContent, ReplyContent}
use Rattle.model_driver.specs.Driver.{IsAnsweredBy}
use Rattle.trace_format.specs.declared.event.Name.{Name}
use Rattle.trace_format.specs.Content.{BeginEvent, TraceEvent, Begin, Return}
use Rattle.object_model.specs.History.{Birth}
use Rattle.replay_model.specs.declared.Named.{Named}
use Rattle.replay_model.specs.Setup.{Setup}
use Rattle.replay_model.specs.Past.{calls_in, history, is_of, named, object_in, open_calls, retrievals}
use Rattle.replay_model.specs.Judged.{begun_of, judged, made_of}
use Rattle.replay_model.specs.Direct.{Sent, driver_calls, exchanges_at, own_replies, sends_at, sends_in, sent, valued}
use Rattle.replay_model.specs.Text.{lines_at, reports_in, skipped_in}
use Rattle.chain_model.specs.Handed.{Handed}
use Rattle.chain_model.specs.Simulated.{Held}
use Rattle.chain_model.specs.Traces.{Replies, Simulates}
use Rattle.session_model.specs.Session.{SessionKept}
use Rattle.session_tables.specs.Lined.{AreAdded}
use Rattle.session_model.specs.Living.{AreOfLiving, ArePast}
use Rattle.session_model.specs.Beginning.{begin_lines, begun_kept, calls_told, kept_after_begin}
use Rattle.session_model.specs.Returning.{given_kept, held_of_thread, kept_after_return, made_kept, return_line, sent_of_thread}
use Rattle.session_model.specs.Tables.{SaySame, with_tables}

-- What is kept is what later events read of the judged trace, what is kept of the chain simulates it, and there is one reply for each driver call.
pub record Stands (s : Setup) (k : SessionKept) (events : List TraceEvent) (replies : List ReplyContent) : Type 0 where
  pub calls : k.calls ≡ calls_in (judged s events)
  pub skipped : k.skipped ≡ skipped_in (judged s events)
  pub reports : k.reports ≡ reports_in (judged s events)
  pub names : (n : Name) → object_in k.names n ≡ object_in (named (judged s events)) n
  pub count : k.count ≡ length (named (judged s events))
  pub living : AreOfLiving k.births (history (judged s events))
  pub retrieved : k.retrieved ≡ retrievals (judged s events)
  pub open_calls : map (λ c. c.opened) k.sent ≡ open_calls (judged s events)
  pub sent : k.sent ≡ sent (judged s events) replies
  pub each : length replies ≡ sends_in (judged s events)
  pub simulates : Simulates s k.chain events replies

-- ---- a begin

-- these replies are those that drivers may give to these calls, one for each
abbrev pub AreRepliesTo : List DriverCallContent → List ReplyContent → Type 0
AreRepliesTo [] [] = Unit {0}
AreRepliesTo [] (r ∷ own) = ⊥
AreRepliesTo (c ∷ calls) [] = ⊥
AreRepliesTo (c ∷ calls) (r ∷ own) = IsAnsweredBy c r × AreRepliesTo calls own

-- What a begin comes to: it is judged as the trace says, its drivers are told what the trace makes, its lines are the trace's, and with the replies of
-- its drivers, in their order, what is kept then stands for the trace with the begin. Every list of replies that the trace allows is such a list.
pub record BeginsWell (s : Setup) (k : SessionKept) (events : List TraceEvent) (e : BeginEvent) (replies : List ReplyContent) : Type 0 where
  pub begun : begun_kept s k e ≡ begun_of s (judged s events) e
  pub told : calls_told s k e ≡ driver_calls (valued (judged s events) replies) (begun_of s (judged s events) e).opened
  pub sends : length (calls_told s k e) ≡ sends_at s (judged s events) (Begin e)
  pub lines : begin_lines s k e ≡ lines_at s (judged s events) (Begin e)
  pub answered : (own : List ReplyContent) → AreRepliesTo (calls_told s k e) own → Replies (valued (judged s events) replies) (begun_of s (judged s events) e).opened replies (reverse own ++ replies)
  pub turned : (after : List ReplyContent) → Replies (valued (judged s events) replies) (begun_of s (judged s events) e).opened replies after
      → AreRepliesTo (calls_told s k e) (own_replies (begun_of s (judged s events) e).opened after) × (reverse (own_replies (begun_of s (judged s events) e).opened after) ++ replies ≡ after)
  pub exchanges : (own : List ReplyContent) → AreRepliesTo (calls_told s k e) own → zip (calls_told s k e) own ≡ exchanges_at s (judged s events) (Begin e) (reverse own ++ replies)
  pub stands : (own : List ReplyContent) (births : List Birth) → AreRepliesTo (calls_told s k e) own → ArePast k.births (begun_kept s k e).opened births
      → Stands s (kept_after_begin s k e own births) (Begin e ∷ events) (reverse own ++ replies)

-- ---- a return

-- What the return of an open call comes to: the call is the trace's, what is born and the line are the trace's, and what is kept then stands for the
-- trace with the return, also with any names and handles that say the same.
pub record ReturnsWell (s : Setup) (k : SessionKept) (events : List TraceEvent) (thread : ℕ) (replies : List ReplyContent) (c : Sent) (h : Held) : Type 0 where
  pub opened : find (is_of thread) (open_calls (judged s events)) ≡ Some c.opened
  pub made : made_kept s k c.opened ≡ made_of s (judged s events) c.opened
  pub line : return_line s k c.opened ≡ lines_at s (judged s events) (Return thread)
  pub stands : (births : List Birth) (names : List Named) (handed : List Handed) → AreAdded k.births (given_kept s k c.opened) births → SaySame (kept_after_return s k c h births) names handed
      → Stands s (with_tables (kept_after_return s k c h births) names handed) (Return thread ∷ events) replies

-- ---- who has an open call

-- a thread has no open call, neither in the session nor in its chain
pub record HasNoCall (k : SessionKept) (thread : ℕ) : Type 0 where
  pub sent : sent_of_thread k thread ≡ None
  pub held : held_of_thread k thread ≡ None

-- a thread has an open call, and the chain holds it
pub record HasCall (k : SessionKept) (thread : ℕ) : Type 0 where
  pub call : Sent
  pub form : Held
  pub sent : sent_of_thread k thread ≡ Some call
  pub held : held_of_thread k thread ≡ Some form
