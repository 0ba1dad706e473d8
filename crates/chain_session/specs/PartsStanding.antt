-- The parts of a session stand for the events of a trace and the replies of its drivers, and what the begin and the return of a call come to then. Events and
-- replies stand newest first. Source: this project.
use Rattle.std.specs.Prelude.{◌≡◌, ◌+◌, ◌==◌, ◌∷◌, ◌++◌, ◌&&◌, ℕ, Bool, false, not, Some, List, [], filter, find, length, reverse}
use Rattle.command_tables.specs.Calls.{CallContent, ReplyContent}
use Rattle.command_tables.specs.Effects.{succeeds}
use Rattle.command_tables.specs.Tests.{same_command}
use Rattle.command_tables.specs.declared.types.CommandId.TheVariants as cmd
use Rattle.trace_format.specs.Content.{BeginEvent, TraceEvent, Begin, Return}
use Rattle.replay_model.specs.Direct.{Sent, driver_calls, valued}
use Rattle.replay_model.specs.Judged.{begun_of, is_refused, judged, made_of}
use Rattle.replay_model.specs.Past.{Opened, calls_in, is_of, is_skipped, open_calls}
use Rattle.replay_model.specs.Setup.{Setup}
use Rattle.layer_model.specs.Ids.{no_ids}
use Rattle.lifetime_layer.specs.declared.verdict.Verdict.{Verdict}
use Rattle.lifetime_layer.specs.Reports.{reports_of}
use Rattle.terminator.specs.Calls.{targets_of}
use Rattle.chain_model.specs.Gaps.{IsGapped}
use Rattle.chain_model.specs.Simulated.{Held}
use Rattle.chain_model.specs.Traces.{GivesGuarded}
use Rattle.dispatch_chain.specs.Holding.{HeldCalls}
use Rattle.session_model.specs.Session.{SessionKept}
use Rattle.session_model.specs.Stands.{AreRepliesTo, Stands}
use Rattle.session_parts.specs.declared.parts.SessionParts.{SessionParts}
use Rattle.session_parts.specs.Entering.{CanEnter, Enters}
use Rattle.session_parts.specs.Leaving.{CanLeave, IsOpen, Leaves}
use Rattle.session_parts.specs.Names.{no_names}
use Rattle.session_parts.specs.Parts.{PartsShow}
use Rattle.chain_session.specs.declared.kept.Kept.{Kept}
use Rattle.chain_session.specs.Splitting.{AreSplit}
use Rattle.chain_session.specs.Standing.{StandsFor}

-- ---- what they stand for

-- a call as it was left when it entered: its begin, its form below the last part, what the parts hold of it, whether it is skipped, and the replies of its drivers
pub record LeftCall : Type 0 where
  pub begin : BeginEvent
  pub call : CallContent
  pub held : HeldCalls
  pub skip : Bool
  pub replies : List ReplyContent

-- it is open where this is kept
pub record IsLeftOpen (k : SessionKept) (l : LeftCall) : Type 0 where
  pub sent : Sent
  pub form : Held
  pub opens : IsOpen k l.begin l.call l.held l.skip l.replies sent form

-- so are all of these
abbrev pub AreLeftOpen : SessionKept → List LeftCall → Type 0
AreLeftOpen k [] = Unit {0}
AreLeftOpen k (l ∷ ls) = IsLeftOpen k l × AreLeftOpen k ls

-- the parts stand for these events and replies, under a setup, and these of their calls are open there
pub record PartsStand (s : Setup) (x : SessionParts) (events : List TraceEvent) (replies : List ReplyContent) (ls : List LeftCall) : Type 0 where
  pub kept : SessionKept
  pub shows : PartsShow s x kept
  pub stands : Stands s kept events replies
  pub opens : AreLeftOpen kept ls

-- parts that keep nothing, above as many drivers as the setup has, stand for no events
abbrev pub NewStand : Type 0
NewStand =
    (s : Setup) (x : SessionParts) → x.states.kept ≡ [] → x.terminator.ids ≡ no_ids → x.terminator.routes ≡ [] → x.terminator.drivers ≡ s.drivers → x.names.kept ≡ no_names → PartsStand s x [] [] []

-- parts that are split from a session which has begun stand for the events and replies for which it stands; they have no call that could leave
abbrev pub SplitStand : Type 0
SplitStand = (s : Setup) (k : Kept) (x : SessionParts) (events : List TraceEvent) (replies : List ReplyContent) → StandsFor s (Some k) events replies → AreSplit (Some k) x → PartsStand s x events replies []

-- ---- a begin

-- A begin of a trace has entered: it is judged as the trace judges it, the terminator tells the drivers what the trace tells them, and with whatever they may
-- answer the parts stand for the trace with the begin, and its call is open beside the others.
pub record EntersTrace (s : Setup) (events : List TraceEvent) (replies : List ReplyContent) (ls : List LeftCall) (e : BeginEvent) (call : CallContent) (held : HeldCalls) (verdict : Verdict) (new : SessionParts) : Type 0 where
  pub reports : reports_of verdict.findings.items ≡ (begun_of s (judged s events) e).reports
  pub skip : verdict.skip ≡ is_skipped (begun_of s (judged s events) e).opened
  pub told : verdict.skip ≡ false → targets_of new.terminator call ≡ driver_calls (valued (judged s events) replies) (begun_of s (judged s events) e).opened
  pub stands : (own : List ReplyContent) → AreRepliesTo (driver_calls (valued (judged s events) replies) (begun_of s (judged s events) e).opened) own
      → PartsStand s new (Begin e ∷ events) (reverse own ++ replies) (record { begin = e; call = call; held = held; skip = verdict.skip; replies = own } ∷ ls)

-- a begin of a trace, the names of which may have gaps in their numbers, may enter with its own number, where its chain isn't refused
abbrev pub MayEnterTrace : Type 0
MayEnterTrace =
    (s : Setup) (x : SessionParts) (events : List TraceEvent) (replies : List ReplyContent) (ls : List LeftCall) (e : BeginEvent) → PartsStand s x events replies ls → IsGapped (Begin e ∷ events) → is_refused s e.cmd e.payload ≡ false
    → CanEnter x (calls_in (judged s events) + 1) e

-- and what enters is that begin
abbrev pub EntersAsTraced : Type 0
EntersAsTraced =
    (s : Setup) (x y : SessionParts) (events : List TraceEvent) (replies : List ReplyContent) (ls : List LeftCall) (e : BeginEvent) (call : CallContent) (held : HeldCalls) (verdict : Verdict) → PartsStand s x events replies ls
    → IsGapped (Begin e ∷ events) → is_refused s e.cmd e.payload ≡ false → Enters x (calls_in (judged s events) + 1) e call held verdict y → EntersTrace s events replies ls e call held verdict y

-- ---- a return

-- the call is one of this thread
abbrev pub is_left_by : ℕ → LeftCall → Bool
is_left_by thread l = l.begin.thread == thread

-- no chain comes in force at the return of a call that isn't skipped
abbrev pub StartsNone : LeftCall → Type 0
StartsNone l = l.skip ≡ false → (same_command l.begin.cmd cmd.CreateInstance && succeeds l.begin.cmd l.begin.code) ≡ false

-- The call of a thread has left: the parts stand for the trace with its return, the others are open still, and so many of its results are born as the trace
-- says.
pub record LeavesTrace (s : Setup) (events : List TraceEvent) (replies : List ReplyContent) (ls : List LeftCall) (thread : ℕ) (new : SessionParts) (count : ℕ) : Type 0 where
  pub stands : PartsStand s new (Return thread ∷ events) replies (filter (λ l. not (is_left_by thread l)) ls)
  pub opened : Opened
  pub open_there : find (is_of thread) (open_calls (judged s events)) ≡ Some opened
  pub counted : count ≡ length (made_of s (judged s events) opened)

-- the open call of a thread of such a trace may leave, where no chain comes in force and every chain of the setup is guarded
abbrev pub MayLeaveTrace : Type 0
MayLeaveTrace =
    (s : Setup) (x : SessionParts) (events : List TraceEvent) (replies : List ReplyContent) (ls : List LeftCall) (thread : ℕ) (l : LeftCall) → GivesGuarded s → IsGapped events → PartsStand s x events replies ls
    → find (is_left_by thread) ls ≡ Some l → StartsNone l → CanLeave x l.begin l.call l.held l.skip l.replies

-- and that is its return
abbrev pub LeavesAsTraced : Type 0
LeavesAsTraced =
    (s : Setup) (x y : SessionParts) (events : List TraceEvent) (replies : List ReplyContent) (ls : List LeftCall) (thread : ℕ) (l : LeftCall) (count : ℕ) → GivesGuarded s → IsGapped events → PartsStand s x events replies ls
    → find (is_left_by thread) ls ≡ Some l → StartsNone l → Leaves x l.begin l.call l.held l.skip l.replies y count → LeavesTrace s events replies ls thread y count
