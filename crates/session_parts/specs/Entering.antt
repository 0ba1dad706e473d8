-- A call enters and leaves what the parts of a session keep. Source: this project.
use Rattle.std.specs.Prelude.{◌≡◌, ◌+◌, ℕ, Bool, false, ◌||◌, if◌then◌else◌, Option, Some, None, List, [], ◌∷◌, map}
use Rattle.command_tables.specs.Calls.{CallContent, ReplyContent}
use Rattle.trace_format.specs.Content.{Arg, BeginEvent, TraceEvent, Begin, Return}
use Rattle.trace_format.specs.Grammar.{IsBegin}
use Rattle.trace_format.specs.declared.event.Name.{Name}
use Rattle.object_model.specs.declared.Argument.{Argument}
use Rattle.object_model.specs.declared.Argument.TheVariants.{Null, Unborn, The}
use Rattle.object_model.specs.declared.PartKind.{PartKind}
use Rattle.object_model.specs.Findings.{is_failing}
use Rattle.object_model.specs.History.{Birth}
use Rattle.replay_model.specs.declared.Named.{Named}
use Rattle.replay_model.specs.Judged.{is_refused}
use Rattle.replay_model.specs.Past.{Opened, is_skipped, object_in}
use Rattle.replay_model.specs.Setup.{Setup}
use Rattle.lifetime_layer.specs.declared.verdict.Verdict.{Verdict}
use Rattle.lifetime_layer.specs.Reports.{reports_of}
use Rattle.terminator.specs.Calls.{targets_of}
use Rattle.chain_model.specs.Chained.{is_unborn}
use Rattle.chain_model.specs.Simulated.{Held, base_of, held_of, walk_of}
use Rattle.dispatch_chain.specs.Holding.{HeldCalls, IsHeldOf}
use Rattle.dispatch_chain.specs.Seats.{kinds_of}
use Rattle.session_model.specs.Session.{SessionKept}
use Rattle.session_model.specs.Living.{ArePast}
use Rattle.session_model.specs.Beginning.{begun_kept, calls_told, kept_after_begin, loader_kept}
use Rattle.session_model.specs.Steps.{BeginSteps}
use Rattle.session_parts.specs.declared.parts.SessionParts.{SessionParts}
use Rattle.session_parts.specs.Parts.{PartsShow}

-- ---- the open call of an event

-- an argument is what its name stands for, unless the name wasn't born when the call began
abbrev pub IsRecalled : List Named → Option Name → Argument → Type 0
IsRecalled names name Null = name ≡ None
IsRecalled names name Unborn = Unit {0}
IsRecalled names None (The o) = ⊥
IsRecalled names (Some n) (The o) = object_in names n ≡ Some o

-- so it is in each place of a parameter
abbrev pub AreRecalled : List Named → List (Option Name) → List Argument → Type 0
AreRecalled names [] [] = Unit {0}
AreRecalled names [] (a ∷ at) = ⊥
AreRecalled names (n ∷ written) [] = ⊥
AreRecalled names (n ∷ written) (a ∷ at) = IsRecalled names n a × AreRecalled names written at

-- and at each parameter
abbrev pub AllRecalled : List Named → List Arg → List (List Argument) → Type 0
AllRecalled names [] [] = Unit {0}
AllRecalled names [] (at ∷ args) = ⊥
AllRecalled names (w ∷ written) [] = ⊥
AllRecalled names (w ∷ written) (at ∷ args) = AreRecalled names w.names at × AllRecalled names written args

-- An open call is that of this event, and this is what was left of it when it entered: whether it is skipped, the call as it stood below the last part, with
-- its marks, and what the parts hold of it.
pub record IsLeft (names : List Named) (kinds : List PartKind) (e : BeginEvent) (call : CallContent) (held : HeldCalls) (skip : Bool) (o : Opened) (h : Held) : Type 0 where
  pub thread : o.thread ≡ e.thread
  pub cmd : o.cmd ≡ e.cmd
  pub args : AllRecalled names e.args o.args
  pub results : o.results ≡ e.results
  pub code : o.code ≡ e.code
  pub payload : o.payload ≡ e.payload
  pub skips : skip ≡ is_skipped o
  pub bottom : is_skipped o ≡ false → call ≡ h.bottom
  pub marks : is_skipped o ≡ false → call.unborn ≡ map (map is_unborn) o.args
  pub forms : IsHeldOf held kinds h.forms

-- ---- a begin

-- the call that enters, as the chain holds it
abbrev pub held_begun : SessionKept → BeginEvent → Opened → Held
held_begun k e o = if o.refused || is_failing (loader_kept k e) then held_of o [] (base_of o) else held_of o (walk_of k.chain o).forms (walk_of k.chain o).bottom

-- the begin of a call may enter, with this number: it is one of the grammar, its chain isn't refused, and what is kept allows it under some setup
pub record CanEnter (x : SessionParts) (number : ℕ) (e : BeginEvent) : Type 0 where
  pub setup : Setup
  pub kept : SessionKept
  pub shows : PartsShow setup x kept
  pub counted : number ≡ kept.calls + 1
  pub allowed : is_refused setup e.cmd e.payload ≡ false
  pub steps : BeginSteps setup kept e
  pub begins : IsBegin e

-- What an entered call comes to: its reports, whether it is skipped, the call of which the end of the chain makes what the drivers are told, and what is kept
-- then, whatever they answer.
pub record Entered (s : Setup) (k : SessionKept) (e : BeginEvent) (call : CallContent) (held : HeldCalls) (verdict : Verdict) (new : SessionParts) : Type 0 where
  pub births : List Birth
  pub past : ArePast k.births (begun_kept s k e).opened births
  pub shows : (own : List ReplyContent) → PartsShow s new (kept_after_begin s k e own births)
  pub reports : reports_of verdict.findings.items ≡ (begun_kept s k e).reports
  pub skip : verdict.skip ≡ is_skipped (begun_kept s k e).opened
  pub told : verdict.skip ≡ false → targets_of new.terminator call ≡ calls_told s k e
  pub leaves : IsLeft k.names (kinds_of k.chain.states) e call held verdict.skip (begun_kept s k e).opened (held_begun k e (begun_kept s k e).opened)

-- so it is for whatever the parts keep
abbrev pub Enters : SessionParts → ℕ → BeginEvent → CallContent → HeldCalls → Verdict → SessionParts → Type 0
Enters old number e call held verdict new = (s : Setup) (k : SessionKept) → PartsShow s old k → number ≡ k.calls + 1 → is_refused s e.cmd e.payload ≡ false → Entered s k e call held verdict new

-- the event is a begin that may enter
abbrev pub CanEnterAt : SessionParts → ℕ → TraceEvent → Type 0
CanEnterAt x number (Begin e) = CanEnter x number e
CanEnterAt x number (Return thread) = ⊥

-- and it has entered
abbrev pub EntersAt : SessionParts → ℕ → TraceEvent → CallContent → HeldCalls → Verdict → SessionParts → Type 0
EntersAt old number (Begin e) call held verdict new = Enters old number e call held verdict new
EntersAt old number (Return thread) call held verdict new = Unit {0}
