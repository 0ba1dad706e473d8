-- Room for a call that enters and leaves. Source: this project.
use Rattle.std.specs.Prelude.{◌≡◌, ◌≤◌, ◌<◌, ◌+◌, ◌*◌, ◌^◌, ℕ, Bool, true, false, List, length, map, vec_capacity}
use Rattle.command_tables.specs.Calls.{CallContent, HasRoomFor}
use Rattle.command_tables.specs.Table.{row_of}
use Rattle.command_tables.specs.declared.call.LayerCall.{LayerCall}
use Rattle.trace_format.specs.Content.{BeginEvent, TraceEvent, Begin, Return}
use Rattle.object_model.specs.Keys.{key_payload}
use Rattle.replay_model.specs.Past.{Opened, arguments_in}
use Rattle.lifetime_layer.specs.declared.verdict.Verdict.{Verdict}
use Rattle.terminator.specs.Calls.{drivers_for}
use Rattle.terminator.specs.Room.{HasRoomForResults, bytes_with}
use Rattle.chain_model.specs.Chained.{form_by}
use Rattle.chain_model.specs.Handed.{handle_in}
use Rattle.chain_model.specs.Simulated.{base_of}
use Rattle.dispatch_chain.specs.Forms.{CanHold, KeepsForm, KeepsForms, form_room}
use Rattle.dispatch_chain.specs.Holding.{HeldCalls}
use Rattle.dispatch_chain.specs.Room.{AllHaveBirths, AreRoomy, KeepRooms, KeepUses}
use Rattle.dispatch_chain.specs.Rows.{entries_of}
use Rattle.dispatch_chain.specs.Seats.{kinds_of}
use Rattle.session_tables.specs.Lined.{owners_made}
use Rattle.session_parts.specs.declared.parts.SessionParts.{SessionParts}
use Rattle.session_parts.specs.Judging.{walk_at}
use Rattle.session_parts.specs.Leaving.{opened_again}
use Rattle.session_parts.specs.Names.{CanKeep, TakesRoom}
use Rattle.session_parts.specs.Opening.{opened_read}
use Rattle.session_parts.specs.Scratch.{AreWithin, FitLists}

-- ---- a begin

-- the call of a begin, in the handles above the first part
abbrev pub form_entering : SessionParts → Opened → CallContent
form_entering x o = form_by (handle_in x.names.kept.handed) (base_of o) o.args

-- There is room for a call that comes down: for its handles and its form, for what is open then, for what is found, and to hold it above each part.
pub record HasRoomToComeDown (x : SessionParts) (o : Opened) (wide : ℕ) (call : LayerCall) (above : HeldCalls) (findings : ℕ) : Type 0 where
  pub handles : AreWithin wide o.args
  pub form : HasRoomFor call (form_entering x o)
  pub roomy : AreRoomy (walk_at x.states.kept x.names.kept.handed o).states x.states.rooms
  pub first : 1 ≤ findings
  pub found : length (walk_at x.states.kept x.names.kept.handed o).found.reports ≤ findings
  pub held : CanHold above.rooms (length (entries_of o.cmd (kinds_of x.states.kept))) (form_entering x o)

-- what the arguments of a begin stand for
abbrev pub opened_now : SessionParts → ℕ → BeginEvent → Opened
opened_now x number e = opened_read number e (arguments_in x.names.kept.names e.args)

-- there is room for a begin: besides, for what its arguments stand for
pub record HasRoomToEnter (x : SessionParts) (number : ℕ) (e : BeginEvent) (call : LayerCall) (held : HeldCalls) (findings : ℕ) : Type 0 where
  pub args : FitLists x.names.room.scratch.lists (map (λ a. a.names) e.args)
  pub down : HasRoomToComeDown x (opened_now x number e) x.names.room.scratch.handles call held findings

-- the event is a begin with room for it
abbrev pub HasRoomToEnterAt : SessionParts → ℕ → TraceEvent → LayerCall → HeldCalls → ℕ → Type 0
HasRoomToEnterAt x number (Begin e) call held findings = HasRoomToEnter x number e call held findings
HasRoomToEnterAt x number (Return thread) call held findings = Unit {0}

-- no room is lost as a call enters
pub record LosesNoRoom (old : SessionParts) (form0 : LayerCall) (held0 : HeldCalls) (verdict0 : Verdict) (new : SessionParts) (form1 : LayerCall) (held1 : HeldCalls) (verdict1 : Verdict) : Type 0 where
  pub names : TakesRoom 0 0 old.names.room new.names.room
  pub states : KeepRooms old.states.rooms new.states.rooms
  pub terminator : new.terminator ≡ old.terminator
  pub form : KeepsForm (form_room form0) (form_room form1)
  pub held : KeepsForms held0.rooms held1.rooms
  pub findings : vec_capacity verdict0.findings ≤ vec_capacity verdict1.findings

-- ---- a return

-- the bytes of the keys of so many results
abbrev pub key_bytes : Opened → ℕ → ℕ
key_bytes o n = n * length (key_payload o.cmd o.payload)

-- There is room for the results of a call that was sent: for each of them in each part, at the chain's end, among the names, and in the lists that they fill.
pub record HasRoomToComeUp (x : SessionParts) (o : Opened) (call : CallContent) (many : ℕ) : Type 0 where
  pub owners : length (owners_made x.names.kept.births o.args (row_of o.cmd).effect) ≤ 3
  pub names : CanKeep (length o.results) (key_bytes o (length o.results)) x.names.room
  pub parts : AllHaveBirths (length o.results) x.states.rooms
  pub ends : (hs : List ℕ) → length hs ≡ length o.results → HasRoomForResults x.terminator call hs
  pub results : length o.results ≤ many

-- there is room for the return of a call: a skipped one has results to lose alone
pub record HasRoomToLeave (x : SessionParts) (e : BeginEvent) (call : CallContent) (skip : Bool) (results : ℕ) : Type 0 where
  pub few : length e.results < 2 ^ 32
  pub sent : skip ≡ false → FitLists x.names.room.scratch.lists (map (λ a. a.names) e.args) × ((length e.results ≤ x.names.room.scratch.results) × HasRoomToComeUp x (opened_again x e call) call results)
  pub lost : skip ≡ true → (length e.results ≤ results) × AllHaveBirths (length e.results) x.states.rooms

-- the event is a begin with room for its return
abbrev pub HasRoomToLeaveAt : SessionParts → TraceEvent → CallContent → Bool → ℕ → Type 0
HasRoomToLeaveAt x (Begin e) call skip results = HasRoomToLeave x e call skip results
HasRoomToLeaveAt x (Return thread) call skip results = Unit {0}

-- a return takes room for its results alone, each of which has three owners at most
pub record TakesResults (old : SessionParts) (o : Opened) (call : CallContent) (new : SessionParts) : Type 0 where
  pub names : length (owners_made old.names.kept.births o.args (row_of o.cmd).effect) ≤ 3 → TakesRoom (length o.results) (key_bytes o (length o.results)) old.names.room new.names.room
  pub births : (n : ℕ) → AllHaveBirths (n + length o.results) old.states.rooms → AllHaveBirths n new.states.rooms
  pub uses : KeepUses old.states.rooms new.states.rooms
  pub spare : old.terminator.spare ≤ new.terminator.spare + length o.results
  pub values : old.terminator.values ≤ new.terminator.values + length o.results * length (drivers_for old.terminator call)
  pub bytes : old.terminator.bytes ≤ new.terminator.bytes + length o.results * bytes_with call

-- nothing is taken among the names, and the chain's end stays
pub record TakesNothing (old new : SessionParts) : Type 0 where
  pub names : TakesRoom 0 0 old.names.room new.names.room
  pub terminator : new.terminator ≡ old.terminator

-- a return of an event's call takes room for its results alone, whatever is born; that of a skipped one takes it in the parts alone
abbrev pub TakesResultsWith : SessionParts → BeginEvent → CallContent → Bool → SessionParts → Type 0
TakesResultsWith old e call skip new = TakesResults old (opened_again old e call) call new × (skip ≡ true → TakesNothing old new)

-- the event is a begin, whose return takes that
abbrev pub TakesResultsAt : SessionParts → TraceEvent → CallContent → Bool → SessionParts → Type 0
TakesResultsAt old (Begin e) call skip new = TakesResultsWith old e call skip new
TakesResultsAt old (Return thread) call skip new = Unit {0}
