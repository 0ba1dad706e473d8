-- The return of a call that had entered, by what the parts of a session keep. Source: this project.
use Rattle.std.specs.Prelude.{◌≡◌, ◌+◌, ◌++◌, ℕ, Bool, true, false, if◌then◌else◌, Some, List, [], ◌∷◌, drop, length, map}
use Rattle.std.specs.List.{AllByRecursion}
use Rattle.command_tables.specs.Calls.{CallContent, ReplyContent}
use Rattle.command_tables.specs.Table.{row_of}
use Rattle.trace_format.specs.Content.{BeginEvent, TraceEvent, Begin, Return}
use Rattle.trace_format.specs.declared.event.Name.{Name}
use Rattle.object_model.specs.declared.Argument.{Argument}
use Rattle.object_model.specs.declared.Argument.TheVariants.{Unborn}
use Rattle.object_model.specs.declared.Object.{Object}
use Rattle.object_model.specs.History.{Birth, births_given, born_in}
use Rattle.object_model.specs.Values.{Value}
use Rattle.replay_model.specs.declared.Born.{Born}
use Rattle.replay_model.specs.Births.{made_by}
use Rattle.replay_model.specs.Direct.{Sent, answers_to}
use Rattle.replay_model.specs.Past.{Opened, arguments_in, is_skipped, named_of, object_in, objects_of, retrieved_by}
use Rattle.replay_model.specs.Setup.{Setup}
use Rattle.layer_model.specs.Ids.{IssuedAll}
use Rattle.layer_model.specs.Terminator.{terminator_leave}
use Rattle.layer_model.specs.Walks.{PartState, is_guarded, leave_parts}
use Rattle.chain_model.specs.Handed.{Handed, hand_all, handle_in}
use Rattle.chain_model.specs.Simulated.{ChainKept, Held, born_flags}
use Rattle.chain_model.specs.Traces.{held_in_force, in_force, starts_chain}
use Rattle.terminator.specs.Calls.{TerminatorState, answered, drivers_for, routes_left}
use Rattle.dispatch_chain.specs.Holding.{HeldCalls, IsHeldOf}
use Rattle.dispatch_chain.specs.Seats.{kinds_of}
use Rattle.session_model.specs.Session.{SessionKept}
use Rattle.session_model.specs.Returning.{given_kept, held_of_thread, kept_after_return, made_kept, sent_of_thread}
use Rattle.session_model.specs.Steps.{ComeUpApart, ReturnSteps}
use Rattle.session_model.specs.Tables.{SaySame, with_tables}
use Rattle.session_tables.specs.Lined.{AreAdded}
use Rattle.session_parts.specs.declared.parts.SessionParts.{SessionParts}
use Rattle.session_parts.specs.Entering.{IsLeft}
use Rattle.session_parts.specs.Opening.{opened_read}
use Rattle.session_parts.specs.Parts.{PartsShow}

-- ---- the open call of an event again

-- the arguments of a parameter, of which those that are marked weren't born when the call began, whatever their names stand for now
abbrev pub recalled_places : List Bool → List Argument → List Argument
recalled_places [] at = at
recalled_places (m ∷ marks) [] = []
recalled_places (m ∷ marks) (a ∷ at) = (if m then Unborn else a) ∷ recalled_places marks at

-- so it is at each parameter
abbrev pub recalled : List (List Bool) → List (List Argument) → List (List Argument)
recalled [] args = args
recalled (ms ∷ marks) [] = []
recalled (ms ∷ marks) (at ∷ args) = recalled_places ms at ∷ recalled marks args

-- the open call of an event, which was sent, by the names now and the marks of its form below the last part; what a return doesn't ask for is any
abbrev pub opened_again : SessionParts → BeginEvent → CallContent → Opened
opened_again x e call = opened_read 0 e (recalled call.unborn (arguments_in x.names.kept.names e.args))

-- what is born of a call that was sent
abbrev pub made_of : SessionParts → Opened → List Born
made_of x o = made_by x.terminator.drivers x.names.kept.births (born_in x.names.kept.births) x.names.kept.retrieved o

-- what is born of the call of an event
abbrev pub made_again : SessionParts → BeginEvent → CallContent → List Born
made_again x e call = made_of x (opened_again x e call)

-- ---- results come up

-- what comes up: the thread of a call, its form below the last part, the replies of its drivers, the results that are born, and the others
pub record Rising : Type 0 where
  pub thread : ℕ
  pub call : CallContent
  pub replies : List ReplyContent
  pub made : List Born
  pub lost : List Name

-- the results of a call that was sent
abbrev pub rising_of : SessionParts → Opened → CallContent → List ReplyContent → Rising
rising_of x o call replies =
    record {
      thread = o.thread;
      call = call;
      replies = replies;
      made = made_of x o;
      lost = drop (length (made_of x o)) o.results;
    }

-- those of the call of an event
abbrev pub rising_again : SessionParts → BeginEvent → CallContent → List ReplyContent → Rising
rising_again x e call replies = rising_of x (opened_again x e call) call replies

-- what the terminator makes of the replies
abbrev pub left_of : TerminatorState → Rising → IssuedAll (List Value)
left_of t r = terminator_leave t.ids r.call (answered (drivers_for t r.call) r.replies) (born_flags r.made r.lost)

-- what is kept of the chain beside its open calls
abbrev pub chain_at : List PartState → TerminatorState → List Handed → ChainKept
chain_at states t handed = record { states = states; terminator = t.ids; routes = t.routes; handed = handed; held = [] }

-- what the parts of a session keep of the chain
abbrev pub chain_of : SessionParts → ChainKept
chain_of x = chain_at x.states.kept x.terminator x.names.kept.handed

-- and what they keep when results have come up through the parts, above which the call stood in these forms
abbrev pub chain_up : SessionParts → Rising → List CallContent → ChainKept
chain_up x r forms =
    let all = left_of x.terminator r in
    let up = leave_parts r.thread x.states.kept forms all.results in
    record { states = up.states; terminator = all.ids; routes = routes_left x.terminator r.call all.results; handed = hand_all x.names.kept.handed r.made up.results; held = [] }

-- parts, a terminator and handles that keep this of the chain: of the handles, what a look-up finds
pub record KeepsChain (states : List PartState) (t : TerminatorState) (hs : List Handed) (k : ChainKept) : Type 0 where
  pub chain : chain_at states t hs ≡ record k { handed = hs }
  pub handed : (q : Object) → handle_in hs q ≡ handle_in k.handed q

-- results may come up through all parts: the call came to each of them, and they are new once to each checking part
pub record MayRise (thread : ℕ) (states : List PartState) (held : HeldCalls) (results : List ℕ) : Type 0 where
  pub forms : List CallContent
  pub holds : IsHeldOf held (kinds_of states) forms
  pub whole : length forms ≡ length states
  pub apart : ComeUpApart thread states forms results

-- results may come up: each checking part has a unique one below it, each driver of the call replied, and the call came to all parts, at each checking one
-- of which the results are new once
pub record MayComeUp (x : SessionParts) (r : Rising) (held : HeldCalls) : Type 0 where
  pub guarded : is_guarded x.states.kept ≡ true
  pub count : length r.replies ≡ length (drivers_for x.terminator r.call)
  pub rise : MayRise r.thread x.states.kept held (left_of x.terminator r).results

-- A call that was sent has come up: so many of its results are born, they are kept with what they stand for, and what the chain keeps is what it keeps when
-- they have come up.
pub record HasComeUp (old : SessionParts) (o : Opened) (call : CallContent) (held : HeldCalls) (replies : List ReplyContent) (new : SessionParts) (count : ℕ) : Type 0 where
  pub counted : count ≡ length (made_of old o)
  pub names : (q : Name) → object_in new.names.kept.names q ≡ object_in (old.names.kept.names ++ map named_of (made_of old o)) q
  pub names_count : new.names.kept.count ≡ old.names.kept.count + length (made_of old o)
  pub births : AreAdded old.names.kept.births (births_given old.names.kept.births o.args (row_of o.cmd).effect (objects_of (made_of old o))) new.names.kept.births
  pub retrieved : new.names.kept.retrieved ≡ old.names.kept.retrieved ++ retrieved_by old.names.kept.births o (made_of old o)
  pub chain : (forms : List CallContent) → IsHeldOf held (kinds_of old.states.kept) forms → KeepsChain new.states.kept new.terminator new.names.kept.handed (chain_up old (rising_of old o call replies) forms)
  pub drivers : new.terminator.drivers ≡ old.terminator.drivers

-- so has that of an event
abbrev pub ComesUp : SessionParts → BeginEvent → CallContent → HeldCalls → List ReplyContent → SessionParts → ℕ → Type 0
ComesUp old e call held replies new count = HasComeUp old (opened_again old e call) call held replies new count

-- ---- a return

-- no part holds the call
abbrev pub HasNoForms : Held → Type 0
HasNoForms h = h.forms ≡ []

-- What the return of an open call relies on: what the steps of the chain do, each checking part has a unique one below it, no part was in force before a call
-- that starts a chain, and a call that was sent is one of its command that came to every part.
pub record Returns (s : Setup) (k : SessionKept) (call : Sent) (held : Held) : Type 0 where
  pub steps : ReturnSteps s k call held
  pub guarded : is_guarded k.chain.states ≡ true
  pub guarded_in_force : is_skipped call.opened ≡ false → is_guarded (in_force s k.chain call.opened).states ≡ true
  pub idle : is_skipped call.opened ≡ false → starts_chain call.opened ≡ true → k.chain.states ≡ []
  pub unheld : is_skipped call.opened ≡ false → starts_chain call.opened ≡ true → AllByRecursion HasNoForms k.chain.held
  pub cmd : is_skipped call.opened ≡ false → held.bottom.cmd ≡ call.opened.cmd
  pub whole : is_skipped call.opened ≡ false → length (held_in_force s call.opened held).forms ≡ length (in_force s k.chain call.opened).states

-- The call of an event is open, as it was left when it entered, and these are the replies of its drivers, one for each in their order.
pub record IsOpen (k : SessionKept) (e : BeginEvent) (call : CallContent) (held : HeldCalls) (skip : Bool) (replies : List ReplyContent) (c : Sent) (h : Held) : Type 0 where
  pub sent : sent_of_thread k e.thread ≡ Some c
  pub holds : held_of_thread k e.thread ≡ Some h
  pub left : IsLeft k.names (kinds_of k.chain.states) e call held skip c.opened h
  pub count : length replies ≡ length c.opened.drivers
  pub answers : c.answers ≡ answers_to c.opened replies

-- Such a call may leave, at whose return no chain comes in force: what is kept allows it under some setup.
pub record CanLeave (x : SessionParts) (e : BeginEvent) (call : CallContent) (held : HeldCalls) (skip : Bool) (replies : List ReplyContent) : Type 0 where
  pub setup : Setup
  pub kept : SessionKept
  pub sent : Sent
  pub form : Held
  pub shows : PartsShow setup x kept
  pub opens : IsOpen kept e call held skip replies sent form
  pub stays : is_skipped sent.opened ≡ false → starts_chain sent.opened ≡ false
  pub returns : Returns setup kept sent form

-- what a call comes to that has left: the births of what lives then, what is kept, with names and handles that say the same, and how many of its results are born
pub record Departed (s : Setup) (k : SessionKept) (c : Sent) (h : Held) (new : SessionParts) (count : ℕ) : Type 0 where
  pub births : List Birth
  pub since : AreAdded k.births (given_kept s k c.opened) births
  pub same : SaySame (kept_after_return s k c h births) new.names.kept.names new.names.kept.handed
  pub shows : PartsShow s new (with_tables (kept_after_return s k c h births) new.names.kept.names new.names.kept.handed)
  pub counted : count ≡ length (made_kept s k c.opened)

-- so it is for whatever the parts keep
abbrev pub Leaves : SessionParts → BeginEvent → CallContent → HeldCalls → Bool → List ReplyContent → SessionParts → ℕ → Type 0
Leaves old e call held skip replies new count =
    (s : Setup) (k : SessionKept) (c : Sent) (h : Held) → PartsShow s old k → IsOpen k e call held skip replies c h → (is_skipped c.opened ≡ false → starts_chain c.opened ≡ false) → Returns s k c h → Departed s k c h new count

-- the event is a begin whose call may leave
abbrev pub CanLeaveAt : SessionParts → TraceEvent → CallContent → HeldCalls → Bool → List ReplyContent → Type 0
CanLeaveAt x (Begin e) call held skip replies = CanLeave x e call held skip replies
CanLeaveAt x (Return thread) call held skip replies = ⊥

-- and it has left
abbrev pub LeavesAt : SessionParts → TraceEvent → CallContent → HeldCalls → Bool → List ReplyContent → SessionParts → ℕ → Type 0
LeavesAt old (Begin e) call held skip replies new count = Leaves old e call held skip replies new count
LeavesAt old (Return thread) call held skip replies new count = Unit {0}
