-- What a session keeps of its chain, how a begin and a return change it, and that it says the same as the judged past. Source: this project.
use Rattle.std.specs.Prelude.{◌≡◌, ℕ, Bool, true, false, not, ◌||◌, if◌then◌else◌, ◌==◌, Some, None, List, [], ◌∷◌, ◌++◌, map, filter, length}
use Rattle.object_model.specs.declared.Object.{Object}
use Rattle.replay_model.specs.declared.Born.{Born}
use Rattle.object_model.specs.declared.PartKind.{PartKind}
use Rattle.object_model.specs.declared.PartKind.TheVariants as part
use Rattle.command_tables.specs.Calls.{CallContent, ReplyContent}
use Rattle.command_tables.specs.Table.{row_of}
use Rattle.object_model.specs.History.{Birth, births, born_in}
use Rattle.replay_model.specs.Past.{Opened, Past, history, retrievals, open_calls}
use Rattle.object_model.specs.Findings.{Findings, is_failing, at_place}
use Rattle.replay_model.specs.ChainPlaces.{seen_past, reaches}
use Rattle.object_model.specs.Rules.{Failure}
use Rattle.layer_model.specs.Ids.{no_ids, is_wrapped, is_bare}
use Rattle.object_model.specs.Values.{Answered, Value, first_value, value_for}
use Rattle.replay_model.specs.Direct.{Valued, valued, last_values}
use Rattle.layer_model.specs.Walks.{PartState, Threads, Lifetimes, Unique, is_guarded, Walked, enter_parts, leave_parts}
use Rattle.object_model.specs.declared.Routed.{Routed}
use Rattle.command_tables.specs.Effects.{type_made}
use Rattle.layer_model.specs.Routes.{routes_then}
use Rattle.layer_model.specs.Terminator.{Terminator, terminator_leave}
use Rattle.chain_model.specs.Chained.{AreForms, StatesMirror, form_by, handle_above}
use Rattle.chain_model.specs.Handed.{Handed, hand_all, handle_in}
use Rattle.chain_model.specs.Mirrored.{Mirrors}
use Rattle.chain_model.specs.Tokens.{number_in}

-- ---- what is kept

-- an open call: its thread, and the call as it stood above each part that it reached, and above the terminator
pub record Held : Type 0 where
  pub thread : ℕ
  pub forms : List CallContent
  pub bottom : CallContent

-- the parts, the terminator with the drivers behind its ids, the handle of each born object above the first part, and the open calls
pub record ChainKept : Type 0 where
  pub states : List PartState
  pub terminator : Terminator
  pub routes : List Routed
  pub handed : List Handed
  pub held : List Held

-- the call without its arguments
abbrev pub base_of : Opened → CallContent
base_of o = record { cmd = o.cmd; args = []; unborn = []; asked = length o.results; code = o.code; payload = o.payload }

-- ---- a begin

-- the walk of a call
abbrev pub walk_of : ChainKept → Opened → Walked
walk_of k o = enter_parts o.thread o.number 1 k.states (form_by (handle_in k.handed) (base_of o) o.args)

-- a call more is open
abbrev pub held_of : Opened → List CallContent → CallContent → Held
held_of o forms bottom = record { thread = o.thread; forms = forms; bottom = bottom }

-- after a call that was walked
abbrev pub after_walk : ChainKept → Opened → Walked → ChainKept
after_walk k o w = record { states = w.states; terminator = k.terminator; routes = k.routes; handed = k.handed; held = k.held ++ held_of o w.forms w.bottom ∷ [] }

-- after a call that didn't come to the parts: the loader stopped it, or its chain is refused
abbrev pub after_none : ChainKept → Opened → ChainKept
after_none k o = record { states = k.states; terminator = k.terminator; routes = k.routes; handed = k.handed; held = k.held ++ held_of o [] (base_of o) ∷ [] }

-- ---- a return

-- which results aren't lost
abbrev pub born_flags : {X : Type 0} → List Born → List X → List Bool
born_flags made lost = map (λ _. true) made ++ map (λ _. false) lost

-- the open calls without those of a thread
abbrev pub other_held : ℕ → List Held → List Held
other_held thread held = filter (λ h. not (h.thread == thread)) held

-- after the return of a call that was sent
abbrev pub after_reply : {X : Type 0} → ChainKept → Opened → Held → List Answered → List Born → List X → ChainKept
after_reply k o h answers made lost =
    let all = terminator_leave k.terminator h.bottom answers (born_flags made lost) in
    let up = leave_parts o.thread k.states h.forms all.results in
    record { states = up.states; terminator = all.ids; routes = routes_then k.routes o.cmd o.drivers (type_made (row_of o.cmd).effect) all.results; handed = hand_all k.handed made up.results; held = other_held o.thread k.held }

-- after the return of a skipped call
abbrev pub after_skipped : {X : Type 0} → ChainKept → Opened → Held → List X → ChainKept
after_skipped k o h lost =
    let up = leave_parts o.thread k.states h.forms (map (λ _. 0) lost) in record { states = up.states; terminator = k.terminator; routes = k.routes; handed = k.handed; held = other_held o.thread k.held }

-- ---- the same as the past

-- the value below the parts
abbrev pub first_of : List Valued → Object → ℕ
first_of vs o = first_value (last_values vs o)

-- a call as it stood above the terminator, by the values then
pub record IsBottom (bs : List Birth) (o : Opened) (bottom : CallContent) : Type 0 where
  pub values : Object → ℕ
  pub form : bottom ≡ form_by (handle_above [] bs values) (base_of o) o.args

-- the held calls are the open ones, in tokens
abbrev pub HeldStand : List PartState → List Birth → List Held → List Opened → Type 0
HeldStand states bs [] [] = Unit {0}
HeldStand states bs [] (o ∷ opens) = ⊥
HeldStand states bs (h ∷ held) [] = ⊥
HeldStand states bs (h ∷ held) (o ∷ opens) =
    (h.thread ≡ o.thread) × AreForms (reaches o) (form_by (number_in bs) (base_of o) o.args) 1 states h.forms × (o.refused ≡ false → o.stop ≡ None → IsBottom bs o h.bottom) × HeldStand states bs held opens

-- each object of a wrapped type has one value
abbrev pub AreSole : List Valued → Type 0
AreSole vs = (o : Object) → is_wrapped o.ty ≡ true → (driver : ℕ) → value_for driver (last_values vs o) ≡ first_value (last_values vs o)

-- what is kept of the chain says the same as the past with these replies
pub record ChainStands (k : ChainKept) (past : Past) (replies : List ReplyContent) : Type 0 where
  pub guard : is_guarded k.states ≡ true
  pub mirror : StatesMirror (births (history past)) (retrievals past) (first_of (valued past replies)) (seen_past past) 1 k.states
  pub ids : Mirrors (List Value) is_bare (last_values (valued past replies)) (births (history past)) (retrievals past) k.terminator
  pub handed : (o : Object) → born_in (births (history past)) o ≡ true → handle_in k.handed o ≡ handle_above k.states (births (history past)) (first_of (valued past replies)) o
  pub held : HeldStand k.states (births (history past)) k.held (open_calls past)
  pub sole : AreSole (valued past replies)

-- ---- a begin by the loader's failures

-- what is found in all: the loader comes first
abbrev pub found_by : List Failure → Findings → Findings
found_by fs below = if is_failing fs then record { reports = at_place 0 fs; stop = Some 0 } else below

-- what is kept then
abbrev pub after_begin : ChainKept → List Failure → Opened → ChainKept
after_begin k fs o = if o.refused || is_failing fs then after_none k o else after_walk k o (walk_of k o)

-- ---- the chain comes in force

-- a part as it stands at the return of the call that makes the instance: it has seen this call alone
abbrev pub fresh_of : Opened → PartKind → PartState
fresh_of o part.Threads = Threads (record { births = []; living = []; opens = record { number = o.number; thread = o.thread; uses = [] } ∷ [] })
fresh_of o part.Lifetimes = Lifetimes (record { births = []; living = [] })
fresh_of o part.Unique = Unique no_ids

-- the call, which has no arguments, as it stood above each of the parts
abbrev pub with_forms : Opened → List PartKind → Held → Held
with_forms o parts h = if h.thread == o.thread then record { thread = h.thread; forms = map (λ _. base_of o) parts; bottom = h.bottom } else h

-- the kept chain with fresh parts, which the call has come through
abbrev pub with_parts : ChainKept → Opened → List PartKind → ChainKept
with_parts k o parts = record { states = map (fresh_of o) parts; terminator = k.terminator; routes = k.routes; handed = k.handed; held = map (with_forms o parts) k.held }

-- ---- one begin more

-- no chain yet, and nothing kept
abbrev pub no_chain : ChainKept
no_chain = record { states = []; terminator = no_ids; routes = []; handed = []; held = [] }
