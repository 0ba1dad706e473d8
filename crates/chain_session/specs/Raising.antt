-- How the results of a call come up at its return. Source: this project.
use Rattle.std.specs.Prelude.{◌≡◌, ◌≤◌, ◌+◌, ℕ, Bool, true, false, ◌++◌, if◌then◌else◌, List, [], drop, length, map}
use Rattle.command_tables.specs.Calls.{CallContent, call_content}
use Rattle.command_tables.specs.Effects.{type_made}
use Rattle.command_tables.specs.Table.{row_of}
use Rattle.trace_format.specs.declared.event.Name.{Name}
use Rattle.object_model.specs.declared.Routed.{Routed}
use Rattle.object_model.specs.Values.{Value}
use Rattle.replay_model.specs.declared.Born.{Born}
use Rattle.replay_model.specs.Past.{is_skipped, named_of, object_in, objects_of, retrieved_by}
use Rattle.layer_model.specs.Ids.{IssuedAll}
use Rattle.layer_model.specs.Routes.{routes_then}
use Rattle.layer_model.specs.Terminator.{terminator_leave}
use Rattle.layer_model.specs.Walks.{PartState, is_guarded}
use Rattle.chain_model.specs.Simulated.{ChainKept, Held, after_reply, after_skipped, base_of, born_flags, fresh_of}
use Rattle.chain_model.specs.Traces.{starts_chain}
use Rattle.terminator.specs.Calls.{TerminatorState, drivers_for}
use Rattle.dispatch_chain.specs.Holding.{IsHeldOf}
use Rattle.dispatch_chain.specs.Seats.{kinds_of}
use Rattle.session_model.specs.Steps.{ComeUpApart}
use Rattle.object_model.specs.History.{births_given, born_in}
use Rattle.replay_model.specs.Births.{made_by}
use Rattle.session_tables.specs.Lined.{AreAdded}
use Rattle.session_tables.specs.Shown.{args_shown}
use Rattle.session_parts.specs.declared.parts.SessionParts.{SessionParts}
use Rattle.session_parts.specs.Leaving.{KeepsChain, chain_at}
use Rattle.chain_session.specs.declared.call.OpenCall.{OpenCall}
use Rattle.chain_session.specs.Opened.{opened_of, sent_of}
use Rattle.chain_session.specs.Shown.{kinds_chained}

-- ---- results

-- the results of a call that are lost, where these are born
abbrev pub lost_of : OpenCall → List Born → List Name
lost_of c made = drop (length made) c.results.items

-- what the terminator makes of the replies of a call, by which results are born
abbrev pub left_where : TerminatorState → OpenCall → List Bool → IssuedAll (List Value)
left_where t c born = terminator_leave t.ids (call_content c.bottom) (sent_of c).answers born

-- and by what is born
abbrev pub left_at : TerminatorState → OpenCall → List Born → IssuedAll (List Value)
left_at t c made = left_where t c (born_flags made (lost_of c made))

-- the routes then
abbrev pub routes_at : TerminatorState → OpenCall → List ℕ → List Routed
routes_at t c results = routes_then t.routes c.cmd c.drivers.items (type_made (row_of c.cmd).effect) results

-- ---- what is kept of the chain

-- an open call as the model of the chain holds it, with these forms
abbrev pub held_at : OpenCall → List CallContent → Held
held_at c forms = record { thread = c.thread; forms = forms; bottom = call_content c.bottom }

-- the parts in force at the return of a call that was sent
abbrev pub states_due : List PartState → OpenCall → List PartState
states_due before c = if starts_chain (opened_of c) then map (fresh_of (opened_of c)) (kinds_chained c.chain) else before

-- its forms above them
abbrev pub forms_due : OpenCall → List CallContent → List CallContent
forms_due c forms = if starts_chain (opened_of c) then map (λ _. base_of (opened_of c)) (kinds_chained c.chain) else forms

-- what is kept after a call that was sent
abbrev pub chain_sent : ChainKept → OpenCall → List CallContent → List Born → ChainKept
chain_sent k c forms made = after_reply k (opened_of c) (held_at c forms) (sent_of c).answers made (lost_of c made)

-- what is kept after any call
abbrev pub chain_raised : ChainKept → OpenCall → List CallContent → List Born → ChainKept
chain_raised k c forms made =
    if is_skipped (opened_of c) then after_skipped k (opened_of c) (held_at c forms) (lost_of c made)
    else chain_sent (record k { states = states_due k.states c }) c (forms_due c forms) made

-- ---- what the steps rely on

-- a call that was sent has a reply of each of its drivers, to which its first argument leads again
pub record HasAnswers (t : TerminatorState) (c : OpenCall) : Type 0 where
  pub cmd : c.bottom.cmd ≡ c.cmd
  pub drivers : drivers_for t (call_content c.bottom) ≡ c.drivers.items
  pub replies : length c.drivers.items ≤ length c.replies.items

-- the results of a call that was sent may come up, through the parts in force then
pub record MayGoUp (states : List PartState) (t : TerminatorState) (c : OpenCall) (forms : List CallContent) (made : List Born) : Type 0 where
  pub guarded : is_guarded (states_due states c) ≡ true
  pub idle : starts_chain (opened_of c) ≡ true → states ≡ []
  pub answers : HasAnswers t c
  pub whole : length (forms_due c forms) ≡ length (states_due states c)
  pub apart : ComeUpApart c.thread (states_due states c) (forms_due c forms) (left_at t c made).results

-- those of any call may
pub record MayRaise (states : List PartState) (t : TerminatorState) (c : OpenCall) (made : List Born) : Type 0 where
  pub forms : List CallContent
  pub holds : IsHeldOf c.held (kinds_of states) forms
  pub guarded : is_guarded states ≡ true
  pub goes : is_skipped (opened_of c) ≡ false → MayGoUp states t c forms made

-- ---- what comes back

-- the results of an open call that are born, by what the parts of the session keep
abbrev pub made_at : SessionParts → OpenCall → List Born
made_at x p = made_by x.terminator.drivers x.names.kept.births (born_in x.names.kept.births) x.names.kept.retrieved (opened_of p)

-- An open call has come back: so many of its results are born, they are kept with what they stand for, and what the chain keeps is what it keeps after any
-- call.
pub record ComesBack (old : SessionParts) (p : OpenCall) (new : SessionParts) (count : ℕ) : Type 0 where
  pub counted : count ≡ length (made_at old p)
  pub names : (q : Name) → object_in new.names.kept.names q ≡ object_in (old.names.kept.names ++ map named_of (made_at old p)) q
  pub names_count : new.names.kept.count ≡ old.names.kept.count + length (made_at old p)
  pub births : AreAdded old.names.kept.births (births_given old.names.kept.births (args_shown p.args.items) (row_of p.cmd).effect (objects_of (made_at old p))) new.names.kept.births
  pub retrieved : new.names.kept.retrieved ≡ old.names.kept.retrieved ++ retrieved_by old.names.kept.births (opened_of p) (made_at old p)
  pub chain : (forms : List CallContent) → IsHeldOf p.held (kinds_of old.states.kept) forms
      → KeepsChain new.states.kept new.terminator new.names.kept.handed (chain_raised (chain_at old.states.kept old.terminator old.names.kept.handed) p forms (made_at old p))
  pub drivers : new.terminator.drivers ≡ old.terminator.drivers
