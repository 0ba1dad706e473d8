-- What the steps of a return may rely on.
use Rattle.std.proofs.Common.{◌≡◌, ◌==◌, ℕ, suc, ◌+◌, Bool, true, false, cond, Some, List, [], ◌∷◌, map, length, refl, sym, ◌∙◌, ap, subst}
use Rattle.std.proofs.lemmas.List.{length-map}
use Rattle.std.specs.Prelude.{find}
use Rattle.std.specs.List.{AllByRecursion}
use Rattle.command_tables.specs.Calls.{CallContent, ReplyContent}
use Rattle.command_tables.specs.Effects.{succeeds}
use Rattle.command_tables.specs.Table.{ParamSpec, row_of}
use Rattle.command_tables.specs.Tests.{same_command}
use Rattle.command_tables.specs.declared.types.CommandId.TheVariants as cmd
use Rattle.trace_format.specs.Content.{TraceEvent, Return}
use Rattle.object_model.specs.declared.Argument.{Argument}
use Rattle.object_model.specs.declared.PartKind.{PartKind}
use Rattle.object_model.specs.History.{Birth, born_in, births}
use Rattle.object_model.specs.Objects.{first_in}
use Rattle.object_model.specs.Renaming.{KnowsArgs}
use Rattle.object_model.specs.Routes.{receivers}
use Rattle.replay_model.specs.Setup.{Setup, parts_of}
use Rattle.replay_model.specs.Past.{Opened, Past, history, is_of, is_skipped, open_calls, retrievals, routed}
use Rattle.replay_model.specs.ChainPlaces.{reaches, seen_past}
use Rattle.replay_model.specs.Judged.{judged}
use Rattle.replay_model.specs.Direct.{Sent, valued}
use Rattle.layer_model.specs.Routes.{drivers_at}
use Rattle.layer_model.specs.Walks.{PartState, leave_parts}
use Rattle.layer_model.proofs.Same.{and_true}
use Rattle.chain_model.specs.Gaps.{IsGapped}
use Rattle.chain_model.specs.Chained.{AreForms, StatesMirror, form_by, handle_by}
use Rattle.chain_model.specs.Routes.{routes_in}
use Rattle.chain_model.specs.Simulated.{ChainKept, Held, IsBottom, base_of, first_of, with_forms}
use Rattle.chain_model.specs.Tokens.{number_in}
use Rattle.chain_model.specs.Traces.{GivesGuarded, IsSent, Simulates, held_in_force, in_force, starts_chain}
use Rattle.chain_model.proofs.Accepted.{IsAccepted, accepted_judged, accepted_returned}
use Rattle.chain_model.proofs.Answering.{is_nothing, or_parts}
use Rattle.chain_model.proofs.Eventing.{all_found}
use Rattle.chain_model.proofs.Grammar.{shaped}
use Rattle.chain_model.proofs.Guiding.{drivers_are, routed_judged}
use Rattle.chain_model.proofs.OneRoute.{AreRouted}
use Rattle.chain_model.proofs.Passing.{AreTyped}
use Rattle.chain_model.proofs.Starting.{params_none}
use Rattle.chain_model.proofs.Stepping.{held_found, sound_of}
use Rattle.session_model.specs.Session.{SessionKept}
use Rattle.session_model.specs.Returning.{held_of_thread, lost_kept, sent_of_thread}
use Rattle.session_model.specs.Stands.{Stands}
use Rattle.session_model.specs.Steps.{ComeUpApart, HasRow, ReturnSteps, results_sent}
use Rattle.session_model.proofs.Apart.{come_apart, seen_once}
use Rattle.session_model.proofs.Drivers.{HasReceivers, open_receive}
use Rattle.session_model.proofs.Returned.{opened_is, past_is, simulates_sent, simulates_skipped}

-- where what is kept then simulates the trace with the return, what came up was apart
apart_then : (s : Setup) (events : List TraceEvent) (replies : List ReplyContent) (x : ChainKept) (thread : ℕ) (states : List PartState) (forms : List CallContent) (hs : List ℕ) → IsAccepted events (judged s events) → Simulates s x events replies
    → x.states ≡ (leave_parts thread states forms hs).states → ComeUpApart thread states forms hs
apart_then s events replies x thread states forms hs a st is =
    let past : Past = judged s events in
    come_apart (births (history past)) (retrievals past) (first_of (valued past replies)) (seen_past past) thread (seen_once past x.states (sound_of events past x.states a st.fits)) 1 states forms hs
    (subst (λ ys. StatesMirror (births (history past)) (retrievals past) (first_of (valued past replies)) (seen_past past) 1 ys) is st.chain.mirror)

-- ---- the lists of its row

typed_row : (ps : List ParamSpec) (args : List (List Argument)) → AreTyped ps args → length args ≡ length ps
typed_row [] [] typed = refl
typed_row [] (a ∷ args) typed = absurd typed
typed_row (p ∷ ps) [] typed = absurd typed
typed_row (p ∷ ps) (a ∷ args) typed = ap suc (typed_row ps args typed.1)

form_rows : (reach : ℕ → Bool) (form : CallContent) (k : ℕ) (states : List PartState) (forms : List CallContent) → AreForms reach form k states forms → HasRow form → AllByRecursion HasRow forms
form_rows reach form k [] [] a row = tt
form_rows reach form k [] (c ∷ forms) a row = absurd a
form_rows reach form k (s ∷ states) [] a row = tt
form_rows reach form k (s ∷ states) (c ∷ forms) a row = (subst HasRow (sym a.1) row, form_rows reach form (k + 1) states forms a.2 row)

same_rows : (form : CallContent) (parts : List PartKind) → HasRow form → AllByRecursion HasRow (map (λ _. form) parts)
same_rows form [] row = tt
same_rows form (p ∷ parts) row = (row, same_rows form parts row)

new_rows : (s : Setup) (o : Opened) (h : Held) → AllByRecursion HasRow h.forms → AllByRecursion HasRow (held_in_force s o h).forms
new_rows s o h rows = go (starts_chain o) refl
  where
    given : starts_chain o ≡ true → (u : Bool) → AllByRecursion HasRow (cond u (record { thread = h.thread; forms = map (λ _. base_of o) (parts_of (s.outcome o.payload)); bottom = h.bottom }) h).forms
    given starts true =
        same_rows (base_of o) (parts_of (s.outcome o.payload))
        (sym (ap (λ (ps : List ParamSpec). length ps) (params_none o.cmd (and_true (same_command o.cmd cmd.CreateInstance) (succeeds o.cmd o.code) starts).0)))
    given starts false = rows

    go : (u : Bool) → starts_chain o ≡ u → AllByRecursion HasRow (cond u (with_forms o (parts_of (s.outcome o.payload)) h) h).forms
    go true starts = given starts (h.thread == o.thread)
    go false starts = rows

module _ (s : Setup) (k : SessionKept) (events : List TraceEvent) (thread : ℕ) (replies : List ReplyContent) (c : Sent) (h : Held) (guarded : GivesGuarded s) (trace : IsGapped events) (st : Stands s k events replies)
    (is : sent_of_thread k thread ≡ Some c) (held : held_of_thread k thread ≡ Some h) where
  abbrev past : Past
  past = judged s events

  abbrev o : Opened
  o = c.opened

  abbrev bs : List Birth
  bs = births (history (judged s events))

  accepted : IsAccepted events past
  accepted = accepted_judged s events trace.each (shaped events trace.grammar)

  there : find (is_of thread) (open_calls past) ≡ Some o
  there = opened_is s k events thread replies c h guarded trace st is held

  accepted_then : IsAccepted (Return thread ∷ events) (judged s (Return thread ∷ events))
  accepted_then = subst (λ (p : Past). IsAccepted (Return thread ∷ events) p) (sym (past_is s k events thread replies c h guarded trace st is held)) (accepted_returned s events past thread o accepted there)

  typed : AreTyped (row_of o.cmd).params o.args
  typed = all_found (λ (x : Opened). AreTyped (row_of x.cmd).params x.args) (is_of thread) (open_calls past) o accepted.args there

  known : KnowsArgs (born_in bs) o.args
  known = all_found (λ (x : Opened). KnowsArgs (born_in bs) x.args) (is_of thread) (open_calls past) o accepted.knowing.opens there

  routes_are : AreRouted bs (routed past)
  routes_are = routed_judged s events trace.each (shaped events trace.grammar)

  bottom_is : is_skipped o ≡ false → IsBottom bs o h.bottom
  bottom_is goes =
      let parts = or_parts o.refused _ goes in
      (held_found k.chain.states bs thread k.chain.held (open_calls past) h o st.simulates.chain.held held there).1 parts.0 (is_nothing o.stop parts.1)

  rows_are : AllByRecursion HasRow h.forms
  rows_are =
      form_rows (reaches o) (form_by (number_in bs) (base_of o) o.args) 1 k.chain.states h.forms
      (held_found k.chain.states bs thread k.chain.held (open_calls past) h o st.simulates.chain.held held there).0
      (length-map o.args (map (handle_by (number_in bs))) ∙ typed_row (row_of o.cmd).params o.args typed)

  receive : is_skipped o ≡ false → o.drivers ≡ receivers s.drivers (routed past) (first_in o.args 0)
  receive = all_found (HasReceivers s.drivers (routed past)) (is_of thread) (open_calls past) o (open_receive s events trace.each (shaped events trace.grammar)) there

  drivers_again : is_skipped o ≡ false → drivers_at s.drivers k.chain.routes h.bottom ≡ o.drivers
  drivers_again goes =
      let bottom : IsBottom bs o h.bottom = bottom_is goes in
      ap (λ rs. drivers_at s.drivers rs h.bottom) st.simulates.routes
      ∙ (ap (λ (x : CallContent). drivers_at s.drivers (routes_in bs (routed past)) x) bottom.form
      ∙ (drivers_are s.drivers bs (routed past) bottom.values o (params_none o.cmd) typed known routes_are ∙ sym (receive goes)))

  pub return_steps : ReturnSteps s k c h
  return_steps = record {
    answers = all_found IsSent (λ x. is_of thread x.opened) k.sent c (subst (λ cs. AllByRecursion IsSent cs) (sym st.sent) st.simulates.answers) is;
    drivers = drivers_again;
    rows = rows_are;
    rows_in_force = new_rows s o h rows_are;
    sent = λ goes.
        apart_then s (Return thread ∷ events) replies _ o.thread (in_force s k.chain o).states (held_in_force s o h).forms (results_sent s k c h) accepted_then
        (simulates_sent s k events thread replies c h guarded trace st is held goes) refl;
    skipped = λ skipped.
        apart_then s (Return thread ∷ events) replies _ o.thread k.chain.states h.forms (map (λ _. 0) (lost_kept s k o)) accepted_then
        (simulates_skipped s k events thread replies c h guarded trace st is held skipped) refl;
  }
