-- The return of a call by what the program keeps.
use Rattle.std.proofs.Common.{◌≡◌, ◌∙◌, ◌≤◌, ◌==◌, ◌+◌, ◌++◌, ℕ, Bool, true, false, not, cond, filter, Option, Some, None, List, [], ◌∷◌, length, map, refl, ap, sym, subst, arith, eq-eqb}
use Rattle.std.proofs.lemmas.Bool.{eqb-true}
use Rattle.std.specs.Prelude.{is_some}
use Rattle.std.specs.List.{AllByRecursion, find, zip}
use Rattle.command_tables.specs.Calls.{CallContent, ReplyContent, call_content}
use Rattle.command_tables.specs.Effects.{type_made}
use Rattle.command_tables.specs.Table.{row_of}
use Rattle.command_tables.specs.declared.types.Code.{Code}
use Rattle.command_tables.specs.declared.types.CommandId.{CommandId}
use Rattle.command_tables.specs.declared.types.CommandId.TheVariants as cmd
use Rattle.command_tables.specs.Tests.{same_command}
use Rattle.trace_format.specs.declared.event.Name.{Name}
use Rattle.object_model.specs.declared.PartKind.{PartKind}
use Rattle.object_model.specs.declared.Routed.{Routed}
use Rattle.object_model.specs.History.{Birth, births_given, born_in}
use Rattle.object_model.specs.Values.{Answered, Value}
use Rattle.model_driver.specs.Driver.{reply_shown}
use Rattle.model_driver.specs.declared.driver.DriverReply.{DriverReply}
use Rattle.replay_model.specs.declared.Born.{Born}
use Rattle.replay_model.specs.Births.{made_by}
use Rattle.replay_model.specs.Direct.{Sent}
use Rattle.replay_model.specs.Past.{Opened, is_of, is_skipped, named_of, object_in, objects_of, retrieved_by}
use Rattle.replay_model.specs.Setup.{Setup, parts_of, refusal_of}
use Rattle.replay_model.specs.Text.{return_text}
use Rattle.layer_model.specs.Ids.{IssuedAll}
use Rattle.layer_model.specs.Routes.{drivers_at, routes_then}
use Rattle.layer_model.specs.Terminator.{Terminator, terminator_leave}
use Rattle.layer_model.specs.Walks.{Left, PartState, is_guarded, leave_parts}
use Rattle.chain_model.specs.Handed.{Handed, hand_all, handle_in}
use Rattle.chain_model.specs.Simulated.{ChainKept, Held, after_reply, after_skipped, base_of, born_flags, fresh_of, other_held, with_forms, with_parts}
use Rattle.chain_model.specs.Traces.{held_in_force, in_force, starts_chain}
use Rattle.chain_model.proofs.Simulating.{left_kinds}
use Rattle.dispatch_chain.specs.Holding.{HeldCalls, IsHeldOf}
use Rattle.dispatch_chain.specs.Rows.{picked}
use Rattle.dispatch_chain.specs.Seats.{kinds_of}
use Rattle.session_tables.proofs.Lists.{find_map, mapped}
use Rattle.session_tables.specs.Lined.{AreAdded}
use Rattle.session_tables.specs.Shown.{args_shown}
use Rattle.session_model.specs.Session.{SessionKept}
use Rattle.session_model.specs.Returning.{chain_after_return, given_kept, held_of_thread, kept_after_return, lost_kept, made_kept, sent_of_thread}
use Rattle.session_model.specs.Steps.{ComeUpApart}
use Rattle.session_model.specs.Tables.{SaySame, with_tables}
use Rattle.session_parts.specs.Leaving.{HasNoForms, KeepsChain, Returns, chain_at}
use Rattle.chain_session.specs.declared.call.OpenCall.{OpenCall}
use Rattle.chain_session.specs.declared.kept.Kept.{Kept}
use Rattle.chain_session.specs.declared.reporting.Returning.{Returning}
use Rattle.chain_session.specs.Finishing.{CanFinish, Finishes, Returned}
use Rattle.chain_session.specs.Opened.{opened_of, sent_of}
use Rattle.chain_session.specs.Reporting.{IsOf}
use Rattle.chain_session.specs.Raising.{HasAnswers, MayGoUp, MayRaise, chain_raised, chain_sent, forms_due, held_at, left_at, lost_of, states_due}
use Rattle.chain_session.specs.Shown.{AreHeldAs, IsHeldAs, Shows, kinds_chained, refusal_at}

-- ---- the open call

pub sent_filter : (thread : ℕ) (cs : List OpenCall) → map sent_of (filter (λ c. not (is_of thread (opened_of c))) cs) ≡ filter (λ (c : Sent). not (is_of thread c.opened)) (map sent_of cs)
sent_filter thread [] = refl
sent_filter thread (c ∷ cs) = go (is_of thread (opened_of c)) (sent_filter thread cs)
  where
    go : (t : Bool) → map sent_of (filter (λ c. not (is_of thread (opened_of c))) cs) ≡ filter (λ (c : Sent). not (is_of thread c.opened)) (map sent_of cs)
        → map sent_of (cond (not t) (c ∷ filter (λ c. not (is_of thread (opened_of c))) cs) (filter (λ c. not (is_of thread (opened_of c))) cs))
        ≡ cond (not t) (sent_of c ∷ filter (λ (c : Sent). not (is_of thread c.opened)) (map sent_of cs)) (filter (λ (c : Sent). not (is_of thread c.opened)) (map sent_of cs))
    go true ih = ih
    go false ih = ap (λ xs. sent_of c ∷ xs) ih

-- the call that is found, as it is kept
pub sent_found : (thread : ℕ) (cs : List OpenCall) (p : OpenCall) → Some p ≡ find (λ (x : OpenCall). is_of thread (opened_of x)) cs → find (λ (x : Sent). is_of thread x.opened) (map sent_of cs) ≡ Some (sent_of p)
sent_found thread cs p is = find_map (λ (x : Sent). is_of thread x.opened) sent_of cs ∙ ap (mapped sent_of) (sym is)

-- none is found where none is open
pub none_sent : (thread : ℕ) (cs : List OpenCall) → None ≡ find (λ (x : OpenCall). is_of thread (opened_of x)) cs → find (λ (x : Sent). is_of thread x.opened) (map sent_of cs) ≡ None
none_sent thread cs is = find_map (λ (x : Sent). is_of thread x.opened) sent_of cs ∙ ap (mapped sent_of) (sym is)

-- it is of the thread
pub open_thread : (thread : ℕ) (cs : List OpenCall) (p : OpenCall) → Some p ≡ find (λ (x : OpenCall). is_of thread (opened_of x)) cs → p.thread ≡ thread
open_thread thread [] p e = cc
open_thread thread (c ∷ cs) p e = go (c.thread == thread) refl e (open_thread thread cs p)
  where
    go : (u : Bool) → (c.thread == thread) ≡ u → Some p ≡ cond u (Some c) (find (λ (x : OpenCall). is_of thread (opened_of x)) cs) → (Some p ≡ find (λ (x : OpenCall). is_of thread (opened_of x)) cs → p.thread ≡ thread) → p.thread ≡ thread
    go true t f ih = let one : p ≡ c = cc in ap (λ (x : OpenCall). x.thread) one ∙ eqb-true c.thread thread t
    go false t f ih = ih f

-- and the chain holds it
pub held_found : (s : Setup) (kinds : List PartKind) (thread : ℕ) (cs : List OpenCall) (held : List Held) (p : OpenCall) (h : Held) → AreHeldAs s kinds cs held → Some p ≡ find (λ (x : OpenCall). is_of thread (opened_of x)) cs
    → find (λ (x : Held). x.thread == thread) held ≡ Some h → IsHeldAs s kinds p h
held_found s kinds thread [] held p h a e f = cc
held_found s kinds thread (c ∷ cs) [] p h a e f = absurd a
held_found s kinds thread (c ∷ cs) (g ∷ held) p h a e f =
    go (c.thread == thread) e (ap (λ n. cond (n == thread) (Some g) (find (λ (x : Held). x.thread == thread) held)) (sym a.0.thread) ∙ f) (held_found s kinds thread cs held p h a.1)
  where
    go : (u : Bool) → Some p ≡ cond u (Some c) (find (λ (x : OpenCall). is_of thread (opened_of x)) cs) → cond u (Some g) (find (λ (x : Held). x.thread == thread) held) ≡ Some h
        → (Some p ≡ find (λ (x : OpenCall). is_of thread (opened_of x)) cs → find (λ (x : Held). x.thread == thread) held ≡ Some h → IsHeldAs s kinds p h) → IsHeldAs s kinds p h
    go true e f ih = let one : c ≡ p = cc in let two : g ≡ h = cc in subst (λ (y : Held). IsHeldAs s kinds p y) two (subst (λ (y : OpenCall). IsHeldAs s kinds y g) one a.0)
    go false e f ih = ih e f

-- ---- the other calls

others_held : (s : Setup) (kinds : List PartKind) (thread : ℕ) (cs : List OpenCall) (held : List Held) → AreHeldAs s kinds cs held → AreHeldAs s kinds (filter (λ c. not (is_of thread (opened_of c))) cs) (other_held thread held)
others_held s kinds thread [] [] a = tt
others_held s kinds thread [] (g ∷ held) a = absurd a
others_held s kinds thread (c ∷ cs) [] a = absurd a
others_held s kinds thread (c ∷ cs) (g ∷ held) a =
    subst (λ n. AreHeldAs s kinds (filter (λ x. not (is_of thread (opened_of x))) (c ∷ cs)) (cond (not (n == thread)) (g ∷ other_held thread held) (other_held thread held))) (sym a.0.thread)
    (go (c.thread == thread) (others_held s kinds thread cs held a.1))
  where
    go : (u : Bool) → AreHeldAs s kinds (filter (λ x. not (is_of thread (opened_of x))) cs) (other_held thread held)
        → AreHeldAs s kinds (cond (not u) (c ∷ filter (λ x. not (is_of thread (opened_of x))) cs) (filter (λ x. not (is_of thread (opened_of x))) cs)) (cond (not u) (g ∷ other_held thread held) (other_held thread held))
    go true rest = rest
    go false rest = (a.0, rest)

-- the chain that comes in force changes the call of its own thread alone
others_same : (o : Opened) (ps : List PartKind) (held : List Held) → other_held o.thread (map (with_forms o ps) held) ≡ other_held o.thread held
others_same o ps [] = refl
others_same o ps (g ∷ held) = go (g.thread == o.thread) refl (others_same o ps held)
  where
    go : (u : Bool) → (g.thread == o.thread) ≡ u → other_held o.thread (map (with_forms o ps) held) ≡ other_held o.thread held
        → other_held o.thread (cond u (record { thread = g.thread; forms = map (λ _. base_of o) ps; bottom = g.bottom }) g ∷ map (with_forms o ps) held) ≡ other_held o.thread (g ∷ held)
    go true e ih = ap (λ b. cond (not b) (record { thread = g.thread; forms = map (λ _. base_of o) ps; bottom = g.bottom } ∷ other_held o.thread (map (with_forms o ps) held)) (other_held o.thread (map (with_forms o ps) held))) e ∙ (ih ∙ sym (ap (λ b. cond (not b) (g ∷ other_held o.thread held) (other_held o.thread held)) e))
    go false e ih = ap (λ b. cond (not b) (g ∷ other_held o.thread (map (with_forms o ps) held)) (other_held o.thread (map (with_forms o ps) held))) e ∙ (ap (λ xs. g ∷ xs) ih ∙ sym (ap (λ b. cond (not b) (g ∷ other_held o.thread held) (other_held o.thread held)) e))

none_picked : (c : CommandId) (kinds : List PartKind) → picked c kinds [] ≡ []
none_picked c [] = refl
none_picked c (k ∷ kinds) = refl

-- a call that no part holds is held of no form by any
held_by_none : (held : HeldCalls) (kinds : List PartKind) (forms : List CallContent) → forms ≡ [] → IsHeldOf held [] forms → IsHeldOf held kinds forms
held_by_none held kinds forms e h = subst (λ fs. IsHeldOf held kinds fs) (sym e) (record { picked = h.picked ∙ sym (none_picked held.cmd kinds); one = tt })

held_anew : (s : Setup) (kinds : List PartKind) (cs : List OpenCall) (held : List Held) → AllByRecursion HasNoForms held → AreHeldAs s [] cs held → AreHeldAs s kinds cs held
held_anew s kinds [] [] none a = tt
held_anew s kinds [] (g ∷ held) none a = absurd a
held_anew s kinds (c ∷ cs) [] none a = absurd a
held_anew s kinds (c ∷ cs) (g ∷ held) none a = (
  record { thread = a.0.thread; forms = held_by_none c.held kinds g.forms none.0 a.0.forms; bottom = a.0.bottom; refusal = a.0.refusal; chain = a.0.chain },
  held_anew s kinds cs held none.1 a.1,
)

-- ---- replies

enough : (ds : List ℕ) (rs : List DriverReply) → map (λ (a : Answered). a.driver) (map (λ (x : ℕ × ReplyContent). record { driver = x.0; handles = x.1.handles }) (zip ds (map reply_shown rs))) ≡ ds → length ds ≤ length rs
enough [] rs e = omega arith
enough (d ∷ ds) [] e = cc
enough (d ∷ ds) (r ∷ rs) e = let k = enough ds rs (cc e) in omega (arith, k)

-- ---- the code of a refused chain

pub refusal_so : (r code : Option Code) (b : Bool) → r ≡ cond b code None → cond (is_some r) code None ≡ r
refusal_so None code b e = refl
refusal_so (Some v) code true e = sym e
refusal_so (Some v) code false e = cc

-- ---- a return

module _ (s : Setup) (x : Kept) (k : SessionKept) (thread : ℕ) (p : OpenCall) (h : Held) (shows : Shows s x k) (opens : Some p ≡ find (λ (c : OpenCall). is_of thread (opened_of c)) x.open_calls) (held : held_of_thread k thread ≡ Some h)
    (returns : Returns s k (sent_of p) h) where
  abbrev o : Opened
  o = opened_of p

  abbrev made : List Born
  made = made_kept s k (opened_of p)

  abbrev parts : List PartKind
  parts = parts_of (s.outcome p.payload.items)

  abbrev flags : List Bool
  flags = born_flags (made_kept s k (opened_of p)) (lost_kept s k (opened_of p))

  is : IsHeldAs s (kinds_of x.parts.states.kept) p h
  is = held_found s (kinds_of x.parts.states.kept) thread x.open_calls k.chain.held p h shows.held opens held

  own : (h.thread == p.thread) ≡ true
  own = eq-eqb h.thread p.thread is.thread

  pub made_so : made_by x.parts.terminator.drivers x.parts.names.kept.births (born_in x.parts.names.kept.births) x.parts.names.kept.retrieved o ≡ made
  made_so =
      ap (λ n. made_by n x.parts.names.kept.births (born_in x.parts.names.kept.births) x.parts.names.kept.retrieved o) shows.parts.drivers
      ∙ (ap (λ (bs : List Birth). made_by s.drivers bs (born_in bs) x.parts.names.kept.retrieved o) shows.parts.births ∙ ap (λ rs. made_by s.drivers k.births (born_in k.births) rs o) shows.parts.retrieved)

  -- the chain in force then
  states_then : is_skipped o ≡ false → states_due x.parts.states.kept p ≡ (in_force s k.chain o).states
  states_then goes = go (starts_chain o) refl
    where
      go : (u : Bool) → starts_chain o ≡ u → cond u (map (fresh_of o) (kinds_chained p.chain)) x.parts.states.kept ≡ (cond u (with_parts k.chain o parts) k.chain).states
      go true e = ap (map (fresh_of o)) (is.chain goes e)
      go false e = shows.parts.states

  forms_then : is_skipped o ≡ false → forms_due p h.forms ≡ (held_in_force s o h).forms
  forms_then goes = go (starts_chain o) refl
    where
      go : (u : Bool) → starts_chain o ≡ u → cond u (map (λ _. base_of o) (kinds_chained p.chain)) h.forms ≡ (cond u (with_forms o parts h) h).forms
      go true e =
          ap (λ (ks : List PartKind). map (λ _. base_of o) ks) (is.chain goes e)
          ∙ sym (ap (λ b. (cond b (record { thread = h.thread; forms = map (λ _. base_of o) parts; bottom = h.bottom }) h).forms) own)
      go false e = refl

  bottom_then : (held_in_force s o h).bottom ≡ h.bottom
  bottom_then = go (starts_chain o) (h.thread == p.thread)
    where
      go : (u v : Bool) → (cond u (cond v (record { thread = h.thread; forms = map (λ _. base_of o) parts; bottom = h.bottom }) h) h).bottom ≡ h.bottom
      go true true = refl
      go true false = refl
      go false v = refl

  ids_then : (in_force s k.chain o).terminator ≡ k.chain.terminator
  ids_then = go (starts_chain o)
    where
      go : (u : Bool) → (cond u (with_parts k.chain o parts) k.chain).terminator ≡ k.chain.terminator
      go true = refl
      go false = refl

  routes_then_are : (in_force s k.chain o).routes ≡ k.chain.routes
  routes_then_are = go (starts_chain o)
    where
      go : (u : Bool) → (cond u (with_parts k.chain o parts) k.chain).routes ≡ k.chain.routes
      go true = refl
      go false = refl

  handed_then : (in_force s k.chain o).handed ≡ k.chain.handed
  handed_then = go (starts_chain o)
    where
      go : (u : Bool) → (cond u (with_parts k.chain o parts) k.chain).handed ≡ k.chain.handed
      go true = refl
      go false = refl

  results_then : is_skipped o ≡ false → left_at x.parts.terminator p made ≡ terminator_leave (in_force s k.chain o).terminator (held_in_force s o h).bottom (sent_of p).answers flags
  results_then goes =
      ap (λ m. terminator_leave m (call_content p.bottom) (sent_of p).answers flags) (shows.parts.ids ∙ sym ids_then)
      ∙ ap (λ b. terminator_leave (in_force s k.chain o).terminator b (sent_of p).answers flags) (is.bottom goes ∙ sym bottom_then)

  answered_then : is_skipped o ≡ false → HasAnswers x.parts.terminator p
  answered_then goes = record {
    cmd = ap (λ (c : CallContent). c.cmd) (is.bottom goes) ∙ returns.cmd goes;
    drivers = ap (λ n. drivers_at n x.parts.terminator.routes (call_content p.bottom)) shows.parts.drivers
        ∙ (ap (λ rs. drivers_at s.drivers rs (call_content p.bottom)) shows.parts.routes ∙ (ap (drivers_at s.drivers k.chain.routes) (is.bottom goes) ∙ returns.steps.drivers goes));
    replies = enough p.drivers.items p.replies.items returns.steps.answers.drivers;
  }

  goes_up : is_skipped o ≡ false → MayGoUp x.parts.states.kept x.parts.terminator p h.forms made
  goes_up goes = record {
    guarded = ap is_guarded (states_then goes) ∙ returns.guarded_in_force goes;
    idle = λ starts. shows.parts.states ∙ returns.idle goes starts;
    answers = answered_then goes;
    whole = ap (λ (fs : List CallContent). length fs) (forms_then goes) ∙ (returns.whole goes ∙ sym (ap (λ (ss : List PartState). length ss) (states_then goes)));
    apart = subst (λ ss. ComeUpApart p.thread ss (forms_due p h.forms) (left_at x.parts.terminator p made).results) (sym (states_then goes))
        (subst (λ fs. ComeUpApart p.thread (in_force s k.chain o).states fs (left_at x.parts.terminator p made).results) (sym (forms_then goes))
        (subst (λ (all : IssuedAll (List Value)). ComeUpApart p.thread (in_force s k.chain o).states (held_in_force s o h).forms all.results) (sym (results_then goes)) (returns.steps.sent goes)));
  }

  pub may_raise : MayRaise x.parts.states.kept x.parts.terminator p made
  may_raise = record { forms = h.forms; holds = is.forms; guarded = ap is_guarded shows.parts.states ∙ returns.guarded; goes = goes_up }

  pub held_is : IsHeldOf p.held (kinds_of x.parts.states.kept) h.forms
  held_is = is.forms

  pub refusal_is : p.refusal ≡ refusal_at s p.cmd p.payload.items
  refusal_is = is.refusal

  -- what is kept of the chain, beside the open calls
  raised_then : chain_raised (chain_at x.parts.states.kept x.parts.terminator x.parts.names.kept.handed) p h.forms made ≡ record (chain_after_return s k (sent_of p) h) { held = [] }
  raised_then = go (is_skipped o) refl
    where
      skipped_chain : List PartState → Terminator → List Routed → List Handed → ChainKept
      skipped_chain ss m rs hs = record { states = (leave_parts p.thread ss h.forms (map (λ _. 0) (lost_kept s k o))).states; terminator = m; routes = rs; handed = hs; held = [] }

      sent_chain : List PartState → IssuedAll (List Value) → List Routed → List Handed → List CallContent → ChainKept
      sent_chain ss all rs hs fs = record {
        states = (leave_parts p.thread ss fs all.results).states;
        terminator = all.ids;
        routes = routes_then rs p.cmd p.drivers.items (type_made (row_of p.cmd).effect) all.results;
        handed = hand_all hs made (leave_parts p.thread ss fs all.results).results;
        held = [];
      }

      go : (u : Bool) → is_skipped o ≡ u
          → cond u (after_skipped (chain_at x.parts.states.kept x.parts.terminator x.parts.names.kept.handed) o (held_at p h.forms) (lost_of p made)) (chain_sent (chain_at (states_due x.parts.states.kept p) x.parts.terminator x.parts.names.kept.handed) p (forms_due p h.forms) made)
          ≡ record (cond u (after_skipped k.chain o h (lost_kept s k o)) (after_reply (in_force s k.chain o) o (held_in_force s o h) (sent_of p).answers made (lost_kept s k o))) { held = [] }
      go true e =
          ap (λ ss. skipped_chain ss x.parts.terminator.ids x.parts.terminator.routes x.parts.names.kept.handed) shows.parts.states
          ∙ (ap (λ m. skipped_chain k.chain.states m x.parts.terminator.routes x.parts.names.kept.handed) shows.parts.ids
          ∙ (ap (λ rs. skipped_chain k.chain.states k.chain.terminator rs x.parts.names.kept.handed) shows.parts.routes ∙ ap (λ hs. skipped_chain k.chain.states k.chain.terminator k.chain.routes hs) shows.parts.handed))
      go false e =
          let all : IssuedAll (List Value) = terminator_leave (in_force s k.chain o).terminator (held_in_force s o h).bottom (sent_of p).answers flags in
          ap (λ ss. sent_chain ss (left_at x.parts.terminator p made) x.parts.terminator.routes x.parts.names.kept.handed (forms_due p h.forms)) (states_then e)
          ∙ (ap (λ all. sent_chain (in_force s k.chain o).states all x.parts.terminator.routes x.parts.names.kept.handed (forms_due p h.forms)) (results_then e)
          ∙ (ap (λ rs. sent_chain (in_force s k.chain o).states all rs x.parts.names.kept.handed (forms_due p h.forms)) (shows.parts.routes ∙ sym routes_then_are)
          ∙ (ap (λ hs. sent_chain (in_force s k.chain o).states all (in_force s k.chain o).routes hs (forms_due p h.forms)) (shows.parts.handed ∙ sym handed_then)
          ∙ ap (λ fs. sent_chain (in_force s k.chain o).states all (in_force s k.chain o).routes (in_force s k.chain o).handed fs) (forms_then e))))

  -- the other calls, as the chain holds them then
  held_then : (kinds : List PartKind) → kinds ≡ kinds_of (chain_after_return s k (sent_of p) h).states → AreHeldAs s kinds (filter (λ c. not (is_of p.thread (opened_of c))) x.open_calls) (chain_after_return s k (sent_of p) h).held
  held_then kinds e = go (is_skipped o) refl e
    where
      stay : (ks : List PartKind) → ks ≡ kinds_of k.chain.states → AreHeldAs s ks (filter (λ c. not (is_of p.thread (opened_of c))) x.open_calls) (other_held p.thread k.chain.held)
      stay ks e = others_held s ks p.thread x.open_calls k.chain.held (subst (λ ys. AreHeldAs s ys x.open_calls k.chain.held) (ap kinds_of shows.parts.states ∙ sym e) shows.held)

      anew : (ks : List PartKind) → k.chain.states ≡ [] → AllByRecursion HasNoForms k.chain.held → AreHeldAs s ks (filter (λ c. not (is_of p.thread (opened_of c))) x.open_calls) (other_held p.thread (map (with_forms o parts) k.chain.held))
      anew ks idle none =
          subst (λ gs. AreHeldAs s ks (filter (λ c. not (is_of p.thread (opened_of c))) x.open_calls) gs) (sym (others_same o parts k.chain.held))
          (others_held s ks p.thread x.open_calls k.chain.held (held_anew s ks x.open_calls k.chain.held none (subst (λ ys. AreHeldAs s ys x.open_calls k.chain.held) (ap kinds_of (shows.parts.states ∙ idle)) shows.held)))

      sent : (v : Bool) → starts_chain o ≡ v → is_skipped o ≡ false → (ks : List PartKind) (up : Left) → ks ≡ kinds_of up.states → kinds_of up.states ≡ kinds_of (cond v (with_parts k.chain o parts) k.chain).states
          → AreHeldAs s ks (filter (λ c. not (is_of p.thread (opened_of c))) x.open_calls) (other_held p.thread (cond v (with_parts k.chain o parts) k.chain).held)
      sent true starts goes ks up e f = anew ks (returns.idle goes starts) (returns.unheld goes starts)
      sent false starts goes ks up e f = stay ks (e ∙ f)

      go : (u : Bool) → is_skipped o ≡ u
          → kinds ≡ kinds_of (cond u (after_skipped k.chain o h (lost_kept s k o)) (after_reply (in_force s k.chain o) o (held_in_force s o h) (sent_of p).answers made (lost_kept s k o))).states
          → AreHeldAs s kinds (filter (λ c. not (is_of p.thread (opened_of c))) x.open_calls)
          (cond u (after_skipped k.chain o h (lost_kept s k o)) (after_reply (in_force s k.chain o) o (held_in_force s o h) (sent_of p).answers made (lost_kept s k o))).held
      go true skipped e = stay kinds (e ∙ left_kinds p.thread k.chain.states h.forms (map (λ _. 0) (lost_kept s k o)))
      go false goes e =
          sent (starts_chain o) refl goes kinds
          (leave_parts p.thread (in_force s k.chain o).states (held_in_force s o h).forms (terminator_leave (in_force s k.chain o).terminator (held_in_force s o h).bottom (sent_of p).answers flags).results)
          e (left_kinds p.thread (in_force s k.chain o).states (held_in_force s o h).forms (terminator_leave (in_force s k.chain o).terminator (held_in_force s o h).bottom (sent_of p).answers flags).results)

  -- what the program keeps then
  module _ (y : Kept) (calls : y.calls ≡ x.calls) (skipped : y.skipped ≡ x.skipped) (reports : y.reports ≡ x.reports) (names : (q : Name) → object_in y.parts.names.kept.names q ≡ object_in (x.parts.names.kept.names ++ map named_of made) q)
      (count : y.parts.names.kept.count ≡ x.parts.names.kept.count + length made)
      (births : AreAdded x.parts.names.kept.births (births_given x.parts.names.kept.births (args_shown p.args.items) (row_of p.cmd).effect (objects_of made)) y.parts.names.kept.births)
      (retrieved : y.parts.names.kept.retrieved ≡ x.parts.names.kept.retrieved ++ retrieved_by x.parts.names.kept.births o made) (closed : y.open_calls ≡ filter (λ (c : OpenCall). not (is_of thread (opened_of c))) x.open_calls)
      (chain : KeepsChain y.parts.states.kept y.parts.terminator y.parts.names.kept.handed (chain_raised (chain_at x.parts.states.kept x.parts.terminator x.parts.names.kept.handed) p h.forms made)) (drivers : y.parts.terminator.drivers ≡ x.parts.terminator.drivers) where
    chain_is : chain_at y.parts.states.kept y.parts.terminator y.parts.names.kept.handed ≡ record (chain_after_return s k (sent_of p) h) { handed = y.parts.names.kept.handed; held = [] }
    chain_is = chain.chain ∙ ap (λ (c : ChainKept). record c { handed = y.parts.names.kept.handed }) raised_then

    thread_is : p.thread ≡ thread
    thread_is = open_thread thread x.open_calls p opens

    pub since_then : AreAdded k.births (given_kept s k o) y.parts.names.kept.births
    since_then = subst (λ (bs : List Birth). AreAdded bs (births_given bs o.args (row_of o.cmd).effect (objects_of made)) y.parts.names.kept.births) shows.parts.births births

    pub same_then : SaySame (kept_after_return s k (sent_of p) h y.parts.names.kept.births) y.parts.names.kept.names y.parts.names.kept.handed
    same_then = record {
      names = λ q. names q ∙ ap (λ ns. object_in (ns ++ map named_of made) q) shows.parts.names;
      handed = λ q. chain.handed q ∙ ap (λ (c : ChainKept). handle_in c.handed q) raised_then;
    }

    pub shows_then : Shows s y (with_tables (kept_after_return s k (sent_of p) h y.parts.names.kept.births) y.parts.names.kept.names y.parts.names.kept.handed)
    shows_then = record {
      calls = calls ∙ shows.calls;
      skipped = skipped ∙ shows.skipped;
      reports = reports ∙ shows.reports;
      parts = record {
        names = refl;
        count = count ∙ ap (λ n. n + length made) shows.parts.count;
        births = refl;
        retrieved = retrieved ∙ (ap (λ rs. rs ++ retrieved_by x.parts.names.kept.births o made) shows.parts.retrieved ∙ ap (λ (bs : List Birth). k.retrieved ++ retrieved_by bs o made) shows.parts.births);
        states = ap (λ (c : ChainKept). c.states) chain_is;
        ids = ap (λ (c : ChainKept). c.terminator) chain_is;
        routes = ap (λ (c : ChainKept). c.routes) chain_is;
        handed = refl;
        drivers = drivers ∙ shows.parts.drivers;
      };
      sent = ap (map sent_of) closed ∙ (sent_filter thread x.open_calls ∙ (ap (filter (λ (c : Sent). not (is_of thread c.opened))) shows.sent ∙ ap (λ n. filter (λ (c : Sent). not (is_of n c.opened)) k.sent) (sym thread_is)));
      held = subst (λ cs. AreHeldAs s (kinds_of y.parts.states.kept) cs (chain_after_return s k (sent_of p) h).held) (ap (λ n. filter (λ (c : OpenCall). not (is_of n (opened_of c))) x.open_calls) thread_is ∙ sym closed)
          (held_then (kinds_of y.parts.states.kept) (ap (λ (c : ChainKept). kinds_of c.states) chain_is));
    }

-- ---- the whole return

-- the call that is found is that of the definitions
same_call : (s : Setup) (x : Kept) (k : SessionKept) (thread : ℕ) (p : OpenCall) (call : Sent) → Shows s x k → Some p ≡ find (λ (c : OpenCall). is_of thread (opened_of c)) x.open_calls → sent_of_thread k thread ≡ Some call → call ≡ sent_of p
same_call s x k thread p call shows opens found =
    let e : Some call ≡ Some (sent_of p) = sym found ∙ (ap (find (λ (c : Sent). is_of thread c.opened)) (sym shows.sent) ∙ sent_found thread x.open_calls p opens) in
    cc

-- what is born at it
born_so : (s : Setup) (x : Kept) (k : SessionKept) (thread : ℕ) (p : OpenCall) (call : Sent) (held : Held) (born : List Born) → Shows s x k → Some p ≡ find (λ (c : OpenCall). is_of thread (opened_of c)) x.open_calls → sent_of_thread k thread ≡ Some call
    → held_of_thread k thread ≡ Some held → Returns s k call held → born ≡ made_by x.parts.terminator.drivers x.parts.names.kept.births (born_in x.parts.names.kept.births) x.parts.names.kept.retrieved (opened_of p) → born ≡ made_kept s k (opened_of p)
born_so s x k thread p call held born shows opens found holds returns is =
    is ∙ made_so s x k thread p held shows opens holds (subst (λ (c : Sent). Returns s k c held) (same_call s x k thread p call shows opens found) returns)

-- its results may come up
pub can_raise : (x : Kept) (thread : ℕ) (p : OpenCall) (born : List Born) → CanFinish x thread → Some p ≡ find (λ (c : OpenCall). is_of thread (opened_of c)) x.open_calls
    → born ≡ made_by x.parts.terminator.drivers x.parts.names.kept.births (born_in x.parts.names.kept.births) x.parts.names.kept.retrieved (opened_of p) → MayRaise x.parts.states.kept x.parts.terminator p born
can_raise x thread p born can opens is =
    subst (λ ms. MayRaise x.parts.states.kept x.parts.terminator p ms) (sym (born_so can.setup x can.kept thread p can.call can.held born can.shows opens can.found can.holds can.returns is))
    (may_raise can.setup x can.kept thread p can.held can.shows opens can.holds (subst (λ (c : Sent). Returns can.setup can.kept c can.held) (same_call can.setup x can.kept thread p can.call can.shows opens can.found) can.returns))

-- where no call is open, none returns
pub none_finishes : (x y : Kept) (thread : ℕ) (old_lines lines : List ℕ) → None ≡ find (λ (c : OpenCall). is_of thread (opened_of c)) x.open_calls → Finishes x y thread old_lines lines
none_finishes x y thread old_lines lines none = λ s k call held shows found holds returns.
    let e : Some call ≡ None = sym found ∙ (ap (find (λ (c : Sent). is_of thread c.opened)) (sym shows.sent) ∙ none_sent thread x.open_calls none) in
    cc e

pub finishes_so : (x y : Kept) (thread : ℕ) (p : OpenCall) (born : List Born) (old_lines lines : List ℕ) → Some p ≡ find (λ (c : OpenCall). is_of thread (opened_of c)) x.open_calls
    → born ≡ made_by x.parts.terminator.drivers x.parts.names.kept.births (born_in x.parts.names.kept.births) x.parts.names.kept.retrieved (opened_of p) → y.calls ≡ x.calls → y.skipped ≡ x.skipped → y.reports ≡ x.reports → ((q : Name) → object_in y.parts.names.kept.names q ≡ object_in (x.parts.names.kept.names ++ map named_of born) q)
    → y.parts.names.kept.count ≡ x.parts.names.kept.count + length born
    → AreAdded x.parts.names.kept.births (births_given x.parts.names.kept.births (args_shown p.args.items) (row_of p.cmd).effect (objects_of born)) y.parts.names.kept.births
    → y.parts.names.kept.retrieved ≡ x.parts.names.kept.retrieved ++ retrieved_by x.parts.names.kept.births (opened_of p) born → y.open_calls ≡ filter (λ (c : OpenCall). not (is_of thread (opened_of c))) x.open_calls
    → ((forms : List CallContent) → IsHeldOf p.held (kinds_of x.parts.states.kept) forms → KeepsChain y.parts.states.kept y.parts.terminator y.parts.names.kept.handed (chain_raised (chain_at x.parts.states.kept x.parts.terminator x.parts.names.kept.handed) p forms born)) → y.parts.terminator.drivers ≡ x.parts.terminator.drivers
    → ((s : Setup) → p.refusal ≡ refusal_at s p.cmd p.payload.items → s.drivers ≡ x.parts.terminator.drivers → lines ≡ old_lines ++ return_text s (opened_of p) (length born)) → Finishes x y thread old_lines lines
finishes_so x y thread p born old_lines lines opens is calls skipped reports names count births retrieved closed chain drivers line = λ s k call held shows found holds returns.
    let same : call ≡ sent_of p = same_call s x k thread p call shows opens found in
    let mine : Returns s k (sent_of p) held = subst (λ (c : Sent). Returns s k c held) same returns in
    let made : born ≡ made_kept s k (opened_of p) = born_so s x k thread p call held born shows opens found holds returns is in
    let o : Opened = opened_of p in
    let names2 : (q : Name) → object_in y.parts.names.kept.names q ≡ object_in (x.parts.names.kept.names ++ map named_of (made_kept s k (opened_of p))) q
    = λ q. names q ∙ ap (λ (ms : List Born). object_in (x.parts.names.kept.names ++ map named_of ms) q) made in
    let count2 : y.parts.names.kept.count ≡ x.parts.names.kept.count + length (made_kept s k (opened_of p)) = count ∙ ap (λ (ms : List Born). x.parts.names.kept.count + length ms) made in
    let births2 : AreAdded x.parts.names.kept.births (births_given x.parts.names.kept.births (args_shown p.args.items) (row_of p.cmd).effect (objects_of (made_kept s k (opened_of p)))) y.parts.names.kept.births
    = subst (λ (ms : List Born). AreAdded x.parts.names.kept.births (births_given x.parts.names.kept.births (args_shown p.args.items) (row_of p.cmd).effect (objects_of ms)) y.parts.names.kept.births) made births in
    let retrieved2 : y.parts.names.kept.retrieved ≡ x.parts.names.kept.retrieved ++ retrieved_by x.parts.names.kept.births (opened_of p) (made_kept s k (opened_of p)) = retrieved ∙ ap (λ (ms : List Born). x.parts.names.kept.retrieved ++ retrieved_by x.parts.names.kept.births (opened_of p) ms) made in
    let chain2 : KeepsChain y.parts.states.kept y.parts.terminator y.parts.names.kept.handed (chain_raised (chain_at x.parts.states.kept x.parts.terminator x.parts.names.kept.handed) p held.forms (made_kept s k (opened_of p)))
    = subst (λ (ms : List Born). KeepsChain y.parts.states.kept y.parts.terminator y.parts.names.kept.handed (chain_raised (chain_at x.parts.states.kept x.parts.terminator x.parts.names.kept.handed) p held.forms ms)) made
    (chain held.forms (held_is s x k thread p held shows opens holds mine)) in
    subst (λ (c : Sent). Returned s k c held y old_lines lines) (sym same) (record {
      births = y.parts.names.kept.births;
      since = since_then s x k thread p held shows opens holds mine y calls skipped reports names2 count2 births2 retrieved2 closed chain2 drivers;
      same = same_then s x k thread p held shows opens holds mine y calls skipped reports names2 count2 births2 retrieved2 closed chain2 drivers;
      shows = shows_then s x k thread p held shows opens holds mine y calls skipped reports names2 count2 births2 retrieved2 closed chain2 drivers;
      wrote = line s (refusal_is s x k thread p held shows opens holds mine) (sym shows.parts.drivers) ∙ ap (λ (ms : List Born). old_lines ++ return_text s (opened_of p) (length ms)) made;
    })

-- ---- its line

-- what is kept of an open call is what its line says
pub line_so : (s : Setup) (p : OpenCall) (call : Returning) → p.refusal ≡ refusal_at s p.cmd p.payload.items
    → call ≡ record { number = p.number; cmd = p.cmd; code = p.code; refusal = p.refusal; skipped = is_skipped (opened_of p); results = length p.results.items; drivers = s.drivers } → IsOf s (opened_of p) call
line_so s p call refusal e = subst (λ (c : Returning). IsOf s (opened_of p) c) (sym e) (record {
  number = refl;
  cmd = refl;
  code = refl;
  refusal = refusal_so p.refusal (refusal_of (s.outcome p.payload.items)) (same_command p.cmd cmd.CreateInstance) refusal;
  refused = refl;
  skipped = refl;
  results = refl;
  drivers = refl;
})
