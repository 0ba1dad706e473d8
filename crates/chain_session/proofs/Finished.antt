-- A return of a trace can be taken, and is one event more.
use Rattle.std.proofs.Common.{◌≡◌, ◌==◌, ◌∙◌, ◌&&◌, ℕ, suc, ◌+◌, Bool, true, false, not, cond, Some, None, List, [], ◌∷◌, ◌++◌, length, map, refl, ap, sym, subst, eq-eqb}
use Rattle.std.proofs.lemmas.Bool.{eqb-true}
use Rattle.std.proofs.lemmas.List.{length-map}
use Rattle.std.specs.Prelude.{find, nat_le}
use Rattle.std.specs.List.{AllByRecursion}
use Rattle.std.specs.Option.{option_map_or}
use Rattle.command_tables.specs.Calls.{CallContent, ReplyContent}
use Rattle.model_driver.specs.Logs.{Log, logged}
use Rattle.model_driver.proofs.Telling.{logged_nothing}
use Rattle.trace_format.specs.Content.{TraceEvent, Return}
use Rattle.object_model.specs.declared.PartKind.{PartKind}
use Rattle.object_model.specs.History.{Birth, births}
use Rattle.replay_model.specs.ChainPlaces.{reaches}
use Rattle.replay_model.specs.Setup.{Setup, parts_of}
use Rattle.replay_model.specs.Past.{Opened, history, is_of, is_skipped, open_calls}
use Rattle.replay_model.specs.Judged.{judged}
use Rattle.replay_model.specs.Direct.{Sent}
use Rattle.layer_model.specs.Walks.{PartState, are_parts_guarded, is_guarded}
use Rattle.layer_model.proofs.Same.{and_true}
use Rattle.chain_model.specs.Gaps.{IsGapped, may_all_come, may_come}
use Rattle.chain_model.specs.Chained.{AreForms, form_by}
use Rattle.chain_model.specs.Simulated.{Held, HeldStand, IsBottom, base_of, fresh_of, with_forms, with_parts}
use Rattle.chain_model.specs.Tokens.{number_in}
use Rattle.chain_model.specs.Traces.{GivesGuarded, held_in_force, in_force, starts_chain}
use Rattle.chain_model.proofs.Answering.{is_nothing, or_parts}
use Rattle.chain_model.proofs.Simulating.{fresh_kinds}
use Rattle.chain_model.proofs.Stepping.{held_found}
use Rattle.session_model.specs.Session.{SessionKept}
use Rattle.session_model.specs.Returning.{held_of_thread, kept_after_return, sent_of_thread}
use Rattle.session_model.specs.Stands.{HasCall, ReturnsWell, Stands}
use Rattle.session_model.specs.Tables.{with_tables}
use Rattle.session_model.proofs.Returned.{opened_is, returns_well}
use Rattle.session_model.proofs.Steps.{return_steps}
use Rattle.session_model.proofs.Turns.{returns_busy}
use Rattle.session_parts.specs.Leaving.{HasNoForms, Returns}
use Rattle.chain_session.specs.declared.kept.Kept.{Kept}
use Rattle.chain_session.specs.Finishing.{CanFinish, Finishes, Returned}
use Rattle.chain_session.specs.Standing.{Advances, CanCome}
use Rattle.chain_session.proofs.Instances.{no_states, none_in_force}

-- ---- the forms of a call

-- a call that nothing stops came to all parts
all_forms : (reach : ℕ → Bool) (form : CallContent) (k : ℕ) (states : List PartState) (forms : List CallContent) → ((j : ℕ) → reach j ≡ true) → AreForms reach form k states forms → length forms ≡ length states
all_forms reach form k [] [] all a = refl
all_forms reach form k [] (c ∷ forms) all a = absurd a
all_forms reach form k (s ∷ states) [] all a = let e : true ≡ false = sym (all k) ∙ a.0 in cc e
all_forms reach form k (s ∷ states) (c ∷ forms) all a = ap suc (all_forms reach form (k + 1) states forms all a.2)

all_reached : (o : Opened) → o.refused ≡ false → o.stop ≡ None → (j : ℕ) → reaches o j ≡ true
all_reached o refused stop j = ap (λ u. not u && option_map_or (nat_le j) o.stop true) refused ∙ ap (λ n. option_map_or (nat_le j) n true) stop

-- with no parts there are none
no_forms : (reach : ℕ → Bool) (form : CallContent) (k : ℕ) (forms : List CallContent) → AreForms reach form k [] forms → forms ≡ []
no_forms reach form k [] a = refl
no_forms reach form k (c ∷ forms) a = absurd a

none_held : (bs : List Birth) (held : List Held) (opens : List Opened) → HeldStand [] bs held opens → AllByRecursion HasNoForms held
none_held bs [] [] a = tt
none_held bs [] (o ∷ opens) a = absurd a
none_held bs (h ∷ held) [] a = absurd a
none_held bs (h ∷ held) (o ∷ opens) a = (no_forms (reaches o) (form_by (number_in bs) (base_of o) o.args) 1 h.forms a.1, none_held bs held opens a.3)

found_thread : (thread : ℕ) (held : List Held) (h : Held) → find (λ (x : Held). x.thread == thread) held ≡ Some h → h.thread ≡ thread
found_thread thread [] h e = cc e
found_thread thread (g ∷ held) h e = go (g.thread == thread) refl e (found_thread thread held h)
  where
    go : (u : Bool) → (g.thread == thread) ≡ u → cond u (Some g) (find (λ (x : Held). x.thread == thread) held) ≡ Some h → (find (λ (x : Held). x.thread == thread) held ≡ Some h → h.thread ≡ thread) → h.thread ≡ thread
    go true t f ih = let one : g ≡ h = cc in ap (λ (x : Held). x.thread) (sym one) ∙ eqb-true g.thread thread t
    go false t f ih = ih f

found_call : (thread : ℕ) (cs : List Sent) (c : Sent) → find (λ (x : Sent). is_of thread x.opened) cs ≡ Some c → c.opened.thread ≡ thread
found_call thread [] c e = cc e
found_call thread (g ∷ cs) c e = go (g.opened.thread == thread) refl e (found_call thread cs c)
  where
    go : (u : Bool) → (g.opened.thread == thread) ≡ u → cond u (Some g) (find (λ (x : Sent). is_of thread x.opened) cs) ≡ Some c → (find (λ (x : Sent). is_of thread x.opened) cs ≡ Some c → c.opened.thread ≡ thread) → c.opened.thread ≡ thread
    go true t f ih = let one : g ≡ c = cc in ap (λ (x : Sent). x.opened.thread) (sym one) ∙ eqb-true g.opened.thread thread t
    go false t f ih = ih f

-- ---- what a return relies on

module _ (s : Setup) (k : SessionKept) (events : List TraceEvent) (thread : ℕ) (replies : List ReplyContent) (c : Sent) (h : Held) (guarded : GivesGuarded s) (trace : IsGapped events) (st : Stands s k events replies)
    (is : sent_of_thread k thread ≡ Some c) (held : held_of_thread k thread ≡ Some h) where
  abbrev o : Opened
  o = c.opened

  abbrev bs : List Birth
  bs = births (history (judged s events))

  abbrev parts : List PartKind
  parts = parts_of (s.outcome c.opened.payload)

  there : find (is_of thread) (open_calls (judged s events)) ≡ Some o
  there = opened_is s k events thread replies c h guarded trace st is held

  stands : AreForms (reaches o) (form_by (number_in bs) (base_of o) o.args) 1 k.chain.states h.forms × (o.refused ≡ false → o.stop ≡ None → IsBottom bs o h.bottom)
  stands = held_found k.chain.states bs thread k.chain.held (open_calls (judged s events)) h o st.simulates.chain.held held there

  own : (h.thread == o.thread) ≡ true
  own = eq-eqb h.thread o.thread (found_thread thread k.chain.held h held ∙ sym (found_call thread k.sent c is))

  idle_is : starts_chain o ≡ true → k.chain.states ≡ []
  idle_is starts = no_states k.chain.states (st.simulates.kinds ∙ none_in_force s events thread o trace there starts)

  guarded_then : (in_force s k.chain o).states ≡ (in_force s k.chain o).states → is_guarded (in_force s k.chain o).states ≡ true
  guarded_then e = go (starts_chain o)
    where
      go : (u : Bool) → is_guarded (cond u (with_parts k.chain o parts) k.chain).states ≡ true
      go true = ap are_parts_guarded (fresh_kinds o parts) ∙ guarded o.payload
      go false = st.simulates.chain.guard

  cmd_is : is_skipped o ≡ false → h.bottom.cmd ≡ o.cmd
  cmd_is goes =
      let ps = or_parts o.refused _ goes in
      let bottom : IsBottom bs o h.bottom = stands.1 ps.0 (is_nothing o.stop ps.1) in
      ap (λ (x : CallContent). x.cmd) bottom.form

  whole_is : is_skipped o ≡ false → length (held_in_force s o h).forms ≡ length (in_force s k.chain o).states
  whole_is goes = go (starts_chain o)
    where
      reached : (j : ℕ) → reaches o j ≡ true
      reached = let ps = or_parts o.refused _ goes in all_reached o ps.0 (is_nothing o.stop ps.1)

      go : (u : Bool) → length (cond u (with_forms o parts h) h).forms ≡ length (cond u (with_parts k.chain o parts) k.chain).states
      go true =
          ap (λ b. length (cond b (record { thread = h.thread; forms = map (λ _. base_of o) parts; bottom = h.bottom }) h).forms) own
          ∙ (length-map parts (λ _. base_of o) ∙ sym (length-map parts (fresh_of o)))
      go false = all_forms (reaches o) (form_by (number_in bs) (base_of o) o.args) 1 k.chain.states h.forms reached stands.0

  pub returns_of : Returns s k c h
  returns_of = record {
    steps = return_steps s k events thread replies c h guarded trace st is held;
    guarded = st.simulates.chain.guard;
    guarded_in_force = λ goes. guarded_then refl;
    idle = λ goes starts. idle_is starts;
    unheld = λ goes starts. none_held bs k.chain.held (open_calls (judged s events)) (subst (λ ss. HeldStand ss bs k.chain.held (open_calls (judged s events))) (idle_is starts) st.simulates.chain.held);
    cmd = cmd_is;
    whole = whole_is;
  }

-- ---- one event more

shorter : (e : TraceEvent) (before : List TraceEvent) → IsGapped (e ∷ before) → IsGapped before
shorter e before trace = record { grammar = trace.grammar.1; each = (and_true (may_all_come before) (may_come before e) trace.each).0 }

-- a return that can come can be taken
pub can_finish : (s : Setup) (x : Kept) (thread : ℕ) → GivesGuarded s → CanCome s (Some x) (Return thread) → CanFinish x thread
can_finish s x thread guarded can =
    let has : HasCall can.stands.kept thread = returns_busy s can.stands.kept can.events thread can.replies can.trace can.stands.stands in
    record {
      setup = s;
      kept = can.stands.kept;
      shows = can.stands.shows;
      call = has.call;
      held = has.form;
      found = has.sent;
      holds = has.held;
      returns = returns_of s can.stands.kept can.events thread can.replies has.call has.form guarded (shorter (Return thread) can.events can.trace) can.stands.stands has.sent has.held;
    }

-- a return more
pub return_advances : (s : Setup) (x new : Kept) (thread : ℕ) (log : Log) (lines0 lines1 : List ℕ) → GivesGuarded s → Finishes x new thread lines0 lines1 → Advances s (Some x) (Some new) (Return thread) log log lines0 lines1
return_advances s x new thread log lines0 lines1 guarded f = record {
  replies = [];
  stands = λ events before st trace.
      let has : HasCall st.kept thread = returns_busy s st.kept events thread before trace st.stands in
      let so_far : IsGapped events = shorter (Return thread) events trace in
      let g : Returned s st.kept has.call has.form new lines0 lines1 = f s st.kept has.call has.form st.shows has.sent has.held (returns_of s st.kept events thread before has.call has.form guarded so_far st.stands has.sent has.held) in
      let well : ReturnsWell s st.kept events thread before has.call has.form = returns_well s st.kept events thread before has.call has.form guarded so_far st.stands has.sent has.held in
      record {
        kept = with_tables (kept_after_return s st.kept has.call has.form g.births) new.parts.names.kept.names new.parts.names.kept.handed;
        shows = g.shows;
        stands = well.stands g.births new.parts.names.kept.names new.parts.names.kept.handed g.since g.same;
      };
  each = λ events before st trace. refl;
  told = λ events before st trace. logged_nothing log;
  wrote = λ events before st trace.
      let has : HasCall st.kept thread = returns_busy s st.kept events thread before trace st.stands in
      let so_far : IsGapped events = shorter (Return thread) events trace in
      let g : Returned s st.kept has.call has.form new lines0 lines1 = f s st.kept has.call has.form st.shows has.sent has.held (returns_of s st.kept events thread before has.call has.form guarded so_far st.stands has.sent has.held) in
      let well : ReturnsWell s st.kept events thread before has.call has.form = returns_well s st.kept events thread before has.call has.form guarded so_far st.stands has.sent has.held in
      g.wrote ∙ ap (λ ls. lines0 ++ ls) well.line;
}
