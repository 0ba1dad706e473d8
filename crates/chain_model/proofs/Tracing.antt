-- The chain that is kept stands for the trace after each event.
use Rattle.std.proofs.Common.{◌≡◌, ◌==◌, ℕ, ◌+◌, Bool, true, false, not, cond, ◌&&◌, ◌||◌, Option, Some, None, List, [], ◌∷◌, ◌++◌, map, refl, sym, ◌∙◌, ap, subst}
use Rattle.std.proofs.lemmas.Bool.{eqb-true}
use Rattle.std.specs.Prelude.{find, is_some}
use Rattle.std.specs.List.{list_any, AllByRecursion}
use Rattle.command_tables.specs.Calls.{ReplyContent}
use Rattle.command_tables.specs.declared.types.CommandId.TheVariants as cmd
use Rattle.command_tables.specs.Effects.{succeeds, type_made}
use Rattle.command_tables.specs.Table.{row_of}
use Rattle.command_tables.specs.Tests.{same_command}
use Rattle.trace_format.specs.Accepting.{breaks_in, makes_instance}
use Rattle.trace_format.specs.Content.{BeginEvent, TraceEvent, Begin, Return}
use Rattle.object_model.specs.declared.Object.{Object}
use Rattle.object_model.specs.declared.Argument.{Argument}
use Rattle.object_model.specs.declared.PartKind.{PartKind}
use Rattle.object_model.specs.declared.PartKind.TheVariants as part
use Rattle.object_model.specs.Findings.{Findings, above, at_place, is_failing}
use Rattle.object_model.specs.History.{Birth, Call, born_in, births, alive}
use Rattle.object_model.specs.Objects.{first_in}
use Rattle.object_model.specs.Renaming.{KnowsArgs}
use Rattle.object_model.specs.Routes.{receivers}
use Rattle.object_model.specs.Rules.{Failure, loader_failures}
use Rattle.object_model.specs.Values.{Answered, Value}
use Rattle.replay_model.specs.declared.Born.{Born}
use Rattle.replay_model.specs.Setup.{Setup, parts_of}
use Rattle.replay_model.specs.Past.{Opened, Past, Returned, call_of, is_of, is_skipped, named, open_calls, history, retrievals, routed}
use Rattle.replay_model.specs.ChainPlaces.{checked, findings, parts_checked, parts_in_force}
use Rattle.replay_model.specs.Direct.{answers_of, before_call, own_replies, sent, valued, valued_of}
use Rattle.replay_model.specs.Judged.{begun_of, judged, made_of, returned_by}
use Rattle.layer_model.specs.Ids.{IssuedAll}
use Rattle.layer_model.specs.Routes.{drivers_at, routes_then}
use Rattle.layer_model.specs.Terminator.{terminator_leave}
use Rattle.layer_model.specs.Walks.{PartState, are_parts_guarded, kind_of, nothing_found}
use Rattle.layer_model.proofs.Same.{and_true}
use Rattle.chain_model.proofs.Passing.{AreTyped, births_then, results_above, retrievals_then}
use Rattle.chain_model.proofs.OneRoute.{AreRouted}
use Rattle.chain_model.specs.Gaps.{IsGapped, may_all_come, may_come}
use Rattle.chain_model.specs.Routes.{routes_in}
use Rattle.chain_model.specs.Simulated.{ChainKept, ChainStands, Held, IsBottom, after_none, after_reply, after_skipped, after_walk, base_of, born_flags, first_of, found_by, no_chain, walk_of, with_forms, with_parts}
use Rattle.chain_model.proofs.Sound.{Sound}
use Rattle.chain_model.proofs.Shapes.{AnsweredWell}
use Rattle.chain_model.specs.Stops.{StopsFit}
use Rattle.chain_model.specs.Traces.{GivesGuarded, GoesDown, IsSent, Simulates, held_in_force, in_force, loader_finds, starts_chain}
use Rattle.chain_model.proofs.Coming.{begins_well, no_break}
use Rattle.chain_model.proofs.Accepted.{IsAccepted, accepted_judged, args_typed}
use Rattle.chain_model.proofs.Answering.{answered_well, is_nothing, or_parts, sent_well}
use Rattle.chain_model.proofs.Eventing.{all_append, all_filter, all_found}
use Rattle.chain_model.proofs.Grammar.{fit_length, shaped, whole}
use Rattle.chain_model.proofs.Guiding.{drivers_are, made_is, none_then, routed_judged, routes_sent}
use Rattle.chain_model.proofs.Knowing.{asks_born}
use Rattle.chain_model.proofs.Naming.{MadeOf, found_passes}
use Rattle.chain_model.proofs.Quieting.{creation_fails, quiet_judged}
use Rattle.chain_model.proofs.Simulating.{begin_finds, begin_stands, found_all, fresh_kinds, left_kinds, told_well, walk_well}
use Rattle.chain_model.proofs.Sounding.{arguments_known}
use Rattle.chain_model.proofs.Starting.{after_no_begin, chain_starts, no_earlier, or_left, others_judged, params_none}
use Rattle.chain_model.proofs.Terminating.{Answered_by, answers_well}
use Rattle.chain_model.proofs.Stepping.{begin_fits, held_found, nothing_stands, return_fits, sound_of, step_reply, step_skipped}

-- ---- nothing yet

pub nothing_simulates : (s : Setup) → Simulates s no_chain [] []
nothing_simulates s = record { chain = nothing_stands; kinds = refl; fits = λ k life. absurd life; routes = refl; answers = tt }

-- ---- a begin

-- a command without parameters fails nothing
quiet_parts : (past : Past) (call : Call) (ps : List PartKind) (k : ℕ) → (row_of call.cmd).params ≡ [] → findings (parts_checked past call k ps) ≡ nothing_found
quiet_parts past call [] k none = refl
quiet_parts past call (part.Threads ∷ ps) k none = rw none (ap (above []) (quiet_parts past call ps (k + 1) none))
quiet_parts past call (part.Lifetimes ∷ ps) k none = rw none (ap (above []) (quiet_parts past call ps (k + 1) none))
quiet_parts past call (part.Unique ∷ ps) k none = quiet_parts past call ps (k + 1) none

module _ (s : Setup) (k : ChainKept) (events : List TraceEvent) (b : BeginEvent) (replies after : List ReplyContent) (trace : IsGapped (Begin b ∷ events)) (st : Simulates s k events replies) where
  abbrev past : Past
  past = judged s events

  abbrev o : Opened
  o = (begun_of s (judged s events) b).opened

  abbrev fs : List Failure
  fs = loader_finds (judged s events) (begun_of s (judged s events) b).opened

  accepts : (may_all_come events ≡ true) × (may_come events (Begin b) ≡ true)
  accepts = and_true (may_all_come events) (may_come events (Begin b)) trace.each

  accepted : IsAccepted events past
  accepted = accepted_judged s events accepts.0 (shaped events trace.grammar.1)

  sound : Sound past k.states
  sound = sound_of events past k.states accepted st.fits

  typed : AreTyped (row_of o.cmd).params o.args
  typed = args_typed events (named past) accepted.named_typed (row_of b.cmd).params b.args (fit_length (row_of b.cmd).params b.args trace.grammar.0.args) (begins_well events b accepts.1).0

  known : KnowsArgs (born_in (births (history past))) o.args
  known = arguments_known (born_in (births (history past))) (named past) accepted.knowing.names b.args

  finds : findings (checked s past (call_of o)) ≡ found_by fs (walk_of k o).found
  finds = begin_finds s k past replies o st.chain sound st.kinds typed known

  -- what passes wasn't stopped by a part
  passed_on : o.stop ≡ None → (walk_of k o).found.stop ≡ None
  passed_on passes = go (is_failing fs) (ap (λ (f : Findings). f.stop) (sym finds) ∙ passes)
    where
      go : (u : Bool) → (cond u (record { reports = at_place 0 fs; stop = Some 0 }) (walk_of k o).found).stop ≡ None → (walk_of k o).found.stop ≡ None
      go true e = cc e
      go false e = e

  refused_quiet : o.refused ≡ true → findings (checked s past (call_of o)) ≡ nothing_found
  refused_quiet refused =
      let none : (row_of b.cmd).params ≡ [] = params_none b.cmd (and_true (same_command b.cmd cmd.CreateInstance) _ refused).0 in
      found_all past (call_of o) (parts_checked past (call_of o) 1 (parts_in_force s past))
      ∙ (ap (λ (xs : List Failure). found_by xs (findings (parts_checked past (call_of o) 1 (parts_in_force s past)))) (ap (λ ps. loader_failures (alive (history past)) ps o.args) none ∙ none_found (alive (history past)) o.args)
      ∙ quiet_parts past (call_of o) (parts_in_force s past) 1 none)
    where
      none_found : (living : Object → Bool) (args : List (List Argument)) → loader_failures living [] args ≡ []
      none_found living args = refl

  routes_are : AreRouted (births (history past)) (routed past)
  routes_are = routed_judged s events accepts.0 (shaped events trace.grammar.1)

  to_drivers : o.refused ≡ false → o.stop ≡ None → o.drivers ≡ drivers_at s.drivers k.routes (walk_of k o).bottom
  to_drivers goes passes =
      ap (λ u. cond (u || is_some o.stop) [] (receivers s.drivers (routed past) (first_in o.args 0))) goes
      ∙ (ap (λ (x : Option ℕ). cond (is_some x) [] (receivers s.drivers (routed past) (first_in o.args 0))) passes
      ∙ (sym (drivers_are s.drivers (births (history past)) (routed past) (first_of (valued past replies)) o (params_none o.cmd) typed known routes_are)
      ∙ (ap (λ c. drivers_at s.drivers (routes_in (births (history past)) (routed past)) c) (sym ((walk_well k past replies o st.chain sound typed known).bottom (passed_on passes)))
      ∙ ap (λ rs. drivers_at s.drivers rs (walk_of k o).bottom) (sym st.routes))))

  kinds_then : (u : Bool) → map kind_of (cond u (after_none k o) (after_walk k o (walk_of k o))).states ≡ map kind_of k.states
  kinds_then true = refl
  kinds_then false = (walk_well k past replies o st.chain sound typed known).kinds

  routes_stay : (u : Bool) → (cond u (after_none k o) (after_walk k o (walk_of k o))).routes ≡ k.routes
  routes_stay true = refl
  routes_stay false = refl

  pub goes_down : GoesDown s k events b replies after o
  goes_down = record {
    found = finds;
    refused = refused_quiet;
    drivers = to_drivers;
    told = λ goes passes driver. told_well k past replies o st.chain typed known (walk_of k o).bottom ((walk_well k past replies o st.chain sound typed known).bottom (passed_on passes)) driver;
    stands = λ r. record {
      chain = begin_stands s k past replies after b o (begun_of s past b).reports st.chain sound st.kinds typed known refl r.back;
      kinds = kinds_then (o.refused || is_failing fs) ∙ st.kinds;
      fits = subst (λ ps. StopsFit ps (judged s (Begin b ∷ events))) (sym (kinds_then (o.refused || is_failing fs))) (begin_fits s past b (map kind_of k.states) (sym st.kinds) st.fits);
      routes = routes_stay (o.refused || is_failing fs) ∙ st.routes;
      answers = all_append IsSent (sent past (before_call o after)) _ (subst (λ rs. AllByRecursion IsSent (sent past rs)) (sym r.back) st.answers) (sent_well (valued past replies) o (own_replies o after) r.answers, tt);
    };
  }

-- ---- the creation of the instance

-- an open creation was begun last
pub record LastBegun (s : Setup) (events : List TraceEvent) (o : Opened) : Type 0 where
  pub begin : BeginEvent
  pub before : List TraceEvent
  pub events_are : events ≡ Begin begin ∷ before
  pub opened : (begun_of s (judged s before) begin).opened ≡ o

not_both : {u : Bool} → u ≡ true → u ≡ false → ⊥
not_both a b = cc

creation_last : (s : Setup) (events : List TraceEvent) (thread : ℕ) (o : Opened) → may_all_come events ≡ true → find (is_of thread) (open_calls (judged s events)) ≡ Some o → same_command o.cmd cmd.CreateInstance ≡ true → LastBegun s events o
creation_last s [] thread o ok is creates = cc is
creation_last s (Return t ∷ before) thread o ok is creates =
    absurd (not_both creates (all_found (λ x. same_command x.cmd cmd.CreateInstance ≡ false) (is_of thread) (open_calls (judged s (Return t ∷ before))) o (others_judged s (Return t ∷ before) ok refl) is))
creation_last s (Begin b ∷ before) thread o ok is creates =
    let a = and_true (may_all_come before) (may_come before (Begin b)) ok in
    go (open_calls (judged s before)) (others_judged s before a.0 (after_no_begin before b a.1)) is
  where
    last : (find (is_of thread) ((begun_of s (judged s before) b).opened ∷ []) ≡ Some o) → LastBegun s (Begin b ∷ before) o
    last e = one (is_of thread (begun_of s (judged s before) b).opened) e
      where
        one : (u : Bool) → cond u (Some (begun_of s (judged s before) b).opened) None ≡ Some o → LastBegun s (Begin b ∷ before) o
        one true h = record { begin = b; before = before; events_are = refl; opened = cc }
        one false h = cc h

    go : (os : List Opened) → AllByRecursion (λ x. same_command x.cmd cmd.CreateInstance ≡ false) os → find (is_of thread) (os ++ (begun_of s (judged s before) b).opened ∷ []) ≡ Some o → LastBegun s (Begin b ∷ before) o
    go [] others e = last e
    go (x ∷ os) others e = at (is_of thread x) (go os others.1) e
      where
        at : (u : Bool) → (find (is_of thread) (os ++ (begun_of s (judged s before) b).opened ∷ []) ≡ Some o → LastBegun s (Begin b ∷ before) o) → cond u (Some x) (find (is_of thread) (os ++ (begun_of s (judged s before) b).opened ∷ [])) ≡ Some o → LastBegun s (Begin b ∷ before) o
        at true ih h = let one : x ≡ o = cc in absurd (not_both creates (ap (λ (y : Opened). same_command y.cmd cmd.CreateInstance) (sym one) ∙ others.0))
        at false ih h = ih h

no_states : (states : List PartState) → map kind_of states ≡ [] → states ≡ []
no_states [] e = refl
no_states (x ∷ states) e = cc e

-- at its return the chain that comes in force stands
StartsWell : Setup → ChainKept → List TraceEvent → List ReplyContent → Opened → Type 0
StartsWell s k events replies o = ChainStands (with_parts k o (parts_of (s.outcome o.payload))) (judged s events) replies × StopsFit (parts_of (s.outcome o.payload)) (judged s events)

starts_last : (s : Setup) (k : ChainKept) (b : BeginEvent) (before : List TraceEvent) (replies : List ReplyContent) → IsGapped (Begin b ∷ before) → Simulates s k (Begin b ∷ before) replies → GivesGuarded s
    → is_skipped (begun_of s (judged s before) b).opened ≡ false → starts_chain (begun_of s (judged s before) b).opened ≡ true → StartsWell s k (Begin b ∷ before) replies (begun_of s (judged s before) b).opened
unfolding StartsWell
starts_last s k b before replies trace st guarded goes starts =
    let a = and_true (may_all_come before) (may_come before (Begin b)) trace.each in
    let parts = and_true (same_command b.cmd cmd.CreateInstance) (succeeds b.cmd b.code) starts in
    let all = whole (Begin b ∷ before) trace.grammar in
    let makes : makes_instance (Begin b) ≡ true = made (makes_instance (Begin b)) refl parts.0 parts.1 in
    let none : list_any makes_instance before ≡ false = no_earlier (makes_instance (Begin b)) (list_any makes_instance before) makes (or_left (makes_instance (Begin b) && list_any makes_instance before) (breaks_in before (Begin b)) (no_break before b a.1)) in
    let stop = or_parts (begun_of s (judged s before) b).opened.refused (is_some (begun_of s (judged s before) b).opened.stop) goes in
    chain_starts s k b before replies (parts_of (s.outcome b.payload)) trace.each (shaped (Begin b ∷ before) trace.grammar) all makes stop.0 (is_nothing (begun_of s (judged s before) b).opened.stop stop.1) st.chain
    (no_states k.states (st.kinds ∙ (quiet_judged s before none all.1).parts)) (ap are_parts_guarded (fresh_kinds (begun_of s (judged s before) b).opened (parts_of (s.outcome b.payload))) ∙ guarded b.payload)
  where
    made : (u : Bool) → makes_instance (Begin b) ≡ u → same_command b.cmd cmd.CreateInstance ≡ true → succeeds b.cmd b.code ≡ true → makes_instance (Begin b) ≡ true
    made true e c y = e
    made false e c y = absurd (not_both y (creation_fails b.cmd b.code c (whole (Begin b ∷ before) trace.grammar).0.code e))

starts_are : (s : Setup) (k : ChainKept) (events : List TraceEvent) (replies : List ReplyContent) (o : Opened) → StartsWell s k events replies o → ChainStands (with_parts k o (parts_of (s.outcome o.payload))) (judged s events) replies × StopsFit (parts_of (s.outcome o.payload)) (judged s events)
unfolding StartsWell
starts_are s k events replies o w = w

starts_well : (s : Setup) (k : ChainKept) (events : List TraceEvent) (replies : List ReplyContent) (o : Opened) → LastBegun s events o → IsGapped events → Simulates s k events replies → GivesGuarded s → is_skipped o ≡ false → starts_chain o ≡ true → StartsWell s k events replies o
starts_well s k events replies o last trace st guarded goes starts =
    subst (λ (y : Opened). StartsWell s k events replies y) last.opened
    (subst (λ es. StartsWell s k es replies (begun_of s (judged s last.before) last.begin).opened) (sym last.events_are)
    (starts_last s k last.begin last.before replies (subst IsGapped last.events_are trace) (subst (λ es. Simulates s k es replies) last.events_are st) guarded
    (ap is_skipped last.opened ∙ goes) (ap starts_chain last.opened ∙ starts)))

-- the held call then
find_mapped : (o : Opened) (ps : List PartKind) (thread : ℕ) (held : List Held) (h : Held) → find (λ (x : Held). x.thread == thread) held ≡ Some h → find (λ (x : Held). x.thread == thread) (map (with_forms o ps) held) ≡ Some (with_forms o ps h)
find_mapped o ps thread [] h is = cc is
find_mapped o ps thread (x ∷ held) h is = ap (λ n. cond (n == thread) (Some (with_forms o ps x)) (find (λ (y : Held). y.thread == thread) (map (with_forms o ps) held))) (same_thread (x.thread == o.thread)) ∙ go (x.thread == thread) (find_mapped o ps thread held h) is
  where
    same_thread : (u : Bool) → (cond u (record { thread = x.thread; forms = map (λ _. base_of o) ps; bottom = x.bottom }) x).thread ≡ x.thread
    same_thread true = refl
    same_thread false = refl

    go : (u : Bool) → (find (λ (y : Held). y.thread == thread) held ≡ Some h → find (λ (y : Held). y.thread == thread) (map (with_forms o ps) held) ≡ Some (with_forms o ps h))
        → cond u (Some x) (find (λ (y : Held). y.thread == thread) held) ≡ Some h → cond u (Some (with_forms o ps x)) (find (λ (y : Held). y.thread == thread) (map (with_forms o ps) held)) ≡ Some (with_forms o ps h)
    go true ih e = let one : x ≡ h = cc in ap (λ y. Some (with_forms o ps y)) one
    go false ih e = ih e

-- ---- a return

-- the terminator's results are the handles above it
results_are : {X : Type 0} (k : ChainKept) (past : Past) (replies : List ReplyContent) (o : Opened) (h : Held) (answers : List Answered) (made : List Born) (lost : List X) → ChainStands k past replies → Sound past k.states → AreTyped (row_of o.cmd).params o.args
    → KnowsArgs (born_in (births (history past))) o.args → IsBottom (births (history past)) o h.bottom → MadeOf (births (history past)) (retrievals past) o made
    → (terminator_leave k.terminator h.bottom answers (born_flags made lost)).results ≡ results_above [] (births_then (births (history past)) o.cmd o.args made) (first_of (valued past replies ++ map (valued_of o answers) made)) made lost
results_are {X = X} k past replies o h answers made lost st so typed known bottom well =
    let bs : List Birth = births (history past) in
    (subst (λ c. Answered_by X (valued past replies ++ map (valued_of o answers) made) (births_then bs o.cmd o.args made) (retrievals_then bs (retrievals past) o.cmd o.payload o.args made) made lost (terminator_leave k.terminator c answers (born_flags made lost))) (sym bottom.form)
    (answers_well bs (retrievals past) (valued past replies) bottom.values (base_of o) o.args typed made lost so.once so.retrieved (asks_born bs o.cmd o.payload o.args known) well.placed well.apart well.have answers k.terminator st.ids)).results

-- the parts in force after a return
parts_then : (s : Setup) (past : Past) (o : Opened) (made : List Born) (u : Bool) → starts_chain o ≡ u → (v : Bool) → is_skipped o ≡ v → parts_in_force s (Returned o made ∷ past) ≡ cond (u && not v) (parts_of (s.outcome o.payload)) (parts_in_force s past)
parts_then s past o made u e v f = ap (λ t. cond t (parts_of (s.outcome o.payload)) (parts_in_force s past)) (shuffle (same_command o.cmd cmd.CreateInstance) (is_skipped o) (succeeds o.cmd o.code) ∙ (ap (λ t. t && not (is_skipped o)) e ∙ ap (λ t. u && not t) f))
  where
    shuffle : (a b c : Bool) → (a && (not b && c)) ≡ ((a && c) && not b)
    shuffle true true true = refl
    shuffle true true false = refl
    shuffle true false true = refl
    shuffle true false false = refl
    shuffle false b c = refl

and_false : (u : Bool) → (u && false) ≡ false
and_false true = refl
and_false false = refl

module _ {X : Type 0} (s : Setup) (k : ChainKept) (events : List TraceEvent) (thread : ℕ) (o : Opened) (h : Held) (lost : List X) (replies : List ReplyContent) (trace : IsGapped events) (st : Simulates s k events replies)
    (is : find (is_of thread) (open_calls (judged s events)) ≡ Some o) (held : find (λ (x : Held). x.thread == thread) k.held ≡ Some h) where
  abbrev so_far : Past
  so_far = judged s events

  abbrev bs0 : List Birth
  bs0 = births (history (judged s events))

  abbrev made0 : List Born
  made0 = made_of s (judged s events) o

  abbrev answers0 : List Answered
  answers0 = answers_of (sent (judged s events) replies) o.thread

  own_thread : o.thread ≡ thread
  own_thread = eqb-true o.thread thread (found_passes (is_of thread) (open_calls so_far) o is)

  accepted_so : IsAccepted events so_far
  accepted_so = accepted_judged s events trace.each (shaped events trace.grammar)

  known_args : KnowsArgs (born_in bs0) o.args
  known_args = all_found (λ x. KnowsArgs (born_in bs0) x.args) (is_of thread) (open_calls so_far) o accepted_so.knowing.opens is

  typed_args : AreTyped (row_of o.cmd).params o.args
  typed_args = all_found (λ x. AreTyped (row_of x.cmd).params x.args) (is_of thread) (open_calls so_far) o accepted_so.args is

  well_made : MadeOf bs0 (retrievals so_far) o made0
  well_made = made_is s events so_far thread o accepted_so is

  routed_so : AreRouted bs0 (routed so_far)
  routed_so = routed_judged s events trace.each (shaped events trace.grammar)

  -- from what holds of the return itself
  returned : (x : ChainKept) → ChainStands x (judged s (Return thread ∷ events)) replies → map kind_of x.states ≡ parts_in_force s (Returned o made0 ∷ so_far) → StopsFit (map kind_of x.states) so_far → x.routes ≡ routes_in (births (history (Returned o made0 ∷ so_far))) (routed (Returned o made0 ∷ so_far))
      → Simulates s x (Return thread ∷ events) replies
  returned x stands kinds fits routes = record {
    chain = stands;
    kinds = kinds ∙ ap (λ f. parts_in_force s (returned_by s so_far f)) (sym is);
    fits = return_fits s so_far thread (map kind_of x.states) fits;
    routes = routes ∙ ap (λ f. routes_in (births (history (returned_by s so_far f))) (routed (returned_by s so_far f))) (sym is);
    answers = subst (λ f. AllByRecursion IsSent (sent (returned_by s so_far f) replies)) (sym is) (all_filter IsSent (λ c. not (is_of o.thread c.opened)) (sent so_far replies) st.answers);
  }

  -- a skipped call
  skipped_routes : is_skipped o ≡ true → k.routes ≡ routes_in (births (history (Returned o made0 ∷ so_far))) (routed (Returned o made0 ∷ so_far))
  skipped_routes skipped =
      st.routes ∙ (none_then so_far o ∙ ap (λ (ms : List Born). routes_in (births (history (Returned o ms ∷ so_far))) (routed (Returned o ms ∷ so_far))) (sym nothing))
    where
      nothing : made_of s so_far o ≡ []
      nothing = rw skipped refl

  pub skipped_up : is_skipped o ≡ true → Simulates s (after_skipped k o h lost) (Return thread ∷ events) replies
  skipped_up skipped =
      let kept = left_kinds o.thread k.states h.forms (map (λ _. 0) lost) in
      returned (after_skipped k o h lost) (step_skipped s k events thread o h lost replies trace.each (shaped events trace.grammar) st.chain st.fits is held skipped)
      (kept ∙ (st.kinds ∙ sym (parts_then s so_far o made0 (starts_chain o) refl true skipped ∙ ap (λ u. cond u (parts_of (s.outcome o.payload)) (parts_in_force s so_far)) (and_false (starts_chain o)))))
      (subst (λ ps. StopsFit ps so_far) (sym kept) st.fits) (skipped_routes skipped)

  -- a call that was sent, by the chain in force then
  sent_on : (y : ChainKept) (g : Held) → ChainStands y so_far replies → StopsFit (map kind_of y.states) so_far → find (λ (x : Held). x.thread == thread) y.held ≡ Some g → y.routes ≡ k.routes → is_skipped o ≡ false → map kind_of y.states ≡ parts_in_force s (Returned o made0 ∷ so_far)
      → Simulates s (after_reply y o g answers0 made0 lost) (Return thread ∷ events) replies
  sent_on y g stands fits there routes goes kinds =
      let parts = or_parts o.refused (is_some o.stop) goes in
      let stopless : o.stop ≡ None = is_nothing o.stop parts.1 in
      let sound2 : Sound so_far y.states = sound_of events so_far y.states accepted_so fits in
      let all : IssuedAll (List Value) = terminator_leave y.terminator g.bottom answers0 (born_flags made0 lost) in
      let kept = left_kinds o.thread y.states g.forms all.results in
      let bottom : IsBottom bs0 o g.bottom = (held_found y.states bs0 thread y.held (open_calls so_far) g o stands.held there is).1 parts.0 stopless in
      returned (after_reply y o g answers0 made0 lost)
      (step_reply s y events thread o g lost replies trace.each (shaped events trace.grammar) stands fits is there parts.0 stopless
      (subst (λ t. AnsweredWell o.cmd (answers_of (sent so_far replies) t) made0) (sym own_thread) (answered_well s events replies thread o trace.grammar trace.each st.answers is goes well_made)))
      (kept ∙ kinds) (subst (λ ps. StopsFit ps so_far) (sym kept) fits)
      (ap (λ rs. routes_then rs o.cmd o.drivers (type_made (row_of o.cmd).effect) all.results) (routes ∙ st.routes)
      ∙ routes_sent so_far o made0 lost (first_of (valued so_far replies ++ map (valued_of o answers0) made0)) all.results routed_so well_made (results_are y so_far replies o g answers0 made0 lost stands sound2 typed_args known_args bottom well_made))

  pub sent_up : GivesGuarded s → is_skipped o ≡ false → Simulates s (after_reply (in_force s k o) o (held_in_force s o h) answers0 made0 lost) (Return thread ∷ events) replies
  sent_up guarded goes = go (starts_chain o) refl
    where
      go : (u : Bool) → starts_chain o ≡ u
          → Simulates s (after_reply (cond (starts_chain o) (with_parts k o (parts_of (s.outcome o.payload))) k) o (cond (starts_chain o) (with_forms o (parts_of (s.outcome o.payload)) h) h) answers0 made0 lost) (Return thread ∷ events) replies
      go true e =
          let ps : List PartKind = parts_of (s.outcome o.payload) in
          let start = starts_are s k events replies o (starts_well s k events replies o (creation_last s events thread o trace.each is (and_true (same_command o.cmd cmd.CreateInstance) (succeeds o.cmd o.code) e).0) trace st guarded goes e) in
          rw e (sent_on (with_parts k o ps) (with_forms o ps h) start.0 (subst (λ qs. StopsFit qs so_far) (sym (fresh_kinds o ps)) start.1) (find_mapped o ps thread k.held h held) refl goes
          (fresh_kinds o ps ∙ sym (parts_then s so_far o made0 true e false goes)))
      go false e = rw e (sent_on k h st.chain st.fits held refl goes (st.kinds ∙ sym (parts_then s so_far o made0 false e false goes)))
