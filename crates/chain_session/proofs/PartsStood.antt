-- What the parts of a session do is what the trace says.
use Rattle.std.proofs.Common.{◌≡◌, ◌==◌, ◌∙◌, ◌&&◌, ◌||◌, ◌++◌, ◌+◌, ℕ, Bool, true, false, cond, not, filter, Option, Some, None, List, [], ◌∷◌, find, length, map, reverse, refl, ap, sym, subst, eq-eqb}
use Rattle.std.proofs.lemmas.Bool.{eqb-true}
use Rattle.std.proofs.lemmas.List.{length-map}
use Rattle.std.specs.Option.{option_map}
use Rattle.command_tables.specs.Calls.{CallContent, ReplyContent}
use Rattle.command_tables.specs.Effects.{succeeds}
use Rattle.command_tables.specs.Tests.{same_command}
use Rattle.command_tables.specs.declared.types.CommandId.TheVariants as cmd
use Rattle.trace_format.specs.Content.{Arg, BeginEvent, TraceEvent, Begin}
use Rattle.trace_format.specs.Accepting.{same_name}
use Rattle.trace_format.specs.declared.event.Name.{Name}
use Rattle.object_model.specs.declared.Argument.{Argument}
use Rattle.object_model.specs.declared.Argument.TheVariants.{Null, Unborn, The}
use Rattle.object_model.specs.declared.PartKind.{PartKind}
use Rattle.object_model.specs.Findings.{is_failing}
use Rattle.replay_model.specs.Direct.{Sent, answers_to}
use Rattle.replay_model.specs.Judged.{Begun, is_refused, judged}
use Rattle.replay_model.specs.Past.{Opened, calls_in, is_of, is_skipped, named_of, object_in}
use Rattle.replay_model.specs.Setup.{Setup, parts_of}
use Rattle.replay_model.specs.declared.Named.{Named}
use Rattle.replay_model.specs.declared.Born.{Born}
use Rattle.layer_model.specs.Terminator.{told_call}
use Rattle.lifetime_layer.specs.declared.verdict.Verdict.{Verdict}
use Rattle.chain_model.specs.Gaps.{IsGapped}
use Rattle.chain_model.specs.Simulated.{Held, after_none, after_reply, after_skipped, after_walk, base_of, held_of, other_held, walk_of, with_parts}
use Rattle.chain_model.specs.Traces.{GivesGuarded, held_in_force, in_force, starts_chain}
use Rattle.chain_model.proofs.Simulating.{left_kinds}
use Rattle.dispatch_chain.specs.Holding.{HeldCalls, IsHeldOf}
use Rattle.dispatch_chain.specs.Seats.{kinds_of}
use Rattle.session_model.specs.Session.{SessionKept, nothing_kept}
use Rattle.session_model.specs.Beginning.{begun_kept, calls_told, drivers_kept, kept_after_begin, loader_kept, walk_kept}
use Rattle.session_model.specs.Returning.{chain_after_return, held_of_thread, kept_after_return, lost_kept, made_kept, sent_of_thread}
use Rattle.session_model.specs.Stands.{AreRepliesTo, BeginsWell, HasNoCall, ReturnsWell}
use Rattle.session_model.specs.Tables.{with_tables}
use Rattle.layer_model.specs.Ids.{no_ids}
use Rattle.session_model.proofs.Began.{begins_well}
use Rattle.session_model.proofs.Running.{new_stands}
use Rattle.session_model.proofs.Returned.{returns_well}
use Rattle.session_model.proofs.Shapes.{begin_steps}
use Rattle.session_model.proofs.Turns.{begins_idle}
use Rattle.session_parts.specs.declared.parts.SessionParts.{SessionParts}
use Rattle.session_parts.specs.Entering.{AllRecalled, AreRecalled, CanEnter, Entered, Enters, IsLeft, IsRecalled, held_begun}
use Rattle.session_parts.specs.Leaving.{Returns, CanLeave, Departed, Leaves}
use Rattle.session_parts.specs.Names.{NamesKept, no_names}
use Rattle.chain_session.specs.declared.kept.Kept.{Kept}
use Rattle.chain_session.specs.PartsStanding.{AreLeftOpen, EntersTrace, IsLeftOpen, LeavesTrace, LeftCall, PartsStand, StartsNone, is_left_by}
use Rattle.chain_session.specs.Splitting.{AreSplit}
use Rattle.chain_session.specs.Standing.{StandsFor}
use Rattle.chain_session.proofs.Advancing.{replies_long}
use Rattle.chain_session.proofs.Finished.{returns_of}

-- ---- parts that are split

pub split_stand : (s : Setup) (k : Kept) (x : SessionParts) (events : List TraceEvent) (replies : List ReplyContent) → StandsFor s (Some k) events replies → AreSplit (Some k) x → PartsStand s x events replies []
split_stand s k x events replies st alike =
    let shows = st.shows.parts in
    record {
      kept = st.kept;
      shows = record {
        names = ap (λ (n : NamesKept). n.names) alike.names ∙ shows.names;
        count = ap (λ (n : NamesKept). n.count) alike.names ∙ shows.count;
        births = ap (λ (n : NamesKept). n.births) alike.names ∙ shows.births;
        retrieved = ap (λ (n : NamesKept). n.retrieved) alike.names ∙ shows.retrieved;
        states = alike.states ∙ shows.states;
        ids = alike.ids ∙ shows.ids;
        routes = alike.routes ∙ shows.routes;
        handed = ap (λ (n : NamesKept). n.handed) alike.names ∙ shows.handed;
        drivers = alike.drivers ∙ shows.drivers;
      };
      stands = st.stands;
      opens = tt;
    }

-- ---- a begin

pub may_enter : (s : Setup) (x : SessionParts) (events : List TraceEvent) (replies : List ReplyContent) (ls : List LeftCall) (e : BeginEvent) → PartsStand s x events replies ls → IsGapped (Begin e ∷ events) → is_refused s e.cmd e.payload ≡ false
    → CanEnter x (calls_in (judged s events) + 1) e
may_enter s x events replies ls e st trace allowed = record {
  setup = s;
  kept = st.kept;
  shows = st.shows;
  counted = ap (λ n. n + 1) (sym st.stands.calls);
  allowed = allowed;
  steps = begin_steps s st.kept events e replies trace st.stands;
  begins = trace.grammar.0;
}

-- what isn't among some is found behind them
found_behind : {X : Type 0} (is : X → Bool) (xs : List X) (y : X) → find is xs ≡ None → is y ≡ true → find is (xs ++ y ∷ []) ≡ Some y
found_behind is [] y none it = ap (λ u. cond u (Some y) None) it
found_behind is (x ∷ xs) y none it = go (is x) none (found_behind is xs y)
  where
    go : (u : Bool) → cond u (Some x) (find is xs) ≡ None → (find is xs ≡ None → is y ≡ true → find is (xs ++ y ∷ []) ≡ Some y) → cond u (Some x) (find is (xs ++ y ∷ [])) ≡ Some y
    go true e ih = cc e
    go false e ih = ih e it

-- what is among some is found before others
found_before : {X : Type 0} (is : X → Bool) (xs ys : List X) (y : X) → find is xs ≡ Some y → find is (xs ++ ys) ≡ Some y
found_before is [] ys y there = cc there
found_before is (x ∷ xs) ys y there = go (is x) there (found_before is xs ys y)
  where
    go : (u : Bool) → cond u (Some x) (find is xs) ≡ Some y → (find is xs ≡ Some y → find is (xs ++ ys) ≡ Some y) → cond u (Some x) (find is (xs ++ ys)) ≡ Some y
    go true e ih = e
    go false e ih = ih e

module _ (s : Setup) (x y : SessionParts) (events : List TraceEvent) (replies : List ReplyContent) (ls : List LeftCall) (e : BeginEvent) (call : CallContent) (held : HeldCalls) (verdict : Verdict) (st : PartsStand s x events replies ls)
    (trace : IsGapped (Begin e ∷ events)) (allowed : is_refused s e.cmd e.payload ≡ false) (f : Enters x (calls_in (judged s events) + 1) e call held verdict y) where
  abbrev o : Opened
  o = (begun_kept s st.kept e).opened

  well : BeginsWell s st.kept events e replies
  well = begins_well s st.kept events e replies trace st.stands

  ent : Entered s st.kept e call held verdict y
  ent = f s st.kept st.shows (ap (λ n. n + 1) (sym st.stands.calls)) allowed

  idle : HasNoCall st.kept e.thread
  idle = begins_idle s st.kept events e replies trace st.stands

  held_last : find (λ (h : Held). h.thread == e.thread) (kept_after_begin s st.kept e [] []).chain.held ≡ Some (held_begun st.kept e o)
  held_last = go ((begun_kept s st.kept e).opened.refused || is_failing (loader_kept st.kept e))
    where
      go : (u : Bool) → find (λ (h : Held). h.thread == e.thread) (cond u (after_none st.kept.chain o) (after_walk st.kept.chain o (walk_of st.kept.chain o))).held
          ≡ Some (cond u (held_of o [] (base_of o)) (held_of o (walk_of st.kept.chain o).forms (walk_of st.kept.chain o).bottom))
      go true = found_behind (λ (h : Held). h.thread == e.thread) st.kept.chain.held (held_of o [] (base_of o)) idle.held (eq-eqb e.thread e.thread refl)
      go false = found_behind (λ (h : Held). h.thread == e.thread) st.kept.chain.held (held_of o (walk_of st.kept.chain o).forms (walk_of st.kept.chain o).bottom) idle.held (eq-eqb e.thread e.thread refl)

  held_still : (thread : ℕ) (h : Held) → held_of_thread st.kept thread ≡ Some h → find (λ (g : Held). g.thread == thread) (kept_after_begin s st.kept e [] []).chain.held ≡ Some h
  held_still thread h there = go ((begun_kept s st.kept e).opened.refused || is_failing (loader_kept st.kept e))
    where
      go : (u : Bool) → find (λ (g : Held). g.thread == thread) (cond u (after_none st.kept.chain o) (after_walk st.kept.chain o (walk_of st.kept.chain o))).held ≡ Some h
      go true = found_before (λ (g : Held). g.thread == thread) st.kept.chain.held (held_of o [] (base_of o) ∷ []) h there
      go false = found_before (λ (g : Held). g.thread == thread) st.kept.chain.held (held_of o (walk_of st.kept.chain o).forms (walk_of st.kept.chain o).bottom ∷ []) h there

  module _ (own : List ReplyContent) (given : AreRepliesTo (calls_told s st.kept e) own) where
    -- the parts in force are the same then
    kinds_stay : kinds_of st.kept.chain.states ≡ kinds_of (kept_after_begin s st.kept e own ent.births).chain.states
    kinds_stay = st.stands.simulates.kinds ∙ sym (well.stands own ent.births given ent.past).simulates.kinds

    -- the calls that are open stay so
    still_open : (l : LeftCall) → IsLeftOpen st.kept l → IsLeftOpen (kept_after_begin s st.kept e own ent.births) l
    still_open l is = record {
      sent = is.sent;
      form = is.form;
      opens = record {
        sent = found_before (λ (c : Sent). is_of l.begin.thread c.opened) st.kept.sent (record { opened = o; answers = answers_to o own } ∷ []) is.sent is.opens.sent;
        holds = held_still l.begin.thread is.form is.opens.holds;
        left = subst (λ (ks : List PartKind). IsLeft st.kept.names ks l.begin l.call l.held l.skip is.sent.opened is.form) kinds_stay is.opens.left;
        count = is.opens.count;
        answers = is.opens.answers;
      };
    }

    all_still : (qs : List LeftCall) → AreLeftOpen st.kept qs → AreLeftOpen (kept_after_begin s st.kept e own ent.births) qs
    all_still [] are = tt
    all_still (q ∷ qs) are = (still_open q are.0, all_still qs are.1)

    -- and the new one is open
    new_open : IsLeftOpen (kept_after_begin s st.kept e own ent.births) (record { begin = e; call = call; held = held; skip = verdict.skip; replies = own })
    new_open = record {
      sent = record { opened = o; answers = answers_to o own };
      form = held_begun st.kept e o;
      opens = record {
        sent = found_behind (λ (c : Sent). is_of e.thread c.opened) st.kept.sent (record { opened = o; answers = answers_to o own }) idle.sent (eq-eqb e.thread e.thread refl);
        holds = held_last;
        left = subst (λ (ks : List PartKind). IsLeft st.kept.names ks e call held verdict.skip o (held_begun st.kept e o)) kinds_stay ent.leaves;
        count = replies_long (calls_told s st.kept e) own given ∙ length-map (drivers_kept s st.kept e) (told_call st.kept.chain.terminator (walk_kept st.kept e).bottom);
        answers = refl;
      };
    }

    stand_since : PartsStand s y (Begin e ∷ events) (reverse own ++ replies) (record { begin = e; call = call; held = held; skip = verdict.skip; replies = own } ∷ ls)
    stand_since = record {
      kept = kept_after_begin s st.kept e own ent.births;
      shows = ent.shows own;
      stands = well.stands own ent.births given ent.past;
      opens = (new_open, all_still ls st.opens);
    }

  pub enters_traced : EntersTrace s events replies ls e call held verdict y
  enters_traced = record {
    reports = ent.reports ∙ ap (λ (b : Begun). b.reports) well.begun;
    skip = ent.skip ∙ ap (λ (b : Begun). is_skipped b.opened) well.begun;
    told = λ goes. ent.told goes ∙ well.told;
    stands = λ own given. stand_since own (subst (λ cs. AreRepliesTo cs own) (sym well.told) given);
  }

-- ---- a return

-- an open call that is found is open, and of the thread
found_open : (k : SessionKept) (thread : ℕ) (ls : List LeftCall) (l : LeftCall) → AreLeftOpen k ls → find (is_left_by thread) ls ≡ Some l → IsLeftOpen k l × (l.begin.thread ≡ thread)
found_open k thread [] l are there = cc there
found_open k thread (q ∷ qs) l are there = go (q.begin.thread == thread) refl there (found_open k thread qs l are.1)
  where
    go : (u : Bool) → (q.begin.thread == thread) ≡ u → cond u (Some q) (find (is_left_by thread) qs) ≡ Some l → (find (is_left_by thread) qs ≡ Some l → IsLeftOpen k l × (l.begin.thread ≡ thread)) → IsLeftOpen k l × (l.begin.thread ≡ thread)
    go true e f ih = let one : q ≡ l = cc f in (subst (IsLeftOpen k) one are.0, ap (λ (p : LeftCall). p.begin.thread) (sym one) ∙ eqb-true q.begin.thread thread e)
    go false e f ih = ih f

-- another thread's is found when those of a thread are taken out
found_still : {X : Type 0} (of : X → ℕ) (thread other : ℕ) (xs : List X) (y : X) → (thread == other) ≡ false → find (λ x. of x == thread) xs ≡ Some y → find (λ x. of x == thread) (filter (λ x. not (of x == other)) xs) ≡ Some y
found_still of thread other [] y apart there = cc there
found_still of thread other (x ∷ xs) y apart there = go (of x == other) refl (of x == thread) refl there (found_still of thread other xs y apart)
  where
    go : (u : Bool) → (of x == other) ≡ u → (v : Bool) → (of x == thread) ≡ v → cond v (Some x) (find (λ x. of x == thread) xs) ≡ Some y
        → (find (λ x. of x == thread) xs ≡ Some y → find (λ x. of x == thread) (filter (λ x. not (of x == other)) xs) ≡ Some y)
        → find (λ x. of x == thread) (cond (not u) (x ∷ filter (λ x. not (of x == other)) xs) (filter (λ x. not (of x == other)) xs)) ≡ Some y
    go true e true f there ih =
        let same : thread ≡ other = sym (eqb-true (of x) thread f) ∙ eqb-true (of x) other e in
        let no : true ≡ false = sym (eq-eqb thread other same) ∙ apart in
        cc no
    go true e false f there ih = ih there
    go false e true f there ih = ap (λ v. cond v (Some x) (find (λ x. of x == thread) (filter (λ x. not (of x == other)) xs))) f ∙ there
    go false e false f there ih = ap (λ v. cond v (Some x) (find (λ x. of x == thread) (filter (λ x. not (of x == other)) xs))) f ∙ ih there

-- names that are added change none, in whatever way they are kept then
one_more : (names more after : List Named) → ((q : Name) → object_in after q ≡ object_in (names ++ more) q) → (n : Option Name) (a : Argument) → IsRecalled names n a → IsRecalled after n a
one_more names more after say n Null is = is
one_more names more after say n Unborn is = tt
one_more names more after say None (The o) is = absurd is
one_more names more after say (Some n) (The o) is = say n ∙ go (find (λ (q : Named). same_name q.name n) names) refl is
  where
    go : (f : Option Named) → find (λ (q : Named). same_name q.name n) names ≡ f → option_map (λ (q : Named). q.object) f ≡ Some o → object_in (names ++ more) n ≡ Some o
    go None e h = cc h
    go (Some q) e h = ap (option_map (λ (q : Named). q.object)) (found_before (λ (q : Named). same_name q.name n) names more q e) ∙ h

places_more : (names more after : List Named) → ((q : Name) → object_in after q ≡ object_in (names ++ more) q) → (written : List (Option Name)) (at : List Argument) → AreRecalled names written at → AreRecalled after written at
places_more names more after say [] [] are = tt
places_more names more after say [] (a ∷ at) are = absurd are
places_more names more after say (n ∷ written) [] are = absurd are
places_more names more after say (n ∷ written) (a ∷ at) are = (one_more names more after say n a are.0, places_more names more after say written at are.1)

all_more : (names more after : List Named) → ((q : Name) → object_in after q ≡ object_in (names ++ more) q) → (written : List Arg) (args : List (List Argument)) → AllRecalled names written args → AllRecalled after written args
all_more names more after say [] [] are = tt
all_more names more after say [] (at ∷ args) are = absurd are
all_more names more after say (w ∷ written) [] are = absurd are
all_more names more after say (w ∷ written) (at ∷ args) are = (places_more names more after say w.names at are.0, all_more names more after say written args are.1)

module _ (s : Setup) (x : SessionParts) (events : List TraceEvent) (replies : List ReplyContent) (ls : List LeftCall) (thread : ℕ) (l : LeftCall) (guarded : GivesGuarded s) (trace : IsGapped events) (st : PartsStand s x events replies ls)
    (there : find (is_left_by thread) ls ≡ Some l) (none : StartsNone l) where
  mine : IsLeftOpen st.kept l
  mine = (found_open st.kept thread ls l st.opens there).0

  thread_is : l.begin.thread ≡ thread
  thread_is = (found_open st.kept thread ls l st.opens there).1

  sent_is : sent_of_thread st.kept thread ≡ Some mine.sent
  sent_is = ap (sent_of_thread st.kept) (sym thread_is) ∙ mine.opens.sent

  held_is : held_of_thread st.kept thread ≡ Some mine.form
  held_is = ap (held_of_thread st.kept) (sym thread_is) ∙ mine.opens.holds

  returns : Returns s st.kept mine.sent mine.form
  returns = returns_of s st.kept events thread replies mine.sent mine.form guarded trace st.stands sent_is held_is

  stays : is_skipped mine.sent.opened ≡ false → starts_chain mine.sent.opened ≡ false
  stays goes = (λ i. same_command (mine.opens.left.cmd i) cmd.CreateInstance && succeeds (mine.opens.left.cmd i) (mine.opens.left.code i)) ∙ none (mine.opens.left.skips ∙ goes)

  pub may_leave : CanLeave x l.begin l.call l.held l.skip l.replies
  may_leave = record { setup = s; kept = st.kept; sent = mine.sent; form = mine.form; shows = st.shows; opens = mine.opens; stays = stays; returns = returns }

  call_thread : mine.sent.opened.thread ≡ thread
  call_thread = mine.opens.left.thread ∙ thread_is

  -- the calls that the chain holds then
  others_held : (chain_after_return s st.kept mine.sent mine.form).held ≡ other_held thread st.kept.chain.held
  others_held = go (is_skipped mine.sent.opened) refl
    where
      sent_so : (v : Bool) → v ≡ false → (cond v (with_parts st.kept.chain mine.sent.opened (parts_of (s.outcome mine.sent.opened.payload))) st.kept.chain).held ≡ st.kept.chain.held
      sent_so v e = ap (λ u. (cond u (with_parts st.kept.chain mine.sent.opened (parts_of (s.outcome mine.sent.opened.payload))) st.kept.chain).held) e

      go : (u : Bool) → is_skipped mine.sent.opened ≡ u
          → (cond u (after_skipped st.kept.chain mine.sent.opened mine.form (lost_kept s st.kept mine.sent.opened)) (after_reply (in_force s st.kept.chain mine.sent.opened) mine.sent.opened (held_in_force s mine.sent.opened mine.form) mine.sent.answers
          (made_kept s st.kept mine.sent.opened) (lost_kept s st.kept mine.sent.opened))).held ≡ other_held thread st.kept.chain.held
      go true e = ap (λ n. other_held n st.kept.chain.held) call_thread
      go false e = λ i. other_held (call_thread i) (sent_so (starts_chain mine.sent.opened) (stays e) i)

  module _ (y : SessionParts) (count : ℕ) (f : Leaves x l.begin l.call l.held l.skip l.replies y count) where
    d : Departed s st.kept mine.sent mine.form y count
    d = f s st.kept mine.sent mine.form st.shows mine.opens stays returns

    -- what is kept then
    abbrev kept_then : SessionKept
    kept_then = with_tables (kept_after_return s st.kept mine.sent mine.form d.births) y.names.kept.names y.names.kept.handed

    returned : ReturnsWell s st.kept events thread replies mine.sent mine.form
    returned = returns_well s st.kept events thread replies mine.sent mine.form guarded trace st.stands sent_is held_is

    kinds_back : kinds_of st.kept.chain.states ≡ kinds_of (chain_after_return s st.kept mine.sent mine.form).states
    kinds_back = go (is_skipped mine.sent.opened) refl
      where
        none_starts : (v : Bool) → v ≡ false → kinds_of (cond v (with_parts st.kept.chain mine.sent.opened (parts_of (s.outcome mine.sent.opened.payload))) st.kept.chain).states ≡ kinds_of st.kept.chain.states
        none_starts v e = ap (λ u. kinds_of (cond u (with_parts st.kept.chain mine.sent.opened (parts_of (s.outcome mine.sent.opened.payload))) st.kept.chain).states) e

        go : (u : Bool) → is_skipped mine.sent.opened ≡ u
            → kinds_of st.kept.chain.states ≡ kinds_of (cond u (after_skipped st.kept.chain mine.sent.opened mine.form (lost_kept s st.kept mine.sent.opened)) (after_reply (in_force s st.kept.chain mine.sent.opened) mine.sent.opened
            (held_in_force s mine.sent.opened mine.form) mine.sent.answers (made_kept s st.kept mine.sent.opened) (lost_kept s st.kept mine.sent.opened))).states
        go true e = sym (left_kinds mine.sent.opened.thread st.kept.chain.states mine.form.forms (map (λ _. 0) (lost_kept s st.kept mine.sent.opened)))
        go false e = sym (left_kinds mine.sent.opened.thread (in_force s st.kept.chain mine.sent.opened).states (held_in_force s mine.sent.opened mine.form).forms _ ∙ none_starts (starts_chain mine.sent.opened) (stays e))

    still_left : (q : LeftCall) → (q.begin.thread == thread) ≡ false → IsLeftOpen st.kept q → IsLeftOpen kept_then q
    still_left q apart is = record {
      sent = is.sent;
      form = is.form;
      opens = record {
        sent = ap (λ n. find (λ (c : Sent). c.opened.thread == q.begin.thread) (filter (λ (c : Sent). not (c.opened.thread == n)) st.kept.sent)) call_thread ∙ found_still (λ (c : Sent). c.opened.thread) q.begin.thread thread st.kept.sent is.sent apart is.opens.sent;
        holds = ap (find (λ (h : Held). h.thread == q.begin.thread)) others_held ∙ found_still (λ (h : Held). h.thread) q.begin.thread thread st.kept.chain.held is.form apart is.opens.holds;
        left = record {
          thread = is.opens.left.thread;
          cmd = is.opens.left.cmd;
          args = all_more st.kept.names (map named_of (made_kept s st.kept mine.sent.opened)) y.names.kept.names d.same.names q.begin.args is.sent.opened.args is.opens.left.args;
          results = is.opens.left.results;
          code = is.opens.left.code;
          payload = is.opens.left.payload;
          skips = is.opens.left.skips;
          bottom = is.opens.left.bottom;
          marks = is.opens.left.marks;
          forms = subst (λ (ks : List PartKind). IsHeldOf q.held ks is.form.forms) kinds_back is.opens.left.forms;
        };
        count = is.opens.count;
        answers = is.opens.answers;
      };
    }

    others_left : (qs : List LeftCall) → AreLeftOpen st.kept qs → AreLeftOpen kept_then (filter (λ q. not (is_left_by thread q)) qs)
    others_left [] are = tt
    others_left (q ∷ qs) are = go (q.begin.thread == thread) refl (others_left qs are.1)
      where
        go : (u : Bool) → (q.begin.thread == thread) ≡ u → AreLeftOpen kept_then (filter (λ q. not (is_left_by thread q)) qs)
            → AreLeftOpen kept_then (cond (not u) (q ∷ filter (λ q. not (is_left_by thread q)) qs) (filter (λ q. not (is_left_by thread q)) qs))
        go true e ih = ih
        go false e ih = (still_left q e are.0, ih)

    pub leaves_traced : LeavesTrace s events replies ls thread y count
    leaves_traced = record {
      stands = record { kept = kept_then; shows = d.shows; stands = returned.stands d.births y.names.kept.names y.names.kept.handed d.since d.same; opens = others_left ls st.opens };
      opened = mine.sent.opened;
      open_there = returned.opened;
      counted = d.counted ∙ ap (λ (ms : List Born). length ms) returned.made;
    }

-- ---- new parts

pub new_stand : (s : Setup) (x : SessionParts) → x.states.kept ≡ [] → x.terminator.ids ≡ no_ids → x.terminator.routes ≡ [] → x.terminator.drivers ≡ s.drivers → x.names.kept ≡ no_names → PartsStand s x [] [] []
new_stand s x states ids routes drivers names = record {
  kept = nothing_kept;
  shows = record {
    names = ap (λ (n : NamesKept). n.names) names;
    count = ap (λ (n : NamesKept). n.count) names;
    births = ap (λ (n : NamesKept). n.births) names;
    retrieved = ap (λ (n : NamesKept). n.retrieved) names;
    states = states;
    ids = ids;
    routes = routes;
    handed = ap (λ (n : NamesKept). n.handed) names;
    drivers = drivers;
  };
  stands = new_stands s;
  opens = tt;
}
