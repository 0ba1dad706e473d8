-- A call that came down has entered, by what the definitions say.
use Rattle.std.proofs.Common.{◌≡◌, ◌∙◌, ℕ, ◌+◌, Bool, true, false, not, cond, ◌||◌, Option, Some, None, List, [], ◌∷◌, map, refl, ap, sym, subst}
use Rattle.std.specs.Prelude.{is_some}
use Rattle.std.specs.Option.{option_map_or}
use Rattle.command_tables.specs.Calls.{CallContent}
use Rattle.object_model.specs.declared.Argument.{Argument}
use Rattle.object_model.specs.declared.Argument.TheVariants.{Unborn, The}
use Rattle.object_model.specs.declared.Object.{Object}
use Rattle.object_model.specs.Findings.{Findings, Report, at_place, is_failing}
use Rattle.trace_format.specs.Content.{Arg, BeginEvent}
use Rattle.trace_format.specs.declared.event.Name.{Name}
use Rattle.replay_model.specs.declared.Named.{Named}
use Rattle.replay_model.specs.Judged.{is_refused}
use Rattle.replay_model.specs.Past.{Opened, argument_in, arguments_in, is_skipped, object_in}
use Rattle.replay_model.specs.Setup.{Setup}
use Rattle.layer_model.specs.Parts.{life_failures, life_passed, unique_enter}
use Rattle.layer_model.specs.Reading.{read_call}
use Rattle.layer_model.specs.Routes.{drivers_at}
use Rattle.layer_model.specs.Terminator.{told_call}
use Rattle.layer_model.specs.Walks.{PartState, Threads, Lifetimes, Unique, enter_parts, nothing_found, passed, stopped}
use Rattle.lifetime_layer.specs.declared.verdict.Verdict.{Verdict}
use Rattle.terminator.specs.Calls.{TerminatorState, targets_of}
use Rattle.chain_model.specs.Simulated.{after_none, after_walk, base_of, found_by, held_of}
use Rattle.dispatch_chain.specs.Holding.{HeldCalls, IsHeldOf}
use Rattle.dispatch_chain.specs.Seats.{kinds_of}
use Rattle.dispatch_chain.specs.Room.{PartRoom}
use Rattle.session_model.specs.Session.{SessionKept}
use Rattle.session_model.specs.Living.{ArePast}
use Rattle.session_model.specs.Beginning.{begun_kept, calls_told, drivers_kept, findings_kept, loader_kept, walk_kept}
use Rattle.session_parts.specs.declared.parts.SessionParts.{SessionParts}
use Rattle.session_parts.specs.Entering.{AllRecalled, AreRecalled, Entered, Enters, IsLeft, IsRecalled, held_begun}
use Rattle.session_parts.specs.Judging.{ComesDown}
use Rattle.session_parts.specs.Names.{NamesKept, NamesRoom}
use Rattle.session_parts.specs.Opening.{opened_read}
use Rattle.session_parts.specs.Parts.{PartsShow}
use Rattle.session_parts.proofs.Ended.{past_sent}

-- ---- arguments

one_recalled : (names : List Named) (n : Option Name) → IsRecalled names n (argument_in names n)
one_recalled names None = refl
one_recalled names (Some n) = go (object_in names n) refl
  where
    go : (o : Option Object) → object_in names n ≡ o → IsRecalled names (Some n) (option_map_or The o Unborn)
    go None e = tt
    go (Some o) e = e

places_recalled : (names : List Named) (written : List (Option Name)) → AreRecalled names written (map (argument_in names) written)
places_recalled names [] = tt
places_recalled names (n ∷ written) = (one_recalled names n, places_recalled names written)

-- what the arguments of an event stand for is what they are recalled as
all_recalled : (names : List Named) (written : List Arg) → AllRecalled names written (arguments_in names written)
all_recalled names [] = tt
all_recalled names (w ∷ written) = (places_recalled names w.names, all_recalled names written)

-- ---- marks

-- the marks of a call stay on its way down
marks_stay : (thread number place : ℕ) (states : List PartState) (c : CallContent) → (enter_parts thread number place states c).bottom.unborn ≡ c.unborn
marks_stay thread number place [] c = refl
marks_stay thread number place (Threads m ∷ states) c = marks_stay thread number (place + 1) states c
marks_stay thread number place (Lifetimes m ∷ states) c = go (is_failing (life_failures m c.cmd (read_call c))) (marks_stay thread number (place + 1) states c)
  where
    go : (t : Bool) → (enter_parts thread number (place + 1) states c).bottom.unborn ≡ c.unborn
        → (cond t (stopped (Lifetimes m ∷ states) c place (life_failures m c.cmd (read_call c))) (passed (Lifetimes (life_passed m c.cmd (read_call c))) c place [] (enter_parts thread number (place + 1) states c))).bottom.unborn ≡ c.unborn
    go true below = refl
    go false below = below
marks_stay thread number place (Unique m ∷ states) c = marks_stay thread number (place + 1) states (unique_enter m c)

-- ---- what is found

-- nothing was found by the loader where a call isn't skipped
none_failing : (failing : Bool) (rs : List Report) (found : Findings) → is_some (cond failing (record { reports = rs; stop = Some 0 }) found).stop ≡ false → failing ≡ false
none_failing true rs found h = cc
none_failing false rs found h = refl

-- ---- the parts as the definitions have them

-- the room of the parts, of the chain's end and of the names is any, since the definitions say nothing of it
abbrev pub shown_parts : Setup → SessionKept → List PartRoom → TerminatorState → NamesRoom → SessionParts
shown_parts s k rooms t r = record {
  states = record { kept = k.chain.states; rooms = rooms };
  terminator = record { ids = k.chain.terminator; routes = k.chain.routes; drivers = s.drivers; spare = t.spare; values = t.values; bytes = t.bytes };
  names = record { kept = record { names = k.names; count = k.count; births = k.births; retrieved = k.retrieved; handed = k.chain.handed }; room = r };
}

parts_same : (s : Setup) (x : SessionParts) (k : SessionKept) → PartsShow s x k → x ≡ shown_parts s k x.states.rooms x.terminator x.names.room
parts_same s x k sh = λ i. record {
  states = record { kept = sh.states i; rooms = x.states.rooms };
  terminator = record { ids = sh.ids i; routes = sh.routes i; drivers = sh.drivers i; spare = x.terminator.spare; values = x.terminator.values; bytes = x.terminator.bytes };
  names = record { kept = record { names = sh.names i; count = sh.count i; births = sh.births i; retrieved = sh.retrieved i; handed = sh.handed i }; room = x.names.room };
}

-- ---- an entered call

module _ (s : Setup) (k : SessionKept) (rooms : List PartRoom) (t : TerminatorState) (r : NamesRoom) (e : BeginEvent) (form : CallContent) (held : HeldCalls) (verdict : Verdict) (y : SessionParts) (allowed : is_refused s e.cmd e.payload ≡ false)
    (down : ComesDown (shown_parts s k rooms t r) (opened_read (k.calls + 1) e (arguments_in k.names e.args)) form held verdict y) where
  abbrev o : Opened
  o = opened_read (k.calls + 1) e (arguments_in k.names e.args)

  abbrev failing : Bool
  failing = is_failing (loader_kept k e)

  abbrev found : Findings
  found = found_by (loader_kept k e) (walk_kept k e).found

  abbrev begun : Opened
  begun = (begun_kept s k e).opened

  found_is : found ≡ findings_kept s k e
  found_is = ap (λ b. cond b nothing_found (found_by (loader_kept k e) (walk_kept k e).found)) (sym allowed)

  skip_is : verdict.skip ≡ is_skipped begun
  skip_is = down.found.skip ∙ (ap (λ (f : Findings). is_some f.stop) found_is ∙ ap (λ b. b || is_some (findings_kept s k e).stop) (sym allowed))

  past_is : ArePast k.births begun y.names.kept.births
  past_is =
      past_sent k.births y.names.kept.births (record o { stop = (findings_kept s k e).stop; refused = is_refused s e.cmd e.payload }) (drivers_kept s k e)
      (subst (λ b. ArePast k.births (record o { stop = (findings_kept s k e).stop; refused = b }) y.names.kept.births) (sym allowed)
      (subst (λ (f : Findings). ArePast k.births (record o { stop = f.stop }) y.names.kept.births) found_is down.passes.past))

  -- the chain then
  states_in_turn : (b : Bool) → cond (not b) (walk_kept k e).states k.chain.states ≡ (cond b (after_none k.chain begun) (after_walk k.chain begun (walk_kept k e))).states
  states_in_turn true = refl
  states_in_turn false = refl

  states_are : y.states.kept ≡ (cond (is_refused s e.cmd e.payload || failing) (after_none k.chain begun) (after_walk k.chain begun (walk_kept k e))).states
  states_are = down.found.states ∙ (states_in_turn failing ∙ ap (λ r. (cond (r || failing) (after_none k.chain begun) (after_walk k.chain begun (walk_kept k e))).states) (sym allowed))

  rest_stays : (b : Bool) → ((cond b (after_none k.chain begun) (after_walk k.chain begun (walk_kept k e))).terminator ≡ k.chain.terminator)
      × (((cond b (after_none k.chain begun) (after_walk k.chain begun (walk_kept k e))).routes ≡ k.chain.routes) × ((cond b (after_none k.chain begun) (after_walk k.chain begun (walk_kept k e))).handed ≡ k.chain.handed))
  rest_stays true = (refl, (refl, refl))
  rest_stays false = (refl, (refl, refl))

  -- a call that isn't skipped came down
  goes_down : is_skipped begun ≡ false → failing ≡ false
  goes_down h = none_failing failing (at_place 0 (loader_kept k e)) (walk_kept k e).found (sym down.found.skip ∙ (skip_is ∙ h))

  form_is : is_skipped begun ≡ false → form ≡ (walk_kept k e).bottom
  form_is h = down.found.bottom (ap not (goes_down h))

  told_is : verdict.skip ≡ false → targets_of y.terminator form ≡ calls_told s k e
  told_is h =
      let goes : is_skipped begun ≡ false = sym skip_is ∙ h in
      ap (λ (u : TerminatorState). targets_of u form) down.passes.terminator
      ∙ (ap (targets_of (shown_parts s k rooms t r).terminator) (form_is goes)
      ∙ ap (λ b. map (told_call k.chain.terminator (walk_kept k e).bottom) (cond b [] (drivers_at s.drivers k.chain.routes (walk_kept k e).bottom))) (sym goes))

  -- what is left of it
  came : is_skipped begun ≡ false → (is_refused s e.cmd e.payload || failing) ≡ false
  came h = ap (λ r. r || failing) allowed ∙ goes_down h

  bottom_in_turn : (b : Bool) → b ≡ false → (walk_kept k e).bottom ≡ (cond b (held_of begun [] (base_of begun)) (held_of begun (walk_kept k e).forms (walk_kept k e).bottom)).bottom
  bottom_in_turn true h = cc
  bottom_in_turn false h = refl

  forms_in_turn : (b : Bool) → cond (not b) (walk_kept k e).forms [] ≡ (cond b (held_of begun [] (base_of begun)) (held_of begun (walk_kept k e).forms (walk_kept k e).bottom)).forms
  forms_in_turn true = refl
  forms_in_turn false = refl

  forms_are : cond (not failing) (walk_kept k e).forms [] ≡ (held_begun k e begun).forms
  forms_are = forms_in_turn failing ∙ ap (λ r. (cond (r || failing) (held_of begun [] (base_of begun)) (held_of begun (walk_kept k e).forms (walk_kept k e).bottom)).forms) (sym allowed)

  left_is : IsLeft k.names (kinds_of k.chain.states) e form held verdict.skip begun (held_begun k e begun)
  left_is = record {
    thread = refl;
    cmd = refl;
    args = all_recalled k.names e.args;
    results = refl;
    code = refl;
    payload = refl;
    skips = skip_is;
    bottom = λ h. form_is h ∙ bottom_in_turn (is_refused s e.cmd e.payload || failing) (came h);
    marks = λ h. ap (λ (c : CallContent). c.unborn) (form_is h) ∙ marks_stay e.thread (k.calls + 1) 1 k.chain.states _;
    forms = subst (λ (fs : List CallContent). IsHeldOf held (kinds_of k.chain.states) fs) forms_are down.found.forms;
  }

  pub entered : Entered s k e form held verdict y
  entered = record {
    births = y.names.kept.births;
    past = past_is;
    shows = λ own. record {
      names = ap (λ (n : NamesKept). n.names) down.passes.names;
      count = ap (λ (n : NamesKept). n.count) down.passes.names;
      births = refl;
      retrieved = ap (λ (n : NamesKept). n.retrieved) down.passes.names;
      states = states_are;
      ids = ap (λ (u : TerminatorState). u.ids) down.passes.terminator ∙ sym (rest_stays (is_refused s e.cmd e.payload || failing)).0;
      routes = ap (λ (u : TerminatorState). u.routes) down.passes.terminator ∙ sym (rest_stays (is_refused s e.cmd e.payload || failing)).1.0;
      handed = ap (λ (n : NamesKept). n.handed) down.passes.names ∙ sym (rest_stays (is_refused s e.cmd e.payload || failing)).1.1;
      drivers = ap (λ (u : TerminatorState). u.drivers) down.passes.terminator;
    };
    reports = down.found.reports ∙ ap (λ (f : Findings). f.reports) found_is;
    skip = skip_is;
    told = told_is;
    leaves = left_is;
  }

-- whatever the parts keep
pub entered_so : (x y : SessionParts) (number : ℕ) (e : BeginEvent) (args : List (List Argument)) (form : CallContent) (held : HeldCalls) (verdict : Verdict) → args ≡ arguments_in x.names.kept.names e.args
    → ComesDown x (opened_read number e args) form held verdict y → Enters x number e form held verdict y
entered_so x y number e args form held verdict is down = λ s k shows counted allowed.
    let named : args ≡ arguments_in k.names e.args = is ∙ ap (λ ns. arguments_in ns e.args) shows.names in
    let counted_so : ComesDown x (opened_read (k.calls + 1) e args) form held verdict y = subst (λ n. ComesDown x (opened_read n e args) form held verdict y) counted down in
    let named_so : ComesDown x (opened_read (k.calls + 1) e (arguments_in k.names e.args)) form held verdict y = subst (λ read. ComesDown x (opened_read (k.calls + 1) e read) form held verdict y) named counted_so in
    entered s k x.states.rooms x.terminator x.names.room e form held verdict y allowed (subst (λ z. ComesDown z (opened_read (k.calls + 1) e (arguments_in k.names e.args)) form held verdict y) (parts_same s x k shows) named_so)
