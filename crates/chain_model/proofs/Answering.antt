-- From what drivers may answer: no wrapped result has a 0 for its value, and each has one value.
use Rattle.std.proofs.Common.{◌≡◌, ◌==◌, ◌≤◌, ◌<◌, ◌⊎◌, inl, inr, ℕ, zero, suc, ◌+◌, Bool, true, false, not, cond, ◌&&◌, ◌||◌, Option, Some, None, List, [], ◌∷◌, ◌++◌, map, length, refl, sym, ◌∙◌, ap, subst, arith, rules}
use Rattle.std.proofs.lemmas.List.{length-map, length-take, map-append}
use Rattle.std.proofs.lemmas.List.FromFn.{length-enumerate_from}
use Rattle.std.specs.Prelude.{is_some, find, filter, take, slice_get, unwrap_or, nat_le, IsTrue}
use Rattle.std.specs.List.{AllByRecursion, enumerate_from, range_with_len, zip}
use Rattle.std.specs.Option.{option_map_or}
use Rattle.command_tables.specs.Calls.{ReplyContent}
use Rattle.command_tables.specs.declared.types.CommandId.{CommandId}
use Rattle.command_tables.specs.declared.types.CommandId.TheVariants as cmd
use Rattle.command_tables.specs.declared.types.ObjectType.{ObjectType}
use Rattle.command_tables.specs.declared.types.ObjectType.TheVariants as ty
use Rattle.command_tables.specs.Effects.{succeeds, type_made}
use Rattle.command_tables.specs.Table.{ParamSpec, row_of}
use Rattle.command_tables.specs.Tests.{same_command, same_type}
use Rattle.model_driver.specs.Driver.{IsAnsweredBy, are_handles}
use Rattle.trace_format.specs.declared.event.Name.{Name}
use Rattle.trace_format.specs.Content.{Arg, BeginEvent, TraceEvent, Begin, Return}
use Rattle.trace_format.specs.Grammar.{FitParams, HasForm, IsBegin, IsEvent}
use Rattle.object_model.specs.declared.Object.{Object}
use Rattle.object_model.specs.declared.Argument.{Argument}
use Rattle.object_model.specs.declared.Argument.TheVariants.{Null, Unborn, The}
use Rattle.object_model.specs.declared.Routed.{Routed}
use Rattle.object_model.specs.Objects.{first_in}
use Rattle.object_model.specs.Findings.{Findings, is_failing, at_place}
use Rattle.object_model.specs.History.{births, alive}
use Rattle.object_model.specs.Rules.{Failure, failure, loader_failures, parameter_holds, unless}
use Rattle.object_model.specs.Routes.{driver_in, receivers}
use Rattle.object_model.specs.Values.{Answered, asked_of_each, first_value, handle_at, value_for, values_answered}
use Rattle.replay_model.specs.declared.Born.{Born}
use Rattle.replay_model.specs.declared.Named.{Named}
use Rattle.replay_model.specs.Setup.{Setup}
use Rattle.replay_model.specs.Past.{Opened, Past, Began, Returned, argument_in, arguments_in, call_of, is_of, is_skipped, named, open_calls, history, retrievals, routed}
use Rattle.replay_model.specs.Births.{bears, bearable, born_with, result_object}
use Rattle.replay_model.specs.ChainPlaces.{findings, parts_checked, parts_in_force}
use Rattle.replay_model.specs.Direct.{Sent, Valued, answers_of, answers_to, before_call, driver_call, own_replies, sent}
use Rattle.replay_model.specs.Judged.{begun_of, judged, made_of, returned_by}
use Rattle.layer_model.specs.Ids.{is_wrapped}
use Rattle.layer_model.proofs.Same.{and_true}
use Rattle.chain_model.proofs.Passing.{AreTyped, HasType, HaveMade, asking_by}
use Rattle.chain_model.proofs.OneByOne.{ArePlaced}
use Rattle.chain_model.proofs.Shapes.{AnsweredWell}
use Rattle.chain_model.specs.Gaps.{may_all_come, may_come}
use Rattle.chain_model.specs.Traces.{AreAnswered, HasHandles, IsSent}
use Rattle.chain_model.proofs.Coming.{begins_well}
use Rattle.chain_model.proofs.Accepted.{IsAccepted, accepted_judged, args_typed}
use Rattle.chain_model.proofs.Ending.{one_answer}
use Rattle.chain_model.proofs.Eventing.{all_append, all_filter, all_found}
use Rattle.chain_model.proofs.Grammar.{fit_length, shaped}
use Rattle.chain_model.proofs.Leaving.{types_of}
use Rattle.chain_model.proofs.Naming.{MadeOf}
use Rattle.chain_model.proofs.Reading.{not_zero}
use Rattle.chain_model.proofs.Simulating.{found_all}

-- ---- the table

-- what the command makes or gives has ids of unique parts
abbrev wraps_made : CommandId → Bool
wraps_made c = option_map_or is_wrapped (type_made (row_of c).effect) false

-- the first parameter is one object that is there, and no instance
abbrev first_other : List ParamSpec → Bool
first_other [] = false
first_other (p ∷ ps) = not p.optional && (not p.many && not (same_type p.ty ty.Instance))

abbrev one_receives : CommandId → Bool
one_receives c = not (wraps_made c) || first_other (row_of c).params

one_in_row : (c : CommandId) → one_receives c ≡ true
unfolding row_of same_type
one_in_row c = search rules

abbrev is_other : CommandId → Bool
is_other c = not (wraps_made c) || not (same_command c cmd.EnumeratePhysicalDevices)

other_in_row : (c : CommandId) → is_other c ≡ true
unfolding row_of same_type same_command
other_in_row c = search rules

flip : (u : Bool) → not u ≡ true → u ≡ false
flip false e = refl
flip true e = cc e

-- ---- one driver receives a call whose results wrap

-- what the loader lets pass stands for an object
stands_for : (living : Object → Bool) (p : ParamSpec) (a : Argument) (f : Failure) → p.optional ≡ false → is_failing (unless (parameter_holds living p a) f) ≡ false → first_in ((a ∷ []) ∷ []) 0 ≡ None → ⊥
stands_for living p Null f one passes none = go p.optional one passes
  where
    go : (u : Bool) → u ≡ false → is_failing (unless u f) ≡ false → ⊥
    go true e h = cc e
    go false e h = cc h
stands_for living p Unborn f one passes none = cc passes
stands_for living p (The x) f one passes none = cc none

one_driver : (drivers : ℕ) (routes : List Routed) (p : ParamSpec) (a : Argument) → same_type p.ty ty.Instance ≡ false → (first_in ((a ∷ []) ∷ []) 0 ≡ None → ⊥) → HasType p.ty a → length (receivers drivers routes (first_in ((a ∷ []) ∷ []) 0)) ≡ 1
one_driver drivers routes p Null other there typed = absurd (there refl)
one_driver drivers routes p Unborn other there typed = absurd (there refl)
one_driver drivers routes p (The x) other there typed = ap (λ (u : Bool). length (cond u (range_with_len 0 drivers) (driver_in routes x ∷ []))) (ap (λ t. same_type t ty.Instance) typed ∙ other)

-- of a begin of the grammar whose arguments have their types and that the loader lets pass
passes_one : (living : Object → Bool) (names : List Named) (drivers : ℕ) (routes : List Routed) (ps : List ParamSpec) (args : List Arg) → first_other ps ≡ true → FitParams ps args → AreTyped ps (arguments_in names args)
    → is_failing (loader_failures living ps (arguments_in names args)) ≡ false → length (receivers drivers routes (first_in (arguments_in names args) 0)) ≡ 1
passes_one living names drivers routes [] args other fit typed passes = cc other
passes_one living names drivers routes (p ∷ ps) [] other fit typed passes = absurd fit
passes_one living names drivers routes (p ∷ ps) (a ∷ args) other fit typed passes =
    let parts = and_true (not p.optional) (not p.many && not (same_type p.ty ty.Instance)) other in
    let rest = and_true (not p.many) (not (same_type p.ty ty.Instance)) parts.1 in
    go a.names (form p.many (flip p.many rest.0) fit.0).1 (flip p.optional parts.0) (flip (same_type p.ty ty.Instance) rest.1) typed.0 passes
  where
    form : (u : Bool) → u ≡ false → HasForm u a → HasForm false a
    form u e h = subst (λ v. HasForm v a) e h

    go : (ns : List (Option Name)) → (length ns == 1) ≡ true → p.optional ≡ false → same_type p.ty ty.Instance ≡ false → AllByRecursion (HasType p.ty) (map (argument_in names) ns)
        → is_failing (loader_failures living (p ∷ ps) (map (argument_in names) ns ∷ arguments_in names args)) ≡ false → length (receivers drivers routes (first_in (map (argument_in names) ns ∷ arguments_in names args) 0)) ≡ 1
    go [] one needed plain all let_pass = cc one
    go (n ∷ ns) one needed plain all let_pass =
        one_driver drivers routes p (argument_in names n) plain (stands_for living p (argument_in names n) (failure 0 0 _ 0) needed let_pass) all.0

-- ---- each open call that was sent and wraps its results went to one driver

-- what holds of an open call
abbrev WentToOne : Opened → Type 0
WentToOne o = is_skipped o ≡ false → wraps_made o.cmd ≡ true → length o.drivers ≡ 1

-- the loader found nothing at a call that nothing stops
let_pass : (u : Bool) (fs : List Failure) (w : Findings) → (cond u (record { reports = at_place 0 fs; stop = Some 0 }) w).stop ≡ None → u ≡ false
let_pass true fs w e = cc e
let_pass false fs w e = refl

pub or_parts : (a b : Bool) → (a || b) ≡ false → (a ≡ false) × (b ≡ false)
or_parts false b e = (refl, e)
or_parts true b e = cc e

pub is_nothing : {X : Type 0} (x : Option X) → is_some x ≡ false → x ≡ None
is_nothing None e = refl
is_nothing (Some x) e = cc e

begun_one : (s : Setup) (past : Past) (b : BeginEvent) → IsBegin b → AreTyped (row_of b.cmd).params (arguments_in (named past) b.args) → WentToOne (begun_of s past b).opened
begun_one s past b is typed sent_on wraps =
    let o : Opened = (begun_of s past b).opened in
    let parts = or_parts o.refused (is_some o.stop) sent_on in
    let stopless : o.stop ≡ None = is_nothing o.stop parts.1 in
    let fs : List Failure = loader_failures (alive (history past)) (row_of b.cmd).params (arguments_in (named past) b.args) in
    let below = findings (parts_checked past (call_of o) 1 (parts_in_force s past)) in
    let passes : is_failing fs ≡ false = let_pass (is_failing fs) fs below (ap (λ (f : Findings). f.stop) (sym (found_all past (call_of o) (parts_checked past (call_of o) 1 (parts_in_force s past)))) ∙ stopless) in
    ap (λ u. length (cond u [] (receivers s.drivers (routed past) (first_in (arguments_in (named past) b.args) 0)))) sent_on
    ∙ passes_one (alive (history past)) (named past) s.drivers (routed past) (row_of b.cmd).params b.args (sym (ap (λ u. not u || first_other (row_of b.cmd).params) wraps) ∙ one_in_row b.cmd) is.args typed passes

all_one : (s : Setup) (events : List TraceEvent) → AllByRecursion IsEvent events → may_all_come events ≡ true → AllByRecursion WentToOne (open_calls (judged s events))
all_one s [] grammar ok = tt
all_one s (Begin b ∷ before) grammar ok =
    let a = and_true (may_all_come before) (may_come before (Begin b)) ok in
    let accepted : IsAccepted before (judged s before) = accepted_judged s before a.0 (shaped before grammar.1) in
    all_append WentToOne (open_calls (judged s before)) ((begun_of s (judged s before) b).opened ∷ []) (all_one s before grammar.1 a.0) (
      begun_one s (judged s before) b grammar.0 (args_typed before (named (judged s before)) accepted.named_typed (row_of b.cmd).params b.args (fit_length (row_of b.cmd).params b.args grammar.0.args) (begins_well before b a.1).0),
      tt,
    )
all_one s (Return t ∷ before) grammar ok =
    go (all_one s before grammar.1 (and_true (may_all_come before) (may_come before (Return t)) ok).0) (find (is_of t) (open_calls (judged s before)))
  where
    go : AllByRecursion WentToOne (open_calls (judged s before)) → (f : Option Opened) → AllByRecursion WentToOne (open_calls (returned_by s (judged s before) f))
    go all None = all
    go all (Some o) = all_filter WentToOne (λ x. not (is_of o.thread x)) (open_calls (judged s before)) all

-- ---- what was answered

sent_rest : (thread : ℕ) (cs : List Sent) → map (λ (c : Sent). c.opened) (filter (λ c. not (is_of thread c.opened)) cs) ≡ filter (λ o. not (is_of thread o)) (map (λ (c : Sent). c.opened) cs)
sent_rest thread [] = refl
sent_rest thread (c ∷ cs) = go (not (is_of thread c.opened)) (sent_rest thread cs)
  where
    go : (u : Bool) → map (λ (x : Sent). x.opened) (filter (λ x. not (is_of thread x.opened)) cs) ≡ filter (λ o. not (is_of thread o)) (map (λ (x : Sent). x.opened) cs)
        → map (λ (x : Sent). x.opened) (cond u (c ∷ filter (λ x. not (is_of thread x.opened)) cs) (filter (λ x. not (is_of thread x.opened)) cs))
        ≡ cond u (c.opened ∷ filter (λ o. not (is_of thread o)) (map (λ (x : Sent). x.opened) cs)) (filter (λ o. not (is_of thread o)) (map (λ (x : Sent). x.opened) cs))
    go true ih = ap (λ os. c.opened ∷ os) ih
    go false ih = ih

-- the calls with answers are the open ones
sent_opens : (past : Past) (replies : List ReplyContent) → map (λ (c : Sent). c.opened) (sent past replies) ≡ open_calls past
sent_opens [] replies = refl
sent_opens (Began e o reports ∷ past) replies =
    map-append (λ (c : Sent). c.opened) (sent past (before_call o replies)) (record { opened = o; answers = answers_to o (own_replies o replies) } ∷ []) ∙ ap (λ os. os ++ o ∷ []) (sent_opens past (before_call o replies))
sent_opens (Returned o made ∷ past) replies = sent_rest o.thread (sent past replies) ∙ ap (filter (λ c. not (is_of o.thread c))) (sent_opens past replies)

-- the answers of an open call
pub record OwnAnswers (o : Opened) (answers : List Answered) : Type 0 where
  pub drivers : map (λ (a : Answered). a.driver) answers ≡ o.drivers
  pub handles : AllByRecursion (HasHandles o) answers

found_answers : (thread : ℕ) (cs : List Sent) (o : Opened) → AllByRecursion IsSent cs → find (is_of thread) (map (λ (c : Sent). c.opened) cs) ≡ Some o → OwnAnswers o (answers_of cs thread)
found_answers thread [] o all is = cc is
found_answers thread (c ∷ cs) o all is = go (is_of thread c.opened) (found_answers thread cs o all.1) is
  where
    go : (u : Bool) → (find (is_of thread) (map (λ (x : Sent). x.opened) cs) ≡ Some o → OwnAnswers o (answers_of cs thread)) → cond u (Some c.opened) (find (is_of thread) (map (λ (x : Sent). x.opened) cs)) ≡ Some o
        → OwnAnswers o (option_map_or (λ (x : Sent). x.answers) (cond u (Some c) (find (λ x. is_of thread x.opened) cs)) [])
    go true ih h = let one : c.opened ≡ o = cc in subst (λ (x : Opened). OwnAnswers x c.answers) one (record { drivers = all.0.drivers; handles = all.0.handles })
    go false ih h = ih h

pub own_answers : (past : Past) (replies : List ReplyContent) (thread : ℕ) (o : Opened) → AllByRecursion IsSent (sent past replies) → find (is_of thread) (open_calls past) ≡ Some o → OwnAnswers o (answers_of (sent past replies) thread)
own_answers past replies thread o all is = found_answers thread (sent past replies) o all (ap (find (is_of thread)) (sent_opens past replies) ∙ is)

-- a begin's replies
pub sent_well : (values : List Valued) (o : Opened) (own : List ReplyContent) → AreAnswered values o o.drivers own → IsSent (record { opened = o; answers = answers_to o own })
sent_well values o own answered = record { drivers = (go o.drivers own answered).0; handles = (go o.drivers own answered).1 }
  where
    due : (d : ℕ) (r : ReplyContent) → IsAnsweredBy (driver_call values o d) r → HasHandles o (record { driver = d; handles = r.handles })
    due d r is goes = (is.count ∙ ap (λ (u : Bool). cond u (asked_of_each o.cmd (length o.results)) 0) goes, is.handles)

    go : (ds : List ℕ) (rs : List ReplyContent) → AreAnswered values o ds rs
        → (map (λ (a : Answered). a.driver) (map (λ (x : ℕ × ReplyContent). record { driver = x.0; handles = x.1.handles }) (zip ds rs)) ≡ ds) × AllByRecursion (HasHandles o) (map (λ (x : ℕ × ReplyContent). record { driver = x.0; handles = x.1.handles }) (zip ds rs))
    go [] [] all = (refl, tt)
    go [] (r ∷ rs) all = absurd all
    go (d ∷ ds) [] all = absurd all
    go (d ∷ ds) (r ∷ rs) all = (ap (λ xs. d ∷ xs) (go ds rs all.1).0, (due d r all.0, (go ds rs all.1).1))

-- ---- what was made stands in the places of its results

placed_below : (n : ℕ) (made : List Born) → ArePlaced n made → AllByRecursion (λ b. b.place + 1 ≤ n + length made) made
placed_below n [] placed = tt
placed_below n (b ∷ made) placed = (let e = placed.0 in omega (arith, e), shift made (placed_below (n + 1) made placed.1))
  where
    shift : (ms : List Born) → AllByRecursion (λ c. c.place + 1 ≤ (n + 1) + length made) ms → AllByRecursion (λ c. c.place + 1 ≤ n + length (b ∷ made)) ms
    shift [] all = tt
    shift (c ∷ ms) all = (let l = all.0 in omega (arith, l), shift ms all.1)

few_made : (s : Setup) (past : Past) (o : Opened) → length (made_of s past o) ≤ length o.results
few_made s past o = go (bears (births (history past)) (alive (history past)) o) (type_made (row_of o.cmd).effect) (same_command o.cmd cmd.EnumeratePhysicalDevices)
  where
    few : (t : ObjectType) (xs : List Name) → length xs ≤ length o.results
        → length {A = Born} (map (λ (x : ℕ × Name). record { place = x.0; name = x.1; object = result_object (births (history past)) (retrievals past) o (row_of o.cmd).effect t x.0 x.1 }) (enumerate_from 0 xs)) ≤ length o.results
    few t xs l =
        subst (λ n. n ≤ length o.results) (sym (length-map (enumerate_from 0 xs) (λ (x : ℕ × Name). record { place = x.0; name = x.1; object = result_object (births (history past)) (retrievals past) o (row_of o.cmd).effect t x.0 x.1 }) ∙ length-enumerate_from 0 xs)) l

    taken : length (take s.drivers o.results) ≤ length o.results
    taken = subst (λ n. n ≤ length o.results) (sym (length-take s.drivers o.results)) (omega arith)

    go : (u : Bool) (mt : Option ObjectType) (v : Bool)
        → length {A = Born} (cond u (option_map_or (λ t. map (λ (x : ℕ × Name). record { place = x.0; name = x.1; object = result_object (births (history past)) (retrievals past) o (row_of o.cmd).effect t x.0 x.1 }) (enumerate_from 0 (cond v (take s.drivers o.results) o.results))) mt []) []) ≤ length o.results
    go false mt v = omega arith
    go true None v = omega arith
    go true (Some t) true = few t (take s.drivers o.results) taken
    go true (Some t) false = few t o.results (omega arith)

-- what makes anything succeeds
makes_by : (s : Setup) (past : Past) (o : Opened) → (made_of s past o ≡ []) ⊎ (succeeds o.cmd o.code ≡ true)
makes_by s past o = go (bears (births (history past)) (alive (history past)) o) refl
  where
    go : (u : Bool) → bears (births (history past)) (alive (history past)) o ≡ u → (cond u (born_with (births (history past)) (retrievals past) o (bearable s.drivers o)) [] ≡ []) ⊎ (succeeds o.cmd o.code ≡ true)
    go false e = inl refl
    go true e = inr (and_true (succeeds o.cmd o.code) _ (and_true (not (is_skipped o)) _ e).1).0

-- ---- the value of a wrapped result

handle_live : (hs : List ℕ) (k : ℕ) → k < length hs → IsTrue (are_handles hs) → (unwrap_or (slice_get hs k) 0 == 0) ≡ false
handle_live [] k l all = absurd (omega (arith, l))
handle_live (zero ∷ hs) k l all = cc all
handle_live (suc h ∷ hs) zero l all = not_zero h
handle_live (suc h ∷ hs) (suc k) l all = handle_live hs k (omega (arith, l)) (and_true (nat_le 1 (suc h)) (are_handles hs) all).1

one_value : (o : Opened) (answers : List Answered) → OwnAnswers o answers → length o.drivers ≡ 1 → succeeds o.cmd o.code ≡ true → same_command o.cmd cmd.EnumeratePhysicalDevices ≡ false → (place : ℕ) → place + 1 ≤ length o.results
    → (first_value (values_answered o.cmd answers place) == 0) ≡ false
one_value o [] own one goes other place low = let d : length {A = ℕ} [] ≡ 1 = ap length own.drivers ∙ one in cc d
one_value o (a ∷ answers) own one goes other place low =
    let due = own.handles.0 goes in
    let asked : length a.handles ≡ length o.results = due.0 ∙ ap (λ (u : Bool). cond u 1 (length o.results)) other in
    ap (λ (u : Bool). first_value (cond u (map (handle_at 0) (filter (λ (x : Answered). x.driver == place) (a ∷ answers))) (map (handle_at place) (a ∷ answers))) == 0) other ∙ handle_live a.handles place (omega (arith, asked, low)) due.1

-- ---- so the drivers answered well

module _ (s : Setup) (events : List TraceEvent) (replies : List ReplyContent) (thread : ℕ) (o : Opened) (grammar : AllByRecursion IsEvent events) (ok : may_all_come events ≡ true) (all : AllByRecursion IsSent (sent (judged s events) replies))
    (is : find (is_of thread) (open_calls (judged s events)) ≡ Some o) (goes : is_skipped o ≡ false) (well : MadeOf (births (history (judged s events))) (retrievals (judged s events)) o (made_of s (judged s events) o)) where
  abbrev past : Past
  past = judged s events

  abbrev answers : List Answered
  answers = answers_of (sent (judged s events) replies) thread

  own : OwnAnswers o answers
  own = own_answers past replies thread o all is

  none : (ms : List Born) → ms ≡ [] → AnsweredWell o.cmd answers ms
  none ms e = subst (AnsweredWell o.cmd answers) (sym e) (record { live = tt; sole = tt })

  wrapped : (t : ObjectType) → type_made (row_of o.cmd).effect ≡ Some t → is_wrapped t ≡ true → wraps_made o.cmd ≡ true
  wrapped t e w = ap (λ (mt : Option ObjectType). option_map_or is_wrapped mt false) e ∙ w

  to_one : wraps_made o.cmd ≡ true → length o.drivers ≡ 1
  to_one = all_found WentToOne (is_of thread) (open_calls past) o (all_one s events grammar ok) is goes

  other : wraps_made o.cmd ≡ true → same_command o.cmd cmd.EnumeratePhysicalDevices ≡ false
  other w = flip (same_command o.cmd cmd.EnumeratePhysicalDevices) (sym (ap (λ u. not u || not (same_command o.cmd cmd.EnumeratePhysicalDevices)) w) ∙ other_in_row o.cmd)

  few : length answers ≤ length o.drivers
  few = let n = length-map answers (λ (a : Answered). a.driver) in let m : length (map (λ (a : Answered). a.driver) answers) ≡ length o.drivers = ap length own.drivers in omega (arith, n, m)

  lives : (t : ObjectType) → type_made (row_of o.cmd).effect ≡ Some t → succeeds o.cmd o.code ≡ true → (ms : List Born) → AllByRecursion (λ b. b.object.ty ≡ t) ms → AllByRecursion (λ b. b.place + 1 ≤ length o.results) ms
      → AllByRecursion (λ b. is_wrapped b.object.ty ≡ true → (first_value (values_answered o.cmd answers b.place) == 0) ≡ false) ms
  lives t e ok2 [] typed low = tt
  lives t e ok2 (b ∷ ms) typed low =
      (λ w. let v : wraps_made o.cmd ≡ true = wrapped t e (ap is_wrapped (sym typed.0) ∙ w) in one_value o answers own (to_one v) ok2 (other v) b.place low.0, lives t e ok2 ms typed.1 low.1)

  soles : (t : ObjectType) → type_made (row_of o.cmd).effect ≡ Some t → (ms : List Born) → AllByRecursion (λ b. b.object.ty ≡ t) ms
      → AllByRecursion (λ b. is_wrapped b.object.ty ≡ true → (driver : ℕ) → value_for driver (values_answered o.cmd answers b.place) ≡ first_value (values_answered o.cmd answers b.place)) ms
  soles t e [] typed = tt
  soles t e (b ∷ ms) typed =
      (λ w driver. let one = to_one (wrapped t e (ap is_wrapped (sym typed.0) ∙ w)) in let l = few in one_answer o.cmd answers b.place (omega (arith, one, l)) driver, soles t e ms typed.1)

  low_all : (ms : List Born) (n : ℕ) → n ≤ length o.results → AllByRecursion (λ b. b.place + 1 ≤ 0 + n) ms → AllByRecursion (λ b. b.place + 1 ≤ length o.results) ms
  low_all [] n l all2 = tt
  low_all (b ∷ ms) n l all2 = (let m = all2.0 in omega (arith, l, m), low_all ms n l all2.1)

  by_type : (mt : Option ObjectType) → type_made (row_of o.cmd).effect ≡ mt → HaveMade (births (history past)) (retrievals past) o.cmd o.payload o.args mt (made_of s past o) → (made_of s past o ≡ []) ⊎ (succeeds o.cmd o.code ≡ true)
      → AnsweredWell o.cmd answers (made_of s past o)
  by_type None e d r = none (made_of s past o) d
  by_type (Some t) e d (inl nothing) = none (made_of s past o) nothing
  by_type (Some t) e d (inr ok2) =
      let typed = types_of (asking_by (births (history past)) o.cmd o.payload o.args (row_of o.cmd).effect) t (births (history past)) (retrievals past) (made_of s past o) d in
      record {
        live = lives t e ok2 (made_of s past o) typed (low_all (made_of s past o) (length (made_of s past o)) (few_made s past o) (placed_below 0 (made_of s past o) well.placed));
        sole = soles t e (made_of s past o) typed;
      }

  pub answered_well : AnsweredWell o.cmd answers (made_of s past o)
  answered_well = by_type (type_made (row_of o.cmd).effect) refl well.have (makes_by s past o)
