-- The first instance: no part has seen another open call, and no other open call has come to a part.
use Rattle.std.proofs.Common.{◌≡◌, ◌==◌, ◌≤◌, ℕ, Bool, true, false, not, cond, ◌&&◌, ◌||◌, Option, Some, None, List, [], ◌∷◌, ◌++◌, map, refl, sym, ◌∙◌, ap, subst, arith}
use Rattle.std.proofs.lemmas.Bool.{eq-eqb, eqb-true}
use Rattle.std.specs.Prelude.{find, filter, nat_le}
use Rattle.std.specs.List.{list_any, AllByRecursion}
use Rattle.std.specs.Option.{option_map_or}
use Rattle.command_tables.specs.declared.types.CommandId.{CommandId}
use Rattle.command_tables.specs.declared.types.CommandId.TheVariants as cmd
use Rattle.object_model.specs.declared.Object.{Object}
use Rattle.object_model.specs.declared.Argument.{Argument}
use Rattle.replay_model.specs.declared.Born.{Born}
use Rattle.command_tables.specs.declared.types.Code.TheVariants as code
use Rattle.object_model.specs.declared.PartKind.{PartKind}
use Rattle.command_tables.specs.Table.{ParamSpec, row_of}
use Rattle.command_tables.specs.Tests.{same_command, same_code}
use Rattle.trace_format.specs.Accepting.{makes_instance, begins_instance, is_no_return_of, breaks_in}
use Rattle.trace_format.specs.Content.{TraceEvent, BeginEvent, Begin, Return}
use Rattle.object_model.specs.History.{Begins, Returns, History, births, alive}
use Rattle.object_model.specs.Rules.{params_from, loader_failures}
use Rattle.object_model.specs.Uses.{InUse, Use, in_use, uses_at, uses_in}
use Rattle.object_model.specs.Objects.{object_of}
use Rattle.object_model.specs.Renaming.{renamed, renamed_args}
use Rattle.replay_model.specs.Setup.{Setup}
use Rattle.replay_model.specs.Past.{Opened, Past, Began, Returned, is_of, call_of, objects_of, history, open_calls, named, arguments_in}
use Rattle.object_model.specs.Findings.{Report, Findings, is_failing, at_place}
use Rattle.replay_model.specs.ChainPlaces.{seen_past, reaches, stops_at, findings, parts_checked, parts_in_force}
use Rattle.replay_model.specs.Judged.{begun_of, judge, judged, made_of, returned_by}
use Rattle.chain_model.specs.Gaps.{may_all_come, may_come}
use Rattle.chain_model.specs.Tokens.{token_in}
use Rattle.chain_model.proofs.Shapes.{AreShaped}
use Rattle.chain_model.specs.Stops.{StopOk, StopsFit}
use Rattle.layer_model.specs.Walks.{is_guarded}
use Rattle.command_tables.specs.Calls.{ReplyContent}
use Rattle.chain_model.proofs.Simulating.{found_all, start_stands}
use Rattle.chain_model.proofs.Stepping.{return_fits}
use Rattle.chain_model.proofs.Sounding.{seen_births}
use Rattle.chain_model.proofs.Passing.{AreTyped}
use Rattle.chain_model.specs.Simulated.{ChainKept, ChainStands, found_by, fresh_of, with_parts}
use Rattle.chain_model.proofs.Sound.{IsBeside, IsFirst}
use Rattle.chain_model.proofs.Coming.{begins_idle, no_break, no_break_return}
use Rattle.chain_model.proofs.Accepted.{IsAccepted, accepted_judged}
use Rattle.chain_model.proofs.Quiet.{last_begins, IsWholeEvent, IsIdle, IsQuiet}
use Rattle.layer_model.proofs.Same.{and_true}
use Rattle.chain_model.proofs.Eventing.{all_append, all_filter, all_found}
use Rattle.chain_model.proofs.Quieting.{begun_idle, command_is, quiet_judged}

-- ---- what an event that may come doesn't break

pub or_left : (a b : Bool) → (a || b) ≡ false → a ≡ false
or_left false b e = refl
or_left true b e = cc e

pub or_right : (a b : Bool) → (a || b) ≡ false → b ≡ false
or_right false b e = e
or_right true b e = cc e

-- a begin doesn't follow such a begin
pub after_no_begin : (before : List TraceEvent) (b : BeginEvent) → may_come before (Begin b) ≡ true → last_begins before ≡ false
after_no_begin [] b is = refl
after_no_begin (e ∷ before) b is = go e (or_right (makes_instance (Begin b) && list_any makes_instance (e ∷ before)) (breaks_in (e ∷ before) (Begin b)) (no_break (e ∷ before) b is))
  where
    and_yes : (t : Bool) → (t && true) ≡ false → t ≡ false
    and_yes false h = refl
    and_yes true h = cc h

    go : (x : TraceEvent) → (begins_instance x && is_no_return_of x (Begin b)) ≡ false → begins_instance x ≡ false
    go (Begin a) h = and_yes (begins_instance (Begin a)) h
    go (Return t) h = refl

-- ---- an instance's creation uses nothing

no_params : (row_of cmd.CreateInstance).params ≡ []
unfolding row_of
no_params = refl

pub params_none : (c : CommandId) → same_command c cmd.CreateInstance ≡ true → (row_of c).params ≡ []
params_none c e = ap (λ d. (row_of d).params) (command_is c cmd.CreateInstance e) ∙ no_params

uses_none : (h : History) (c : CommandId) (args : List (List Argument)) → same_command c cmd.CreateInstance ≡ true → uses_in (births h) (alive h) c args ≡ []
uses_none h c args e = ap (λ (ps : List ParamSpec). params_from (λ i p k a. uses_at (births h) (alive h) i p k (object_of a)) 0 ps args) (params_none c e)

-- ---- calm

-- no creation is open, and no part has seen a call that is open
pub record IsCalm (past : Past) : Type 0 where
  pub others : AllByRecursion (λ x. same_command x.cmd cmd.CreateInstance ≡ false) (open_calls past)
  pub unused : (f : Object → Object) (j : ℕ) → 1 ≤ j → in_use (renamed f (seen_past past j)) ≡ []

-- a begin that isn't a creation comes to no part
calm_begun : (s : Setup) (past : Past) (b : BeginEvent) → IsCalm past → same_command b.cmd cmd.CreateInstance ≡ false → IsIdle (begun_of s past b).opened → IsCalm (judge s past (Begin b))
calm_begun s past b calm other idle = record {
  others = all_append (λ x. same_command x.cmd cmd.CreateInstance ≡ false) (open_calls past) ((begun_of s past b).opened ∷ []) calm.others (other, tt);
  unused = λ f j low.
      ap (λ u. in_use (renamed f (cond u (Begins (call_of (begun_of s past b).opened) (stops_at (begun_of s past b).opened j) ∷ seen_past past j) (seen_past past j)))) (idle.stopped other j low) ∙ calm.unused f j low;
}

calm_returned : (s : Setup) (past : Past) (o : Opened) (made : List Born) → IsCalm past → same_command o.cmd cmd.CreateInstance ≡ false → IsIdle o → IsCalm (Returned o made ∷ past)
calm_returned s past o made calm other idle = record {
  others = all_filter (λ x. same_command x.cmd cmd.CreateInstance ≡ false) (λ x. not (is_of o.thread x)) (open_calls past) calm.others;
  unused = λ f j low. ap (λ u. in_use (renamed f (cond u (Returns (call_of o) (objects_of made) ∷ seen_past past j) (seen_past past j)))) (idle.stopped other j low) ∙ calm.unused f j low;
}

find_last : {X : Type 0} (p : X → Bool) (xs : List X) (x : X) → find p xs ≡ None → p x ≡ true → find p (xs ++ x ∷ []) ≡ Some x
find_last p [] x none is = rw is refl
find_last p (y ∷ xs) x none is = go (p y) (find_last p xs x) none
  where
    go : (u : Bool) → (find p xs ≡ None → p x ≡ true → find p (xs ++ x ∷ []) ≡ Some x) → cond u (Some y) (find p xs) ≡ None → cond u (Some y) (find p (xs ++ x ∷ [])) ≡ Some x
    go true ih e = cc e
    go false ih e = ih e is

filter_last : (P : Opened → Type 0) (p : Opened → Bool) (xs : List Opened) (x : Opened) → AllByRecursion P xs → p x ≡ false → AllByRecursion P (filter p (xs ++ x ∷ []))
filter_last P p [] x ks is = subst (λ u. AllByRecursion P (cond u (x ∷ []) [])) (sym is) tt
filter_last P p (y ∷ xs) x ks is = go (p y) (filter_last P p xs x ks.1 is)
  where
    go : (u : Bool) → AllByRecursion P (filter p (xs ++ x ∷ [])) → AllByRecursion P (cond u (y ∷ filter p (xs ++ x ∷ [])) (filter p (xs ++ x ∷ [])))
    go true ih = (ks.0, ih)
    go false ih = ih

-- a creation and its return leave it calm
calm_created : (past : Past) (b : BeginEvent) (o : Opened) (reports : List Report) (made : List Born) → IsCalm past → same_command o.cmd cmd.CreateInstance ≡ true → IsCalm (Returned o made ∷ Began b o reports ∷ past)
calm_created past b o reports made calm creates = record {
  others = filter_last (λ x. same_command x.cmd cmd.CreateInstance ≡ false) (λ x. not (is_of o.thread x)) (open_calls past) o calm.others (ap not (eq-eqb o.thread o.thread refl));
  unused = λ f j low. go f j low (reaches o j);
}
  where
    go : (f : Object → Object) (j : ℕ) → 1 ≤ j → (u : Bool)
        → in_use (renamed f (cond u (Returns (call_of o) (objects_of made) ∷ cond u (Begins (call_of o) (stops_at o j) ∷ seen_past past j) (seen_past past j)) (cond u (Begins (call_of o) (stops_at o j) ∷ seen_past past j) (seen_past past j)))) ≡ []
    go f j low true =
        ap (λ (us : List InUse). filter (λ (x : InUse). not (x.thread == o.thread)) (us ++ record { number = o.number; thread = o.thread; uses = uses_in (births (renamed f (seen_past past j))) (alive (renamed f (seen_past past j))) o.cmd (renamed_args f o.args) } ∷ [])) (calm.unused f j low)
        ∙ ap (λ u. cond (not u) (record { number = o.number; thread = o.thread; uses = uses_in (births (renamed f (seen_past past j))) (alive (renamed f (seen_past past j))) o.cmd (renamed_args f o.args) } ∷ []) []) (eq-eqb o.thread o.thread refl)
    go f j low false = calm.unused f j low

-- a return where no creation is open
calm_return : (s : Setup) (past : Past) (t : ℕ) → IsQuiet s past → IsCalm past → IsCalm (judge s past (Return t))
calm_return s past t quiet calm = go (find (is_of t) (open_calls past)) refl
  where
    go : (f : Option Opened) → find (is_of t) (open_calls past) ≡ f → IsCalm (returned_by s past f)
    go None is = calm
    go (Some o) is =
        calm_returned s past o (made_of s past o) calm (all_found (λ x. same_command x.cmd cmd.CreateInstance ≡ false) (is_of t) (open_calls past) o calm.others is) (all_found IsIdle (is_of t) (open_calls past) o quiet.opens is)

-- so it is of each accepted trace that makes no instance, where its last event begins no creation
pub calm_judged : (s : Setup) (events : List TraceEvent) → may_all_come events ≡ true → list_any makes_instance events ≡ false → AllByRecursion IsWholeEvent events → last_begins events ≡ false → IsCalm (judged s events)
calm_judged s [] ok none whole last = record { others = tt; unused = λ f j low. refl }
calm_judged s (Begin b ∷ before) ok none whole last =
    let a = and_true (may_all_come before) (may_come before (Begin b)) ok in
    let quiet : IsQuiet s (judged s before) = quiet_judged s before (or_right (makes_instance (Begin b)) (list_any makes_instance before) none) whole.1 in
    calm_begun s (judged s before) b (calm_judged s before a.0 (or_right (makes_instance (Begin b)) (list_any makes_instance before) none) whole.1 (after_no_begin before b a.1)) last
    (begun_idle s (judged s before) b quiet.born (or_left (makes_instance (Begin b)) (list_any makes_instance before) none) whole.0)
calm_judged s (Return t ∷ []) ok none whole last = record { others = tt; unused = λ f j low. refl }
calm_judged s (Return t ∷ Return u ∷ before) ok none whole last =
    let a = and_true (may_all_come (Return u ∷ before)) (may_come (Return u ∷ before) (Return t)) ok in
    calm_return s (judged s (Return u ∷ before)) t (quiet_judged s (Return u ∷ before) none whole.1) (calm_judged s (Return u ∷ before) a.0 none whole.1 refl)
calm_judged s (Return t ∷ Begin b ∷ before) ok none whole last =
    let a = and_true (may_all_come (Begin b ∷ before)) (may_come (Begin b ∷ before) (Return t)) ok in
    let rest : list_any makes_instance before ≡ false = or_right (makes_instance (Begin b)) (list_any makes_instance before) none in
    let c = and_true (may_all_come before) (may_come before (Begin b)) a.0 in
    let broken = no_break_return (Begin b ∷ before) t a.1 in
    by_last (same_command b.cmd cmd.CreateInstance) refl (or_right (makes_instance (Return t) && list_any makes_instance (Begin b ∷ before)) (breaks_in (Begin b ∷ before) (Return t)) broken)
    (quiet_judged s (Begin b ∷ before) none whole.1) (λ e. calm_judged s (Begin b ∷ before) a.0 none whole.1 e) (calm_judged s before c.0 rest whole.1.1 (after_no_begin before b c.1)) ((begins_idle s (Begin b ∷ before) a.0).0)
  where
    and_not : (x y : Bool) → x ≡ true → (x && not y) ≡ false → y ≡ true
    and_not true true e h = refl
    and_not true false e h = cc h
    and_not false y e h = cc e

    by_last : (u : Bool) → same_command b.cmd cmd.CreateInstance ≡ u → (same_command b.cmd cmd.CreateInstance && not (b.thread == t)) ≡ false → IsQuiet s (judged s (Begin b ∷ before))
        → (same_command b.cmd cmd.CreateInstance ≡ false → IsCalm (judged s (Begin b ∷ before))) → IsCalm (judged s before) → find (is_of b.thread) (open_calls (judged s before)) ≡ None → IsCalm (judged s (Return t ∷ Begin b ∷ before))
    by_last false e broken quiet calm before_calm idle = calm_return s (judged s (Begin b ∷ before)) t quiet (calm e)
    by_last true e broken quiet calm before_calm idle =
        let same_t : b.thread ≡ t = eqb-true b.thread t (and_not (same_command b.cmd cmd.CreateInstance) (b.thread == t) e broken) in
        let found : find (is_of t) (open_calls (judged s before) ++ (begun_of s (judged s before) b).opened ∷ []) ≡ Some (begun_of s (judged s before) b).opened =
        find_last (is_of t) (open_calls (judged s before)) (begun_of s (judged s before) b).opened (ap (λ (n : ℕ). find (is_of n) (open_calls (judged s before))) (sym same_t) ∙ idle) (eq-eqb b.thread t same_t) in
        subst (λ f. IsCalm (returned_by s (judged s (Begin b ∷ before)) f)) (sym found)
        (calm_created (judged s before) b (begun_of s (judged s before) b).opened (begun_of s (judged s before) b).reports (made_of s (judged s (Begin b ∷ before)) (begun_of s (judged s before) b).opened) before_calm e)

-- ---- the first instance

pub none_typed : (args : List (List Argument)) (ps : List ParamSpec) → ps ≡ [] → AreTyped ps args → args ≡ []
none_typed args ps e typed = go args (subst (λ qs. AreTyped qs args) e typed)
  where
    go : (xs : List (List Argument)) → AreTyped [] xs → xs ≡ []
    go [] t = refl
    go (x ∷ xs) t = absurd t

-- the open calls beside it are idle, and of other threads
beside_idle : (o : Opened) (os : List Opened) → find (is_of o.thread) os ≡ None → AllByRecursion (λ x. same_command x.cmd cmd.CreateInstance ≡ false) os → AllByRecursion IsIdle os → AllByRecursion (IsBeside o) os
beside_idle o [] none others idle = tt
beside_idle o (x ∷ os) none others idle = go (x.thread == o.thread) refl none (λ n. beside_idle o os n others.1 idle.1)
  where
    go : (u : Bool) → (x.thread == o.thread) ≡ u → cond u (Some x) (find (is_of o.thread) os) ≡ None → (find (is_of o.thread) os ≡ None → AllByRecursion (IsBeside o) os) → AllByRecursion (IsBeside o) (x ∷ os)
    go true e n ih = cc n
    go false e n ih = (record { own = λ h. let bad : true ≡ false = sym h ∙ e in cc; other = λ h j low. idle.0.stopped others.0 j low }, ih n)

pub no_earlier : (x y : Bool) → x ≡ true → (x && y) ≡ false → y ≡ false
no_earlier true y e h = h
no_earlier false y e h = cc e

-- at the return of the call that makes the first instance, nothing was born, each part has seen this call open and no other, and no other open call has come to a part
pub first_instance : (s : Setup) (b : BeginEvent) (before : List TraceEvent) → may_all_come (Begin b ∷ before) ≡ true → AreShaped (Begin b ∷ before) → AllByRecursion IsWholeEvent (Begin b ∷ before) → makes_instance (Begin b) ≡ true
    → (begun_of s (judged s before) b).opened.refused ≡ false → (begun_of s (judged s before) b).opened.stop ≡ None
    → IsFirst (judged s (Begin b ∷ before)) (begun_of s (judged s before) b).opened × AllByRecursion (IsBeside (begun_of s (judged s before) b).opened) (open_calls (judged s (Begin b ∷ before)))
first_instance s b before ok shaped whole makes goes passes =
    let o : Opened = (begun_of s (judged s before) b).opened in
    let a = and_true (may_all_come before) (may_come before (Begin b)) ok in
    let none : list_any makes_instance before ≡ false = no_earlier (makes_instance (Begin b)) (list_any makes_instance before) makes (or_left (makes_instance (Begin b) && list_any makes_instance before) (breaks_in before (Begin b)) (no_break before b a.1)) in
    let quiet : IsQuiet s (judged s before) = quiet_judged s before none whole.1 in
    let calm : IsCalm (judged s before) = calm_judged s before a.0 none whole.1 (after_no_begin before b a.1) in
    let creates : same_command b.cmd cmd.CreateInstance ≡ true = (and_true (same_command b.cmd cmd.CreateInstance) (option_map_or (λ c. same_code c code.Success) b.code false) makes).0 in
    let accepted : IsAccepted (Begin b ∷ before) (judged s (Begin b ∷ before)) = accepted_judged s (Begin b ∷ before) ok shaped in
    let reach : (j : ℕ) → reaches o j ≡ true = λ (j : ℕ). ap (λ t. not t && option_map_or (nat_le j) o.stop true) goes ∙ ap (λ (t : Option ℕ). option_map_or (nat_le j) t true) passes in
    let no_args : o.args ≡ [] = none_typed o.args (row_of b.cmd).params (params_none b.cmd creates) (all_last_one (λ x. AreTyped (row_of x.cmd).params x.args) (open_calls (judged s before)) o accepted.args) in (
      record {
        born = quiet.born;
        retrieved = quiet.kept;
        opens = λ j low.
            ap (λ u. in_use (renamed (token_in (births (history (judged s before)))) (cond u (Begins (call_of o) (stops_at o j) ∷ seen_past (judged s before) j) (seen_past (judged s before) j)))) (reach j)
            ∙ (ap (λ (us : List InUse). us ++ record { number = o.number; thread = o.thread; uses = uses_in (births (renamed (token_in (births (history (judged s before)))) (seen_past (judged s before) j))) (alive (renamed (token_in (births (history (judged s before)))) (seen_past (judged s before) j))) b.cmd (renamed_args (token_in (births (history (judged s before)))) o.args) } ∷ [])
            (calm.unused (token_in (births (history (judged s before)))) j low)
            ∙ ap (λ (us : List Use). record { number = o.number; thread = o.thread; uses = us } ∷ []) (uses_none (renamed (token_in (births (history (judged s before)))) (seen_past (judged s before) j)) b.cmd (renamed_args (token_in (births (history (judged s before)))) o.args) creates));
      },
      all_append (IsBeside o) (open_calls (judged s before)) (o ∷ []) (beside_idle o (open_calls (judged s before)) ((begins_idle s (Begin b ∷ before) ok).0) calm.others quiet.opens)
          (record { own = λ h. (refl, no_args, reach); other = λ h j low. (let bad : true ≡ false = sym (eq-eqb o.thread o.thread refl) ∙ h in cc) }, tt),
    )
  where
    all_last_one : (P : Opened → Type 0) (os : List Opened) (x : Opened) → AllByRecursion P (os ++ x ∷ []) → P x
    all_last_one P [] x ks = ks.0
    all_last_one P (y ∷ os) x ks = all_last_one P os x ks.1

-- ---- the chain starts

-- where no part is in force, only the loader stops a call
begin_low : (s : Setup) (before : List TraceEvent) (b : BeginEvent) → list_any makes_instance before ≡ false → AllByRecursion IsWholeEvent before → (ps : List PartKind) → StopsFit ps (judged s before) → StopsFit ps (judge s (judged s before) (Begin b))
begin_low s before b none whole ps fits = λ k life. (low k, fits k life)
  where
    low : (k : ℕ) → StopOk k (begun_of s (judged s before) b).opened.stop
    low k =
        subst (λ (f : Findings). StopOk k f.stop) (sym (found_all (judged s before) (call_of (begun_of s (judged s before) b).opened) (parts_checked (judged s before) (call_of (begun_of s (judged s before) b).opened) 1 (parts_in_force s (judged s before)))))
        (subst (λ qs. StopOk k (found_by (loader_failures (alive (history (judged s before))) (row_of b.cmd).params (arguments_in (named (judged s before)) b.args)) (findings (parts_checked (judged s before) (call_of (begun_of s (judged s before) b).opened) 1 qs))).stop)
        (sym (quiet_judged s before none whole).parts) (at (is_failing (loader_failures (alive (history (judged s before))) (row_of b.cmd).params (arguments_in (named (judged s before)) b.args)))))
      where
        at : (u : Bool) → StopOk k (cond {A = Findings} u (record { reports = at_place 0 (loader_failures (alive (history (judged s before))) (row_of b.cmd).params (arguments_in (named (judged s before)) b.args)); stop = Some 0 }) (record { reports = []; stop = None })).stop
        at true = omega arith
        at false = tt

-- until an instance is made, only the loader stops calls
quiet_fits : (s : Setup) (events : List TraceEvent) → list_any makes_instance events ≡ false → AllByRecursion IsWholeEvent events → (ps : List PartKind) → StopsFit ps (judged s events)
quiet_fits s [] none whole ps = λ k life. tt
quiet_fits s (Begin b ∷ before) none whole ps = begin_low s before b (or_right (makes_instance (Begin b)) (list_any makes_instance before) none) whole.1 ps (quiet_fits s before (or_right (makes_instance (Begin b)) (list_any makes_instance before) none) whole.1 ps)
quiet_fits s (Return t ∷ before) none whole ps = return_fits s (judged s before) t ps (quiet_fits s before none whole.1 ps)

-- the chain that comes in force at the first instance stands, and no call was stopped below a lifetimes part of it
pub chain_starts : (s : Setup) (k : ChainKept) (b : BeginEvent) (before : List TraceEvent) (replies : List ReplyContent) (ps : List PartKind) → may_all_come (Begin b ∷ before) ≡ true → AreShaped (Begin b ∷ before) → AllByRecursion IsWholeEvent (Begin b ∷ before) → makes_instance (Begin b) ≡ true
    → (begun_of s (judged s before) b).opened.refused ≡ false → (begun_of s (judged s before) b).opened.stop ≡ None → ChainStands k (judged s (Begin b ∷ before)) replies → k.states ≡ [] → is_guarded (map (fresh_of (begun_of s (judged s before) b).opened) ps) ≡ true
    → ChainStands (with_parts k (begun_of s (judged s before) b).opened ps) (judged s (Begin b ∷ before)) replies × StopsFit ps (judged s (Begin b ∷ before))
chain_starts s k b before replies ps ok shaped whole makes goes passes st none guard =
    let a = and_true (may_all_come before) (may_come before (Begin b)) ok in
    let first = first_instance s b before ok shaped whole makes goes passes in
    let accepted : IsAccepted (Begin b ∷ before) (judged s (Begin b ∷ before)) = accepted_judged s (Begin b ∷ before) ok shaped in
    let no_other : list_any makes_instance before ≡ false = no_earlier (makes_instance (Begin b)) (list_any makes_instance before) makes (or_left (makes_instance (Begin b) && list_any makes_instance before) (breaks_in before (Begin b)) (no_break before b a.1)) in (
      start_stands k (judged s (Begin b ∷ before)) replies (begun_of s (judged s before) b).opened ps st none first.0 first.1 accepted.knowing.seen (λ j. seen_births j (judged s (Begin b ∷ before)) (accepted.knowing.unreached j)) guard,
      begin_low s before b no_other whole.1 ps (quiet_fits s before no_other whole.1 ps),
    )

-- ---- the chain stays

others_left : (s : Setup) (past : Past) (t : ℕ) → AllByRecursion (λ x. same_command x.cmd cmd.CreateInstance ≡ false) (open_calls past) → AllByRecursion (λ x. same_command x.cmd cmd.CreateInstance ≡ false) (open_calls (judge s past (Return t)))
others_left s past t others = go (find (is_of t) (open_calls past))
  where
    go : (f : Option Opened) → AllByRecursion (λ x. same_command x.cmd cmd.CreateInstance ≡ false) (open_calls (returned_by s past f))
    go None = others
    go (Some o) = all_filter (λ x. same_command x.cmd cmd.CreateInstance ≡ false) (λ x. not (is_of o.thread x)) (open_calls past) others

-- no creation is open in any accepted trace whose last event doesn't begin one
pub others_judged : (s : Setup) (events : List TraceEvent) → may_all_come events ≡ true → last_begins events ≡ false → AllByRecursion (λ x. same_command x.cmd cmd.CreateInstance ≡ false) (open_calls (judged s events))
others_judged s [] ok last = tt
others_judged s (Begin b ∷ before) ok last =
    let a = and_true (may_all_come before) (may_come before (Begin b)) ok in
    all_append (λ x. same_command x.cmd cmd.CreateInstance ≡ false) (open_calls (judged s before)) ((begun_of s (judged s before) b).opened ∷ []) (others_judged s before a.0 (after_no_begin before b a.1)) (last, tt)
others_judged s (Return t ∷ []) ok last = tt
others_judged s (Return t ∷ Return u ∷ before) ok last =
    let a = and_true (may_all_come (Return u ∷ before)) (may_come (Return u ∷ before) (Return t)) ok in others_left s (judged s (Return u ∷ before)) t (others_judged s (Return u ∷ before) a.0 refl)
others_judged s (Return t ∷ Begin b ∷ before) ok last =
    let a = and_true (may_all_come (Begin b ∷ before)) (may_come (Begin b ∷ before) (Return t)) ok in
    let c = and_true (may_all_come before) (may_come before (Begin b)) a.0 in
    by_last (same_command b.cmd cmd.CreateInstance) refl (or_right (makes_instance (Return t) && list_any makes_instance (Begin b ∷ before)) (breaks_in (Begin b ∷ before) (Return t)) (no_break_return (Begin b ∷ before) t a.1))
    (λ e. others_judged s (Begin b ∷ before) a.0 e) (others_judged s before c.0 (after_no_begin before b c.1)) ((begins_idle s (Begin b ∷ before) a.0).0)
  where
    and_not : (x y : Bool) → x ≡ true → (x && not y) ≡ false → y ≡ true
    and_not true true e h = refl
    and_not true false e h = cc h
    and_not false y e h = cc e

    by_last : (u : Bool) → same_command b.cmd cmd.CreateInstance ≡ u → (same_command b.cmd cmd.CreateInstance && not (b.thread == t)) ≡ false
        → (same_command b.cmd cmd.CreateInstance ≡ false → AllByRecursion (λ x. same_command x.cmd cmd.CreateInstance ≡ false) (open_calls (judged s (Begin b ∷ before))))
        → AllByRecursion (λ x. same_command x.cmd cmd.CreateInstance ≡ false) (open_calls (judged s before)) → find (is_of b.thread) (open_calls (judged s before)) ≡ None
        → AllByRecursion (λ x. same_command x.cmd cmd.CreateInstance ≡ false) (open_calls (judged s (Return t ∷ Begin b ∷ before)))
    by_last false e broken now earlier idle = others_left s (judged s (Begin b ∷ before)) t (now e)
    by_last true e broken now earlier idle =
        let same_t : b.thread ≡ t = eqb-true b.thread t (and_not (same_command b.cmd cmd.CreateInstance) (b.thread == t) e broken) in
        let found : find (is_of t) (open_calls (judged s before) ++ (begun_of s (judged s before) b).opened ∷ []) ≡ Some (begun_of s (judged s before) b).opened =
        find_last (is_of t) (open_calls (judged s before)) (begun_of s (judged s before) b).opened (ap (λ (n : ℕ). find (is_of n) (open_calls (judged s before))) (sym same_t) ∙ idle) (eq-eqb b.thread t same_t) in
        subst (λ f. AllByRecursion (λ x. same_command x.cmd cmd.CreateInstance ≡ false) (open_calls (returned_by s (judged s (Begin b ∷ before)) f))) (sym found)
        (filter_last (λ x. same_command x.cmd cmd.CreateInstance ≡ false) (λ x. not (is_of b.thread x)) (open_calls (judged s before)) (begun_of s (judged s before) b).opened earlier (ap not (eq-eqb b.thread b.thread refl)))
