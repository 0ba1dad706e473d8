-- The driver calls of the events less their skipped calls, judged with no layers, are those of the unskipped calls.
use Rattle.std.proofs.Common.{◌≡◌, ◌+◌, ℕ, Bool, true, false, not, cond, ◌&&◌, ◌||◌, Option, Some, None, List, [], ◌∷◌, refl, sym, ◌∙◌, ap, subst}
use Rattle.std.specs.Prelude.{find, is_some, if◌then◌else◌}
use Rattle.std.proofs.Math.Path.{fun_ext}
use Rattle.std.proofs.Math.Bool.{and-false}
use Rattle.command_tables.specs.Effects.{succeeds}
use Rattle.command_tables.specs.declared.types.CommandId.TheVariants as cmd
use Rattle.command_tables.specs.Table.{row_of}
use Rattle.command_tables.specs.Tests.{same_command}
use Rattle.trace_format.specs.Content.{BeginEvent, TraceEvent, Begin, Return}
use Rattle.object_model.specs.declared.Argument.{Argument}
use Rattle.object_model.specs.Objects.{first_in}
use Rattle.object_model.specs.History.{Call, alive}
use Rattle.object_model.specs.Rules.{Failure, loader_failures}
use Rattle.replay_model.specs.Setup.{Setup}
use Rattle.replay_model.specs.Past.{Opened, Began, Returned, Past, is_skipped, is_of, open_calls, calls_in, named, arguments_in, history, routed}
use Rattle.replay_model.specs.ChainPlaces.{parts_in_force, Checked, parts_checked, checked, findings}
use Rattle.replay_model.specs.Judged.{is_refused, begun_of, made_of, returned_by, judge, judged}
use Rattle.object_model.specs.Routes.{receivers}
use Rattle.replay_model.specs.Less.{less, no_layers}
use Rattle.replay_model.proofs.Accepted.{BeginsIdle}
use Rattle.replay_model.proofs.OpenCalls.{OneEach, one-append, one-filter, not_of, found_thread}
use Rattle.replay_model.proofs.Alike.{numbered, Alike, begun-sent, begun-skipped, returned-skipped, returned-sent, same_made, open-sent}

-- without layers no part is in force
pub no_parts : (s : Setup) (past : Past) → parts_in_force (no_layers s) past ≡ []
no_parts s [] = refl
no_parts s (Began e o r ∷ past) = no_parts s past
no_parts s (Returned o made ∷ past) =
    elim (same_command o.cmd cmd.CreateInstance && (not (is_skipped o) && succeeds o.cmd o.code)) as (λ t. cond t [] (parts_in_force (no_layers s) past) ≡ []) [ true ↦ refl | false ↦ no_parts s past ]

-- each thread has at most one open call
one_each : (s : Setup) (events : List TraceEvent) → BeginsIdle s events → OneEach (open_calls (judged s events))
one_each s [] idle = tt
one_each s (Begin e ∷ before) idle = one-append (open_calls (judged s before)) (begun_of s (judged s before) e).opened (one_each s before idle.1) idle.0
one_each s (Return t ∷ before) idle = go (find (is_of t) (open_calls (judged s before))) (one_each s before idle)
  where
    go : (c : Option Opened) → OneEach (open_calls (judged s before)) → OneEach (open_calls (returned_by s (judged s before) c))
    go None one = one
    go (Some o) one = one-filter (not_of o.thread) (open_calls (judged s before)) one

-- ---- a begin

-- a begin's record by its arguments, the place that stops it, whether it is refused, and its drivers
abbrev opened_with : ℕ → BeginEvent → List (List Argument) → Option ℕ → Bool → List ℕ → Opened
opened_with n e args stop refused drivers = record { number = n; thread = e.thread; cmd = e.cmd; args = args; results = e.results; code = e.code; payload = e.payload; stop = stop; refused = refused; drivers = drivers }

-- where nothing stops it, it goes to its drivers
goes : (n : ℕ) (e : BeginEvent) (args : List (List Argument)) (stop : Option ℕ) (refused : Bool) (drivers : List ℕ) → refused || is_some stop ≡ false
    → opened_with n e args stop refused (if refused || is_some stop then [] else drivers) ≡ opened_with n e args None false drivers
goes n e args None false drivers u = refl
goes n e args (Some k) false drivers u = cc
goes n e args stop true drivers u = cc

-- where something does, to none
stays : (stop : Option ℕ) (refused : Bool) (drivers : List ℕ) → refused || is_some stop ≡ true → (if refused || is_some stop then [] else drivers) ≡ []
stays stop refused drivers u = rw u refl

-- where no place stops a call, the loader alone doesn't
loader_alone : (fs : List Failure) (below : List Checked)
    → (findings (record { place = 0; skips = true; failures = fs } ∷ below)).stop ≡ None → (findings (record { place = 0; skips = true; failures = fs } ∷ [])).stop ≡ None
loader_alone [] below n = refl
loader_alone (f ∷ fs) below n = cc

stop_of : (x r : Bool) → r || x ≡ false → x ≡ false
stop_of x true u = cc
stop_of x false u = u

none_of : (stop : Option ℕ) → is_some stop ≡ false → stop ≡ None
none_of None u = refl
none_of (Some k) u = cc

module _ (s : Setup) (past fresh : Past) (a : Alike past fresh) (e : BeginEvent) where
  abbrev args : List (List Argument)
  args = arguments_in (named past) e.args

  abbrev call : ℕ → Call
  call n = record { number = n; thread = e.thread; cmd = e.cmd; args = args }

  -- no place stops it
  unstopped : is_skipped (begun_of s past e).opened ≡ false → (findings (checked s past (call (calls_in past + 1)))).stop ≡ None
  unstopped u = none_of (findings (checked s past (call (calls_in past + 1)))).stop (stop_of (is_some (findings (checked s past (call (calls_in past + 1)))).stop) (is_refused s e.cmd e.payload) u)

  -- nor without layers
  unstopped_alone : is_skipped (begun_of s past e).opened ≡ false → (n : ℕ) → (findings (checked (no_layers s) fresh (call n))).stop ≡ None
  unstopped_alone u n =
      rw (no_parts s fresh) (
      let alone = loader_alone (loader_failures (alive (history past)) (row_of e.cmd).params args) (parts_checked past (call (calls_in past + 1)) 1 (parts_in_force s past)) (unstopped u) in
      ap (λ l. (findings (record { place = 0; skips = true; failures = loader_failures l (row_of e.cmd).params args } ∷ [])).stop) (fun_ext a.living) ∙ alone
      )

  abbrev fresh_call : List (List Argument) → Call
  fresh_call ar = record { number = calls_in fresh + 1; thread = e.thread; cmd = e.cmd; args = ar }

  fresh_goes : is_skipped (begun_of s past e).opened ≡ false → is_skipped (begun_of (no_layers s) fresh e).opened ≡ false
  fresh_goes u =
      let none : (findings (checked (no_layers s) fresh (fresh_call (arguments_in (named fresh) e.args)))).stop ≡ None =
      subst (λ ns. (findings (checked (no_layers s) fresh (fresh_call (arguments_in ns e.args)))).stop ≡ None) (sym a.names) (unstopped_alone u (calls_in fresh + 1)) in
      ap (λ t. (same_command e.cmd cmd.CreateInstance && false) || is_some t) none ∙ ap (λ t. t || false) (and-false (same_command e.cmd cmd.CreateInstance))

  -- it begins alike but for its number
  begun-alike : is_skipped (begun_of s past e).opened ≡ false → (begun_of (no_layers s) fresh e).opened ≡ numbered (calls_in fresh + 1) (begun_of s past e).opened
  begun-alike u =
      let n = calls_in fresh + 1 in
      let ours = goes n e args (findings (checked s past (call (calls_in past + 1)))).stop (is_refused s e.cmd e.payload) (receivers s.drivers (routed past) (first_in args 0)) u in
      let theirs = goes n e (arguments_in (named fresh) e.args) (findings (checked (no_layers s) fresh (fresh_call (arguments_in (named fresh) e.args)))).stop (is_refused (no_layers s) e.cmd e.payload)
      (receivers s.drivers (routed fresh) (first_in (arguments_in (named fresh) e.args) 0)) (fresh_goes u) in
      theirs ∙ (ap (λ ns. opened_with n e (arguments_in ns e.args) None false (receivers s.drivers (routed fresh) (first_in (arguments_in ns e.args) 0))) a.names
      ∙ (ap (λ rs. opened_with n e args None false (receivers s.drivers rs (first_in args 0))) a.routes ∙ sym ours))

-- ---- all events

-- nothing is made of a skipped call
nothing_made : (s : Setup) (past : Past) (o : Opened) → is_skipped o ≡ true → made_of s past o ≡ []
nothing_made s past o u = rw u refl

-- one begin more
begin-alike : (s : Setup) (past : Past) (e : BeginEvent) → Alike past (judged (no_layers s) (less past)) → (t : Bool) → is_skipped (begun_of s past e).opened ≡ t
    → Alike (judge s past (Begin e)) (judged (no_layers s) (cond t (less past) (Begin e ∷ less past)))
begin-alike s past e a true u =
    begun-skipped past (judged (no_layers s) (less past)) a e (begun_of s past e).opened (begun_of s past e).reports u
    (stays (findings (checked s past (record { number = calls_in past + 1; thread = e.thread; cmd = e.cmd; args = arguments_in (named past) e.args }))).stop (is_refused s e.cmd e.payload)
    (receivers s.drivers (routed past) (first_in (arguments_in (named past) e.args) 0)) u)
begin-alike s past e a false u =
    let fresh = judged (no_layers s) (less past) in
    subst (λ o. Alike (judge s past (Begin e)) (Began e o (begun_of (no_layers s) fresh e).reports ∷ fresh)) (sym (begun-alike s past fresh a e u))
    (begun-sent past fresh a (calls_in fresh + 1) e (begun_of s past e).opened (begun_of s past e).reports (begun_of (no_layers s) fresh e).reports u)

-- one return more of an open call
return-alike : (s : Setup) (past : Past) (o : Opened) → OneEach (open_calls past) → Alike past (judged (no_layers s) (less past)) → find (is_of o.thread) (open_calls past) ≡ Some o
    → (t : Bool) → is_skipped o ≡ t → Alike (Returned o (made_of s past o) ∷ past) (judged (no_layers s) (cond t (less past) (Return o.thread ∷ less past)))
return-alike s past o one a f true u = rw (nothing_made s past o u) (returned-skipped past (judged (no_layers s) (less past)) a o one f u)
return-alike s past o one a f false u =
    let fresh = judged (no_layers s) (less past) in
    let there = open-sent past fresh a o f u in
    let made = same_made past fresh a s.drivers there.n o in
    subst (λ c. Alike (Returned o (made_of s past o) ∷ past) (returned_by (no_layers s) fresh c)) (sym there.found)
    (subst (λ m. Alike (Returned o (made_of s past o) ∷ past) (Returned (numbered there.n o) m ∷ fresh)) (sym made) (returned-sent past fresh a there.n o (made_of s past o) f u))

-- the past and that of its events less the skipped calls are alike
pub less-alike : (s : Setup) (events : List TraceEvent) → BeginsIdle s events → Alike (judged s events) (judged (no_layers s) (less (judged s events)))
less-alike s [] idle = record {
  names = refl;
  born = refl;
  living = λ x. refl;
  kept = refl;
  routes = refl;
  opens = λ replies. refl;
  values = λ replies. refl;
  calls = λ replies. refl;
  told = λ replies. refl;
  skipped = refl;
}
less-alike s (Begin e ∷ before) idle =
    begin-alike s (judged s before) e (less-alike s before idle.1) (is_skipped (begun_of s (judged s before) e).opened) refl
less-alike s (Return t ∷ before) idle = go (find (is_of t) (open_calls (judged s before))) refl (less-alike s before idle) (one_each s before idle)
  where
    go : (c : Option Opened) → find (is_of t) (open_calls (judged s before)) ≡ c → Alike (judged s before) (judged (no_layers s) (less (judged s before))) → OneEach (open_calls (judged s before))
        → Alike (returned_by s (judged s before) c) (judged (no_layers s) (less (returned_by s (judged s before) c)))
    go None e a one = a
    go (Some o) e a one =
        let k : o.thread ≡ t = found_thread t (open_calls (judged s before)) o e in
        let f : find (is_of o.thread) (open_calls (judged s before)) ≡ Some o = subst (λ x. find (is_of x) (open_calls (judged s before)) ≡ Some o) (sym k) e in
        return-alike s (judged s before) o one a f (is_skipped o) refl
