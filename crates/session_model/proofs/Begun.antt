-- A begin by what is kept is the begin of the trace.
use Rattle.std.proofs.Common.{◌≡◌, ℕ, ◌+◌, Bool, true, false, cond, ◌||◌, None, List, [], ◌∷◌, ◌++◌, map, length, refl, sym, ◌∙◌, ap}
use Rattle.std.proofs.lemmas.List.{length-map}
use Rattle.std.specs.Prelude.{is_some}
use Rattle.std.specs.List.{flat_map}
use Rattle.command_tables.specs.Calls.{DriverCallContent, ReplyContent}
use Rattle.command_tables.specs.Table.{row_of}
use Rattle.trace_format.specs.Content.{BeginEvent, TraceEvent, Begin}
use Rattle.object_model.specs.declared.Object.{Object}
use Rattle.object_model.specs.declared.Argument.{Argument}
use Rattle.object_model.specs.Findings.{Findings}
use Rattle.object_model.specs.History.{alive}
use Rattle.object_model.specs.Objects.{first_in}
use Rattle.object_model.specs.Routes.{receivers}
use Rattle.object_model.specs.Rules.{loader_failures}
use Rattle.replay_model.specs.Setup.{Setup}
use Rattle.replay_model.specs.Past.{Opened, Past, arguments_in, call_of, calls_in, history, named, routed}
use Rattle.replay_model.specs.ChainPlaces.{checked, findings}
use Rattle.replay_model.specs.Judged.{Begun, begun_of, is_refused, judged}
use Rattle.replay_model.specs.Direct.{driver_call, driver_calls, sends_at, valued}
use Rattle.replay_model.specs.Text.{chain_text, lines_at, report_text}
use Rattle.layer_model.specs.Routes.{drivers_at}
use Rattle.layer_model.specs.Terminator.{told_call}
use Rattle.layer_model.specs.Walks.{Walked, nothing_found}
use Rattle.chain_model.specs.Gaps.{IsGapped}
use Rattle.chain_model.specs.Simulated.{found_by, walk_of}
use Rattle.chain_model.specs.Traces.{GoesDown, loader_finds}
use Rattle.chain_model.proofs.Answering.{is_nothing, or_parts}
use Rattle.chain_model.proofs.Tracing.{goes_down}
use Rattle.session_model.specs.Session.{SessionKept}
use Rattle.session_model.specs.Beginning.{begin_lines, begun_kept, calls_told, drivers_kept, findings_kept, loader_kept, walk_kept}
use Rattle.session_model.specs.Stands.{Stands}
use Rattle.session_model.proofs.Named.{arguments_alike}

-- what is chosen where a call isn't skipped
either : (t : Bool) (to there : List ℕ) → (t ≡ false → cond t [] there ≡ to) → cond t [] to ≡ cond t [] there
either true to there same = refl
either false to there same = sym (same refl)

told_alike : (t : Bool) (there : List ℕ) (f g : ℕ → DriverCallContent) → (t ≡ false → (d : ℕ) → f d ≡ g d) → map f (cond t [] there) ≡ map g (cond t [] there)
told_alike true there f g same = refl
told_alike false there f g same = ap (λ (h : ℕ → DriverCallContent). map h there) (λ i d. same refl d i)

module _ (s : Setup) (k : SessionKept) (events : List TraceEvent) (e : BeginEvent) (replies : List ReplyContent) (trace : IsGapped (Begin e ∷ events)) (st : Stands s k events replies) where
  abbrev past : Past
  past = judged s events

  abbrev o : Opened
  o = (begun_of s (judged s events) e).opened

  down : GoesDown s k.chain events e replies replies o
  down = goes_down s k.chain events e replies replies trace st.simulates

  args_are : arguments_in k.names e.args ≡ arguments_in (named past) e.args
  args_are = arguments_alike k.names (named past) st.names e.args

  abbrev walk_with : ℕ → List (List Argument) → Walked
  walk_with n args =
      walk_of k.chain (record { number = n + 1; thread = e.thread; cmd = e.cmd; args = args; results = e.results; code = e.code; payload = e.payload; stop = None; refused = false; drivers = [] })

  pub walk_is : walk_kept k e ≡ walk_of k.chain (begun_of s (judged s events) e).opened
  walk_is = ap (λ n. walk_with n (arguments_in k.names e.args)) st.calls ∙ ap (λ args. walk_with (calls_in past) args) args_are

  pub loader_is : loader_kept k e ≡ loader_finds (judged s events) (begun_of s (judged s events) e).opened
  loader_is =
      ap (λ (f : Object → Bool). loader_failures f (row_of e.cmd).params (arguments_in k.names e.args)) (λ i x. st.living.lives x i)
      ∙ ap (λ args. loader_failures (alive (history past)) (row_of e.cmd).params args) args_are

  found_is : findings_kept s k e ≡ findings (checked s past (call_of o))
  found_is = go (is_refused s e.cmd e.payload) refl
    where
      go : (u : Bool) → is_refused s e.cmd e.payload ≡ u → cond u nothing_found (found_by (loader_kept k e) (walk_kept k e).found) ≡ findings (checked s past (call_of o))
      go true refused = sym (down.refused refused)
      go false goes =
          ap (λ fs. found_by fs (walk_kept k e).found) loader_is ∙ (ap (λ (w : Walked). found_by (loader_finds past o) w.found) walk_is ∙ sym down.found)

  pub drivers_is : drivers_kept s k e ≡ (begun_of s (judged s events) e).opened.drivers
  drivers_is =
      ap (λ (f : Findings). cond (is_refused s e.cmd e.payload || is_some f.stop) [] (drivers_at s.drivers k.chain.routes (walk_kept k e).bottom)) found_is
      ∙ (ap (λ (w : Walked). cond (o.refused || is_some o.stop) [] (drivers_at s.drivers k.chain.routes w.bottom)) walk_is
      ∙ either (o.refused || is_some o.stop) (drivers_at s.drivers k.chain.routes (walk_of k.chain o).bottom) (receivers s.drivers (routed past) (first_in o.args 0))
      (λ goes. let parts = or_parts o.refused (is_some o.stop) goes in down.drivers parts.0 (is_nothing o.stop parts.1)))

  abbrev begun_with_all : ℕ → List (List Argument) → Findings → List ℕ → Begun
  begun_with_all n args found drivers =
      record {
        opened = record {
          number = n + 1;
          thread = e.thread;
          cmd = e.cmd;
          args = args;
          results = e.results;
          code = e.code;
          payload = e.payload;
          stop = found.stop;
          refused = is_refused s e.cmd e.payload;
          drivers = drivers;
        };
        reports = found.reports;
      }

  pub begun_is : begun_kept s k e ≡ begun_of s (judged s events) e
  begun_is =
      ap (λ n. begun_with_all n (arguments_in k.names e.args) (findings_kept s k e) (drivers_kept s k e)) st.calls
      ∙ (ap (λ args. begun_with_all (calls_in past) args (findings_kept s k e) (drivers_kept s k e)) args_are
      ∙ (ap (λ f. begun_with_all (calls_in past) (arguments_in (named past) e.args) f (drivers_kept s k e)) found_is ∙ ap (λ ds. begun_with_all (calls_in past) (arguments_in (named past) e.args) (findings (checked s past (call_of o))) ds) drivers_is))

  pub told_is : calls_told s k e ≡ driver_calls (valued (judged s events) replies) (begun_of s (judged s events) e).opened
  told_is =
      ap (λ (w : Walked). map (told_call k.chain.terminator w.bottom) (drivers_kept s k e)) walk_is
      ∙ (ap (λ ds. map (told_call k.chain.terminator (walk_of k.chain o).bottom) ds) drivers_is
      ∙ told_alike (o.refused || is_some o.stop) (receivers s.drivers (routed past) (first_in o.args 0)) (told_call k.chain.terminator (walk_of k.chain o).bottom) (driver_call (valued past replies) o)
      (λ goes d. let parts = or_parts o.refused (is_some o.stop) goes in down.told parts.0 (is_nothing o.stop parts.1) d))

  pub sends_is : length (calls_told s k e) ≡ sends_at s (judged s events) (Begin e)
  sends_is = ap (λ (cs : List DriverCallContent). length cs) told_is ∙ length-map o.drivers (driver_call (valued past replies) o)

  pub lines_are : begin_lines s k e ≡ lines_at s (judged s events) (Begin e)
  lines_are =
      ap (λ n. chain_text s e (n + 1) ++ flat_map (report_text e (n + 1)) (findings_kept s k e).reports) st.calls
      ∙ ap (λ (f : Findings). chain_text s e (calls_in past + 1) ++ flat_map (report_text e (calls_in past + 1)) f.reports) found_is
