-- A call on a device that isn't skipped goes to one driver.
use Rattle.std.proofs.Common.{◌≡◌, ◌==◌, ◌+◌, ℕ, Bool, true, false, not, cond, ◌||◌, Option, Some, None, List, [], ◌∷◌, ◌++◌, map, length, refl, sym, ◌∙◌, ap, subst, rules}
use Rattle.std.proofs.lemmas.List.{length-map}
use Rattle.std.specs.Prelude.{IsSome, is_some}
use Rattle.std.specs.List.{AllByRecursion, range_with_len}
use Rattle.std.specs.Option.{option_map_or}
use Rattle.command_tables.specs.Calls.{CallContent}
use Rattle.command_tables.specs.Table.{ParamSpec, row_of}
use Rattle.command_tables.specs.Tests.{same_type}
use Rattle.command_tables.specs.declared.types.CommandId.{CommandId}
use Rattle.command_tables.specs.declared.types.ObjectType.TheVariants as ty
use Rattle.command_tables.specs.declared.types.Rule.TheVariants as rule
use Rattle.stream_log.specs.declared.line.Line.{Line}
use Rattle.trace_format.specs.Content.{Arg, BeginEvent, TraceEvent, Begin}
use Rattle.trace_format.specs.Grammar.{FitParams, HasFirst, HasForm, IsBegin}
use Rattle.trace_format.specs.declared.event.Name.{Name}
use Rattle.object_model.specs.declared.Argument.TheVariants.{The, Unborn}
use Rattle.object_model.specs.declared.Object.{Object}
use Rattle.object_model.specs.declared.Routed.{Routed}
use Rattle.object_model.specs.Findings.{Findings, at_place, is_failing}
use Rattle.object_model.specs.History.{alive}
use Rattle.object_model.specs.Objects.{first_in, object_of}
use Rattle.object_model.specs.Routes.{driver_in, receivers}
use Rattle.object_model.specs.Rules.{Failure, failure, loader_failures, parameter_holds, unless}
use Rattle.replay_model.specs.declared.Named.{Named}
use Rattle.replay_model.specs.ChainPlaces.{findings, parts_checked, parts_in_force}
use Rattle.replay_model.specs.Direct.{driver_call, driver_calls, valued}
use Rattle.replay_model.specs.Judged.{begun_of, judged}
use Rattle.replay_model.specs.Past.{Opened, Past, argument_in, arguments_in, call_of, history, is_skipped, named, object_in, routed}
use Rattle.replay_model.specs.Setup.{Setup}
use Rattle.lifetime_layer.specs.declared.verdict.Verdict.{Verdict}
use Rattle.layer_model.specs.Terminator.{told_call}
use Rattle.layer_model.proofs.Same.{and_true}
use Rattle.chain_model.specs.Gaps.{IsGapped, may_all_come, may_come}
use Rattle.chain_model.proofs.Accepted.{IsAccepted, accepted_judged, args_typed}
use Rattle.chain_model.proofs.Answering.{is_nothing, or_parts}
use Rattle.chain_model.proofs.Coming.{begins_well}
use Rattle.chain_model.proofs.Grammar.{fit_length, shaped}
use Rattle.chain_model.proofs.Passing.{AreTyped, HasType}
use Rattle.chain_model.proofs.Simulating.{found_all}
use Rattle.dispatch_chain.specs.Holding.{HeldCalls}
use Rattle.terminator.specs.Calls.{drivers_for}
use Rattle.stream_model.specs.FileParts.{StreamPart}
use Rattle.stream_model.specs.Order.{is_on_no_device}
use Rattle.session_parts.specs.declared.parts.SessionParts.{SessionParts}
use Rattle.session_parts.specs.Entering.{Enters}
use Rattle.shard_model.specs.Followed.{Follows, begins_in, events_of, next_event}
use Rattle.shard_model.specs.Replays.{IsOnInstance, IsReplay, IsReplayOf, NoneOf, OpenStep, Start, Tells, told_by}
use Rattle.shard_start.specs.Starting.{CanStart, IsOnDevice}
use Rattle.shard_start.proofs.Begins.{begin_trace, flip, on_instance}

-- ---- the table

-- the first parameter takes no list
abbrev first_single : List ParamSpec → Bool
first_single [] = false
first_single (p ∷ ps) = not p.many

abbrev takes_single : CommandId → Bool
takes_single c = is_on_no_device (row_of c).params || first_single (row_of c).params

single_in_row : (c : CommandId) → takes_single c ≡ true
unfolding row_of same_type
single_in_row c = search rules

-- ---- the first argument

-- of a name that the loader lets pass, and whose object has its parameter's type
named_one : (living : Object → Bool) (drivers : ℕ) (routes : List Routed) (p : ParamSpec) (m : Option Object) → same_type p.ty ty.Instance ≡ false → HasType p.ty (option_map_or The m Unborn)
    → is_failing (unless (parameter_holds living p (option_map_or The m Unborn)) (failure 0 0 rule.Parameter 0)) ≡ false → length (receivers drivers routes (object_of (option_map_or The m Unborn))) ≡ 1
named_one living drivers routes p None other typed passes = cc passes
named_one living drivers routes p (Some x) other typed passes = ap (λ (u : Bool). length (cond u (range_with_len 0 drivers) (driver_in routes x ∷ []))) (ap (λ t. same_type t ty.Instance) typed ∙ other)

passes_one : (living : Object → Bool) (names : List Named) (drivers : ℕ) (routes : List Routed) (ps : List ParamSpec) (args : List Arg) → is_on_no_device ps ≡ false → first_single ps ≡ true → FitParams ps args → HasFirst args
    → AreTyped ps (arguments_in names args) → is_failing (loader_failures living ps (arguments_in names args)) ≡ false → length (receivers drivers routes (first_in (arguments_in names args) 0)) ≡ 1
passes_one living names drivers routes [] args on single fit first typed passes = cc on
passes_one living names drivers routes (p ∷ ps) [] on single fit first typed passes = absurd fit
passes_one living names drivers routes (p ∷ ps) (a ∷ args) on single fit first typed passes =
    go a.names (form p.many (flip p.many single) fit.0).1 (or_parts (same_type p.ty ty.Instance) (same_type p.ty ty.PhysicalDevice) on).0 first typed.0 passes
  where
    form : (u : Bool) → u ≡ false → HasForm u a → HasForm false a
    form u e h = subst (λ v. HasForm v a) e h

    go : (ns : List (Option Name)) → (length ns == 1) ≡ true → same_type p.ty ty.Instance ≡ false → AllByRecursion (λ n. IsSome n) ns → AllByRecursion (HasType p.ty) (map (argument_in names) ns)
        → is_failing (loader_failures living (p ∷ ps) (map (argument_in names) ns ∷ arguments_in names args)) ≡ false → length (receivers drivers routes (first_in (map (argument_in names) ns ∷ arguments_in names args) 0)) ≡ 1
    go [] one other there all let_pass = cc one
    go (None ∷ ns) one other there all let_pass = let bad : false ≡ true = there.0 in cc bad
    go (Some n ∷ ns) one other there all let_pass = named_one living drivers routes p (object_in names n) other all.0 let_pass

-- ---- a begin

-- the loader found nothing at a call that nothing stops
let_pass : (u : Bool) (fs : List Failure) (w : Findings) → (cond u (record { reports = at_place 0 fs; stop = Some 0 }) w).stop ≡ None → u ≡ false
let_pass true fs w e = cc e
let_pass false fs w e = refl

begun_one : (s : Setup) (past : Past) (b : BeginEvent) → IsOnDevice (Begin b) → IsBegin b → AreTyped (row_of b.cmd).params (arguments_in (named past) b.args) → is_skipped (begun_of s past b).opened ≡ false
    → length (begun_of s past b).opened.drivers ≡ 1
begun_one s past b on is typed sent_on =
    let o : Opened = (begun_of s past b).opened in
    let parts = or_parts o.refused (is_some o.stop) sent_on in
    let stopless : o.stop ≡ None = is_nothing o.stop parts.1 in
    let fs : List Failure = loader_failures (alive (history past)) (row_of b.cmd).params (arguments_in (named past) b.args) in
    let below = findings (parts_checked past (call_of o) 1 (parts_in_force s past)) in
    let passes : is_failing fs ≡ false = let_pass (is_failing fs) fs below (ap (λ (f : Findings). f.stop) (sym (found_all past (call_of o) (parts_checked past (call_of o) 1 (parts_in_force s past)))) ∙ stopless) in
    let single : first_single (row_of b.cmd).params ≡ true = sym (ap (λ u. u || first_single (row_of b.cmd).params) on) ∙ single_in_row b.cmd in
    ap (λ u. length (cond u [] (receivers s.drivers (routed past) (first_in (arguments_in (named past) b.args) 0)))) sent_on
    ∙ passes_one (alive (history past)) (named past) s.drivers (routed past) (row_of b.cmd).params b.args on single is.args is.first typed passes

-- the names of a begin that may come stand for objects of their parameters' types
typed_args : (s : Setup) (events : List TraceEvent) (b : BeginEvent) → IsGapped (Begin b ∷ events) → AreTyped (row_of b.cmd).params (arguments_in (named (judged s events)) b.args)
typed_args s events b trace =
    let a = and_true (may_all_come events) (may_come events (Begin b)) trace.each in
    let accepted : IsAccepted events (judged s events) = accepted_judged s events a.0 (shaped events trace.grammar.1) in
    args_typed events (named (judged s events)) accepted.named_typed (row_of b.cmd).params b.args (fit_length (row_of b.cmd).params b.args trace.grammar.0.args) (begins_well events b a.1).0

-- ---- a begin of a log

-- what a begin tells is what its trace says
abbrev pub TellsAsTraced : Type 0
TellsAsTraced =
    (start : Start) (streams : List StreamPart) (entries : List Line) (x y : SessionParts) (opens : List OpenStep) (b : BeginEvent) (call : CallContent) (held : HeldCalls) (verdict : Verdict) → IsReplay start streams entries x opens
    → Follows streams entries → next_event streams b.thread entries ≡ Some (Begin b) → IsOnInstance b → NoneOf b.thread opens → Enters x (start.calls + begins_in entries + 1) b call held verdict y
    → Tells start streams entries b verdict.skip (told_by y call verdict.skip)

pub one_so : TellsAsTraced → (start : Start) (streams : List StreamPart) (entries : List Line) (x y : SessionParts) (opens : List OpenStep) (b : BeginEvent) (call : CallContent) (held : HeldCalls) (verdict : Verdict)
    → CanStart start streams → IsReplay start streams entries x opens → Follows streams entries → next_event streams b.thread entries ≡ Some (Begin b) → NoneOf b.thread opens → IsOnDevice (Begin b)
    → Enters x (start.calls + begins_in entries + 1) b call held verdict y → verdict.skip ≡ false → length (drivers_for y.terminator call) ≡ 1
one_so law start streams entries x y opens b call held verdict can replay follows next none on enters sent_on =
    let so_far : List TraceEvent = events_of streams entries ++ can.events in
    let past : Past = judged can.setup so_far in
    let o : Opened = (begun_of can.setup past b).opened in
    let trace : IsGapped (Begin b ∷ so_far) = begin_trace start streams entries b can follows next in
    let old : IsReplayOf can.setup can.events can.replies streams entries x opens = replay can.setup can.events can.replies can.stands (can.goes_on entries follows) in
    let tells : Tells start streams entries b verdict.skip (told_by y call verdict.skip) = law start streams entries x y opens b call held verdict replay follows next (on_instance b on) none enters in
    let goes : is_skipped o ≡ false = sym (tells.skipped can.setup can.events can.replies can.stands trace) ∙ sent_on in
    let told : driver_calls (valued past old.some) o ≡ told_by y call verdict.skip = tells.calls can.setup can.events can.replies old.some can.stands trace old.some_are in
    let one : length o.drivers ≡ 1 = begun_one can.setup past b on trace.grammar.0 (typed_args can.setup so_far b trace) goes in
    sym (length-map (drivers_for y.terminator call) (told_call y.terminator.ids call))
    ∙ (ap (λ (u : Bool). length (told_by y call u)) (sym sent_on) ∙ (ap length (sym told) ∙ (length-map o.drivers (driver_call (valued past old.some) o) ∙ one)))
