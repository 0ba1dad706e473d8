use Rattle.std.proofs.Common.{◌≡◌, ◌∙◌, ◌<◌, ◌+◌, ◌||◌, ℕ, Bool, true, false, not, List, ◌∷◌, ap, drop, get_or, length, map, refl, sym, take}
use Rattle.std.specs.List.{list_any}
use Rattle.trace_format.specs.declared.event.Event.{Event}
use Rattle.trace_format.specs.Content.{TraceEvent, content}
use Rattle.chain_build.specs.Setup.{setup_content}
use Rattle.replay_model.specs.Stop.{exceeds_layers}
use Rattle.report_text.specs.Setups.{trace_setup}
use Rattle.event_replay.proofs.Lists.{any_behind, parted}
use Rattle.stream_replay.proofs.limits.is_within.Goals as goal

is_so : (u : Bool) → false ≡ not u → u ≡ true
is_so true e = refl
is_so false e = cc e

first_is : (u v : Bool) → u ≡ true → (u || v) ≡ true
first_is true v is = refl
first_is false v is = cc is

one_is : (f : TraceEvent → Bool) (es : List Event) (i : ℕ) (e : Event) → i < length es → e ≡ get_or es i e → f (content e) ≡ true → list_any f (map content es) ≡ true
one_is f es i e less at here =
    ap (list_any f) (parted content es i e less at) ∙ any_behind f (map content (take i es)) (content e ∷ map content (drop (i + 1) es)) (first_is (f (content e)) (list_any f (map content (drop (i + 1) es))) here)

pub returns-then-not-branch : goal.returns-then-not-branch
returns-then-not-branch c =
    let f = exceeds_layers (trace_setup (setup_content c.args.setup.now)) in
    let here = is_so (f (content c.event-item.result)) (sym c.if-not-branch.true ∙ c.in_ok-is_within_at.ensures) in
    sym (ap not (one_is f c.args.events.now c.loop-event.event-index c.event-item.result c.loop-event-test.true c.event-item.is here))
