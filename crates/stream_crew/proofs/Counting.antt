-- How many events and results plans have, and what a call has at most, by one more.
use Rattle.std.proofs.Common.{◌≡◌, ◌≤◌, ◌<◌, ◌+◌, ℕ, List, [], ◌∷◌, ◌++◌, length, map, take, get_or, ◌∙◌, ap, arith}
use Rattle.std.specs.Prelude.{Vec}
use Rattle.std.specs.List.{AllByRecursion, flat_map}
use Rattle.std.proofs.lemmas.Grind.{flat_map-append}
use Rattle.std.proofs.lemmas.List.{append-nil, length-append, length-map, take_all}
use Rattle.trace_format.specs.declared.event.Event.{Event}
use Rattle.trace_format.specs.declared.event.TraceArg.{TraceArg}
use Rattle.trace_format.specs.Content.{Arg, BeginEvent, TraceEvent, Begin, Return, arg_content, content}
use Rattle.stream_model.specs.FileParts.{StreamPart}
use Rattle.stream_model.specs.Plans.{DevicePlan}
use Rattle.shard_room.specs.Needs.{names_at, names_in}
use Rattle.shard_start.specs.Starting.{events_in}
use Rattle.device_shard.specs.Plans.{stream_planned}
use Rattle.device_shard.specs.Rooms.{names_of}
use Rattle.device_shard.proofs.Measured.{all_turned, mapped}
use Rattle.stream_crew.specs.declared.needs.Most.{Most}
use Rattle.stream_crew.specs.Needs.{AreBelow, IsBelow, IsBelowAt, IsMore, events_at}

-- ---- events

pub events_more : {A : Type 0} (xs : List (ℕ × Vec Event A)) (i : ℕ) (x : ℕ × Vec Event A) (count more : ℕ) → i < length xs → x ≡ get_or xs i x → count ≡ events_in (map stream_planned (take i xs)) → more ≡ length x.1.items
    → count + more ≡ events_in (map stream_planned (take (i + 1) xs))
events_more xs i x count more less is so_far here =
    let events : StreamPart → List TraceEvent = λ (s : StreamPart). s.events in
    let before : List StreamPart = map stream_planned (take i xs) in
    let all : length (map content x.1.items) ≡ length x.1.items = length-map x.1.items content in
    let step : events_in (map stream_planned (take (i + 1) xs)) ≡ events_in before + length (map content x.1.items) =
    ap events_in (mapped stream_planned xs i x less is)
    ∙ (ap (λ es. length es) (flat_map-append events before (stream_planned x ∷ []))
    ∙ (length-append (flat_map events before) (map content x.1.items ++ []) ∙ ap (λ es. length (flat_map events before) + length es) (append-nil (map content x.1.items)))) in
    omega (arith, step, so_far, here, all)

pub events_taken : {A : Type 0} (xs : List (ℕ × Vec Event A)) (i count : ℕ) → length xs ≤ i → count ≡ events_in (map stream_planned (take i xs)) → count ≡ events_in (map stream_planned xs)
events_taken xs i count far so_far = so_far ∙ ap (λ zs. events_in (map stream_planned zs)) (take_all i xs far)

-- ---- what a call has at most

pub more_self : (m : Most) → IsMore m m
more_self m = record { handles = omega arith; results = omega arith; bytes = omega arith }

pub more_on : (m n o : Most) → IsMore m n → IsMore n o → IsMore m o
more_on m n o a b = record { handles = omega (arith, a.handles, b.handles); results = omega (arith, a.results, b.results); bytes = omega (arith, a.bytes, b.bytes) }

begin_below : (m n : Most) (b : BeginEvent) → IsMore m n → IsBelow m b → IsBelow n b
begin_below m n b more is = record { params = is.params; handles = omega (arith, is.handles, more.handles); results = omega (arith, is.results, more.results); bytes = omega (arith, is.bytes, more.bytes) }

event_below : (m n : Most) (e : TraceEvent) → IsMore m n → IsBelowAt m e → IsBelowAt n e
event_below m n (Begin b) more is = begin_below m n b more is
event_below m n (Return thread) more is = tt

pub events_below : (m n : Most) (events : List TraceEvent) → IsMore m n → AllByRecursion (IsBelowAt m) events → AllByRecursion (IsBelowAt n) events
events_below m n events more all = all_turned (IsBelowAt m) (IsBelowAt n) events (λ e is. event_below m n e more is) all

pub plans_below : (m n : Most) (number : ℕ) (plans : List DevicePlan) → IsMore m n → AreBelow m number plans → AreBelow n number plans
plans_below m n number plans more all =
    all_turned (λ (p : DevicePlan). AllByRecursion (IsBelowAt m) (events_at number p)) (λ (p : DevicePlan). AllByRecursion (IsBelowAt n) (events_at number p)) plans (λ p is. events_below m n (events_at number p) more is) all

pub is_below : (m : Most) (b : BeginEvent) (args : List TraceArg) (names : ℕ) → b.args ≡ map arg_content args → length args ≤ 6 → names ≡ names_in (names_of args) → names ≤ m.handles → length b.results ≤ m.results → length b.payload ≤ m.bytes → IsBelow m b
is_below m b args names are few count fits results bytes =
    let same : names_in (names_at b) ≡ names_in (names_of args) = ap (λ (xs : List Arg). names_in (map (λ (a : Arg). a.names) xs)) are in
    let as_many : length b.args ≡ length args = ap (λ (xs : List Arg). length xs) are ∙ length-map args arg_content in
    record { params = omega (arith, as_many, few); handles = omega (arith, same, count, fits); results = results; bytes = bytes }
