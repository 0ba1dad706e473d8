-- What is cut of the streams of a file, one event after another.
use Rattle.std.proofs.Common.{◌≡◌, ◌∙◌, ◌+◌, ◌<◌, ℕ, Bool, true, false, Option, List, [], ◌∷◌, ◌++◌, take, drop, length, map, get_or, refl, sym, ap, subst}
use Rattle.std.specs.Prelude.{Vec, reverse}
use Rattle.std.specs.List.{AllByRecursion, flat_map}
use Rattle.std.proofs.lemmas.List.{map-append}
use Rattle.trace_format.specs.declared.event.Event.{Event}
use Rattle.trace_format.specs.declared.event.Name.{Name}
use Rattle.trace_format.specs.Content.{TraceEvent, Begin, Return, content}
use Rattle.stream_model.specs.FileParts.{FileParts, StreamPart, all_events}
use Rattle.stream_model.specs.Order.{with_device}
use Rattle.stream_model.specs.Plans.{DevicePlan, calls_on, device_written, kept_if, plan_cut}
use Rattle.stream_plans.specs.Contents.{stream_part}
use Rattle.stream_plans.specs.Cuts.{devices_cut, devices_with, event_device, plan_by, stays_on}
use Rattle.stream_plans.specs.Tables.{Knows, device_in}
use Rattle.stream_plans.proofs.TableLemmas.{left_over, one_more, streams_next}

-- ---- devices

-- one event more
pub named_next : (f : Name → Option Name) (was now start : List Name) (xs : List Event) (k : ℕ) (x : Event) → k < length xs → x ≡ get_or xs k x
    → devices_with f was (map content (drop k xs)) ≡ devices_with f start (map content xs) → now ≡ with_device (event_device f (content x)) was
    → devices_with f now (map content (drop (k + 1) xs)) ≡ devices_with f start (map content xs)
named_next f was now start xs k x less at so_far is =
    ap (λ ds. devices_with f ds (map content (drop (k + 1) xs))) is ∙ (ap (λ ys. devices_with f was (map content ys)) (sym (left_over xs k x less at)) ∙ so_far)

-- events after events
pub named_both : (f : Name → Option Name) (devices : List Name) (xs ys : List TraceEvent) → devices_with f (devices_with f devices xs) ys ≡ devices_with f devices (xs ++ ys)
named_both f devices [] ys = refl
named_both f devices (x ∷ xs) ys = named_both f (with_device (event_device f x) devices) xs ys

-- one stream more
pub named_stream : {A : Type 0} (f : Name → Option Name) (was now : List Name) (xs : List (ℕ × Vec Event A)) (k : ℕ) (x : ℕ × Vec Event A) → k < length xs → x ≡ get_or xs k x
    → was ≡ devices_with f [] (flat_map (λ s. s.events) (map (stream_part {A = A}) (take k xs))) → now ≡ devices_with f was (map content x.1.items)
    → now ≡ devices_with f [] (flat_map (λ s. s.events) (map (stream_part {A = A}) (take (k + 1) xs)))
named_stream {A = A} f was now xs k x less at so_far is =
    is ∙ (ap (λ ds. devices_with f ds (map content x.1.items)) so_far
    ∙ (named_both f [] (flat_map (λ s. s.events) (map (stream_part {A = A}) (take k xs))) (map content x.1.items) ∙ ap (devices_with f []) (sym (streams_next xs k x less at))))

-- ---- events

-- the calls on a device, by their first event
pub calls_first : (f : Name → Option Name) (device : Name) (on : Bool) (e : TraceEvent) (events : List TraceEvent)
    → calls_on f device on (e ∷ events) ≡ kept_if (stays_on f device on e) e [] ++ calls_on f device (stays_on f device on e) events
calls_first f device on (Begin b) events = go (stays_on f device on (Begin b))
  where
    go : (u : Bool) → kept_if u (Begin b) (calls_on f device u events) ≡ kept_if u (Begin b) [] ++ calls_on f device u events
    go true = refl
    go false = refl
calls_first f device on (Return thread) events = go on
  where
    go : (u : Bool) → kept_if u (Return thread) (calls_on f device u events) ≡ kept_if u (Return thread) [] ++ calls_on f device u events
    go true = refl
    go false = refl

-- ---- one more of what is mapped

pub pushed : {X Y Z : Type 0} (f : Y → Z) (g : X → Z) (was now : List Y) (y : Y) (xs : List X) (k : ℕ) (x : X) → k < length xs → x ≡ get_or xs k x → map f was ≡ map g (take k xs) → now ≡ was ++ y ∷ [] → f y ≡ g x
    → map f now ≡ map g (take (k + 1) xs)
pushed f g was now y xs k x less at so_far is same =
    ap (map f) is
    ∙ (map-append f was (y ∷ []) ∙ (ap (λ zs. zs ++ f y ∷ []) so_far ∙ (ap (λ z. map g (take k xs) ++ z ∷ []) same ∙ (sym (map-append g (take k xs) (x ∷ [])) ∙ ap (map g) (sym (one_more xs k x less at))))))

pub map_both : {X Y Z : Type 0} (f : X → Y) (g : Y → Z) (xs : List X) → map (λ x. g (f x)) xs ≡ map g (map f xs)
map_both f g [] = refl
map_both f g (x ∷ xs) = ap (λ zs. g (f x) ∷ zs) (map_both f g xs)

-- ---- plans

pub ext : {X Y : Type 0} (f g : X → Y) → ((x : X) → f x ≡ g x) → f ≡ g
ext f g same = λ i x. same x i

-- the table of a file tells its devices
pub tells : {A : Type 0} (rows : List (Vec (Option Name) A)) (file : FileParts) → Knows rows (reverse (all_events file)) → device_in rows ≡ device_written file
tells rows file k = ext (device_in rows) (device_written file) k.devices

pub each_cut : (file : FileParts) (devices : List Name) → AllByRecursion (λ (p : DevicePlan). p ≡ plan_cut file p.device) (map (plan_by (device_written file) file.streams) devices)
each_cut file [] = tt
each_cut file (d ∷ ds) = (refl, each_cut file ds)

pub each_device : (f : Name → Option Name) (streams : List StreamPart) (devices : List Name) → map (λ (p : DevicePlan). p.device) (map (plan_by f streams) devices) ≡ devices
each_device f streams [] = refl
each_device f streams (d ∷ ds) = ap (λ es. d ∷ es) (each_device f streams ds)

-- the plans of a file
pub plans_cut : {A : Type 0} (rows : List (Vec (Option Name) A)) (file : FileParts) (plans : List DevicePlan) (devices : List Name) → Knows rows (reverse (all_events file))
    → plans ≡ map (plan_by (device_in rows) file.streams) devices → AllByRecursion (λ (p : DevicePlan). p ≡ plan_cut file p.device) plans
plans_cut rows file plans devices k are =
    subst (AllByRecursion (λ (p : DevicePlan). p ≡ plan_cut file p.device)) (sym (are ∙ ap (λ f. map (plan_by f file.streams) devices) (tells rows file k))) (each_cut file devices)

pub devices_are : {A : Type 0} (rows : List (Vec (Option Name) A)) (file : FileParts) (plans : List DevicePlan) (devices : List Name) → Knows rows (reverse (all_events file))
    → plans ≡ map (plan_by (device_in rows) file.streams) devices → devices ≡ devices_with (device_in rows) [] (flat_map (λ s. s.events) file.streams)
    → map (λ (p : DevicePlan). p.device) plans ≡ devices_cut file
devices_are rows file plans devices k are named =
    ap (map (λ (p : DevicePlan). p.device)) are
    ∙ (each_device (device_in rows) file.streams devices ∙ (named ∙ ap (λ f. devices_with f [] (flat_map (λ s. s.events) file.streams)) (tells rows file k)))
