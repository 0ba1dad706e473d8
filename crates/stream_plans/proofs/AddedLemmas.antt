-- The parts of streams added to plans, one stream after another.
use Rattle.std.proofs.Common.{◌≡◌, ◌∙◌, ◌+◌, ◌<◌, ◌≤◌, ℕ, zero, suc, false, true, Option, Some, None, List, [], ◌∷◌, ◌++◌, take, length, map, get_or, refl, sym, ap, subst, arith}
use Rattle.std.specs.Prelude.{IsSome, Vec, slice_get, slice_set}
use Rattle.std.proofs.lemmas.List.{length-append, length-map, length-set, map-append, map-set}
use Rattle.device_shard.specs.declared.plan.Plan.{Plan}
use Rattle.trace_format.specs.declared.event.Event.{Event}
use Rattle.trace_format.specs.declared.event.Name.{Name}
use Rattle.trace_format.specs.Content.{TraceEvent, content}
use Rattle.stream_model.specs.FileParts.{StreamPart}
use Rattle.stream_model.specs.Plans.{DevicePlan, calls_on, stream_on}
use Rattle.stream_plans.specs.Contents.{plan_content, stream_part}
use Rattle.stream_plans.specs.Cuts.{plan_by}
use Rattle.stream_plans.specs.Dealt.{events_in, with_parts, with_stream}
use Rattle.stream_plans.proofs.TableLemmas.{one_more}

pub no_parts : (t : ℕ) (plans : List DevicePlan) → with_parts t plans [] ≡ plans
no_parts t [] = refl
no_parts t (p ∷ plans) = refl

-- the last part may be added first
pub part_last : (t : ℕ) (plans : List DevicePlan) (parts : List (List TraceEvent)) (es : List TraceEvent) (p : DevicePlan) → slice_get plans (length parts) ≡ Some p
    → with_parts t plans (parts ++ es ∷ []) ≡ with_parts t (slice_set plans (length parts) (with_stream p (record { thread = t; events = es }))) parts
part_last t [] parts es p at = cc at
part_last t (q ∷ plans) [] es p at =
    let one : q ≡ p = cc in
    ap (λ (ps : List DevicePlan). with_stream q (record { thread = t; events = es }) ∷ ps) (no_parts t plans) ∙ ap (λ (r : DevicePlan). with_stream r (record { thread = t; events = es }) ∷ plans) one
part_last t (q ∷ plans) (x ∷ parts) es p at = ap (λ (ps : List DevicePlan). with_stream q (record { thread = t; events = x }) ∷ ps) (part_last t plans parts es p at)

-- plans with their parts of a further stream are the plans of one stream more
pub planned_next : (f : Name → Option Name) (streams : List StreamPart) (s : StreamPart) (devices : List Name)
    → with_parts s.thread (map (plan_by f streams) devices) (map (λ d. calls_on f d false s.events) devices) ≡ map (plan_by f (streams ++ s ∷ [])) devices
planned_next f streams s [] = refl
planned_next f streams s (d ∷ ds) =
    ap (λ (ss : List StreamPart). record { device = d; streams = ss } ∷ with_parts s.thread (map (plan_by f streams) ds) (map (λ x. calls_on f x false s.events) ds)) (sym (map-append (stream_on f d) streams (s ∷ [])))
    ∙ ap (λ ps. plan_by f (streams ++ s ∷ []) d ∷ ps) (planned_next f streams s ds)

-- ---- one part

-- what is seen of an element is what stands at its place
seen_at : {X Y : Type 0} (f : X → Y) (xs : List X) (i : ℕ) (x : X) (y : Y) → x ≡ get_or xs i x → slice_get (map f xs) i ≡ Some y → f x ≡ y
seen_at f [] i x y at there = cc there
seen_at f (z ∷ xs) zero x y at there = let one : f z ≡ y = cc there in ap f at ∙ one
seen_at f (z ∷ xs) (suc i) x y at there = seen_at f xs i x y at there

-- a plan with a stream more, in its place
pub added_part : (plans : List Plan) (i : ℕ) (old new : Plan) (s : StreamPart) → old ≡ get_or plans i old → plan_content new ≡ with_stream (plan_content old) s
    → (p : DevicePlan) → slice_get (map plan_content plans) i ≡ Some p → map plan_content (slice_set plans i new) ≡ slice_set (map plan_content plans) i (with_stream p s)
added_part plans i old new s at is p there =
    map-set plan_content plans i new ∙ ap (slice_set (map plan_content plans) i) (is ∙ ap (λ (q : DevicePlan). with_stream q s) (seen_at plan_content plans i old p at there))

some_at : {X : Type 0} (xs : List X) (i : ℕ) → i < length xs → (x : X) × (slice_get xs i ≡ Some x)
some_at [] i less = absurd (omega (arith, less))
some_at (x ∷ xs) zero less = (x, refl)
some_at (x ∷ xs) (suc i) less = some_at xs i (omega (arith, less))

-- the last part added, the parts that are left make of the plans what all would have made
pub record Added (thread : ℕ) (plans now : List DevicePlan) (parts left : List (List TraceEvent)) : Type 0 where
  pub count : length now ≡ length plans
  pub same : with_parts thread now left ≡ with_parts thread plans parts

added_last : (t : ℕ) (plans now : List DevicePlan) (parts left : List (List TraceEvent)) (es : List TraceEvent) → parts ≡ left ++ es ∷ [] → length parts ≤ length plans
    → ((p : DevicePlan) → slice_get plans (length left) ≡ Some p → now ≡ slice_set plans (length left) (with_stream p (record { thread = t; events = es }))) → Added t plans now parts left
added_last t plans now parts left es is fits set =
    let long : length parts ≡ length left + 1 = ap (λ xs. length xs) is ∙ length-append left (es ∷ []) in
    let there = some_at plans (length left) (omega (arith, long, fits)) in
    let s : StreamPart = record { thread = t; events = es } in
    let put : now ≡ slice_set plans (length left) (with_stream there.0 s) = set there.0 there.1 in
    record {
      count = ap (λ xs. length xs) put ∙ length-set plans (length left) (with_stream there.0 s);
      same = ap (λ (ps : List DevicePlan). with_parts t ps left) put ∙ (sym (part_last t plans left es there.0 there.1) ∙ ap (λ (xs : List (List TraceEvent)). with_parts t plans xs) (sym is));
    }

pub part_next : {A : Type 0} (t : ℕ) (plans now : List Plan) (parts left : List (Vec Event A)) (part : Vec Event A) (i : ℕ) → parts ≡ left ++ part ∷ [] → i ≡ length left → length parts ≤ length plans
    → ((p : DevicePlan) → slice_get (map plan_content plans) i ≡ Some p → map plan_content now ≡ slice_set (map plan_content plans) i (with_stream p (record { thread = t; events = map content part.items })))
    → Added t (map plan_content plans) (map plan_content now) (events_in parts) (events_in left)
part_next {A = A} t plans now parts left part i is at fits set =
    let events : Vec Event A → List TraceEvent = λ (p : Vec Event A). map content p.items in
    let here : i ≡ length (events_in left) = at ∙ sym (length-map left events) in
    let long = length-map parts events in
    let many = length-map plans plan_content in
    added_last t (map plan_content plans) (map plan_content now) (events_in parts) (events_in left) (map content part.items) (ap (map events) is ∙ map-append events left (part ∷ [])) (omega (arith, long, many, fits))
    (subst (λ (k : ℕ). (p : DevicePlan) → slice_get (map plan_content plans) k ≡ Some p → map plan_content now ≡ slice_set (map plan_content plans) k (with_stream p (record { thread = t; events = map content part.items }))) here set)

-- a list is empty, where it has no last element
pub none_left : {X : Type 0} (xs : List X) (o : Option X) → o ≡ None → (0 < length xs → IsSome o) → xs ≡ []
none_left [] o is some = refl
none_left {X = X} (x ∷ xs) o is some = let wrong : false ≡ true = subst (λ (p : Option X). IsSome p) is (some (omega arith)) in cc wrong

-- ---- one stream

pub stream_next : {A : Type 0} (f : Name → Option Name) (devices : List Name) (was now : List DevicePlan) (parts : List (List TraceEvent)) (xs : List (ℕ × Vec Event A)) (k : ℕ) (x : ℕ × Vec Event A)
    → k < length xs → x ≡ get_or xs k x → was ≡ map (plan_by f (map (stream_part {A = A}) (take k xs))) devices → parts ≡ map (λ d. calls_on f d false (map content x.1.items)) devices → now ≡ with_parts x.0 was parts
    → now ≡ map (plan_by f (map (stream_part {A = A}) (take (k + 1) xs))) devices
stream_next {A = A} f devices was now parts xs k x less item so_far parts_are is =
    is
    ∙ (ap (λ (ps : List DevicePlan). with_parts x.0 ps parts) so_far
    ∙ (ap (λ (es : List (List TraceEvent)). with_parts x.0 (map (plan_by f (map (stream_part {A = A}) (take k xs))) devices) es) parts_are
    ∙ (planned_next f (map (stream_part {A = A}) (take k xs)) (stream_part x) devices
    ∙ ap (λ (ss : List StreamPart). map (plan_by f ss) devices) (sym (map-append (stream_part {A = A}) (take k xs) (x ∷ [])) ∙ ap (map (stream_part {A = A})) (sym (one_more xs k x less item))))))
