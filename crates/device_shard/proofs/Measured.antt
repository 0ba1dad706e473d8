-- How much the calls of a plan need, by one event, argument or stream more.
use Rattle.std.proofs.Common.{◌≡◌, ◌≤◌, ◌<◌, ◌+◌, ◌*◌, ℕ, zero, suc, Option, Some, List, [], ◌∷◌, ◌++◌, length, map, take, drop, get_or, refl, sym, ◌∙◌, ap, subst, arith, add-one}
use Rattle.std.specs.Prelude.{Vec, slice_get}
use Rattle.std.specs.List.{AllByRecursion, flat_map, sum_by}
use Rattle.std.specs.Option.{option_map, option_map_or}
use Rattle.std.proofs.lemmas.Grind.{flat_map-append}
use Rattle.std.proofs.lemmas.List.{append-nil, drop_all, length-map, map-append, take_all, take_more}
use Rattle.std.proofs.lemmas.List.Sums.{sum_by-append, sum_by-cons, sum_by_push}
use Rattle.std.proofs.lemmas.Option.{slice_get-map, slice_get_read}
use Rattle.command_tables.specs.Table.{ParamSpec, row_of}
use Rattle.command_tables.specs.declared.types.CommandId.{CommandId}
use Rattle.trace_format.specs.Content.{Arg, BeginEvent, TraceEvent, Begin, Return, arg_content, content}
use Rattle.trace_format.specs.declared.event.Event.{Event}
use Rattle.trace_format.specs.declared.event.Name.{Name}
use Rattle.trace_format.specs.declared.event.TraceArg.{TraceArg}
use Rattle.stream_model.specs.FileParts.{StreamPart}
use Rattle.session_parts.specs.Scratch.{AreWithin}
use Rattle.walk_bounds.specs.Bounds.{implied_most, weigh}
use Rattle.shard_room.specs.Needs.{IsWithin, IsWithinAt, Needs, names_at, names_in}
use Rattle.device_shard.specs.Making.{results_planned}
use Rattle.device_shard.specs.Plans.{stream_planned}
use Rattle.device_shard.specs.Rooms.{FewResults, IsGrown, IsStreamWithin, names_of}
use Rattle.device_shard.specs.Shards.{results_at}
use Rattle.device_shard.proofs.Lists.{all_at, one}

-- ---- lists by one element more

-- what is seen of the first so many, with one more
pub mapped : {X Y : Type 0} (g : X → Y) (xs : List X) (i : ℕ) (x : X) → i < length xs → x ≡ get_or xs i x → map g (take (i + 1) xs) ≡ map g (take i xs) ++ g x ∷ []
mapped g xs i x less is = ap (map g) (take_more xs i x less ∙ ap (λ z. take i xs ++ z ∷ []) (sym is)) ∙ map-append g (take i xs) (x ∷ [])

all_push : {X : Type 0} (P : X → Type 0) (xs : List X) (x : X) → AllByRecursion P xs → P x → AllByRecursion P (xs ++ x ∷ [])
all_push P [] x all here = (here, tt)
all_push P (y ∷ xs) x all here = (all.0, all_push P xs x all.1 here)

pub all_pushed : {X : Type 0} (P : X → Type 0) (xs ys : List X) (x : X) → ys ≡ xs ++ x ∷ [] → AllByRecursion P xs → P x → AllByRecursion P ys
all_pushed P xs ys x is all here = subst (AllByRecursion P) (sym is) (all_push P xs x all here)

-- what holds of the first so many, and of one more
pub all_more : {X Y : Type 0} (P : Y → Type 0) (g : X → Y) (xs : List X) (i : ℕ) (x : X) → i < length xs → x ≡ get_or xs i x → AllByRecursion P (map g (take i xs)) → P (g x) → AllByRecursion P (map g (take (i + 1) xs))
all_more P g xs i x less is all here = all_pushed P (map g (take i xs)) (map g (take (i + 1) xs)) (g x) (mapped g xs i x less is) all here

-- past the last that is all of them
pub all_taken : {X Y : Type 0} (P : Y → Type 0) (g : X → Y) (xs : List X) (i : ℕ) → length xs ≤ i → AllByRecursion P (map g (take i xs)) → AllByRecursion P (map g xs)
all_taken P g xs i far all = subst (λ zs. AllByRecursion P (map g zs)) (take_all i xs far) all

pub seen_at : {X Y : Type 0} (g : X → Y) (xs : List X) (i : ℕ) (x : X) → i < length xs → x ≡ get_or xs i x → slice_get (map g xs) i ≡ Some (g x)
seen_at g xs i x less is = slice_get-map g xs i ∙ ap (option_map g) (slice_get_read xs (length xs) i x refl less is)

pub all_here : {X Y : Type 0} (P : Y → Type 0) (g : X → Y) (xs : List X) (i : ℕ) (x : X) → i < length xs → x ≡ get_or xs i x → AllByRecursion P (map g xs) → P (g x)
all_here P g xs i x less is all = all_at P (map g xs) i (g x) all (seen_at g xs i x less is)

pub all_turned : {X : Type 0} (P Q : X → Type 0) (xs : List X) → ((x : X) → P x → Q x) → AllByRecursion P xs → AllByRecursion Q xs
all_turned P Q [] f all = tt
all_turned P Q (x ∷ xs) f all = (f x all.0, all_turned P Q xs f all.1)

-- ---- results

pub sum_more : {X Y : Type 0} (f : Y → ℕ) (g : X → Y) (xs : List X) (i : ℕ) (x : X) (count more : ℕ) → i < length xs → x ≡ get_or xs i x → count ≡ sum_by f (map g (take i xs)) → more ≡ f (g x) → count + more ≡ sum_by f (map g (take (i + 1) xs))
sum_more f g xs i x count more less is so_far here =
    let step : sum_by f (map g (take (i + 1) xs)) ≡ sum_by f (map g (take i xs)) + f (g x) = ap (sum_by f) (mapped g xs i x less is) ∙ sum_by_push f (map g (take i xs)) (g x) in
    omega (arith, step, so_far, here)

pub sum_taken : {X Y : Type 0} (f : Y → ℕ) (g : X → Y) (xs : List X) (i count : ℕ) → length xs ≤ i → count ≡ sum_by f (map g (take i xs)) → count ≡ sum_by f (map g xs)
sum_taken f g xs i count far so_far = so_far ∙ ap (λ zs. sum_by f (map g zs)) (take_all i xs far)

pub due_more : {A : Type 0} (xs : List (ℕ × Vec Event A)) (i : ℕ) (x : ℕ × Vec Event A) (due more : ℕ) → i < length xs → x ≡ get_or xs i x → due ≡ results_planned (map stream_planned (take i xs)) → more ≡ sum_by results_at (map content x.1.items)
    → due + more ≡ results_planned (map stream_planned (take (i + 1) xs))
due_more xs i x due more less is so_far here =
    let events : StreamPart → List TraceEvent = λ (s : StreamPart). s.events in
    let before : List StreamPart = map stream_planned (take i xs) in
    let step : results_planned (map stream_planned (take (i + 1) xs)) ≡ results_planned before + sum_by results_at (map content x.1.items) =
    ap results_planned (mapped stream_planned xs i x less is)
    ∙ (ap (sum_by results_at) (flat_map-append events before (stream_planned x ∷ []))
    ∙ (sum_by-append results_at (flat_map events before) (map content x.1.items ++ []) ∙ ap (λ es. sum_by results_at (flat_map events before) + sum_by results_at es) (append-nil (map content x.1.items)))) in
    omega (arith, step, so_far, here)

pub due_taken : {A : Type 0} (xs : List (ℕ × Vec Event A)) (i due : ℕ) → length xs ≤ i → due ≡ results_planned (map stream_planned (take i xs)) → due ≡ results_planned (map stream_planned xs)
due_taken xs i due far so_far = so_far ∙ ap (λ zs. results_planned (map stream_planned zs)) (take_all i xs far)

few_of : (n : ℕ) (events : List TraceEvent) → sum_by results_at events ≤ n → AllByRecursion (λ e. results_at e ≤ n) events
few_of n [] le = tt
few_of n (e ∷ events) le = let whole = sum_by-cons results_at e events in (omega (arith, whole, le), few_of n events (omega (arith, whole, le)))

-- no event brings more than all of them
pub few_each : (n : ℕ) (streams : List StreamPart) → results_planned streams ≤ n → AllByRecursion (FewResults n) streams
few_each n [] le = tt
few_each n (s ∷ streams) le =
    let whole : results_planned (s ∷ streams) ≡ sum_by results_at s.events + results_planned streams = sum_by-append results_at s.events (flat_map (λ (p : StreamPart). p.events) streams) in
    (few_of n s.events (omega (arith, whole, le)), few_each n streams (omega (arith, whole, le)))

-- ---- what is measured grows

pub grown_self : (n : Needs) → IsGrown n n
grown_self n = record { wide = omega arith; args = omega arith; results = refl; bytes = omega arith; uses = omega arith; born = refl }

pub grown_on : (n m o : Needs) → IsGrown n m → IsGrown m o → IsGrown n o
grown_on n m o a b = record {
  wide = omega (arith, a.wide, b.wide);
  args = omega (arith, a.args, b.args);
  results = b.results ∙ a.results;
  bytes = omega (arith, a.bytes, b.bytes);
  uses = omega (arith, a.uses, b.uses);
  born = b.born ∙ a.born;
}

within_wider : {X : Type 0} (n m : ℕ) (xss : List (List X)) → AreWithin n xss → n ≤ m → AreWithin m xss
within_wider n m [] all le = tt
within_wider n m (xs ∷ xss) all le = let first : length xs ≤ n = all.0 in (omega (arith, first, le), within_wider n m xss all.1 le)

begin_grown : (n m : Needs) (b : BeginEvent) → IsGrown n m → IsWithin n b → IsWithin m b
begin_grown n m b g w = record {
  params = w.params;
  wide = within_wider n.wide m.wide (names_at b) w.wide g.wide;
  args = omega (arith, w.args, g.args);
  results = omega (arith, w.results, g.results);
  bytes = omega (arith, w.bytes, g.bytes);
  uses = let same = ap (λ k. weigh (λ p. 1 + implied_most k p.implied) (row_of b.cmd).params (names_at b)) g.born in omega (arith, same, w.uses, g.uses);
}

pub event_grown : (n m : Needs) (e : TraceEvent) → IsGrown n m → IsWithinAt n e → IsWithinAt m e
event_grown n m (Begin b) g w = begin_grown n m b g w
event_grown n m (Return thread) g w = tt

pub events_grown : (n m : Needs) (events : List TraceEvent) → IsGrown n m → AllByRecursion (IsWithinAt n) events → AllByRecursion (IsWithinAt m) events
events_grown n m events g all = all_turned (IsWithinAt n) (IsWithinAt m) events (λ e w. event_grown n m e g w) all

pub streams_grown : (n m : Needs) (streams : List StreamPart) → IsGrown n m → AllByRecursion (IsStreamWithin n) streams → AllByRecursion (IsStreamWithin m) streams
streams_grown n m streams g all = all_turned (IsStreamWithin n) (IsStreamWithin m) streams (λ s w. events_grown n m s.events g w) all

-- as few results
pub few_still : (n m : ℕ) (events : List TraceEvent) → m ≡ n → AllByRecursion (λ e. results_at e ≤ n) events → AllByRecursion (λ e. results_at e ≤ m) events
few_still n m events same all = subst (λ k. AllByRecursion (λ e. results_at e ≤ k) events) (sym same) all

-- ---- the arguments of a call

pub names_more : (args : List TraceArg) (i : ℕ) (a : TraceArg) → i < length args → a ≡ get_or args i a → names_of (take (i + 1) args) ≡ names_of (take i args) ++ a.names.items ∷ []
names_more args i a less is = ap (map (λ (b : Arg). b.names)) (mapped arg_content args i a less is) ∙ map-append (λ (b : Arg). b.names) (map arg_content (take i args)) (arg_content a ∷ [])

pub names_taken : (args : List TraceArg) (i : ℕ) → length args ≤ i → names_of (take i args) ≡ names_of args
names_taken args i far = ap names_of (take_all i args far)

pub count_more : (args : List TraceArg) (i : ℕ) (a : TraceArg) (count : ℕ) → i < length args → a ≡ get_or args i a → count ≡ names_in (names_of (take i args)) → count + length a.names.items ≡ names_in (names_of (take (i + 1) args))
count_more args i a count less is so_far =
    let size : List (Option Name) → ℕ = λ (xs : List (Option Name)). length xs in
    let step : names_in (names_of (take (i + 1) args)) ≡ names_in (names_of (take i args)) + length a.names.items = ap names_in (names_more args i a less is) ∙ sum_by_push size (names_of (take i args)) a.names.items in
    omega (arith, step, so_far)

within_push : {X : Type 0} (n m : ℕ) (xss : List (List X)) (ys : List X) → AreWithin n xss → n ≤ m → length ys ≤ m → AreWithin m (xss ++ ys ∷ [])
within_push n m [] ys all le fits = (fits, tt)
within_push n m (xs ∷ xss) ys all le fits = let first : length xs ≤ n = all.0 in (omega (arith, first, le), within_push n m xss ys all.1 le fits)

pub wide_more : (args : List TraceArg) (i : ℕ) (a : TraceArg) (n m : ℕ) → i < length args → a ≡ get_or args i a → AreWithin n (names_of (take i args)) → n ≤ m → length a.names.items ≤ m → AreWithin m (names_of (take (i + 1) args))
wide_more args i a n m less is all le fits = subst (AreWithin m) (sym (names_more args i a less is)) (within_push n m (names_of (take i args)) a.names.items all le fits)

pub names_here : (args : List TraceArg) (i : ℕ) (a : TraceArg) → i < length args → a ≡ get_or args i a → slice_get (names_of args) i ≡ Some a.names.items
names_here args i a less is = slice_get-map (λ (b : Arg). b.names) (map arg_content args) i ∙ ap (option_map (λ (b : Arg). b.names)) (seen_at arg_content args i a less is)

-- ---- uses

weigh_step : {X : Type 0} (w : ParamSpec → ℕ) (params : List ParamSpec) (parts : List (List X)) (i : ℕ) (xs : List X) → slice_get parts i ≡ Some xs
    → weigh w (drop i params) (drop i parts) ≡ length xs * option_map_or w (slice_get params i) 0 + weigh w (drop (suc i) params) (drop (suc i) parts)
weigh_step w params [] i xs at = cc at
weigh_step w [] (ys ∷ parts) zero xs at = omega arith
weigh_step w (p ∷ params) (ys ∷ parts) zero xs at = ap (λ z. length z * w p + weigh w params parts) (one ys xs at)
weigh_step w [] (ys ∷ parts) (suc i) xs at = omega arith
weigh_step w (p ∷ params) (ys ∷ parts) (suc i) xs at = weigh_step w params parts i xs at

weigh_none : (X : Type 0) (w : ParamSpec → ℕ) (params : List ParamSpec) → weigh {X = X} w params [] ≡ 0
weigh_none X w [] = refl
weigh_none X w (p ∷ params) = refl

-- with the arguments of one parameter more
pub weigh_more : {X : Type 0} (w : ParamSpec → ℕ) (params : List ParamSpec) (parts : List (List X)) (i uses weight all : ℕ) (xs : List X) → slice_get parts i ≡ Some xs → weight ≡ option_map_or w (slice_get params i) 0
    → uses + weigh w (drop i params) (drop i parts) ≡ all → uses + length xs * weight + weigh w (drop (i + 1) params) (drop (i + 1) parts) ≡ all
weigh_more w params parts i uses weight all xs at is so_far =
    let step = weigh_step w params parts i xs at in
    let next : weigh w (drop (i + 1) params) (drop (i + 1) parts) ≡ weigh w (drop (suc i) params) (drop (suc i) parts) = ap (λ n. weigh w (drop n params) (drop n parts)) (add-one i) in
    let here : length xs * weight ≡ length xs * option_map_or w (slice_get params i) 0 = ap (λ n. length xs * n) is in
    omega (arith, step, next, here, so_far)

pub weigh_end : {X : Type 0} (w : ParamSpec → ℕ) (params : List ParamSpec) (parts : List (List X)) (i uses all : ℕ) → length parts ≤ i → uses + weigh w (drop i params) (drop i parts) ≡ all → uses ≡ all
weigh_end w params parts i uses all far so_far =
    let none : weigh w (drop i params) (drop i parts) ≡ 0 = ap (weigh w (drop i params)) (drop_all i parts far) ∙ weigh_none _ w (drop i params) in
    omega (arith, none, so_far)

-- ---- a begin

-- a begin whose arguments and payload are these is within needs that are no less
pub begin_within : (m : Needs) (b : BeginEvent) (cmd : CommandId) (args : List TraceArg) (payload : List ℕ) (params : List ParamSpec) (wide names uses : ℕ) → b.cmd ≡ cmd → b.args ≡ map arg_content args → b.payload ≡ payload → length b.results ≤ m.results
    → length args ≤ 6 → AreWithin wide (names_of args) → wide ≤ m.wide → names ≡ names_in (names_of args) → names ≤ m.args → length payload ≤ m.bytes
    → params ≡ (row_of cmd).params → uses ≡ weigh (λ p. 1 + implied_most m.born p.implied) params (names_of args) → uses ≤ m.uses → IsWithin m b
begin_within m b cmd args payload params wide names uses of are paid few most fits wider count counted long row weight lighter =
    let same : names_at b ≡ names_of args = ap (map (λ (a : Arg). a.names)) are in
    let w : ParamSpec → ℕ = λ (p : ParamSpec). 1 + implied_most m.born p.implied in
    let alike : weigh w (row_of b.cmd).params (names_at b) ≡ uses =
    ap (weigh w (row_of b.cmd).params) same ∙ (ap (λ (c : CommandId). weigh w (row_of c).params (names_of args)) of ∙ (ap (λ (ps : List ParamSpec). weigh w ps (names_of args)) (sym row) ∙ sym weight)) in
    let as_many : length b.args ≡ length args = ap (λ (xs : List Arg). length xs) are ∙ length-map args arg_content in
    let as_long : length b.payload ≡ length payload = ap (λ (xs : List ℕ). length xs) paid in
    let all : names_in (names_at b) ≡ names = ap names_in same ∙ sym count in
    record {
      params = omega (arith, as_many, most);
      wide = subst (AreWithin m.wide) (sym same) (within_wider wide m.wide (names_of args) fits wider);
      args = omega (arith, all, counted);
      results = few;
      bytes = omega (arith, as_long, long);
      uses = omega (arith, alike, lighter);
    }
