-- The sections of a whole file, one after the other.
use Rattle.std.proofs.Common.{◌≡◌, ◌∙◌, ◌≤◌, ◌<◌, ◌^◌, ◌+◌, ◌&&◌, ℕ, Bool, true, false, Option, Some, None, is_some, List, [], ◌∷◌, ◌++◌, length, reverse, refl, sym, ap, subst, arith, lit<, append_assoc, ◌||◌}
use Rattle.std.specs.List.{AllByRecursion, flat_map, list_any}
use Rattle.std.specs.Option.{is_none}
use Rattle.std.proofs.lemmas.List.{length-append, length-reverse, reverse-append, reverse-reverse}
use Rattle.trace_format.specs.declared.event.Name.{Name}
use Rattle.trace_format.specs.Accepting.{begins_instance}
use Rattle.trace_format.specs.Content.{TraceEvent, Begin, Return}
use Rattle.replay_model.specs.Setup.{Setup, is_too_long}
use Rattle.replay_model.specs.Stop.{exceeds_layers}
use Rattle.chain_model.specs.Gaps.{IsGapped}
use Rattle.chain_model.proofs.Eventing.{all_append, all_map}
use Rattle.stream_model.specs.declared.limits.TheConstants.{MOST_EVENTS}
use Rattle.stream_model.specs.FileParts.{FileParts, StreamPart, all_events}
use Rattle.stream_model.specs.Order.{device_named}
use Rattle.stream_model.specs.Plans.{device_written}
use Rattle.stream_model.proofs.OnDevices.{no_instance, on_a_device}
use Rattle.stream_model.proofs.WholeTraces.{in_streams}
use Rattle.merge_model.specs.Merges.{IsMerge, merged_events}
use Rattle.merge_model.specs.Planned.{AreOnThese, IsOnOne, number_among}
use Rattle.merge_model.proofs.Counted.{AreApart, merged_all}
use Rattle.merge_model.proofs.Parting.{all_reverse}
use Rattle.event_replay.proofs.Lists.{earlier}

-- ---- setup

pub setup_gapped : (file : FileParts) (es : List TraceEvent) → IsGapped es → all_events file ≡ reverse es → IsGapped (reverse file.setup)
setup_gapped file es gapped order =
    let rest = flat_map (λ (s : StreamPart). s.events) file.streams ++ file.teardown in
    let turned : es ≡ reverse rest ++ reverse file.setup = sym (reverse-reverse es) ∙ (ap reverse (sym order) ∙ reverse-append file.setup rest) in
    earlier (reverse rest) (reverse file.setup) (subst IsGapped turned gapped)

-- events are counted in a usize, which suffices for as many as a file may have
events_counted : MOST_EVENTS < 2 ^ 63
events_counted = lit< tt

pub setup_short : (file : FileParts) (es : List TraceEvent) → length es ≤ MOST_EVENTS → all_events file ≡ reverse es → length file.setup < 2 ^ 63
setup_short file es few order =
    let rest = flat_map (λ (s : StreamPart). s.events) file.streams ++ file.teardown in
    let all : length (all_events file) ≡ length es = ap length order ∙ length-reverse es in
    let both : length (file.setup ++ rest) ≡ length file.setup + length rest = length-append file.setup rest in
    let same : length (file.setup ++ rest) ≡ length (all_events file) = refl in
    omega (arith, few, all, both, same, events_counted)

-- ---- all sections

pub turned_sections : (file : FileParts) (merge : List TraceEvent) → reverse (merged_events file merge) ≡ reverse file.teardown ++ (reverse merge ++ reverse file.setup)
turned_sections file merge =
    reverse-append file.setup (merge ++ file.teardown) ∙ (ap (λ es. es ++ reverse file.setup) (reverse-append merge file.teardown) ∙ append_assoc (reverse file.teardown) (reverse merge) (reverse file.setup))

pub few_events : (n : ℕ) (m : ℕ) → n ≡ m → m ≤ MOST_EVENTS → n < 2 ^ 63
few_events n m same few = omega (arith, few, same, events_counted)

-- ---- no chain is made by a merge

there : (ds : List Name) (o : Option Name) → is_some (number_among ds o) ≡ true → is_none o ≡ false
there ds None is = cc is
there ds (Some n) is = refl

within_one : (s : Setup) (f : Name → Option Name) (ds : List Name) (e : TraceEvent) → IsOnOne f ds e → exceeds_layers s e ≡ false
within_one s f ds (Return t) on = refl
within_one s f ds (Begin b) on =
    let none : begins_instance (Begin b) ≡ false = no_instance b (on_a_device f b.cmd b.args (there ds (device_named f b.cmd b.args) on)) in
    ap (λ u. u && is_too_long (s.outcome b.payload)) none

all_in : (P : TraceEvent → Type 0) (streams : List StreamPart) → AllByRecursion (λ (s : StreamPart). AllByRecursion P s.events) streams → AllByRecursion P (in_streams streams)
all_in P [] all = tt
all_in P (s ∷ streams) all = all_append P s.events (in_streams streams) all.0 (all_in P streams all.1)

any_of : (f : TraceEvent → Bool) (es : List TraceEvent) → AllByRecursion (λ e. f e ≡ false) es → list_any f es ≡ false
any_of f [] all = refl
any_of f (e ∷ es) all = go (f e) all.0 (any_of f es all.1)
  where
    go : (u : Bool) → u ≡ false → list_any f es ≡ false → (u || list_any f es) ≡ false
    go false is rest = rest
    go true is rest = is

pub merge_within : (s : Setup) (file : FileParts) (devices : List Name) (merge : List TraceEvent) → AreOnThese file devices → AreApart file.streams → IsMerge file.streams merge → list_any (exceeds_layers s) merge ≡ false
merge_within s file devices merge on apart is =
    let f = device_written file in
    any_of (exceeds_layers s) merge
    (all_map (IsOnOne f devices) (λ e. exceeds_layers s e ≡ false) (λ e here. within_one s f devices e here) merge
    (merged_all (IsOnOne f devices) file.streams merge apart is (all_in (IsOnOne f devices) file.streams on)))

-- no call of the streams makes one
pub streams_within : (s : Setup) (file : FileParts) (devices : List Name) → AreOnThese file devices → list_any (exceeds_layers s) (in_streams file.streams) ≡ false
streams_within s file devices on =
    let f = device_written file in
    any_of (exceeds_layers s) (in_streams file.streams)
    (all_map (IsOnOne f devices) (λ e. exceeds_layers s e ≡ false) (λ e here. within_one s f devices e here) (in_streams file.streams)
    (all_in (IsOnOne f devices) file.streams on))

-- ---- what holds of each event of a file

all_first : (P : TraceEvent → Type 0) (xs ys : List TraceEvent) → AllByRecursion P (xs ++ ys) → AllByRecursion P xs
all_first P [] ys all = tt
all_first P (x ∷ xs) ys all = (all.0, all_first P xs ys all.1)

all_last : (P : TraceEvent → Type 0) (xs ys : List TraceEvent) → AllByRecursion P (xs ++ ys) → AllByRecursion P ys
all_last P [] ys all = all
all_last P (x ∷ xs) ys all = all_last P xs ys all.1

-- holds of each of its setup and of its teardown
module _ (P : TraceEvent → Type 0) (file : FileParts) (es : List TraceEvent) (order : all_events file ≡ reverse es) (all : AllByRecursion P es) where
  whole : AllByRecursion P (all_events file)
  whole = subst (AllByRecursion P) (sym order) (all_reverse P es all)

  pub all_of_setup : AllByRecursion P file.setup
  all_of_setup = all_first P file.setup (in_streams file.streams ++ file.teardown) whole

  pub all_of_teardown : AllByRecursion P file.teardown
  all_of_teardown = all_last P (in_streams file.streams) file.teardown (all_last P file.setup (in_streams file.streams ++ file.teardown) whole)

-- and of each of a merge between them
pub all_of_merge : (P : TraceEvent → Type 0) (file : FileParts) (merge : List TraceEvent) → AllByRecursion P (merged_events file merge) → AllByRecursion P merge
all_of_merge P file merge all = all_first P merge file.teardown (all_last P file.setup (merge ++ file.teardown) all)
