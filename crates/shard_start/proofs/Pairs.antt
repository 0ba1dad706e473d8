-- Calls that return at once, and those of them that are on a device.
use Rattle.std.proofs.Common.{◌≡◌, ◌+◌, ◌≤◌, ℕ, Bool, true, false, cond, Option, Some, None, List, [], ◌∷◌, ◌++◌, length, map, refl, ap, arith}
use Rattle.std.specs.Prelude.{⊤, option_and_then}
use Rattle.std.specs.List.{AllByRecursion, flat_map}
use Rattle.std.proofs.lemmas.List.{length-append}
use Rattle.command_tables.specs.Table.{row_of}
use Rattle.trace_format.specs.declared.event.Name.{Name}
use Rattle.trace_format.specs.Content.{BeginEvent, TraceEvent, Begin, Return}
use Rattle.stream_model.specs.Devices.{name_at}
use Rattle.stream_model.specs.FileParts.{StreamPart}
use Rattle.stream_model.specs.Order.{device_named, is_on_no_device, same_device}
use Rattle.stream_model.specs.Plans.{calls_on, kept_if, stream_on}
use Rattle.shard_start.specs.Starting.{ArePairs, IsOnDevice, events_in}

-- ---- one event more

-- pairs, and then a begin
abbrev pub OpenPairs : List TraceEvent → Type 0
OpenPairs [] = ⊥
OpenPairs (Return thread ∷ events) = ⊥
OpenPairs (Begin b ∷ []) = ⊤
OpenPairs (Begin b ∷ Begin c ∷ events) = ⊥
OpenPairs (Begin b ∷ Return thread ∷ events) = OpenPairs events

-- pairs, and then a begin where a call is open
abbrev pub PairsSo : Bool → List TraceEvent → Type 0
PairsSo false events = ArePairs events
PairsSo true events = OpenPairs events

pub begin_more : (events : List TraceEvent) (b : BeginEvent) → ArePairs events → OpenPairs (events ++ Begin b ∷ [])
begin_more [] b pairs = tt
begin_more (Return thread ∷ events) b pairs = absurd pairs
begin_more (Begin c ∷ []) b pairs = absurd pairs
begin_more (Begin c ∷ Begin d ∷ events) b pairs = absurd pairs
begin_more (Begin c ∷ Return thread ∷ events) b pairs = begin_more events b pairs

pub return_more : (events : List TraceEvent) (thread : ℕ) → OpenPairs events → ArePairs (events ++ Return thread ∷ [])
return_more [] thread pairs = absurd pairs
return_more (Return t ∷ events) thread pairs = absurd pairs
return_more (Begin b ∷ []) thread pairs = tt
return_more (Begin b ∷ Begin c ∷ events) thread pairs = absurd pairs
return_more (Begin b ∷ Return t ∷ events) thread pairs = return_more events thread pairs

-- ---- on a device

module _ (device_of : Name → Option Name) (device : Name) where
  pairs_on : (on : Bool) (events : List TraceEvent) → ArePairs events → ArePairs (calls_on device_of device on events)
  pairs_on on [] pairs = tt
  pairs_on on (Return thread ∷ events) pairs = absurd pairs
  pairs_on on (Begin b ∷ []) pairs = absurd pairs
  pairs_on on (Begin b ∷ Begin c ∷ events) pairs = absurd pairs
  pairs_on on (Begin b ∷ Return thread ∷ events) pairs =
      put (same_device (device_named device_of b.cmd b.args) (Some device)) (calls_on device_of device (same_device (device_named device_of b.cmd b.args) (Some device)) events)
      (pairs_on (same_device (device_named device_of b.cmd b.args) (Some device)) events pairs)
    where
      put : (u : Bool) (es : List TraceEvent) → ArePairs es → ArePairs (kept_if u (Begin b) (kept_if u (Return thread) es))
      put true es rest = rest
      put false es rest = rest

  -- a begin on the device is on one
  on_one : (b : BeginEvent) → same_device (device_named device_of b.cmd b.args) (Some device) ≡ true → is_on_no_device (row_of b.cmd).params ≡ false
  on_one b is = go (is_on_no_device (row_of b.cmd).params) is
    where
      go : (u : Bool) → same_device (cond u None (option_and_then device_of (name_at b.args 0))) (Some device) ≡ true → u ≡ false
      go true p = cc p
      go false p = refl

  kept_on_device : (on : Bool) (events : List TraceEvent) → AllByRecursion IsOnDevice (calls_on device_of device on events)
  kept_on_device on [] = tt
  kept_on_device on (Begin b ∷ events) = put (same_device (device_named device_of b.cmd b.args) (Some device)) refl (λ u. kept_on_device u events)
    where
      put : (u : Bool) → same_device (device_named device_of b.cmd b.args) (Some device) ≡ u → ((v : Bool) → AllByRecursion IsOnDevice (calls_on device_of device v events))
          → AllByRecursion IsOnDevice (kept_if u (Begin b) (calls_on device_of device u events))
      put true is rest = (on_one b is, rest true)
      put false is rest = rest false
  kept_on_device on (Return thread ∷ events) = put on (calls_on device_of device on events) (kept_on_device on events)
    where
      put : (u : Bool) (es : List TraceEvent) → AllByRecursion IsOnDevice es → AllByRecursion IsOnDevice (kept_if u (Return thread) es)
      put true es rest = (tt, rest)
      put false es rest = rest

  -- no more events are kept than there are
  kept_few : (u : Bool) (e : TraceEvent) (kept events : List TraceEvent) → length kept ≤ length events → length (kept_if u e kept) ≤ length (e ∷ events)
  kept_few true e kept events few = omega (arith, few)
  kept_few false e kept events few = omega (arith, few)

  fewer_on : (on : Bool) (events : List TraceEvent) → length (calls_on device_of device on events) ≤ length events
  fewer_on on [] = omega arith
  fewer_on on (Begin b ∷ events) =
      kept_few (same_device (device_named device_of b.cmd b.args) (Some device)) (Begin b) (calls_on device_of device (same_device (device_named device_of b.cmd b.args) (Some device)) events) events
      (fewer_on (same_device (device_named device_of b.cmd b.args) (Some device)) events)
  fewer_on on (Return thread ∷ events) = kept_few on (Return thread) (calls_on device_of device on events) events (fewer_on on events)

  -- ---- of each stream

  pub each_pairs : (streams : List StreamPart) → AllByRecursion (λ (s : StreamPart). ArePairs s.events) streams → AllByRecursion (λ (s : StreamPart). ArePairs s.events) (map (stream_on device_of device) streams)
  each_pairs [] pairs = tt
  each_pairs (s ∷ streams) pairs = (pairs_on false s.events pairs.0, each_pairs streams pairs.1)

  pub each_on_device : (streams : List StreamPart) → AllByRecursion (λ (s : StreamPart). AllByRecursion IsOnDevice s.events) (map (stream_on device_of device) streams)
  each_on_device [] = tt
  each_on_device (s ∷ streams) = (kept_on_device false s.events, each_on_device streams)

  pub fewer_in : (streams : List StreamPart) → events_in (map (stream_on device_of device) streams) ≤ events_in streams
  fewer_in [] = omega arith
  fewer_in (s ∷ streams) =
      let own = fewer_on false s.events in
      let rest = fewer_in streams in
      let kept : events_in (map (stream_on device_of device) (s ∷ streams)) ≡ length (calls_on device_of device false s.events) + events_in (map (stream_on device_of device) streams) =
      length-append (calls_on device_of device false s.events) (flat_map (λ (x : StreamPart). x.events) (map (stream_on device_of device) streams)) in
      let all : events_in (s ∷ streams) ≡ length s.events + events_in streams = length-append s.events (flat_map (λ (x : StreamPart). x.events) streams) in
      omega (arith, own, rest, kept, all)

  pub same_threads : (streams : List StreamPart) → map (λ (s : StreamPart). s.thread) (map (stream_on device_of device) streams) ≡ map (λ (s : StreamPart). s.thread) streams
  same_threads [] = refl
  same_threads (s ∷ streams) = ap (λ (ts : List ℕ). s.thread ∷ ts) (same_threads streams)
