-- The numbers of the plans of a stream's calls.
use Rattle.std.proofs.Common.{◌≡◌, ◌∙◌, ℕ, Option, List, [], map, ap}
use Rattle.std.specs.Prelude.{Vec, reverse}
use Rattle.std.specs.List.{flat_map}
use Rattle.trace_format.specs.declared.event.Name.{Name}
use Rattle.stream_model.specs.FileParts.{FileParts, StreamPart, all_events}
use Rattle.stream_model.specs.Plans.{device_written}
use Rattle.stream_plans.specs.Cuts.{devices_cut, devices_with, places_planned}
use Rattle.stream_plans.specs.Tables.{Knows, device_in}
use Rattle.stream_plans.proofs.CutLemmas.{tells}

-- the numbers in all streams of a file
pub places_are : {A : Type 0} (rows : List (Vec (Option Name) A)) (file : FileParts) (devices : List Name) (places : List (List ℕ)) → Knows rows (reverse (all_events file))
    → devices ≡ devices_with (device_in rows) [] (flat_map (λ s. s.events) file.streams) → places ≡ map (λ (s : StreamPart). places_planned (device_in rows) devices s.events) file.streams
    → places ≡ map (λ (s : StreamPart). places_planned (device_written file) (devices_cut file) s.events) file.streams
places_are rows file devices places k named are =
    are
    ∙ (ap (λ (ds : List Name). map (λ (s : StreamPart). places_planned (device_in rows) ds s.events) file.streams) named
    ∙ ap (λ (f : Name → Option Name). map (λ (s : StreamPart). places_planned f (devices_with f [] (flat_map (λ s. s.events) file.streams)) s.events) file.streams) (tells rows file k))
