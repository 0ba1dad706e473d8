-- Where names come from: their written device, and the stream in which they were given. Source: this project.
use Rattle.std.specs.Prelude.{◌≡◌, ℕ, Bool, if◌then◌else◌, Option, Some, None, List, Vec, option_and_then, slice_get}
use Rattle.std.specs.List.{list_any, slice_index_or}
use Rattle.trace_format.specs.declared.event.Name.{Name}
use Rattle.trace_format.specs.Accepting.{same_name}
use Rattle.threaded_replay.specs.declared.origin.Origin.{Origin}
use Rattle.stream_model.specs.Devices.{written_device}
use Rattle.stream_model.specs.FileLines.{FileLine}
use Rattle.stream_model.specs.Order.{events, stream_of_name}

-- what stands in a place of a row, if anything: nothing beyond the row's end
abbrev pub cell_in : List (Option Origin) → ℕ → Option Origin
cell_in cells at = slice_index_or cells at None

-- what stands in a place of one of these rows, if anything
abbrev pub cell : {A : Type 0} → List (Vec (Option Origin) A) → ℕ → ℕ → Option Origin
cell rows row at = option_and_then (λ r. cell_in r.items at) (slice_get rows row)

-- what is kept of a name, in the row of its thread, at its number
abbrev pub origin_in : {A : Type 0} → List (Vec (Option Origin) A) → Name → Option Origin
origin_in rows n = cell rows n.thread n.number

-- the device that is kept of a name
abbrev pub device_in : {A : Type 0} → List (Vec (Option Origin) A) → Name → Option Name
device_in rows n = option_and_then (λ o. o.device) (origin_in rows n)

-- the stream that is kept of a name
abbrev pub stream_in : {A : Type 0} → List (Vec (Option Origin) A) → Name → Option ℕ
stream_in rows n = option_and_then (λ o. o.stream) (origin_in rows n)

-- where a result comes from: its device is itself, or that of its owner
abbrev pub origin_of : Bool → Option Name → Option ℕ → Name → Origin
origin_of is_device owner stream n = record { device = if is_device then Some n else owner; stream = stream }

-- these results were put, and all else is as it was
abbrev pub PutResults : {A : Type 0} → List (Vec (Option Origin) A) → List (Vec (Option Origin) A) → List Name → (Name → Origin) → Type 0
PutResults old new results origin = (n : Name) → origin_in new n ≡ (if list_any (λ r. same_name r n) results then Some (origin n) else origin_in old n)

-- what is kept is what the lines say
pub record OriginsOf {A : Type 0} (rows : List (Vec (Option Origin) A)) (lines : List FileLine) : Type 0 where
  pub devices : (n : Name) → device_in rows n ≡ written_device (events lines) n
  pub streams : (n : Name) → stream_in rows n ≡ stream_of_name lines n
