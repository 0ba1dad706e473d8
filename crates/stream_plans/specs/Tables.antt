-- What a table keeps of names, and of their written devices. Source: this project.
use Rattle.std.specs.Prelude.{◌≡◌, ◌++◌, ℕ, Bool, if◌then◌else◌, Option, Some, None, List, Vec, option_and_then, reverse, slice_get}
use Rattle.std.specs.List.{list_any, slice_index_or}
use Rattle.trace_format.specs.declared.event.Name.{Name}
use Rattle.trace_format.specs.Accepting.{same_name}
use Rattle.trace_format.specs.Content.{TraceEvent}
use Rattle.stream_model.specs.Devices.{written_device}

-- what stands in a place of a row, if anything: nothing beyond the row's end
abbrev pub cell_in : {V : Type 0} → List (Option V) → ℕ → Option V
cell_in cells at = slice_index_or cells at None

-- what stands in a place of one of these rows, if anything
abbrev pub cell : {V A : Type 0} → List (Vec (Option V) A) → ℕ → ℕ → Option V
cell rows row at = option_and_then (λ r. cell_in r.items at) (slice_get rows row)

-- what is kept of a name, in the row of its thread, at its number
abbrev pub value_in : {V A : Type 0} → List (Vec (Option V) A) → Name → Option V
value_in rows n = cell rows n.thread n.number

-- the device that is kept of a name
abbrev pub device_in : {A : Type 0} → List (Vec (Option Name) A) → Name → Option Name
device_in rows n = value_in rows n

-- the device of a result: itself, or that of its owner
abbrev pub device_of_result : Bool → Option Name → Name → Option Name
device_of_result is_device owner n = if is_device then Some n else owner

-- the devices of these results were put, and all else is as it was
abbrev pub PutResults : {A : Type 0} → List (Vec (Option Name) A) → List (Vec (Option Name) A) → List Name → (Name → Option Name) → Type 0
PutResults old new results device = (n : Name) → device_in new n ≡ (if list_any (λ r. same_name r n) results then device n else device_in old n)

-- the table has the written device of each name behind these events, of which the newest comes first
pub record Knows {A : Type 0} (rows : List (Vec (Option Name) A)) (before : List TraceEvent) : Type 0 where
  pub devices : (n : Name) → device_in rows n ≡ written_device before n

-- the table took these events, the oldest first
pub record Learns {A : Type 0} (old new : List (Vec (Option Name) A)) (events : List TraceEvent) : Type 0 where
  pub learns : (before : List TraceEvent) → Knows old before → Knows new (reverse events ++ before)
