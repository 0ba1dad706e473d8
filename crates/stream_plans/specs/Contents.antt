-- A plan and the parts of a file by their content. Source: this project.
use Rattle.std.specs.Prelude.{ℕ, List, Vec, map}
use Rattle.trace_format.specs.declared.event.Event.{Event}
use Rattle.trace_format.specs.Content.{content}
use Rattle.stream_model.specs.FileParts.{FileParts}
pub use Rattle.device_shard.specs.Plans.{plan_content}
pub use Rattle.threaded_replay.specs.Files.{file_parts, stream_part}

-- a file by its sections
abbrev pub parts_of : {A : Type 0} → List Event → List (ℕ × Vec Event A) → List Event → FileParts
parts_of setup streams teardown = record { setup = map content setup; streams = map stream_part streams; teardown = map content teardown }
