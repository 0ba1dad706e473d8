-- The plan of a device, by its content. Source: this project.
use Rattle.std.specs.Prelude.{ℕ, Vec, map}
use Rattle.trace_format.specs.declared.event.Event.{Event}
use Rattle.trace_format.specs.Content.{content}
use Rattle.stream_model.specs.FileParts.{StreamPart}
use Rattle.stream_model.specs.Plans.{DevicePlan}
use Rattle.device_shard.specs.declared.plan.Plan.{Plan}

-- a thread with its events
abbrev pub stream_planned : {A : Type 0} → ℕ × Vec Event A → StreamPart
stream_planned s = record { thread = s.0; events = map content s.1.items }

-- the content of a plan
abbrev pub plan_content : Plan → DevicePlan
plan_content p = record { device = p.device; streams = map stream_planned p.streams.items }
