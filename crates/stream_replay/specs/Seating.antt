-- The room that the calls of a stream need in a driver's seat. Source: this project.
use Rattle.std.specs.Prelude.{List, [], ◌∷◌}
use Rattle.trace_format.specs.Content.{TraceEvent, Begin, Return}
use Rattle.model_driver.specs.Seats.{SeatRoom, joined_room}
use Rattle.stream_workers.specs.Work.{needs_of_begin}
use Rattle.stream_replay.specs.declared.counting.Counts.{Counts}

-- none
abbrev pub no_room : SeatRoom
no_room = record { calls = 0; handles = 0; bytes = 0 }

-- what an event's call takes of a seat's room: at its begin all of it
abbrev pub needs_at : TraceEvent → SeatRoom
needs_at (Begin b) = needs_of_begin b
needs_at (Return thread) = no_room

-- what the calls of these events take together
abbrev pub needs_of_events : List TraceEvent → SeatRoom
needs_of_events [] = no_room
needs_of_events (e ∷ es) = joined_room (needs_at e) (needs_of_events es)

-- the room that was counted
abbrev pub room_counted : Counts → SeatRoom
room_counted c = record { calls = c.calls; handles = c.handles; bytes = c.bytes }
