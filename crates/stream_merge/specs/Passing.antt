-- One pass over entries: how far each stream is, and the replies so far. Source: this project.
use Rattle.std.specs.Prelude.{◌≡◌, ◌==◌, ◌+◌, ◌&&◌, ℕ, zero, suc, Bool, false, nat_lt, if◌then◌else◌, Option, Some, None, List, [], ◌∷◌, ◌++◌, get_or, length, set, slice_get}
use Rattle.std.specs.List.{position_or_len, slice_index_or}
use Rattle.std.specs.Option.{option_map_or}
use Rattle.command_tables.specs.Calls.{ReplyContent}
use Rattle.stream_log.specs.declared.line.Line.{Line}
use Rattle.trace_format.specs.Content.{TraceEvent}
use Rattle.stream_model.specs.FileParts.{StreamPart}
use Rattle.stream_model.specs.Plans.{with_event}
use Rattle.stream_merge.specs.declared.cursor.Cursor.{Cursor}
use Rattle.stream_merge.specs.Gathered.{code_of_event}

-- one more, up to a length
abbrev pub advanced : ℕ → ℕ → ℕ
advanced count size = if nat_lt count size then count + 1 else count

-- the place of a thread's stream, and how many there are where it has none
abbrev pub place_of : List StreamPart → ℕ → ℕ
place_of streams thread = position_or_len (λ (s : StreamPart). s.thread == thread) streams

-- the events of the stream at a place, from 0
abbrev pub events_at : List StreamPart → ℕ → List TraceEvent
events_at streams place = option_map_or (λ (s : StreamPart). s.events) (slice_get streams place) []

-- replies, of which the one at a place has these handles
abbrev pub with_handles : List ReplyContent → ℕ → List ℕ → List ReplyContent
with_handles [] place handles = []
with_handles (r ∷ replies) zero handles = record r { handles = handles } ∷ replies
with_handles (r ∷ replies) (suc place) handles = r ∷ with_handles replies place handles

-- the same, where there is a place
abbrev pub answered : Option ℕ → List ℕ → List ReplyContent → List ReplyContent
answered None handles replies = replies
answered (Some place) handles replies = with_handles replies place handles

-- a cursor at the start of a stream
abbrev pub no_cursor : Cursor
no_cursor = record { events = 0; calls = 0; waiting = None }

-- the next call is sent
abbrev pub is_next_sent : List Bool → Cursor → Line → Bool
is_next_sent marks c e = e.begins && slice_index_or marks c.calls false

-- a cursor behind an entry, where so many replies are there before it
abbrev pub cursor_after : List TraceEvent → List Bool → ℕ → Line → Cursor → Cursor
cursor_after events marks count e c = record {
  events = advanced c.events (length events);
  calls = if e.begins then advanced c.calls (length marks) else c.calls;
  waiting = if is_next_sent marks c e then Some count else None;
}

-- the replies behind an entry
abbrev pub replies_after : List TraceEvent → List Bool → Cursor → Line → List ReplyContent → List ReplyContent
replies_after events marks c e replies =
    if e.begins
    then replies ++ (if slice_index_or marks c.calls false then record { code = code_of_event (slice_get events c.events); handles = [] } ∷ [] else [])
    else answered c.waiting e.results replies

-- an entry whose thread has a stream at a place moves its cursor, and adds to the replies
pub record MovedAt (streams : List StreamPart) (marks : List (List Bool)) (e : Line) (place : ℕ) (cursors : List Cursor) (replies : List ReplyContent) (next : List Cursor) (more : List ReplyContent) : Type 0 where
  pub cursors_are : next ≡ set cursors place (cursor_after (events_at streams place) (slice_index_or marks place []) (length replies) e (get_or cursors place no_cursor))
  pub replies_are : more ≡ replies_after (events_at streams place) (slice_index_or marks place []) (get_or cursors place no_cursor) e replies

-- any other changes nothing
abbrev pub Moved : Option ℕ → List StreamPart → List (List Bool) → Line → List Cursor → List ReplyContent → List Cursor → List ReplyContent → Type 0
Moved None streams marks e cursors replies next more = (next ≡ cursors) × (more ≡ replies)
Moved (Some place) streams marks e cursors replies next more = MovedAt streams marks e place cursors replies next more

-- ---- events alone

-- a turn of a thread whose stream is at a place counts it, and adds the stream's next event, where there is one
pub record TurnAt (streams : List StreamPart) (place : ℕ) (counts : List ℕ) (events : List TraceEvent) (next : List ℕ) (more : List TraceEvent) : Type 0 where
  pub counts_are : next ≡ set counts place (advanced (get_or counts place 0) (length (events_at streams place)))
  pub events_are : more ≡ events ++ with_event (slice_get (events_at streams place) (get_or counts place 0)) []

-- any other changes nothing
abbrev pub Turned : Option ℕ → List StreamPart → List ℕ → List TraceEvent → List ℕ → List TraceEvent → Type 0
Turned None streams counts events next more = (next ≡ counts) × (more ≡ events)
Turned (Some place) streams counts events next more = TurnAt streams place counts events next more
