-- What the entries of all logs in one order say: the events of the threads, and what drivers replied to the calls that were sent. Entries stand oldest first here but where
-- it is said. Source: this project.
use Rattle.std.specs.Prelude.{◌==◌, ◌&&◌, ℕ, Bool, false, if◌then◌else◌, Option, Some, None, List, [], ◌∷◌, ◌++◌, filter, length, map, position, reverse}
use Rattle.std.specs.List.{slice_index_or}
use Rattle.std.specs.Option.{option_map_or}
use Rattle.command_tables.specs.declared.types.Code.{Code}
use Rattle.command_tables.specs.Calls.{ReplyContent}
use Rattle.stream_log.specs.declared.line.Line.{Line}
use Rattle.trace_format.specs.Content.{TraceEvent, Begin, Return}
use Rattle.stream_model.specs.FileParts.{StreamPart}
use Rattle.stream_model.specs.Plans.{events_along, next_turn}

-- the threads of entries: each entry is a turn of its thread
abbrev pub turns_taken : List Line → List ℕ
turns_taken entries = map (λ (e : Line). e.thread) entries

-- the events of entries, of which each is the next of its thread, the oldest first
abbrev pub events_gathered : List StreamPart → List Line → List TraceEvent
events_gathered streams entries = reverse (events_along streams (reverse (turns_taken entries)))

-- how many calls a thread has begun in these entries
abbrev pub begun_by_thread : ℕ → List Line → ℕ
begun_by_thread thread entries = length (filter (λ (e : Line). e.thread == thread && e.begins) entries)

-- whether the call of a thread with a number, from 0, was sent, by what is marked of each stream's calls
abbrev pub was_sent : List StreamPart → List (List Bool) → ℕ → ℕ → Bool
was_sent streams marks thread number =
    option_map_or (λ i. slice_index_or (slice_index_or marks i []) number false) (position (λ (s : StreamPart). s.thread == thread) streams) false

-- the results of a thread's next entry, where that is a return
abbrev pub next_results : ℕ → List Line → List ℕ
next_results thread [] = []
next_results thread (e ∷ entries) = if e.thread == thread then (if e.begins then [] else e.results) else next_results thread entries

-- the code of a call by its begin
abbrev pub code_of_event : Option TraceEvent → Option Code
code_of_event None = None
code_of_event (Some (Begin b)) = b.code
code_of_event (Some (Return thread)) = None

-- what was replied to a call that begins behind these entries, which stand newest first: its code, and the results of its return among those that follow; nothing where it
-- was not sent, or where the entry is a return
abbrev pub reply_at : List StreamPart → List (List Bool) → List Line → Line → List Line → List ReplyContent
reply_at streams marks before e after =
    if e.begins && was_sent streams marks e.thread (begun_by_thread e.thread before)
    then record { code = code_of_event (next_turn streams e.thread (turns_taken before)); handles = next_results e.thread after } ∷ []
    else []

-- the replies to the calls that were sent, in the order of their begins, behind these entries, which stand newest first
abbrev pub replies_behind : List StreamPart → List (List Bool) → List Line → List Line → List ReplyContent
replies_behind streams marks before [] = []
replies_behind streams marks before (e ∷ after) = reply_at streams marks before e after ++ replies_behind streams marks (e ∷ before) after

-- all of them
abbrev pub replies_gathered : List StreamPart → List (List Bool) → List Line → List ReplyContent
replies_gathered streams marks entries = replies_behind streams marks [] entries
