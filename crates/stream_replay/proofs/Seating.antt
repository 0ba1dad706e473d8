-- What the calls of a stream need, by one event more, and the seats of a file, by one stream more.
use Rattle.std.proofs.Common.{◌≡◌, ◌≤◌, ◌<◌, ◌+◌, ℕ, Option, Some, None, List, [], ◌∷◌, ◌++◌, length, map, take, get_or, sym, ◌∙◌, ap, subst, arith}
use Rattle.std.specs.Prelude.{Vec, option_map}
use Rattle.std.specs.List.{cons_option}
use Rattle.std.proofs.lemmas.List.{map-append, take_all}
use Rattle.trace_format.specs.declared.event.Event.{Event}
use Rattle.trace_format.specs.declared.event.Name.{Name}
use Rattle.trace_format.specs.Content.{BeginEvent, TraceEvent, Begin, Return, content}
use Rattle.model_driver.specs.Seats.{FitsIn, SeatRoom, joined_room}
use Rattle.stream_model.specs.FileParts.{FileParts, StreamPart}
use Rattle.stream_model.specs.Order.{device_named}
use Rattle.stream_model.specs.Plans.{device_written}
use Rattle.merge_model.specs.Planned.{PlannedCall, calls_planned, number_among}
use Rattle.threaded_replay.specs.Files.{stream_part}
use Rattle.device_shard.proofs.Measured.{mapped}
use Rattle.stream_plans.specs.Cuts.{devices_cut}
use Rattle.stream_workers.specs.Work.{needs_of_begin, needs_of_calls}
use Rattle.stream_crew.specs.Crews.{HaveRoom}
use Rattle.stream_replay.specs.Seating.{needs_at, needs_of_events}

-- ---- counts

-- rooms for as many of each are one
pub same_room : (a b : SeatRoom) → a.calls ≡ b.calls → a.handles ≡ b.handles → a.bytes ≡ b.bytes → a ≡ b
same_room a b calls handles bytes =
    let by_calls = λ (n : ℕ). let r : SeatRoom = record { calls = n; handles = a.handles; bytes = a.bytes } in r in
    let by_handles = λ (n : ℕ). let r : SeatRoom = record { calls = b.calls; handles = n; bytes = a.bytes } in r in
    let by_bytes = λ (n : ℕ). let r : SeatRoom = record { calls = b.calls; handles = b.handles; bytes = n } in r in
    ap by_calls calls ∙ (ap by_handles handles ∙ ap by_bytes bytes)

needs_push : (es : List TraceEvent) (e : TraceEvent) → needs_of_events (es ++ e ∷ []) ≡ joined_room (needs_of_events es) (needs_at e)
needs_push [] e = same_room _ _ (omega arith) (omega arith) (omega arith)
needs_push (x ∷ es) e =
    let rest = needs_push es e in
    let calls = ap (λ (r : SeatRoom). r.calls) rest in
    let handles = ap (λ (r : SeatRoom). r.handles) rest in
    let bytes = ap (λ (r : SeatRoom). r.bytes) rest in
    same_room _ _ (omega (arith, calls)) (omega (arith, handles)) (omega (arith, bytes))

pub needs_more : (es : List Event) (i : ℕ) (e : Event) (old new : SeatRoom) → i < length es → e ≡ get_or es i e → old ≡ needs_of_events (map content (take i es)) → new ≡ joined_room old (needs_at (content e)) → new ≡ needs_of_events (map content (take (i + 1) es))
needs_more es i e old new less is so_far here =
    here
    ∙ (ap (λ (r : SeatRoom). joined_room r (needs_at (content e))) so_far
    ∙ (sym (needs_push (map content (take i es)) (content e)) ∙ ap needs_of_events (sym (mapped content es i e less is))))

pub needs_taken : (es : List Event) (i : ℕ) (room : SeatRoom) → length es ≤ i → room ≡ needs_of_events (map content (take i es)) → room ≡ needs_of_events (map content es)
needs_taken es i room far so_far = so_far ∙ ap (λ (xs : List Event). needs_of_events (map content xs)) (take_all i es far)

-- ---- the calls that are planned need no more

fits_on : (a b c : SeatRoom) → FitsIn a b → FitsIn b c → FitsIn a c
fits_on a b c first then = record { calls = omega (arith, first.calls, then.calls); handles = omega (arith, first.handles, then.handles); bytes = omega (arith, first.bytes, then.bytes) }

call_fits : (place : Option ℕ) (b : BeginEvent) (calls : List PlannedCall) (room : SeatRoom) → FitsIn (needs_of_calls calls) room
    → FitsIn (needs_of_calls (cons_option (option_map (λ (k : ℕ). let c : PlannedCall = record { place = k; begin = b } in c) place) calls)) (joined_room (needs_of_begin b) room)
call_fits None b calls room fits = record { calls = omega (arith, fits.calls); handles = omega (arith, fits.handles); bytes = omega (arith, fits.bytes) }
call_fits (Some k) b calls room fits = record { calls = omega (arith, fits.calls); handles = omega (arith, fits.handles); bytes = omega (arith, fits.bytes) }

nothing_fits : (room : SeatRoom) (small : SeatRoom) → FitsIn small room → FitsIn small (joined_room (record { calls = 0; handles = 0; bytes = 0 }) room)
nothing_fits room small fits = record { calls = omega (arith, fits.calls); handles = omega (arith, fits.handles); bytes = omega (arith, fits.bytes) }

-- whichever devices there are
pub planned_fits : (device_of : Name → Option Name) (devices : List Name) (es : List TraceEvent) → FitsIn (needs_of_calls (calls_planned device_of devices es)) (needs_of_events es)
planned_fits device_of devices [] = record { calls = omega arith; handles = omega arith; bytes = omega arith }
planned_fits device_of devices (Begin b ∷ es) =
    call_fits (number_among devices (device_named device_of b.cmd b.args)) b (calls_planned device_of devices es) (needs_of_events es) (planned_fits device_of devices es)
planned_fits device_of devices (Return thread ∷ es) = nothing_fits (needs_of_events es) (needs_of_calls (calls_planned device_of devices es)) (planned_fits device_of devices es)

-- ---- seats

-- the calls of a stream of a file
abbrev pub calls_by : FileParts → StreamPart → List PlannedCall
calls_by file s = calls_planned (device_written file) (devices_cut file) s.events

room_push : {S : Type 0} (room : S → SeatRoom) (seats : List S) (calls : List (List PlannedCall)) (s : S) (cs : List PlannedCall) → HaveRoom room seats calls → FitsIn (needs_of_calls cs) (room s) → HaveRoom room (seats ++ s ∷ []) (calls ++ cs ∷ [])
room_push room [] [] s cs have fits = (fits, tt)
room_push room [] (ds ∷ calls) s cs have fits = absurd have
room_push room (t ∷ seats) [] s cs have fits = absurd have
room_push room (t ∷ seats) (ds ∷ calls) s cs have fits = (have.0, room_push room seats calls s cs have.1 fits)

pub room_more : {S A : Type 0} (room : S → SeatRoom) (file : FileParts) (streams : List (ℕ × Vec Event A)) (i : ℕ) (x : ℕ × Vec Event A) (seats new : List S) (s : S) → i < length streams → x ≡ get_or streams i x → new ≡ seats ++ s ∷ []
    → HaveRoom room seats (map (calls_by file) (map stream_part (take i streams))) → FitsIn (needs_of_events (map content x.1.items)) (room s) → HaveRoom room new (map (calls_by file) (map stream_part (take (i + 1) streams)))
room_more {S} room file streams i x seats new s less is pushed have fits =
    let before : List StreamPart = map stream_part (take i streams) in
    let calls : List (List PlannedCall) = map (calls_by file) before in
    let all : map (calls_by file) (map stream_part (take (i + 1) streams)) ≡ calls ++ calls_by file (stream_part x) ∷ [] =
    ap (map (calls_by file)) (mapped stream_part streams i x less is) ∙ map-append (calls_by file) before (stream_part x ∷ []) in
    let enough : FitsIn (needs_of_calls (calls_by file (stream_part x))) (room s) =
    fits_on (needs_of_calls (calls_by file (stream_part x))) (needs_of_events (map content x.1.items)) (room s) (planned_fits (device_written file) (devices_cut file) (map content x.1.items)) fits in
    subst (λ (cs : List (List PlannedCall)). HaveRoom room new cs) (sym all)
    (subst (λ (ss : List S). HaveRoom room ss (calls ++ calls_by file (stream_part x) ∷ [])) (sym pushed) (room_push room seats calls s (calls_by file (stream_part x)) have enough))

pub room_taken : {S A : Type 0} (room : S → SeatRoom) (file : FileParts) (streams : List (ℕ × Vec Event A)) (i : ℕ) (seats : List S) → length streams ≤ i → HaveRoom room seats (map (calls_by file) (map stream_part (take i streams)))
    → HaveRoom room seats (map (calls_by file) (map stream_part streams))
room_taken room file streams i seats far have = subst (λ (xs : List (ℕ × Vec Event _)). HaveRoom room seats (map (calls_by file) (map stream_part xs))) (take_all i streams far) have
