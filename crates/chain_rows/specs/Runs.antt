-- The machine of a chain run over a small trace: what it reports, what it tells the drivers, and what stands in its parts at the end. Source: this project.
use Rattle.std.specs.Prelude.{ℕ, ◌||◌, ◌==◌, if◌then◌else◌, Option, Some, None, is_some, List, [], ◌∷◌, ◌++◌, map, find, length, drop, take, reverse}
use Rattle.std.specs.List.{flat_map}
use Rattle.command_tables.specs.declared.types.ObjectType.{ObjectType}
use Rattle.command_tables.specs.Calls.{DriverCallContent, ReplyContent}
use Rattle.trace_format.specs.Content.{TraceEvent, BeginEvent, Begin, Return}
use Rattle.object_model.specs.Findings.{Findings}
use Rattle.replay_model.specs.Setup.{Setup}
use Rattle.replay_model.specs.Past.{Opened, Past, is_of, is_skipped, open_calls}
use Rattle.replay_model.specs.Judged.{begun_of, judge, made_of}
use Rattle.replay_model.specs.Direct.{answers_of, sent}
use Rattle.replay_model.specs.Text.{report_text}
use Rattle.handle_map.specs.Pairs.{MapEntry}
use Rattle.layer_model.specs.Routes.{drivers_at}
use Rattle.layer_model.specs.Terminator.{told_call}
use Rattle.layer_model.specs.Walks.{PartState, Threads, Lifetimes, Unique}
use Rattle.chain_model.specs.Simulated.{ChainKept, Held, after_begin, after_reply, after_skipped, found_by, no_chain, walk_of}
use Rattle.chain_model.specs.Traces.{held_in_force, in_force, loader_finds}

-- a run so far: what is kept, the judged events, the replies that were given, the newest first, and those that are to come, the machine's report lines
-- and its driver calls
pub record Run : Type 0 where
  pub kept : ChainKept
  pub past : Past
  pub given : List ReplyContent
  pub replies : List ReplyContent
  pub reports : List ℕ
  pub told : List DriverCallContent

-- nothing yet, and these replies
abbrev pub fresh_run : List ReplyContent → Run
fresh_run replies = record { kept = no_chain; past = []; given = []; replies = replies; reports = []; told = [] }

-- ---- a begin

-- what the machine finds
abbrev pub run_finds : Run → Opened → Findings
run_finds r o = found_by (loader_finds r.past o) (walk_of r.kept o).found

-- what it tells the drivers: nothing where it stopped the call, or where the chain is refused
abbrev pub run_tells : Setup → Run → Opened → List DriverCallContent
run_tells s r o =
    if o.refused || is_some (run_finds r o).stop then [] else map (told_call r.kept.terminator (walk_of r.kept o).bottom) (drivers_at s.drivers r.kept.routes (walk_of r.kept o).bottom)

-- the run after a begin
abbrev pub run_begun : Setup → Run → BeginEvent → Run
run_begun s r b =
    let o = (begun_of s r.past b).opened in
    let calls = run_tells s r o in
    record {
      kept = after_begin r.kept (loader_finds r.past o) o;
      past = judge s r.past (Begin b);
      given = reverse (take (length calls) r.replies) ++ r.given;
      replies = drop (length calls) r.replies;
      reports = r.reports ++ flat_map (report_text b o.number) (run_finds r o).reports;
      told = r.told ++ calls;
    }

-- ---- a return

-- what is kept after the return of an open call
abbrev pub kept_returned : Setup → Run → Opened → Held → ChainKept
kept_returned s r o h =
    let made = made_of s r.past o in
    let lost = drop (length made) o.results in
    if is_skipped o then after_skipped r.kept o h lost else after_reply (in_force s r.kept o) o (held_in_force s o h) (answers_of (sent r.past r.given) o.thread) made lost

-- the run after the return of this call
abbrev pub run_with : Setup → Run → ℕ → Option Opened → Option Held → Run
run_with s r thread (Some o) (Some h) = record r { kept = kept_returned s r o h; past = judge s r.past (Return thread) }
run_with s r thread (Some o) None = r
run_with s r thread None h = r

-- the run after a return
abbrev pub run_returned : Setup → Run → ℕ → Run
run_returned s r thread = run_with s r thread (find (is_of thread) (open_calls r.past)) (find (λ (h : Held). h.thread == thread) r.kept.held)

-- ---- all events

-- the run over these events, the oldest first
abbrev pub run_on : Setup → Run → List TraceEvent → Run
run_on s r [] = r
run_on s r (Begin b ∷ events) = run_on s (run_begun s r b) events
run_on s r (Return thread ∷ events) = run_on s (run_returned s r thread) events

-- ---- what stands in a part

-- a pair
abbrev pub Pair : Type 0
Pair = ObjectType × ℕ

-- what stands in a part at the end: what lives in a checking part, with the numbers of the calls that are open; the handle below each id of a unique part
pub data Stood : Type 0 where
  Lives : (living : List Pair) → Stood
  Uses : (living : List Pair) (opens : List ℕ) → Stood
  Gives : (values : List (ObjectType × ℕ × ℕ)) → Stood

-- the same of a part's state
abbrev pub stood : PartState → Stood
stood (Threads m) = Uses (map (λ o. (o.ty, o.number)) m.living) (map (λ u. u.number) m.opens)
stood (Lifetimes m) = Lives (map (λ o. (o.ty, o.number)) m.living)
stood (Unique m) = Gives (map (λ (e : MapEntry ℕ). (e.ty, e.id, e.values)) m.entries)
