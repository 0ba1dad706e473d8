-- Which call comes to which place of the chain, and what is reported there.
-- Source: Khronos Vulkan-Loader interface documents (a call passes from the application down through the layers' parts). That a reported call goes no further is this project's.
use Rattle.std.specs.Prelude.{ℕ, ◌+◌, Bool, true, false, not, ◌&&◌, if◌then◌else◌, ◌==◌, nat_le, Some, None, List, [], ◌∷◌}
use Rattle.std.specs.Option.{option_map_or}
use Rattle.command_tables.specs.Effects.{succeeds}
use Rattle.command_tables.specs.declared.types.CommandId.TheVariants as cmd
use Rattle.command_tables.specs.Table.{row_of}
use Rattle.command_tables.specs.Tests.{same_command}
use Rattle.object_model.specs.History.{Call, Begins, Returns, History, alive}
use Rattle.object_model.specs.Rules.{Failure, failures, loader_failures}
use Rattle.object_model.specs.Uses.{overlaps}
use Rattle.object_model.specs.Findings.{Findings, at_place, is_failing, above}
use Rattle.object_model.specs.declared.PartKind.{PartKind}
use Rattle.object_model.specs.declared.PartKind.TheVariants as part
use Rattle.replay_model.specs.Setup.{Setup, parts_of}
use Rattle.replay_model.specs.Past.{Opened, Began, Returned, Past, is_skipped, call_of, objects_of, history}

-- ---- what a place is given

-- a call reaches a place where its chain isn't refused and no place above it stops it
abbrev pub reaches : Opened → ℕ → Bool
reaches o k = not o.refused && option_map_or (nat_le k) o.stop true

-- the place itself skips the call
abbrev pub stops_at : Opened → ℕ → Bool
stops_at o k = option_map_or (λ n. n == k) o.stop false

-- The calls that reach a place with their returns. For the place a call is skipped only where it skips it itself, so never for a threads part.
abbrev pub seen_past : Past → ℕ → History
seen_past [] k = []
seen_past (Began e o reports ∷ past) k = if reaches o k then Begins (call_of o) (stops_at o k) ∷ seen_past past k else seen_past past k
seen_past (Returned o made ∷ past) k = if reaches o k then Returns (call_of o) (objects_of made) ∷ seen_past past k else seen_past past k

-- the parts in force: those of the chain of the unskipped vkCreateInstance that succeeded and returned, none before it
abbrev pub parts_in_force : Setup → Past → List PartKind
parts_in_force s [] = []
parts_in_force s (Began e o reports ∷ past) = parts_in_force s past
parts_in_force s (Returned o made ∷ past) =
    if same_command o.cmd cmd.CreateInstance && (not (is_skipped o) && succeeds o.cmd o.code) then parts_of (s.outcome o.payload) else parts_in_force s past

-- ---- what is reported

-- what one place finds at a call, and whether its findings skip the call
pub record Checked : Type 0 where
  pub place : ℕ
  pub skips : Bool
  pub failures : List Failure

-- what the parts find, from place k on: a lifetimes part by the trace's history, a threads part by the calls that reached it; a unique part checks nothing
abbrev pub parts_checked : Past → Call → ℕ → List PartKind → List Checked
parts_checked past call k [] = []
parts_checked past call k (part.Threads ∷ parts) = record { place = k; skips = false; failures = overlaps (seen_past past k) call } ∷ parts_checked past call (k + 1) parts
parts_checked past call k (part.Lifetimes ∷ parts) = record { place = k; skips = true; failures = failures (history past) call } ∷ parts_checked past call (k + 1) parts
parts_checked past call k (part.Unique ∷ parts) = parts_checked past call (k + 1) parts

-- what the loader finds: the first argument alone is checked
abbrev pub loader_checked : Past → Call → Checked
loader_checked past call = record { place = 0; skips = true; failures = loader_failures (alive (history past)) (row_of call.cmd).params call.args }

-- what each place finds at a call, from the loader down
abbrev pub checked : Setup → Past → Call → List Checked
checked s past call = loader_checked past call ∷ parts_checked past call 1 (parts_in_force s past)

-- The reports in order of the places, down to the first place that finds something and skips the call. A threads part stops nothing.
abbrev pub findings : List Checked → Findings
findings [] = record { reports = []; stop = None }
findings (c ∷ below) =
    if c.skips && is_failing c.failures then record { reports = at_place c.place c.failures; stop = Some c.place } else above (at_place c.place c.failures) (findings below)
