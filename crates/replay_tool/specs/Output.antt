-- What the program writes, how it ends and what it says, as a function of its words, the variables, the files and the trace's bytes.
-- Source: this project.
use Rattle.std.specs.Prelude.{◌≡◌, ◌++◌, ◌==◌, nat_le, Bool, true, false, ℕ, if◌then◌else◌, Option, Some, None, List, []}
use Rattle.std.specs.List.{concat}
use Rattle.env_filters.specs.Variables.{Variable}
use Rattle.layer_search.specs.Paths.{most_paths}
use Rattle.chain_build.specs.Override.{most_met, setup_of}
use Rattle.chain_build.specs.Setup.{SetupContent}
use Rattle.program_words.specs.Asked.{Asked, AsksChain, AsksGen, AsksRun, AsksSoak, ChainAsked, GenAsked, RunAsked, SoakAsked, words_ask}
use Rattle.program_words.specs.Words.{Word}
use Rattle.replay_base.specs.Files.{File}
use Rattle.trace_format.specs.Content.{TraceEvent}
use Rattle.replay_base.specs.Changes.{Change, Gained}
use Rattle.replay_base.specs.declared.limit.Which.{Which}
use Rattle.replay_base.specs.declared.limit.Which.TheVariants as which
use Rattle.replay_model.specs.Judged.{judged}
use Rattle.replay_model.specs.Setup.{Setup, is_too_long}
use Rattle.replay_model.specs.Text.{reports_in}
use Rattle.replay_model.specs.Stop.{Stop, Cause, Fault, LineBytes, Lines, Names, Layers, stop, events_of}
use Rattle.report_text.specs.Setups.{trace_setup}
use Rattle.trace_gen.specs.Text.{generated}
use Rattle.replay_core.specs.Traffic.{text_of, end_line_of}
use Rattle.replay_core.specs.declared.status.Status.{Status}
use Rattle.replay_core.specs.declared.status.Status.TheVariants as status
use Rattle.replay_tool.specs.Said.{Said, fault_line, limit_line, usage_line}
use Rattle.replay_tool.specs.Showing.{shown_lines, shown_outcome}

-- the bytes that are written, the status, and the line on the error sink, which is empty where nothing is said
pub record Answer : Type 0 where
  pub bytes : List ℕ
  pub status : Status
  pub said : List ℕ

-- a run that came to its end, by the number of reports
abbrev pub end_status : ℕ → Status
end_status reports = if reports == 0 then status.Clean else status.Reported

-- a trace without a stop under a setup: its text, which begins with the notes, and the end line
abbrev pub whole_output : Setup → List TraceEvent → Answer
whole_output s events = record { bytes = text_of s events ++ end_line_of s events; status = end_status (reports_in (judged s events)); said = [] }

-- the limit that a trace passes where it stops for this cause
abbrev pub limit_of : Cause → Option Which
limit_of Lines = Some which.Lines
limit_of LineBytes = Some which.LineBytes
limit_of (Fault f) = None
limit_of Names = Some which.Names
limit_of Layers = Some which.Chain

-- a trace with a stop: the text of the lines before it, and no end line
abbrev pub stopped_output : Setup → ℕ → Cause → List TraceEvent → Answer
stopped_output s line (Fault f) events = record { bytes = text_of s events; status = status.Malformed; said = fault_line line f }
stopped_output s line Lines events = record { bytes = text_of s events; status = status.Limit; said = limit_line which.Lines }
stopped_output s line LineBytes events = record { bytes = text_of s events; status = status.Limit; said = limit_line which.LineBytes }
stopped_output s line Names events = record { bytes = text_of s events; status = status.Limit; said = limit_line which.Names }
stopped_output s line Layers events = record { bytes = text_of s events; status = status.Limit; said = limit_line which.Chain }

-- the answer to a trace that stops here, or nowhere, with these events up to there
abbrev pub output_at : Setup → Option Stop → List TraceEvent → Answer
output_at s None events = whole_output s events
output_at s (Some place) events = stopped_output s place.line place.cause events

-- the answer to a trace of these bytes under a setup
abbrev pub replay_output : Setup → List ℕ → Answer
replay_output s bytes = output_at s (stop s bytes) (events_of s bytes)

-- the answer to words that aren't understood
abbrev pub usage_output : Answer
usage_output = record { bytes = []; status = status.Usage; said = usage_line }

-- a chain is shown, or it is too long
abbrev pub shown_so : Bool → List ℕ → Answer
shown_so false bytes = record { bytes = bytes; status = status.Clean; said = [] }
shown_so true bytes = record { bytes = bytes; status = status.Limit; said = limit_line which.Chain }

-- a setup is shown: its notes, and then its chain where it isn't too long
abbrev pub shown_output : SetupContent → ChainAsked → Answer
shown_output setup asked = shown_so (is_too_long (shown_outcome setup asked)) (concat (shown_lines setup asked))

-- a search met too many manifest files
abbrev pub manifests_output : Answer
manifests_output = record { bytes = []; status = status.Limit; said = limit_line which.Manifests }

-- the answer where a chain is asked for
abbrev pub chain_output : List File → List Variable → ChainAsked → Answer
chain_output files env asked =
    if nat_le (most_met files env asked.root asked.exe) most_paths then shown_output (setup_of files env asked.root asked.exe) asked else manifests_output

-- the answer where a replay is asked for
abbrev pub run_output : List File → List Variable → RunAsked → List ℕ → Answer
run_output files env asked bytes =
    if nat_le (most_met files env asked.root asked.exe) most_paths then replay_output (trace_setup (setup_of files env asked.root asked.exe)) bytes else manifests_output

-- the text of the trace that is made
abbrev pub made_text : GenAsked → List ℕ
made_text made = generated made.number made.calls

-- the answer where a generated trace is asked for: its text
abbrev pub gen_output : GenAsked → Answer
gen_output made = record { bytes = made_text made; status = status.Clean; said = [] }

-- a generated trace that was replayed to its end: its end line alone
abbrev pub soaked_output : Setup → List TraceEvent → Answer
soaked_output s events = record { bytes = end_line_of s events; status = end_status (reports_in (judged s events)); said = [] }

-- a generated trace can stop at the limit on layers alone; nothing is written then
abbrev pub barred_output : Answer
barred_output = record { bytes = []; status = status.Limit; said = limit_line which.Chain }

-- the answer to a generated trace that stops, or doesn't, with these events up to there
abbrev pub soaked_at : Setup → Option Stop → List TraceEvent → Answer
soaked_at s None events = soaked_output s events
soaked_at s (Some place) events = barred_output

-- the answer to a generated trace of these bytes under a setup
abbrev pub soak_under : Setup → List ℕ → Answer
soak_under s bytes = soaked_at s (stop s bytes) (events_of s bytes)

-- the answer where the replay of a generated trace is asked for
abbrev pub soak_output : List File → List Variable → SoakAsked → Answer
soak_output files env asked =
    if nat_le (most_met files env asked.run.root asked.run.exe) most_paths then soak_under (trace_setup (setup_of files env asked.run.root asked.run.exe)) (made_text asked.made)
    else manifests_output

-- the answer to what is asked for
abbrev pub output_of : Option Asked → List Variable → List File → List ℕ → Answer
output_of None env files bytes = usage_output
output_of (Some (AsksRun asked)) env files bytes = run_output files env asked bytes
output_of (Some (AsksChain asked)) env files bytes = chain_output files env asked
output_of (Some (AsksGen made)) env files bytes = gen_output made
output_of (Some (AsksSoak asked)) env files bytes = soak_output files env asked

-- the answer to these words, with these variables and files, and a trace of these bytes
abbrev pub output : List Word → List Variable → List File → List ℕ → Answer
output words env files bytes = output_of (words_ask words) env files bytes

-- the program ended so: with this status, these bytes written, and this line said
pub record IsAnswer (a : Answer) (s : Status) (sink errs : Change) : Type 0 where
  pub status : s ≡ a.status
  pub wrote : Gained sink a.bytes
  pub said : Said a.said errs
