-- What is said on the error sink. Source: this project.
use Rattle.std.specs.Prelude.{◌⊎◌, ℕ, List, ◌++◌, codes, decimal}
use Rattle.replay_base.specs.Bytes.{GrownByFront}
use Rattle.replay_base.specs.Changes.{Change, Stood, FailedOnce, IsUnmoved, Gained}
use Rattle.chain_build.specs.declared.answers.TheConstants.{MOST_LAYERS}
use Rattle.layer_search.specs.declared.path_list.TheConstants.{MOST_PATHS}
use Rattle.replay_base.specs.declared.limit.TheConstants.{MOST_LINE_BYTES}
use Rattle.replay_base.specs.declared.limit.Which.{Which}
use Rattle.replay_base.specs.declared.limit.Which.TheVariants as which
use Rattle.trace_format.specs.declared.fault.TraceFault.{TraceFault}
use Rattle.replay_model.specs.declared.TheConstants.{MOST_LINES}
use Rattle.stream_model.specs.declared.limits.TheConstants.{MOST_DEVICES, MOST_EVENTS}
use Rattle.trace_format.specs.FaultNames.{fault_name}
use Rattle.trace_format.specs.declared.limits.TheConstants.{MAX_NAMES}

-- the sink failed behind a front of a line
pub record SaidFront (line : List ℕ) (errs : Change) : Type 0 where
  pub failed : FailedOnce errs
  pub front : GrownByFront errs.old errs.new line

-- the sink has a line, and didn't fail
pub record SaidWhole (line : List ℕ) (errs : Change) : Type 0 where
  pub stood : Stood errs
  pub gained : Gained errs line

-- the sink has this line, or it failed behind a front of it
abbrev pub Said : List ℕ → Change → Type 0
Said line errs = SaidWhole line errs ⊎ SaidFront line errs

-- nothing is said
pub record IsSilent (errs : Change) : Type 0 where
  pub same : IsUnmoved errs
  pub stood : Stood errs

-- the front of a line on an input that is refused: the number of its line, from 1
abbrev pub number_text : ℕ → List ℕ
number_text n = codes "vkreplay: line " ++ decimal n

-- and the name of its cause
abbrev pub kind_text : List ℕ → List ℕ
kind_text kind = codes ": " ++ kind

-- what is said of an input that is refused at a line
abbrev pub kind_line : ℕ → List ℕ → List ℕ
kind_line n kind = number_text n ++ (kind_text kind ++ codes "\n")

-- what is said of a trace that stops
abbrev pub fault_line : ℕ → TraceFault → List ℕ
fault_line n f = kind_line n (fault_name f)

-- the name of a limit
abbrev pub limit_name : Which → List ℕ
limit_name which.Manifests = codes "Manifests"
limit_name which.Lines = codes "Lines"
limit_name which.LineBytes = codes "LineBytes"
limit_name which.Names = codes "Names"
limit_name which.Chain = codes "Chain"
limit_name which.Events = codes "Events"
limit_name which.Devices = codes "Devices"

-- the number that it allows in a run; the last two are a stream file's
abbrev pub most_of : Which → ℕ
most_of which.Manifests = MOST_PATHS
most_of which.Lines = MOST_LINES
most_of which.LineBytes = MOST_LINE_BYTES
most_of which.Names = MAX_NAMES
most_of which.Chain = MOST_LAYERS
most_of which.Events = MOST_EVENTS
most_of which.Devices = MOST_DEVICES

-- the front of what is said of a limit
abbrev pub limit_front : Which → List ℕ
limit_front which = codes "vkreplay: limit " ++ limit_name which

-- and its number
abbrev pub most_text : ℕ → List ℕ
most_text most = codes " " ++ decimal most

-- what is said of a limit that allows so many
abbrev pub limit_text : Which → ℕ → List ℕ
limit_text which most = limit_front which ++ (most_text most ++ codes "\n")

-- what is said of a limit of a run
abbrev pub limit_line : Which → List ℕ
limit_line which = limit_text which (most_of which)

-- what is said of words that aren't understood
abbrev pub usage_line : List ℕ
usage_line = codes "vkreplay: words not understood\n"

-- what is said of a source that failed
abbrev pub read_fault_line : List ℕ
read_fault_line = codes "vkreplay: read fault\n"

-- what is said of a sink that failed
abbrev pub write_fault_line : List ℕ
write_fault_line = codes "vkreplay: write fault\n"

-- what is said for want of memory
abbrev pub no_memory_line : List ℕ
no_memory_line = codes "vkreplay: no memory\n"
