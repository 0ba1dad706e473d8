-- The cause of each status, and what then was read, told, written and said. Source: this project.
use Rattle.std.specs.Prelude.{◌≡◌, ◌≢◌, ◌⊎◌, ℕ, ⊤, Option, Some, None, List, Ok, Err}
use Rattle.env_filters.specs.Variables.{Variable}
use Rattle.model_driver.specs.Driver.{prepared}
use Rattle.model_driver.specs.Logs.{Log}
use Rattle.model_driver.specs.declared.driver.Policy.{Policy}
use Rattle.program_words.specs.Asked.{Asked, AsksChain, AsksGen, AsksRun, AsksSoak, GenAsked, words_ask}
use Rattle.program_words.specs.Words.{Word}
use Rattle.replay_base.specs.Bytes.{GrownByFront}
use Rattle.replay_base.specs.Changes.{Change, FailedOnce, Gained, IsUnmoved, Stood}
use Rattle.replay_base.specs.Faults.{Rose}
use Rattle.replay_base.specs.Files.{File}
use Rattle.replay_base.specs.declared.limit.Which.{Which}
use Rattle.replay_base.specs.declared.limit.Which.TheVariants as which
use Rattle.trace_format.specs.declared.fault.TraceFault.{TraceFault}
use Rattle.replay_model.specs.Setup.{Setup}
use Rattle.replay_model.specs.Stop.{Cause, Layers, at_fault, events_of}
use Rattle.chain_session.specs.declared.kept.Kept.{Kept}
use Rattle.replay_core.specs.Replayed.{Run, Ended, StoppedAt, StoppedByLimit, NotRead, BrokeIn, RanOutOf, IsUntouched}
use Rattle.replay_core.specs.Traffic.{Traffic, end_line_of}
use Rattle.replay_core.specs.declared.error.ReplayError.{ReplayError}
use Rattle.replay_core.specs.declared.error.ReplayError.TheVariants as error
use Rattle.replay_core.specs.declared.status.Status.{Status}
use Rattle.replay_core.specs.declared.status.Status.TheVariants as status
use Rattle.replay_tool.specs.Output.{IsAnswer, limit_of, made_text, output}
use Rattle.replay_tool.specs.Said.{Said, IsSilent, fault_line, limit_line, usage_line, read_fault_line, write_fault_line, no_memory_line}
use Rattle.replay_tool.specs.Showing.{ChainRun, MetTooMany, Search, Shows, TreeFailed, TreeSeen, UnderSetup, WroteNothing, chain_run, search_of}
use Rattle.replay_tool.specs.Statuses.{line_of}

-- what the program was given and what went through it: its words and variables, the tree of manifests, the run, and the error sink
pub record Process : Type 0 where
  pub words : List Word
  pub env : List Variable
  pub tree : TreeSeen
  pub run : Run
  pub errs : Change

-- ---- words that aren't understood

-- nothing was read, and the source stood
pub record IsUnread (source : Change) : Type 0 where
  pub same : IsUnmoved source
  pub stood : Stood source

-- nothing was read, told or written
pub record DidNothing (run : Run) : Type 0 where
  pub unread : IsUnmoved run.source
  pub stood : Stood run.source
  pub untouched : IsUntouched run.traffic

-- a line was said, and nothing else was done
pub record SaidOnly (line : List ℕ) (run : Run) (errs : Change) : Type 0 where
  pub nothing : DidNothing run
  pub said : Said line errs

-- how words end that aren't understood: that is said, or memory ran out before
abbrev pub EndsUsage : Run → Change → Status → Option (Option Kept) → Type 0
EndsUsage run errs status.Usage None = SaidOnly usage_line run errs
EndsUsage run errs status.NoMemory None = SaidOnly no_memory_line run errs
EndsUsage run errs other session = ⊥

-- ---- a replay

-- the number of reports of a session, which keeps nothing before the first call
abbrev pub reports_kept : Option Kept → ℕ
reports_kept None = 0
reports_kept (Some x) = x.reports

-- under this setup the replay ended with a session that keeps this; nothing was said
pub record Completed (s : Setup) (session : Option Kept) (run : Run) (errs : Change) : Type 0 where
  pub ended : Ended s session run
  pub silent : IsSilent errs

-- the replay was cut so, and this line was said of it
pub record CutShort (Cut : Run → Type 0) (line : List ℕ) (run : Run) (errs : Change) : Type 0 where
  pub cut : Cut run
  pub said : Said line errs

-- the trace has a fault, which was said
pub record IsMalformed (s : Setup) (run : Run) (errs : Change) : Type 0 where
  pub line : ℕ
  pub fault : TraceFault
  pub stopped : CutShort (StoppedAt s (at_fault line fault)) (fault_line line fault) run errs

-- the trace passes a limit, which was said
pub record IsLimited (s : Setup) (run : Run) (errs : Change) : Type 0 where
  pub cause : Cause
  pub which : Which
  pub limit : limit_of cause ≡ Some which
  pub stopped : CutShort (StoppedByLimit s cause) (limit_line which) run errs

-- How a replay under a setup ends. A session comes back exactly where it came to its end: without a report the status is Clean, else Reported. Any other
-- status has its cause.
abbrev pub EndsUnder : Setup → Run → Change → Status → Option (Option Kept) → Type 0
EndsUnder s run errs status.Clean (Some session) = Completed s session run errs × (reports_kept session ≡ 0)
EndsUnder s run errs status.Reported (Some session) = Completed s session run errs × (reports_kept session ≢ 0)
EndsUnder s run errs status.Malformed None = IsMalformed s run errs
EndsUnder s run errs status.ReadFault None = CutShort (NotRead s) read_fault_line run errs
EndsUnder s run errs status.WriteFault None = CutShort (BrokeIn s) write_fault_line run errs
EndsUnder s run errs status.Limit None = IsLimited s run errs
EndsUnder s run errs status.NoMemory None = CutShort (RanOutOf s) no_memory_line run errs
EndsUnder s run errs other session = ⊥

-- the manifests weren't read for this cause: nothing was read of the trace, told or written, and this line was said
pub record WithoutSetup (Cause : Type 0) (line : List ℕ) (run : Run) (errs : Change) : Type 0 where
  pub cause : Cause
  pub only : SaidOnly line run errs

-- how a run ends whose manifests aren't read: the tree failed, a search met too many, or memory ran out
abbrev pub EndsBefore : Search → Run → Change → Status → Option (Option Kept) → Type 0
EndsBefore search run errs status.ReadFault None = WithoutSetup (TreeFailed search.tree run.traffic.sink) read_fault_line run errs
EndsBefore search run errs status.Limit None = WithoutSetup (MetTooMany search run.traffic.sink) (limit_line which.Manifests) run errs
EndsBefore search run errs status.NoMemory None = WithoutSetup (search.tree.faults ≡ search.tree.faults_before) no_memory_line run errs
EndsBefore search run errs other session = ⊥

-- How a run ends: its manifests aren't read, or they give a setup under which the trace is replayed.
abbrev pub EndsRun : Search → Run → Change → Status → Option (Option Kept) → Type 0
EndsRun search run errs status session = EndsBefore search run errs status session ⊎ UnderSetup search (λ s. EndsUnder s run errs status session)

-- ---- a chain that is shown

-- the trace wasn't read, and the driver wasn't called
pub record LeftTrace (run : Run) : Type 0 where
  pub unread : IsUnmoved run.source
  pub stood : Stood run.source
  pub driver : run.traffic.log ≡ run.traffic.old_log

-- the chain was shown to its end, and nothing was said
pub record ShowedAll (chain : ChainRun) (sink errs : Change) : Type 0 where
  pub shows : Shows chain sink (Ok tt)
  pub silent : IsSilent errs

-- an error cut it short, and its line was said
pub record ShowedCut (chain : ChainRun) (e : ReplayError) (sink errs : Change) : Type 0 where
  pub shows : Shows chain sink (Err e)
  pub said : Said (line_of e) errs

-- how the showing of a chain ends
abbrev pub ShowEnds : ChainRun → Change → Change → Status → Type 0
ShowEnds chain sink errs status.Clean = ShowedAll chain sink errs
ShowEnds chain sink errs status.ReadFault = ShowedCut chain error.Read sink errs
ShowEnds chain sink errs status.WriteFault = ShowedCut chain error.Write sink errs
ShowEnds chain sink errs status.Limit = ShowedCut chain (error.Limit which.Manifests) sink errs ⊎ ShowedCut chain (error.Limit which.Chain) sink errs
ShowEnds chain sink errs status.NoMemory = ShowedCut chain error.NoMemory sink errs
ShowEnds chain sink errs other = ⊥

-- the chain was shown, never with a session, and nothing else was done
abbrev pub EndsChain : ChainRun → Run → Change → Status → Option (Option Kept) → Type 0
EndsChain chain run errs s None = LeftTrace run × ShowEnds chain run.traffic.sink errs s
EndsChain chain run errs s (Some session) = ⊥

-- ---- a trace that is made

-- the text was written, and nothing was said
pub record MadeAll (text : List ℕ) (sink errs : Change) : Type 0 where
  pub wrote : Gained sink text
  pub stood : Stood sink
  pub silent : IsSilent errs

-- the sink failed behind a front of the text, which was said
pub record MadeFront (text : List ℕ) (sink errs : Change) : Type 0 where
  pub front : GrownByFront sink.old sink.new text
  pub failed : FailedOnce sink
  pub said : Said write_fault_line errs

-- there was no memory for it, and nothing was written
pub record MadeNothing (sink errs : Change) : Type 0 where
  pub nothing : WroteNothing sink
  pub said : Said no_memory_line errs

-- how the making of a text ends
abbrev pub MakeEnds : List ℕ → Change → Change → Status → Type 0
MakeEnds text sink errs status.Clean = MadeAll text sink errs
MakeEnds text sink errs status.WriteFault = MadeFront text sink errs
MakeEnds text sink errs status.NoMemory = MadeNothing sink errs
MakeEnds text sink errs other = ⊥

-- a generated trace was written, never with a session, and nothing else was done
abbrev pub EndsGen : GenAsked → Run → Change → Status → Option (Option Kept) → Type 0
EndsGen made run errs s None = LeftTrace run × MakeEnds (made_text made) run.traffic.sink errs s
EndsGen made run errs s (Some session) = ⊥

-- ---- a generated trace that is replayed

-- The replay of a generated trace, with the drivers' log before and after: its source is the generated text, and its sink is nobody's.
pub record OfGenerated (made : GenAsked) (old_log log : Log) (inner : Run) : Type 0 where
  pub source : inner.source.old ≡ Some (made_text made)
  pub before : inner.traffic.old_log ≡ old_log
  pub after : inner.traffic.log ≡ log

-- it ended under a setup with a session that keeps this
pub record SoakedWhole (s : Setup) (made : GenAsked) (session : Option Kept) (old_log log : Log) : Type 0 where
  pub inner : Run
  pub of : OfGenerated made old_log log inner
  pub ended : Ended s session inner

-- it stopped at the limit on layers
pub record SoakBarred (s : Setup) (made : GenAsked) (old_log log : Log) : Type 0 where
  pub inner : Run
  pub of : OfGenerated made old_log log inner
  pub stopped : StoppedByLimit s Layers inner

-- memory ran out within it
pub record SoakRanOut (s : Setup) (made : GenAsked) (old_log log : Log) : Type 0 where
  pub inner : Run
  pub of : OfGenerated made old_log log inner
  pub ran_out : RanOutOf s inner

-- why it didn't come to its end: a generated trace has no fault and passes no other limit, and neither its source nor its sink fails
abbrev pub SoakCut : Setup → GenAsked → Log → Log → ReplayError → Type 0
SoakCut s made old_log log (error.Limit which.Chain) = SoakBarred s made old_log log
SoakCut s made old_log log error.NoMemory = (log ≡ old_log) ⊎ SoakRanOut s made old_log log
SoakCut s made old_log log other = ⊥

-- the end line of a generated trace
abbrev pub soaked_line : Setup → GenAsked → List ℕ
soaked_line s made = end_line_of s (events_of s (made_text made))

-- it ended, the end line alone was written, and nothing was said
pub record Soaked (s : Setup) (made : GenAsked) (session : Option Kept) (t : Traffic) (errs : Change) : Type 0 where
  pub whole : SoakedWhole s made session t.old_log t.log
  pub wrote : Gained t.sink (soaked_line s made)
  pub stood : Stood t.sink
  pub silent : IsSilent errs

-- it ended, and the sink failed behind a front of the end line, which was said
pub record SoakBroke (s : Setup) (made : GenAsked) (t : Traffic) (errs : Change) : Type 0 where
  pub session : Option Kept
  pub whole : SoakedWhole s made session t.old_log t.log
  pub front : GrownByFront t.sink.old t.sink.new (soaked_line s made)
  pub failed : FailedOnce t.sink
  pub said : Said write_fault_line errs

-- it ended, and there was no memory for the end line
pub record SoakedInVain (s : Setup) (made : GenAsked) (old_log log : Log) : Type 0 where
  pub session : Option Kept
  pub whole : SoakedWhole s made session old_log log

-- nothing was written for this cause, and this line was said
pub record WroteNone (Cause : Type 0) (line : List ℕ) (sink errs : Change) : Type 0 where
  pub cause : Cause
  pub nothing : WroteNothing sink
  pub said : Said line errs

-- How the replay of a generated trace ends under a setup. A session comes back exactly where it came to its end.
abbrev pub SoaksUnder : Setup → GenAsked → Traffic → Change → Status → Option (Option Kept) → Type 0
SoaksUnder s made t errs status.Clean (Some session) = Soaked s made session t errs × (reports_kept session ≡ 0)
SoaksUnder s made t errs status.Reported (Some session) = Soaked s made session t errs × (reports_kept session ≢ 0)
SoaksUnder s made t errs status.WriteFault None = SoakBroke s made t errs
SoaksUnder s made t errs status.Limit None = WroteNone (SoakCut s made t.old_log t.log (error.Limit which.Chain)) (limit_line which.Chain) t.sink errs
SoaksUnder s made t errs status.NoMemory None =
    WroteNone (SoakCut s made t.old_log t.log error.NoMemory ⊎ SoakedInVain s made t.old_log t.log) no_memory_line t.sink errs
SoaksUnder s made t errs other session = ⊥

-- how it ends: the manifests aren't read, or they give a setup under which it is replayed; the program's own source isn't read
abbrev pub EndsSoak : Search → GenAsked → Run → Change → Status → Option (Option Kept) → Type 0
EndsSoak search made run errs status session =
    EndsBefore search run errs status session ⊎ (IsUnread run.source × UnderSetup search (λ s. SoaksUnder s made run.traffic errs status session))

-- ---- the program

-- how the program ends, by what the words ask for
abbrev pub EndsAs : Option Asked → Process → Status → Option (Option Kept) → Type 0
EndsAs None p s session = EndsUsage p.run p.errs s session
EndsAs (Some (AsksRun asked)) p s session = EndsRun (search_of asked.root asked.exe p.env p.tree) p.run p.errs s session
EndsAs (Some (AsksChain asked)) p s session = EndsChain (chain_run asked p.env p.tree) p.run p.errs s session
EndsAs (Some (AsksGen made)) p s session = EndsGen made p.run p.errs s session
EndsAs (Some (AsksSoak asked)) p s session = EndsSoak (search_of asked.run.root asked.run.exe p.env p.tree) asked.made p.run p.errs s session

-- the same run with a sink that didn't fail
abbrev pub with_sound_sink : Run → Run
with_sound_sink run = record {
  source = run.source;
  traffic = record { old_log = run.traffic.old_log; log = run.traffic.log; sink = record (run.traffic.sink) { faults = run.traffic.sink.faults_before } };
}

-- The sink failed when it was to hand on what it held back. By then the program had come to an end, whatever it would have said of it.
pub record BrokeBehind (asked : Option Asked) (p : Process) : Type 0 where
  pub status : Status
  pub session : Option (Option Kept)
  pub errs : Change
  pub ended : EndsAs asked (record p { run = with_sound_sink p.run; errs = errs }) status session
  pub failed : FailedOnce p.run.traffic.sink
  pub said : Said write_fault_line p.errs

-- how the program ends, where its sink may hold back what is written
abbrev pub Ends : Option Asked → Process → Status → Option (Option Kept) → Type 0
Ends (Some asked) p status.WriteFault None = EndsAs (Some asked) p status.WriteFault None ⊎ BrokeBehind (Some asked) p
Ends asked p s session = EndsAs asked p s session

-- a count of faults didn't rise
abbrev pub NeverRose : ℕ → ℕ → Type 0
NeverRose before now = Rose before now → ⊥

-- the sink didn't fail
abbrev pub SinkStood : Process → Type 0
SinkStood p = NeverRose p.run.traffic.sink.faults_before p.run.traffic.sink.faults

-- a trace's source tells these bytes, and neither it nor the sink failed
pub record TellsTrace (p : Process) (bytes : List ℕ) : Type 0 where
  pub told : p.run.source.old ≡ Some bytes
  pub source : NeverRose p.run.source.faults_before p.run.source.faults
  pub sink : SinkStood p

-- the tree tells these files, and neither it nor the sink failed
pub record TellsFiles (p : Process) (files : List File) : Type 0 where
  pub told : p.tree.files ≡ Some files
  pub tree : NeverRose p.tree.faults_before p.tree.faults
  pub sink : SinkStood p

-- what the words ask to be read is told, and nothing failed: the trace and the files for a replay, the files for a chain and for a generated trace that is
-- replayed, and nothing for one that is written or for words that aren't understood
abbrev pub Tells : Option Asked → Process → List File → List ℕ → Type 0
Tells None p files bytes = ⊤
Tells (Some (AsksRun asked)) p files bytes = TellsTrace p bytes × TellsFiles p files
Tells (Some (AsksChain asked)) p files bytes = TellsFiles p files
Tells (Some (AsksGen made)) p files bytes = SinkStood p
Tells (Some (AsksSoak asked)) p files bytes = TellsFiles p files

-- The promises of the program: where what the words ask for is told and nothing failed, the status, what is written and what is said are a function of the
-- words, the variables, the files and the trace's bytes, and memory alone is free; and each status has its cause.
pub record Keeps (p : Process) (s : Status) (session : Option (Option Kept)) : Type 0 where
  pub function : (files : List File) (bytes : List ℕ) → Tells (words_ask p.words) p files bytes
      → IsAnswer (output p.words p.env files bytes) s p.run.traffic.sink p.errs ⊎ (s ≡ status.NoMemory)
  pub causes : Ends (words_ask p.words) p s session

-- the driver is prepared with a policy, unless memory ran out before
abbrev pub IsPreparedWith : Policy → Status → Option Policy → Option Policy → Type 0
IsPreparedWith policy s old new = (new ≡ prepared old policy) ⊎ ((s ≡ status.NoMemory) × (new ≡ old))

-- The driver is prepared once, with the policy that the words choose for a replay; otherwise no method of it is called.
abbrev pub IsPrepared : Option Asked → Status → Option Policy → Option Policy → Type 0
IsPrepared (Some (AsksRun asked)) s old new = IsPreparedWith asked.policy s old new
IsPrepared (Some (AsksSoak asked)) s old new = IsPreparedWith asked.run.policy s old new
IsPrepared other s old new = new ≡ old

-- A tree is as it was, but where the words ask for a chain or a replay.
abbrev pub IsLeftBy : {T : Type 0} → Option Asked → T → T → Type 0
IsLeftBy None old new = new ≡ old
IsLeftBy (Some (AsksGen made)) old new = new ≡ old
IsLeftBy (Some other) old new = ⊤
