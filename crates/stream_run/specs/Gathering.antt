-- What closed logs say in one order. Source: this project.
use Rattle.std.specs.Prelude.{◌≡◌, Bool, List, map}
use Rattle.command_tables.specs.Calls.{ReplyContent}
use Rattle.stream_log.specs.declared.line.Line.{Line}
use Rattle.trace_format.specs.Content.{TraceEvent}
use Rattle.stream_model.specs.FileParts.{StreamPart}
use Rattle.log_merge.specs.Merged.{IsLogMerge, NumberedLine}
use Rattle.stream_merge.specs.Gathered.{events_gathered, replies_gathered}

-- the lines of entries
abbrev pub lines_of : List NumberedLine → List Line
lines_of merged = map (λ (x : NumberedLine). x.line) merged

-- All entries of these logs in one order, with the events that they say, and the replies, by what is marked of each stream's calls.
pub record IsGathered (streams : List StreamPart) (marks : List (List Bool)) (logs : List (List Line)) (events : List TraceEvent) (replies : List ReplyContent) : Type 0 where
  pub merged : List NumberedLine
  pub one : IsLogMerge logs merged
  pub events_are : events ≡ events_gathered streams (lines_of merged)
  pub replies_are : replies ≡ replies_gathered streams marks (lines_of merged)
