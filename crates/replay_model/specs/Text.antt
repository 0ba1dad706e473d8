-- The lines that a trace prints. Source: this project; the identifiers have the form of the Vulkan 1.3 specification's implicit valid usage statements (VUID-),
-- or are this project's own (VKR-).
use Rattle.std.specs.Prelude.{ℕ, ◌+◌, Bool, ◌&&◌, if◌then◌else◌, nat_lt, Option, Some, None, List, [], ◌∷◌, ◌++◌, find, length, slice_get, unwrap_or, codes, decimal}
use Rattle.std.specs.List.{flat_map}
use Rattle.std.specs.Option.{option_map_or}
use Rattle.command_tables.specs.Effects.{succeeds, type_made}
use Rattle.command_tables.specs.declared.types.CommandId.{CommandId}
use Rattle.command_tables.specs.declared.types.CommandId.TheVariants as cmd
use Rattle.command_tables.specs.declared.types.Code.{Code}
use Rattle.command_tables.specs.declared.types.Code.TheVariants as code
use Rattle.command_tables.specs.declared.types.Rule.{Rule}
use Rattle.command_tables.specs.declared.types.Rule.TheVariants as rule
use Rattle.command_tables.specs.Table.{ParamSpec, row_of}
use Rattle.command_tables.specs.Tests.{same_command}
use Rattle.trace_format.specs.declared.event.Name.{Name}
use Rattle.trace_format.specs.Grammar.{one_text, code_text}
use Rattle.trace_format.specs.Content.{Arg, BeginEvent, TraceEvent, Begin, Return}
use Rattle.replay_model.specs.Setup.{Setup, refusal_of, outcome_text}
use Rattle.replay_model.specs.Past.{Opened, Judged, Began, Returned, Past, is_skipped, is_of, open_calls, calls_in}
use Rattle.object_model.specs.Findings.{Report}
use Rattle.replay_model.specs.Judged.{begun_of, made_of}

-- ---- reports

-- the identifier of a rule at a command's parameter
abbrev pub identifier : List ℕ → List ℕ → Rule → List ℕ
identifier command param rule.Parameter = codes "VUID-" ++ command ++ codes "-" ++ param ++ codes "-parameter"
identifier command param rule.Parent = codes "VUID-" ++ command ++ codes "-" ++ param ++ codes "-parent"
identifier command param rule.Children = codes "VKR-" ++ command ++ codes "-" ++ param ++ codes "-children"
identifier command param rule.Overlap = codes "VKR-" ++ command ++ codes "-" ++ param ++ codes "-overlap"

-- the place in a list, at a parameter that takes one
abbrev pub index_text : Bool → ℕ → List ℕ
index_text many k = if many then codes " index=" ++ decimal k else []

-- the number of children, or of the call with which a use conflicts
abbrev pub detail_text : Rule → ℕ → List ℕ
detail_text rule.Children n = codes " children=" ++ decimal n
detail_text rule.Overlap n = codes " with=" ++ decimal n
detail_text _ n = []

-- the name that is written in a place of a call
abbrev pub written_at : List Arg → ℕ → ℕ → Option Name
written_at args p k = unwrap_or (slice_get (option_map_or (λ a. a.names) (slice_get args p) []) k) None

-- the line of a report at a call with this number and command, at a parameter and an argument
abbrev pub report_line : ℕ → CommandId → ParamSpec → Option Name → Report → List ℕ
report_line number c p name r =
    codes "report " ++ decimal number ++ codes " " ++ decimal r.place ++ codes " " ++ identifier (row_of c).name p.name r.failure.rule ++ codes " " ++ one_text name
    ++ index_text p.many r.failure.index ++ detail_text r.failure.rule r.failure.detail ++ codes "\n"

-- the line of a report at a begin
abbrev pub report_text : BeginEvent → ℕ → Report → List ℕ
report_text e number r =
    option_map_or (λ p. report_line number e.cmd p (written_at e.args r.failure.param r.failure.index) r) (slice_get (row_of e.cmd).params r.failure.param) []

-- ---- returns

-- What an enumeration of physical devices answers that succeeds: incomplete where it names some devices and fewer than there are drivers.
abbrev pub enumerated : ℕ → ℕ → Code
enumerated drivers names = if nat_lt 0 names && nat_lt names drivers then code.Incomplete else code.Success

-- the answer of a skipped call
abbrev pub skipped_answer : Setup → Opened → Option Code
skipped_answer s o = if o.refused then refusal_of (s.outcome o.payload) else (if (row_of o.cmd).returns then Some code.ErrorValidationFailedExt else None)

-- the answer of a call: its code in the trace, unless it is skipped or enumerates physical devices
abbrev pub answer_of : Setup → Opened → Option Code
answer_of s o =
    if is_skipped o then skipped_answer s o
    else (if same_command o.cmd cmd.EnumeratePhysicalDevices && succeeds o.cmd o.code then Some (enumerated s.drivers (length o.results)) else o.code)

-- the number of born results, at a command that has results
abbrev pub born_text : CommandId → ℕ → List ℕ
born_text c n = option_map_or (λ t. codes " born=" ++ decimal n) (type_made (row_of c).effect) []

-- the line of a return with so many born results
abbrev pub return_text : Setup → Opened → ℕ → List ℕ
return_text s o born = codes "ret " ++ decimal o.number ++ codes " " ++ (row_of o.cmd).name ++ codes " " ++ code_text (answer_of s o) ++ born_text o.cmd born ++ codes "\n"

-- ---- all lines

-- the lines of a chain or its refusal, at a vkCreateInstance
abbrev pub chain_text : Setup → BeginEvent → ℕ → List ℕ
chain_text s e number = if same_command e.cmd cmd.CreateInstance then outcome_text (s.outcome e.payload) number else []

-- the lines of one judged event
abbrev pub judged_lines : Setup → Judged → List ℕ
judged_lines s (Began e o reports) = chain_text s e o.number ++ flat_map (report_text e o.number) reports
judged_lines s (Returned o made) = return_text s o (length made)

-- the lines of all judged events
abbrev pub lines : Setup → Past → List ℕ
lines s [] = []
lines s (j ∷ past) = lines s past ++ judged_lines s j

-- the text of a trace: the notes, and then the lines of each event
abbrev pub text : Setup → Past → List ℕ
text s past = s.notes ++ lines s past

-- the lines of one event after such a past
abbrev pub lines_at : Setup → Past → TraceEvent → List ℕ
lines_at s past (Begin e) = let b = begun_of s past e in judged_lines s (Began e b.opened b.reports)
lines_at s past (Return thread) = option_map_or (λ o. judged_lines s (Returned o (made_of s past o))) (find (is_of thread) (open_calls past)) []

-- ---- the tally

-- how many calls are skipped
abbrev pub skipped_in : Past → ℕ
skipped_in [] = 0
skipped_in (Began e o reports ∷ past) = skipped_in past + (if is_skipped o then 1 else 0)
skipped_in (Returned o made ∷ past) = skipped_in past

-- how many reports there are
abbrev pub reports_in : Past → ℕ
reports_in [] = 0
reports_in (Began e o reports ∷ past) = reports_in past + length reports
reports_in (Returned o made ∷ past) = reports_in past

-- the last line, with these numbers of calls, skipped calls and reports
abbrev pub end_line : ℕ → ℕ → ℕ → List ℕ
end_line calls skipped reports = codes "end calls=" ++ decimal calls ++ codes " skipped=" ++ decimal skipped ++ codes " reports=" ++ decimal reports ++ codes "\n"

-- the last line of a trace
abbrev pub end_of : Past → List ℕ
end_of past = end_line (calls_in past) (skipped_in past) (reports_in past)
