-- One part at a call, and at its results: a step of the machine. Source: this project.
use Rattle.std.specs.Prelude.{ℕ, Bool, false, List, [], if◌then◌else◌}
use Rattle.command_tables.specs.Calls.{CallContent}
use Rattle.command_tables.specs.Effects.{type_made}
use Rattle.command_tables.specs.Table.{row_of}
use Rattle.object_model.specs.declared.Object.{Object}
use Rattle.object_model.specs.Findings.{Report, at_place, is_failing}
use Rattle.layer_model.specs.Parts.{life_failures, life_leave, life_passed, unique_enter, unique_leave, use_enter, use_failures, use_leave}
use Rattle.layer_model.specs.Reading.{read_call, read_made}
use Rattle.layer_model.specs.Walks.{PartState}
use Rattle.layer_model.specs.Walks.{Threads, Lifetimes, Unique}
use Rattle.object_records.specs.Shape.{AreNewOnce}

-- what comes of a call at a part: what it keeps then, the call below it, what it reports, and whether it stops the call
pub record Step : Type 0 where
  pub state : PartState
  pub call : CallContent
  pub reports : List Report
  pub skip : Bool

-- a call of a thread comes to the part at a place
abbrev pub entered : ℕ → ℕ → ℕ → PartState → CallContent → Step
entered thread number k (Threads m) c = record { state = Threads (use_enter m thread number c.cmd (read_call c)); call = c; reports = at_place k (use_failures m thread c.cmd (read_call c)); skip = false }
entered thread number k (Lifetimes m) c = record {
  state = Lifetimes (if is_failing (life_failures m c.cmd (read_call c)) then m else life_passed m c.cmd (read_call c));
  call = c;
  reports = at_place k (life_failures m c.cmd (read_call c));
  skip = is_failing (life_failures m c.cmd (read_call c));
}
entered thread number k (Unique m) c = record { state = Unique m; call = unique_enter m c; reports = []; skip = false }

-- the objects of a call's results
abbrev pub made_by : CallContent → List ℕ → List Object
made_by c results = read_made (type_made (row_of c.cmd).effect) results

-- what a part keeps when results have come, by the call as it stood above the part
abbrev pub left : ℕ → PartState → CallContent → List ℕ → PartState
left thread (Threads m) c results = Threads (use_leave m thread c.cmd (read_call c) (made_by c results))
left thread (Lifetimes m) c results = Lifetimes (life_leave m c.cmd (read_call c) (made_by c results))
left thread (Unique m) c results = Unique (unique_leave m c results).ids

-- the results above it
abbrev pub left_results : PartState → CallContent → List ℕ → List ℕ
left_results (Threads m) c results = results
left_results (Lifetimes m) c results = results
left_results (Unique m) c results = (unique_leave m c results).results

-- no two results are the same that are new to a checking part
abbrev pub MayLeave : PartState → CallContent → List ℕ → Type 0
MayLeave (Threads m) c results = AreNewOnce m.births (made_by c results)
MayLeave (Lifetimes m) c results = AreNewOnce m.births (made_by c results)
MayLeave (Unique m) c results = Unit {0}
