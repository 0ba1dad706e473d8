-- Walks over the entries of a stored row. Source: this project.
use Rattle.std.specs.Prelude.{ℕ, ◌-◌, ◌<◌, Bool, is_some, List, [], ◌∷◌, ◌++◌, slice_get, slice_set, Option, Some, None, if◌then◌else◌}
use Rattle.command_tables.specs.declared.types.CommandId.{CommandId}
use Rattle.command_tables.specs.Calls.{CallContent, call_content}
use Rattle.command_tables.specs.declared.call.LayerCall.{LayerCall}
use Rattle.object_model.specs.Findings.{Report}
use Rattle.lifetime_layer.specs.declared.verdict.Verdict.{Verdict}
use Rattle.lifetime_layer.specs.Reports.{reports_of}
use Rattle.layer_model.specs.Walks.{PartState, Left, Walked}
use Rattle.dispatch_chain.specs.declared.entry.Entry.{Entry}
use Rattle.dispatch_chain.specs.Rows.{picked}
use Rattle.dispatch_chain.specs.Seats.{kinds_of}
use Rattle.dispatch_chain.specs.Steps.{entered, left, left_results, MayLeave}

-- where a walk down is: what all parts keep, the call, what was reported so far, and whether the call was stopped
pub record Down : Type 0 where
  pub states : List PartState
  pub call : CallContent
  pub reports : List Report
  pub skip : Bool

-- the part at a place, where there is one, takes a call in
abbrev pub stepped : ℕ → ℕ → ℕ → Down → Option PartState → Down
stepped thread number place d None = d
stepped thread number place d (Some s) = record {
  states = slice_set d.states (place - 1) (entered thread number place s d.call).state;
  call = (entered thread number place s d.call).call;
  reports = d.reports ++ (entered thread number place s d.call).reports;
  skip = (entered thread number place s d.call).skip;
}

-- the part of an entry does
abbrev pub step_down : ℕ → ℕ → Entry → Down → Down
step_down thread number e d = stepped thread number e.place d (slice_get d.states (e.place - 1))

-- what a walk down leaves, with the call as it stood above each part that it came to
pub record Entered : Type 0 where
  pub down : Down
  pub forms : List CallContent

-- one more form stands in front
abbrev pub with_form : CallContent → Entered → Entered
with_form c w = record { down = w.down; forms = c ∷ w.forms }

-- the walk down over entries, to the first part that stops the call
abbrev pub enter_entries : ℕ → ℕ → List Entry → Down → Entered
enter_entries thread number [] d = record { down = d; forms = [] }
enter_entries thread number (e ∷ es) d = if d.skip then record { down = d; forms = [] } else with_form d.call (enter_entries thread number es (step_down thread number e d))

-- forms that were held before stand in front
abbrev pub with_front : List CallContent → Entered → Entered
with_front forms w = record { down = w.down; forms = forms ++ w.forms }

-- where a walk down is, by the program's values
abbrev pub down_of : List PartState → LayerCall → Verdict → Down
down_of states c v = record { states = states; call = call_content c; reports = reports_of v.findings.items; skip = v.skip }

-- what the walk through all parts leaves, as one over a row leaves it: with the reports behind those before, and the forms that are held
abbrev pub walk_seen : CommandId → List PartState → List Report → Walked → Entered
walk_seen cmd states reports w = record {
  down = record { states = w.states; call = w.bottom; reports = reports ++ w.found.reports; skip = is_some w.found.stop };
  forms = picked cmd (kinds_of states) w.forms;
}

-- the part at a place, where there is one, takes results in
abbrev pub stepped_up : ℕ → ℕ → CallContent → Left → Option PartState → Left
stepped_up thread place c w None = w
stepped_up thread place c w (Some s) = record { states = slice_set w.states (place - 1) (left thread s c w.results); results = left_results s c w.results }

-- the part of an entry does
abbrev pub step_up : ℕ → Entry → CallContent → Left → Left
step_up thread e c w = stepped_up thread e.place c w (slice_get w.states (e.place - 1))

-- the walk up over the entries that have a form, the last one first
abbrev pub leave_entries : ℕ → List Entry → List CallContent → Left → Left
leave_entries thread [] cs w = w
leave_entries thread (e ∷ es) [] w = w
leave_entries thread (e ∷ es) (c ∷ cs) w = step_up thread e c (leave_entries thread es cs w)

-- the part at a place, where there is one, may take results in
abbrev pub MayLeaveAt : CallContent → List ℕ → Option PartState → Type 0
MayLeaveAt c results None = Unit {0}
MayLeaveAt c results (Some s) = MayLeave s c results

-- on the walk up no two results are the same that are new to a checking part
abbrev pub CanLeave : ℕ → List Entry → List CallContent → Left → Type 0
CanLeave thread [] cs w = Unit {0}
CanLeave thread (e ∷ es) [] w = Unit {0}
CanLeave thread (e ∷ es) (c ∷ cs) w =
    MayLeaveAt c (leave_entries thread es cs w).results (slice_get (leave_entries thread es cs w).states (e.place - 1)) × CanLeave thread es cs w

-- each entry has a place from 1 to this number
abbrev pub AllWithin : ℕ → List Entry → Type 0
AllWithin n [] = Unit {0}
AllWithin n (e ∷ es) = (0 < e.place) × ((e.place - 1 < n) × AllWithin n es)

-- the places of entries rise, from above this number
abbrev pub ArePlacesRising : ℕ → List Entry → Type 0
ArePlacesRising n [] = Unit {0}
ArePlacesRising n (e ∷ es) = (n < e.place) × ArePlacesRising e.place es
