-- How a call is judged at its begin. Source: this project.
use Rattle.std.specs.Prelude.{◌≡◌, ◌≤◌, ℕ, Bool, true, not, ◌||◌, if◌then◌else◌, Option, Some, None, is_some, List, [], ◌∷◌, length, map}
use Rattle.command_tables.specs.Calls.{CallContent}
use Rattle.command_tables.specs.Table.{row_of}
use Rattle.command_tables.specs.declared.types.Rule.TheVariants as rule
use Rattle.model_driver.specs.Driver.{FitsRow}
use Rattle.object_model.specs.declared.Argument.{Argument}
use Rattle.object_model.specs.Findings.{Findings, Report, is_failing}
use Rattle.object_model.specs.History.{Birth, born_in}
use Rattle.object_model.specs.Rules.{Failure, failure, loader_failures}
use Rattle.replay_model.specs.Past.{Opened}
use Rattle.layer_model.specs.Walks.{PartState, Walked, enter_parts, nothing_found}
use Rattle.lifetime_layer.specs.declared.verdict.Verdict.{Verdict}
use Rattle.lifetime_layer.specs.Reports.{reports_of}
use Rattle.chain_model.specs.Chained.{form_by}
use Rattle.chain_model.specs.Handed.{Handed, handle_in}
use Rattle.chain_model.specs.Simulated.{base_of, found_by}
use Rattle.dispatch_chain.specs.Holding.{HeldCalls, IsHeldOf}
use Rattle.dispatch_chain.specs.Seats.{kinds_of}
use Rattle.session_model.specs.Living.{ArePast}
use Rattle.session_parts.specs.declared.parts.SessionParts.{SessionParts}

-- ---- the shape of a call

-- the arguments of a call fit its command's row, whatever handles they have
pub record FitsCall (o : Opened) : Type 0 where
  pub row : (g : Argument → ℕ) → FitsRow (row_of o.cmd).params (map (map g) o.args)
  pub params : length o.args ≤ 6
  pub results : length o.results ≤ 1024

-- ---- what is found

-- the walk of a call down parts, where objects have these handles above the first
abbrev pub walk_at : List PartState → List Handed → Opened → Walked
walk_at states handed o = enter_parts o.thread o.number 1 states (form_by (handle_in handed) (base_of o) o.args)

-- the loader's report
abbrev pub loader_report : Report
loader_report = record { place = 0; failure = failure 0 0 rule.Parameter 0 }

-- the place of the last report
abbrev pub last_place : List Report → Option ℕ
last_place [] = None
last_place (r ∷ []) = Some r.place
last_place (r ∷ q ∷ rs) = last_place (q ∷ rs)

-- the place that stops a call, which has the last report
abbrev pub stopped_by : Bool → List Report → Option ℕ
stopped_by skip reports = if skip then last_place reports else None

-- what the loader finds, where these are the births of what lives
abbrev pub found_first : List Birth → Opened → List Failure
found_first births o = loader_failures (born_in births) (row_of o.cmd).params o.args

-- a call comes to the parts: its chain isn't refused, and the loader doesn't report it
abbrev pub comes_down : List Birth → Opened → Bool
comes_down births o = not (o.refused || is_failing (found_first births o))

-- all that is found at a call
abbrev pub found_at : List Birth → List PartState → List Handed → Opened → Findings
found_at births states handed o = if o.refused then nothing_found else found_by (found_first births o) (walk_at states handed o).found

-- ---- a call comes down

-- A call whose chain isn't refused was looked at: what was found and whether it is skipped for that, what the parts keep then, and the call as it stood above
-- each part that it came to and below the last.
pub record IsFound (births : List Birth) (handed : List Handed) (before : List PartState) (o : Opened) (call : CallContent) (held : HeldCalls) (verdict : Verdict) (after : List PartState) : Type 0 where
  pub reports : reports_of verdict.findings.items ≡ (found_at births before handed o).reports
  pub skip : verdict.skip ≡ is_some (found_at births before handed o).stop
  pub stop : stopped_by verdict.skip (reports_of verdict.findings.items) ≡ (found_at births before handed o).stop
  pub states : after ≡ (if comes_down births o then (walk_at before handed o).states else before)
  pub bottom : comes_down births o ≡ true → call ≡ (walk_at before handed o).bottom
  pub forms : IsHeldOf held (kinds_of before) (if comes_down births o then (walk_at before handed o).forms else [])

-- of names and objects only what lives is changed, by what the call ends unless it is skipped, and the end of the chain keeps what it kept
pub record Passes (old : SessionParts) (o : Opened) (new : SessionParts) : Type 0 where
  pub past : ArePast old.names.kept.births o new.names.kept.births
  pub names : new.names.kept ≡ record old.names.kept { births = new.names.kept.births }
  pub terminator : new.terminator ≡ old.terminator

-- a call came down: it was looked at, and what it ends has ended
pub record ComesDown (old : SessionParts) (o : Opened) (call : CallContent) (held : HeldCalls) (verdict : Verdict) (new : SessionParts) : Type 0 where
  pub found : IsFound old.names.kept.births old.names.kept.handed old.states.kept o call held verdict new.states.kept
  pub passes : Passes old (record o { stop = (found_at old.names.kept.births old.states.kept old.names.kept.handed o).stop }) new
