-- How a command ended, before anything is said of it. Source: this project.
use Rattle.std.specs.Prelude.{◌≡◌, ◌⊎◌, ◌<◌, Option, Some, None, Result, Ok, Err}
use Rattle.std.specs.Option.{option_map}
use Rattle.layer_search.specs.Causes.{WhereTold}
use Rattle.layer_search.specs.Paths.{most_paths}
use Rattle.chain_build.specs.Override.{most_met}
use Rattle.chain_session.specs.declared.kept.Kept.{Kept}
use Rattle.chain_session.specs.Standing.{ShowsOnce}
use Rattle.session_model.specs.Session.{SessionKept}
use Rattle.replay_base.specs.Changes.{Change, FailedOnce, IsUnmoved, Stood}
use Rattle.replay_base.specs.Faults.{raised}
use Rattle.replay_base.specs.declared.limit.Which.TheVariants as which
use Rattle.replay_model.specs.Setup.{Setup}
use Rattle.replay_core.specs.declared.error.ReplayError.{ReplayError}
use Rattle.replay_core.specs.declared.error.ReplayError.TheVariants as error
use Rattle.replay_core.specs.declared.status.Status.{Status}
use Rattle.replay_core.specs.declared.status.Status.TheVariants as status
use Rattle.replay_tool.specs.Output.{end_status}
use Rattle.replay_tool.specs.Said.{IsSilent, Said}
use Rattle.replay_tool.specs.Showing.{Search}
use Rattle.replay_tool.specs.Statuses.{line_of, status_of}

-- the end of a command, with what the session keeps where a replay came to its end, or by an error
abbrev pub End : Type 0
End = Result (Option (Option Kept)) ReplayError

-- such an end, by what a session keeps
abbrev pub end_kept : {S : Type 0} → (S → Option Kept) → Result (Option S) ReplayError → End
end_kept kept (Ok session) = Ok (option_map kept session)
end_kept kept (Err e) = Err e

-- whatever a session that keeps this stands for, the status is that of its reports
abbrev pub CountsTo : Option Kept → Status → Type 0
CountsTo x st = (s : Setup) (k : SessionKept) → ShowsOnce s x k → st ≡ end_status k.reports

-- the status of an end
abbrev pub HasStatus : End → Status → Type 0
HasStatus (Ok None) st = st ≡ status.Clean
HasStatus (Ok (Some session)) st = CountsTo session st
HasStatus (Err e) st = st ≡ status_of e

-- what the session keeps that comes back, if one does
abbrev pub session_at : End → Option (Option Kept)
session_at (Ok session) = session
session_at (Err e) = None

-- what is said of an end
abbrev pub SaysOf : End → Change → Type 0
SaysOf (Ok session) errs = IsSilent errs
SaysOf (Err e) errs = Said (line_of e) errs

-- ---- the sink behind a command

-- the sink handed on what it held back, or had failed already, and the end is as before
pub record HandedOn (before after : End) (sink : Change) : Type 0 where
  pub is : after ≡ before
  pub same : IsUnmoved sink
  pub stood : Stood sink

-- it failed when it was to hand that on, and hadn't failed before
pub record FailedBehind (before after : End) (sink : Change) : Type 0 where
  pub other : before ≡ Err error.Write → ⊥
  pub is : after ≡ Err error.Write
  pub same : IsUnmoved sink
  pub failed : FailedOnce sink

-- what becomes of an end when the sink is to hand on what it holds back
abbrev pub Flushes : End → End → Change → Type 0
Flushes before after sink = HandedOn before after sink ⊎ FailedBehind before after sink

-- ---- manifests that aren't read

-- the tree failed, a search met too many manifest files, or memory ran out
abbrev pub LacksSetup : Search → ReplayError → Type 0
LacksSetup search error.Read = search.tree.faults ≡ raised search.tree.faults_before
LacksSetup search (error.Limit which.Manifests) =
    WhereTold search.tree.files (λ files. most_paths < most_met files search.env search.root search.exe) × (search.tree.faults ≡ search.tree.faults_before)
LacksSetup search error.NoMemory = search.tree.faults ≡ search.tree.faults_before
LacksSetup search other = ⊥
