-- What the steps of a chain's parts and of its terminator may rely on, where a session stands for a trace. Source: this project.
use Rattle.std.specs.Prelude.{◌≡◌, ℕ, true, false, ◌==◌, None, List, [], ◌∷◌, map, find, length}
use Rattle.std.specs.List.{AllByRecursion}
use Rattle.command_tables.specs.Calls.{CallContent}
use Rattle.command_tables.specs.Effects.{type_made}
use Rattle.command_tables.specs.Table.{row_of}
use Rattle.model_driver.specs.Driver.{FitsRow, HasShape}
use Rattle.trace_format.specs.Content.{BeginEvent}
use Rattle.object_model.specs.History.{Birth}
use Rattle.replay_model.specs.Setup.{Setup}
use Rattle.replay_model.specs.Past.{arguments_in, is_skipped}
use Rattle.replay_model.specs.Direct.{Sent}
use Rattle.layer_model.specs.Reading.{read_made}
use Rattle.layer_model.specs.Routes.{drivers_at}
use Rattle.layer_model.specs.Terminator.{terminator_leave}
use Rattle.layer_model.specs.Walks.{PartState, Threads, Lifetimes, Unique, leave_parts}
use Rattle.chain_model.specs.Chained.{form_by}
use Rattle.chain_model.specs.Handed.{handle_in}
use Rattle.chain_model.specs.Simulated.{Held, base_of, born_flags}
use Rattle.chain_model.specs.Traces.{IsSent, held_in_force, in_force}
use Rattle.object_records.specs.Shape.{AreNewOnce}
use Rattle.session_model.specs.Session.{SessionKept}
use Rattle.session_tables.specs.Lined.{AreLined}
use Rattle.session_model.specs.Beginning.{calls_told, opened_with}
use Rattle.session_model.specs.Returning.{lost_kept, made_kept}

-- ---- a begin

-- no threads part has an open call of the thread
abbrev pub NoneOpen : ℕ → List PartState → Type 0
NoneOpen thread [] = Unit {0}
NoneOpen thread (Threads m ∷ states) = (find (λ u. u.thread == thread) m.opens ≡ None) × NoneOpen thread states
NoneOpen thread (Lifetimes m ∷ states) = NoneOpen thread states
NoneOpen thread (Unique m ∷ states) = NoneOpen thread states

-- the call as it comes to the first part, in the handles above it
abbrev pub call_handed : SessionKept → BeginEvent → CallContent
call_handed k e = form_by (handle_in k.chain.handed) (base_of (opened_with k e None false [])) (arguments_in k.names e.args)

-- What the steps of a begin may rely on: no threads part has an open call of its thread, the call has a list of handles for each parameter, what
-- each driver is told has its command's shape, and the owners of what lives live and stand in a line.
pub record BeginSteps (s : Setup) (k : SessionKept) (e : BeginEvent) : Type 0 where
  pub idle : NoneOpen e.thread k.chain.states
  pub row : FitsRow (row_of e.cmd).params (call_handed k e).args
  pub shapes : AllByRecursion HasShape (calls_told s k e)
  pub lined : AreLined k.births

-- ---- a return

-- the call has a list of handles for each parameter of its row
abbrev pub HasRow : CallContent → Type 0
HasRow c = length c.args ≡ length (row_of c.cmd).params

-- of the results of a call, read as objects, no two that are new to these births are the same
abbrev pub AreNewApart : List Birth → CallContent → List ℕ → Type 0
AreNewApart births c hs = AreNewOnce births (read_made (type_made (row_of c.cmd).effect) hs)

-- so it is at each checking part that the call had reached, with the results that come from below it
abbrev pub ComeUpApart : ℕ → List PartState → List CallContent → List ℕ → Type 0
ComeUpApart thread [] forms hs = Unit {0}
ComeUpApart thread (s ∷ states) [] hs = Unit {0}
ComeUpApart thread (Threads m ∷ states) (c ∷ forms) hs = AreNewApart m.births c (leave_parts thread states forms hs).results × ComeUpApart thread states forms hs
ComeUpApart thread (Lifetimes m ∷ states) (c ∷ forms) hs = AreNewApart m.births c (leave_parts thread states forms hs).results × ComeUpApart thread states forms hs
ComeUpApart thread (Unique m ∷ states) (c ∷ forms) hs = ComeUpApart thread states forms hs

-- the results that come up from the terminator, with 0 for each lost one
abbrev pub results_sent : Setup → SessionKept → Sent → Held → List ℕ
results_sent s k c h =
    (terminator_leave (in_force s k.chain c.opened).terminator (held_in_force s c.opened h).bottom c.answers (born_flags (made_kept s k c.opened) (lost_kept s k c.opened))).results

-- What the steps of a return may rely on: the call has an answer of each of its drivers, these are found again by its first argument, it has the
-- lists of its row above each part, and whether it was sent or skipped, the results that come up are new once to each checking part.
pub record ReturnSteps (s : Setup) (k : SessionKept) (c : Sent) (h : Held) : Type 0 where
  pub answers : IsSent c
  pub drivers : is_skipped c.opened ≡ false → drivers_at s.drivers k.chain.routes h.bottom ≡ c.opened.drivers
  pub rows : AllByRecursion HasRow h.forms
  pub rows_in_force : AllByRecursion HasRow (held_in_force s c.opened h).forms
  pub sent : is_skipped c.opened ≡ false → ComeUpApart c.opened.thread (in_force s k.chain c.opened).states (held_in_force s c.opened h).forms (results_sent s k c h)
  pub skipped : is_skipped c.opened ≡ true → ComeUpApart c.opened.thread k.chain.states h.forms (map (λ _. 0) (lost_kept s k c.opened))
