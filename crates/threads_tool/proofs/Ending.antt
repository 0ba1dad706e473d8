-- Each end of a run is one of the program.
use Rattle.std.proofs.Common.{◌≡◌, List, [], Option, refl, subst, sym, inl, inr}
use Rattle.std.specs.Prelude.{◌⊎◌, Some, None, Result, Ok, Err, IfOk, IfErr}
use Rattle.model_driver.specs.Logs.{Log}
use Rattle.program_words.specs.Asked.{Asked, AsksRun, RunAsked}
use Rattle.replay_model.specs.Setup.{Setup}
use Rattle.chain_session.specs.declared.kept.Kept.{Kept}
use Rattle.threaded_replay.specs.declared.error.StreamError.TheVariants as file_error
use Rattle.replay_core.specs.declared.status.Status.{Status}
use Rattle.replay_tool.specs.Ends.{CountsTo}
use Rattle.replay_tool.specs.Said.{IsSilent, Said}
use Rattle.replay_tool.specs.Showing.{Search, UnderSetup, search_of}
use Rattle.replay_tool.proofs.Ending.{by_reports, status_kept}
use Rattle.threads_tool.specs.declared.reading.Stop.{Stop}
use Rattle.threads_tool.specs.declared.reading.Stop.TheVariants as stop
use Rattle.threads_tool.specs.Ending.{Answer, AnswersStop, AnswersWith}
use Rattle.threads_tool.specs.Outcome.{Completed, Ends, EndsAs, EndsBefore, EndsUnder, ThreadsRun, threads_ask}
use Rattle.threads_tool.specs.Stops.{StopsRun, StopsUnder, WroteAll, stop_line, stop_status}

module _ {S : Type 0} (log : S → Log) (run : ThreadsRun) where
  -- a run under a setup that stopped
  stopped_under : (s : Setup) (e : Stop) → StopsUnder log s run.streams run.sink e → Said (stop_line e) run.errs → EndsUnder log s run (stop_status e) None []
  stopped_under s stop.Tree w said = absurd w.0
  stopped_under s stop.TooMany w said = absurd w.0
  stopped_under s (stop.File file_error.Read) w said = record { breaks = w.0; only = record { nothing = w.1; said = said } }
  stopped_under s (stop.File (file_error.Trace line fault)) w said = record { error = file_error.Trace line fault; refused = w.0; status = refl; only = record { nothing = w.1; said = said } }
  stopped_under s (stop.File (file_error.Section line)) w said = record { error = file_error.Section line; refused = w.0; status = refl; only = record { nothing = w.1; said = said } }
  stopped_under s (stop.File (file_error.NoDevice line)) w said = record { error = file_error.NoDevice line; refused = w.0; status = refl; only = record { nothing = w.1; said = said } }
  stopped_under s (stop.File (file_error.CrossDevice line)) w said = record { error = file_error.CrossDevice line; refused = w.0; status = refl; only = record { nothing = w.1; said = said } }
  stopped_under s (stop.File (file_error.NotInStream line)) w said = record { error = file_error.NotInStream line; refused = w.0; status = refl; only = record { nothing = w.1; said = said } }
  stopped_under s (stop.File (file_error.Limit which)) w said = inl (record { error = file_error.Limit which; refused = w.0; status = refl; only = record { nothing = w.1; said = said } })
  stopped_under s (stop.File file_error.NoMemory) w said = absurd w.0
  stopped_under s stop.Chain w said = inr (record { long = w.0; only = record { nothing = w.1; said = said } })
  stopped_under s stop.Write w said = record { front = w; said = said }
  stopped_under s stop.NoMemory w said = record { nothing = w; said = said }

  -- a run that stopped
  stopped : (search : Search) (e : Stop) → StopsRun log search run.streams run.sink e → Said (stop_line e) run.errs
      → EndsBefore {S = S} search run (stop_status e) None [] ⊎ UnderSetup search (λ s. EndsUnder log s run (stop_status e) None [])
  stopped search stop.Tree (inl w) said = inl (record { cause = record { failed = w.0; nothing = w.1.nothing }; only = record { untouched = w.1; said = said } })
  stopped search stop.TooMany (inl w) said = inl (record { cause = record { told = w.0.0; stood = w.0.1; nothing = w.1.nothing }; only = record { untouched = w.1; said = said } })
  stopped search (stop.File e) (inl w) said = absurd w.0
  stopped search stop.Chain (inl w) said = absurd w.0
  stopped search stop.Write (inl w) said = absurd w.0
  stopped search stop.NoMemory (inl w) said = inl (record { cause = w.0; only = record { untouched = w.1; said = said } })
  stopped search e (inr w) said = inr (record { setup = w.setup; told = w.told; stood = w.stood; holds = stopped_under _ e w.holds said })

  -- a run that came to its end
  completed_under : (s : Setup) (session : Option Kept) (seats : List S) (st : Status) → WroteAll log s run.streams run.sink session seats → CountsTo session st → IsSilent run.errs
      → EndsUnder log s run st (Some session) seats
  completed_under s session seats st wrote counts silent =
      let stands = wrote.shown.replayed.stands in
      let done : Completed log s run session seats = record { wrote = wrote; silent = silent } in
      subst (λ (t : Status). EndsUnder log s run t (Some session) seats) (sym (status_kept s session stands.kept st stands.shows counts))
      (by_reports session (λ t. EndsUnder log s run t (Some session) seats) (λ none. (done, none)) (λ some. (done, some)))

  completed : (search : Search) (session : Option Kept) (seats : List S) (st : Status) → UnderSetup search (λ s. WroteAll log s run.streams run.sink session seats) → CountsTo session st → IsSilent run.errs
      → EndsBefore {S = S} search run st (Some session) seats ⊎ UnderSetup search (λ s. EndsUnder log s run st (Some session) seats)
  completed search session seats st w counts silent =
      inr (record { setup = w.setup; told = w.told; stood = w.stood; holds = completed_under _ session seats st w.holds counts silent })

  -- the answer that a run under these words has
  abbrev answer : Status → Option (Option Kept) → List S → Answer S
  answer st session seats = record { status = st; session = session; seats = seats; errs = run.errs }

  pub answered : {R : Type 0} (kept : R → Option Kept) (made : R → List S) (asked : RunAsked) (done : Result R Stop) (st : Status) (session : Option (Option Kept)) (seats : List S)
      → threads_ask run.words ≡ Some (AsksRun asked)
      → IfOk done (λ r. UnderSetup (search_of asked.root asked.exe run.env run.tree) (λ s. WroteAll log s run.streams run.sink (kept r) (made r)))
      → IfErr done (StopsRun log (search_of asked.root asked.exe run.env run.tree) run.streams run.sink)
      → IfOk done (λ r. AnswersWith (answer st session seats) (kept r) (made r)) → IfErr done (AnswersStop (answer st session seats)) → Ends log run st session seats
  answered kept made asked (Ok r) st session seats is all stops with stopped_so =
      inl (subst (λ (o : Option Asked). EndsAs log o run st session seats) (sym is)
      (subst (λ (x : Option (Option Kept)). EndsAs log (Some (AsksRun asked)) run st x seats) (sym with.session)
      (subst (λ (xs : List S). EndsAs log (Some (AsksRun asked)) run st (Some (kept r)) xs) (sym with.seats)
      (completed (search_of asked.root asked.exe run.env run.tree) (kept r) (made r) st all with.counts with.silent))))
  answered kept made asked (Err e) st session seats is all stops with stopped_so =
      inl (subst (λ (o : Option Asked). EndsAs log o run st session seats) (sym is)
      (subst (λ (x : Option (Option Kept)). EndsAs log (Some (AsksRun asked)) run st x seats) (sym stopped_so.session)
      (subst (λ (xs : List S). EndsAs log (Some (AsksRun asked)) run st None xs) (sym stopped_so.seats)
      (subst (λ (t : Status). EndsAs log (Some (AsksRun asked)) run t None []) (sym stopped_so.status)
      (stopped (search_of asked.root asked.exe run.env run.tree) e stops stopped_so.said)))))
