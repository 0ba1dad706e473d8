-- A file that was replayed and not shown whole.
use Rattle.std.proofs.Common.{ℕ, List, Option}
use Rattle.std.specs.Prelude.{Err}
use Rattle.model_driver.specs.Logs.{Log}
use Rattle.replay_base.specs.Changes.{Change}
use Rattle.trace_format.specs.Content.{TraceEvent}
use Rattle.replay_model.specs.Setup.{Setup}
use Rattle.chain_session.specs.declared.kept.Kept.{Kept}
use Rattle.stream_model.specs.FileParts.{FileParts}
use Rattle.merge_model.specs.Merges.{merged_events}
use Rattle.stream_replay.specs.Replayed.{HasReplayed}
use Rattle.threads_tool.specs.declared.reading.Stop.{Stop}
use Rattle.threads_tool.specs.declared.reading.Stop.TheVariants as stop
use Rattle.threads_tool.specs.Printed.{printed}
use Rattle.threads_tool.specs.Stops.{NotShown, Writes}

module _ {S : Type 0} (log : S → Log) (s : Setup) where
  -- the sink failed, or there was no memory
  pub not_shown : (file : FileParts) (merge : List TraceEvent) (text : List ℕ) (session : Option Kept) (seats : List S) → HasReplayed log s file merge text session seats → (sink : Change) (e : Stop)
      → Writes (printed s (merged_events file merge)) sink (Err e) → NotShown log s file sink e
  not_shown file merge text session seats replayed sink stop.Write w = record { merge = merge; text = text; session = session; seats = seats; replayed = replayed; front = w.0; failed = w.1 }
  not_shown file merge text session seats replayed sink stop.NoMemory w = w
  not_shown file merge text session seats replayed sink stop.Tree w = absurd w
  not_shown file merge text session seats replayed sink stop.TooMany w = absurd w
  not_shown file merge text session seats replayed sink (stop.File e) w = absurd w
  not_shown file merge text session seats replayed sink stop.Chain w = absurd w
