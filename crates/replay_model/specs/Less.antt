-- A trace without its skipped calls. Source: this project.
use Rattle.std.specs.Prelude.{if◌then◌else◌, List, [], ◌∷◌}
use Rattle.trace_format.specs.Content.{TraceEvent, Begin, Return}
use Rattle.replay_model.specs.Setup.{Chain, Setup}
use Rattle.replay_model.specs.Past.{Began, Returned, Past, is_skipped}

-- the events of the calls that aren't skipped
abbrev pub less : Past → List TraceEvent
less [] = []
less (Began e o reports ∷ past) = if is_skipped o then less past else Begin e ∷ less past
less (Returned o made ∷ past) = if is_skipped o then less past else Return o.thread ∷ less past

-- the same drivers, and no layers whatever the application asks for
abbrev pub no_layers : Setup → Setup
no_layers s = record { drivers = s.drivers; notes = []; outcome = λ payload. Chain [] (λ number. []) }
