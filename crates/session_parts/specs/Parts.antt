-- What the parts of a session keep, as the definitions have it. Source: this project.
use Rattle.std.specs.Prelude.{◌≡◌}
use Rattle.replay_model.specs.Setup.{Setup}
use Rattle.session_model.specs.Session.{SessionKept}
use Rattle.session_parts.specs.declared.parts.SessionParts.{SessionParts}

-- what the parts keep is what is kept here beside the open calls and the counts, under a setup
pub record PartsShow (s : Setup) (x : SessionParts) (k : SessionKept) : Type 0 where
  pub names : x.names.kept.names ≡ k.names
  pub count : x.names.kept.count ≡ k.count
  pub births : x.names.kept.births ≡ k.births
  pub retrieved : x.names.kept.retrieved ≡ k.retrieved
  pub states : x.states.kept ≡ k.chain.states
  pub ids : x.terminator.ids ≡ k.chain.terminator
  pub routes : x.terminator.routes ≡ k.chain.routes
  pub handed : x.names.kept.handed ≡ k.chain.handed
  pub drivers : x.terminator.drivers ≡ s.drivers

-- two parts of sessions keep the same
pub record KeepAlike (x y : SessionParts) : Type 0 where
  pub states : x.states.kept ≡ y.states.kept
  pub ids : x.terminator.ids ≡ y.terminator.ids
  pub routes : x.terminator.routes ≡ y.terminator.routes
  pub drivers : x.terminator.drivers ≡ y.terminator.drivers
  pub names : x.names.kept ≡ y.names.kept
