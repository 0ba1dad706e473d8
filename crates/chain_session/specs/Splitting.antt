-- The parts that are split from a session, and the kinds of the parts of its chain. Source: this project.
use Rattle.std.specs.Prelude.{◌≡◌, Option, Some, None, List, []}
use Rattle.object_model.specs.declared.PartKind.{PartKind}
use Rattle.layer_model.specs.Ids.{no_ids}
use Rattle.dispatch_chain.specs.Seats.{kinds_of}
use Rattle.session_parts.specs.declared.parts.SessionParts.{SessionParts}
use Rattle.session_parts.specs.Names.{no_names}
use Rattle.session_parts.specs.Parts.{KeepAlike}
use Rattle.chain_session.specs.declared.kept.Kept.{Kept}

-- parts keep nothing, and there is no driver
pub record KeepNothing (x : SessionParts) : Type 0 where
  pub states : x.states.kept ≡ []
  pub ids : x.terminator.ids ≡ no_ids
  pub routes : x.terminator.routes ≡ []
  pub drivers : x.terminator.drivers ≡ 0
  pub names : x.names.kept ≡ no_names

-- they keep what the session's own keep: nothing before the first begin, which brings the setup with its drivers
abbrev pub AreSplit : Option Kept → SessionParts → Type 0
AreSplit None x = KeepNothing x
AreSplit (Some k) x = KeepAlike x k.parts

-- the kinds of the parts of the chain in force: none where there is no chain
abbrev pub kinds_in_force : Option Kept → List PartKind
kinds_in_force None = []
kinds_in_force (Some k) = kinds_of k.parts.states.kept
