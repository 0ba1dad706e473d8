-- A call that is kept as an open one. Source: this project.
use Rattle.std.specs.Prelude.{◌≡◌, ◌+◌, ◌++◌, ◌∷◌, [], ℕ, if◌then◌else◌}
use Rattle.replay_model.specs.Past.{is_skipped}
use Rattle.chain_session.specs.declared.call.OpenCall.{OpenCall}
use Rattle.chain_session.specs.declared.kept.Kept.{Kept}
use Rattle.chain_session.specs.Opened.{opened_of}

-- the call stands behind the open ones, it and its reports are counted, and the parts keep what they kept
pub record KeepsBegun (old : Kept) (call : OpenCall) (found : ℕ) (new : Kept) : Type 0 where
  pub calls : new.calls ≡ call.number
  pub skipped : new.skipped ≡ old.skipped + (if is_skipped (opened_of call) then 1 else 0)
  pub reports : new.reports ≡ old.reports + found
  pub parts : new.parts ≡ old.parts
  pub open_calls : new.open_calls ≡ old.open_calls ++ call ∷ []
