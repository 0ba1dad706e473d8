-- What comes of a vkCreateInstance shows that its chain hasn't too many layers.
use Rattle.std.proofs.Common.{◌≡◌, ◌&&◌, Bool, true, false, refl}
use Rattle.replay_model.specs.Setup.{Outcome, Chain, Refused, TooLong, is_too_long}
use Rattle.chain_session.specs.declared.creation.Creation.{Creation}
use Rattle.chain_session.specs.Creation.{IsCreated}

pub within_created : (creates : Bool) (o : Outcome) (c : Creation) → IsCreated creates o c → creates && is_too_long o ≡ false
within_created false o c created = refl
within_created true (Chain parts text) c created = refl
within_created true (Refused code text) c created = refl
within_created true (TooLong layers) c created = absurd created

-- so where it has, nothing comes of it
pub long_created : {X : Type 0} (creates : Bool) (o : Outcome) (c : Creation) → IsCreated creates o c → creates && is_too_long o ≡ true → X
long_created creates o c created long = absurd (no (within_created creates o c created) long)
  where
    no : {b : Bool} → b ≡ false → b ≡ true → ⊥
    no is long = cc
