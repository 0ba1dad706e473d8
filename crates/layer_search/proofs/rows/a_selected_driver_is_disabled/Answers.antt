-- By computation.
use Rattle.std.proofs.Common.{refl}
use Rattle.layer_search.specs.Found.{selecting, is_kept}
use Rattle.layer_search.proofs.rows.a_selected_driver_is_disabled.Goals as goal

pub returns : goal.returns
unfolding selecting is_kept
returns c = refl
