use Rattle.unique_layer.specs.Shown.{key_asked}
use Rattle.unique_layer.proofs.Keeping.{at_key_type}
use Rattle.unique_layer.proofs.state.UniqueState.issue_all.Goals as goal

pub issue-requires : goal.issue-requires
issue-requires c = rw c.key_at.ensures (at_key_type (key_asked c.args.key) c.loop-k.k c.args.ty c.requires.key)
