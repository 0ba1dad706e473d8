use Rattle.std.proofs.Common.{Option, sym, subst}
use Rattle.layer_model.specs.Ids.{Key}
use Rattle.terminator.specs.Shown.{IsKeyOf, key_asked}
use Rattle.terminator.proofs.Leaving.{key_type_at}
use Rattle.terminator.proofs.terminator.Terminator.issue_one.Goals as goal

pub issue-requires : goal.issue-requires
issue-requires c = subst (λ (k : Option Key). IsKeyOf c.args.ty k) (sym c.key_at.ensures) (key_type_at c.args.ty (key_asked c.args.key) c.args.place c.requires.key)
