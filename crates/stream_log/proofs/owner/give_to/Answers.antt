use Rattle.std.proofs.Common.{rules, ◌≡◌, ℕ, subst, sym, ◌∙◌, ap, ◌<◌}
use Rattle.stream_log.proofs.LogMoves.{gives_as}
use Rattle.stream_log.proofs.owner.give_to.Goals as goal

pub split_seat-requires : goal.split_seat-requires
split_seat-requires g c = (
  c.requires.log.0 ∙ sym c.log.view_is,
  (let w = ap (λ t. t.words) c.log.view_is in let z = c.requires.log.1 in omega Rattle.std.proofs.Common.arith),
  rw c.requires.thread (gives_as _ _ c.args.thread _ c.requires.holds),
)
