use Rattle.std.proofs.Common.{◌∙◌, ap}
use Rattle.std.proofs.lemmas.Result.{on_err_weaker, on_ok_weaker}
use Rattle.chain_model.specs.Handed.{hand_one, handle_in}
use Rattle.session_parts.specs.Handed.{HandedState}
use Rattle.session_parts.proofs.Places.{handed_one, handed_still}
use Rattle.session_parts.proofs.handed.HandedTable.hand.Goals as goal

pub returns-clause-ok : goal.returns-clause-ok
returns-clause-ok c =
    on_ok_weaker c.put.result (λ put q. handed_one c.self.inside.handles c.put.new.self c.args.object c.args.handle put q ∙ ap (λ (s : HandedState). handle_in (hand_one c.args.object c.args.handle s.handed) q) c.self.view_is) c.put.ensures.ok

pub returns-clause-err : goal.returns-clause-err
returns-clause-err c = on_err_weaker c.put.result (λ still q. handed_still c.self.inside.handles c.put.new.self still q ∙ ap (λ (s : HandedState). handle_in s.handed q) c.self.view_is) c.put.ensures.err
