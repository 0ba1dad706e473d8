use Rattle.std.proofs.Common.{◌≡◌, map, drop, take}
use Rattle.std.specs.List.{AllByRecursion}
use Rattle.model_driver.specs.Driver.{HasShape, call_shown, reply_shown}
use Rattle.chain_session.specs.Telling.{AreAsked}
use Rattle.chain_session.proofs.telling.ask_each.Given as goal

abbrev pub invariant-loop-call : goal.invariant-loop-call
invariant-loop-call g l = record {
  told : AreAsked (map call_shown (take l.call-index l.calls)) (map reply_shown l.replies.items) (g.D.Driver.log l.fn.driver) (g.D.Driver.log l.driver);
  shapes : AllByRecursion HasShape (map call_shown (drop l.call-index l.calls));
  policy : g.D.Driver.answers_by l.driver ≡ g.D.Driver.answers_by l.fn.driver;
}
