use Rattle.std.proofs.Common.{box_value, rules, not}
use Rattle.std.proofs.lemmas.Fn.{filter_same}
use Rattle.replay_model.specs.Past.{is_of}
use Rattle.chain_session.specs.Opened.{opened_of}
use Rattle.chain_session.proofs.open_calls.leave_others.Goals as goal

pub returns : goal.returns
returns c = filter_same _ (λ x. not (is_of c.args.thread (opened_of (box_value x)))) _ (λ x b f' k. search rules) _ _ c.retain.ensures.filtered
