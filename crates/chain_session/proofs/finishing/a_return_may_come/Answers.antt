use Rattle.chain_session.proofs.Finished.{can_finish, return_advances}
use Rattle.chain_session.proofs.Guarded.{gives_guarded}
use Rattle.chain_session.proofs.finishing.a_return_may_come.Goals as goal

pub returns : goal.returns
returns c = record { can = can_finish; guarded = gives_guarded; advances = return_advances }
