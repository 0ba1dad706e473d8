use Rattle.session_model.proofs.Turns.{begins_idle, returns_busy}
use Rattle.session_model.proofs.threads_call_in_turn.Goals as goal

pub returns : goal.returns
returns c = record { begins = begins_idle; returns = returns_busy }
