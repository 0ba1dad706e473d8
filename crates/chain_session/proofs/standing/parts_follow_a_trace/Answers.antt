use Rattle.chain_session.proofs.PartsStood.{enters_traced, leaves_traced, may_enter, may_leave, new_stand, split_stand}
use Rattle.chain_session.proofs.standing.parts_follow_a_trace.Goals as goal

pub returns : goal.returns
returns c = record { new = new_stand; split = split_stand; may_enter = may_enter; enters = λ s x y events replies ls e call held verdict st trace allowed f. enters_traced s x y events replies ls e call held verdict st trace allowed f; may_leave = may_leave; leaves = λ s x y events replies ls thread l count guarded trace st there none f. leaves_traced s x events replies ls thread l guarded trace st there none y count f }
