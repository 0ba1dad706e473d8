use Rattle.stream_plans.proofs.NumberLemmas.{none_apart_in, none_numbered}
use Rattle.stream_plans.proofs.numbers.NumberedDevices.new.Goals as goal

pub returns-clause-numbered : goal.returns-clause-numbered
returns-clause-numbered c = record { apart = none_apart_in c.new.result.items c.new.ensures.items; numbers = none_numbered c.new-2.result.rows.items c.new.result.items c.new-2.ensures c.new.ensures.items }
