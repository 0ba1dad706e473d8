use Rattle.std.proofs.Common.{nat_eq, [], arith}
use Rattle.std.proofs.lemmas.Map.Keys.{IsDistinct-from_apart}
use Rattle.library_tests.proofs.room_tests.no_log_of_too_many_results.Goals as goal

pub new-requires : goal.new-requires
new-requires g c = IsDistinct-from_apart nat_eq [] (λ i j d lt inside. absurd (omega arith))
