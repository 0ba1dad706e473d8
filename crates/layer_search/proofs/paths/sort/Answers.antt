use Rattle.std.proofs.Common.{string_bytes}
use Rattle.layer_search.proofs.Ordered.{sorted_is}
use Rattle.layer_search.proofs.paths.sort.Goals as goal

pub returns : goal.returns
returns c = sorted_is string_bytes c.args.names.now.items c.sort.new.self.items c.sort.ensures.permutation c.in_ok-sort.ensures.sorted
