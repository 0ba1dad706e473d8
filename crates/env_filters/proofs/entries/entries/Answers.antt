use Rattle.std.proofs.Common.{◌==◌, not, length, rules}
use borrow.Author.Tests.{tests}
use Rattle.std.proofs.lemmas.Iterator.Splits.{YieldsList-from_str_split}
use Rattle.std.proofs.lemmas.Iterator.Consumers.{map_from_collect, YieldsList-from_filter, YieldsList-at}
use Rattle.env_filters.proofs.entries.entries.Goals as goal

pub returns : goal.returns
returns c = rw c.in_ok-entries.was at (map_from_collect _ c.collect.ensures.ran (YieldsList-from_filter _ (λ entry. not (length entry == 0)) (YieldsList-at c.filter.ensures.source (YieldsList-from_str_split c.args.separator c.args.text.now c.requires c.split.ensures.text c.split.ensures.has_more c.split.ensures.pattern)) c.filter.ensures.closure (λ x r q k. search (rules, tests))))
