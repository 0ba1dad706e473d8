use Rattle.std.proofs.Common.{rules}
use Rattle.std.proofs.lemmas.Iterator.Search.{all_from_yields_List}
use Rattle.std.proofs.lemmas.Iterator.Splits.{YieldsList-from_slice_split}
use borrow.Author.Tests.{tests}
use Rattle.manifest_reader.specs.Texts.{is_number, parts_of}
use Rattle.manifest_reader.proofs.texts.has_numbers_alone.Goals as goal

pub returns : goal.returns
unfolding parts_of
returns c = all_from_yields_List is_number _ _ _ c.all.ensures.ran (YieldsList-from_slice_split _ _ c.args.text.now c.split.ensures.rest c.split.ensures.done c.split.ensures.closure (λ x r q k. search (rules, tests))) (λ x r q k. search (rules, tests))
