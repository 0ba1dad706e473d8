use Rattle.std.proofs.Common.{◌∙◌, ap, take, drop, arith}
use Rattle.std.proofs.lemmas.List.Sums.{prefix_len-le-length}
use Rattle.trace_format.proofs.WordLemmas.{cut_at}
use Rattle.trace_format.proofs.parse.words.split_before.Goals as goal

pub split_at-requires : goal.split_at-requires
split_at-requires c = grind (arith, prefix_len-le-length)

pub returns : goal.returns
returns c = record {
  before = c.split_at.ensures.front ∙ ap (λ n. take n c.args.bytes.now) c.length_before-middle.ensures ∙ (cut_at c.args.stop c.args.bytes.now).0;
  rest = c.split_at.ensures.back ∙ ap (λ n. drop n c.args.bytes.now) c.length_before-middle.ensures ∙ (cut_at c.args.stop c.args.bytes.now).1;
}
