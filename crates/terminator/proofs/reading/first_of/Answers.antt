use Rattle.std.proofs.Common.{◌∙◌, sym, arith, inl, inr}
use Rattle.terminator.proofs.FirstRead.{first_in_read, none_beyond}
use Rattle.terminator.proofs.reading.first_of.Goals as goal

pub returns-then-params-p : goal.returns-then-params-p
returns-then-params-p c = sym (none_beyond c.args.params.now c.args.args.now.lists c.args.args.now.marks c.args.p (inl (omega arith)))

pub returns-then-count-p : goal.returns-then-count-p
returns-then-count-p c = sym (none_beyond c.args.params.now c.args.args.now.lists c.args.args.now.marks c.args.p (inr (omega arith)))

pub returns : goal.returns
returns c = c.pair_at.ensures ∙ sym (first_in_read c.args.params.now c.args.args.now.lists c.args.args.now.marks c.args.p _ (omega arith) (omega arith) c.len-count.ensures.marks)
