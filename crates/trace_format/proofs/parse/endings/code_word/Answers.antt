use Rattle.std.proofs.Common.{◌∙◌, ap, sym, Some, option_map}
use Rattle.trace_format.proofs.CodeLemmas.{code_found, code_void}
use Rattle.trace_format.proofs.parse.endings.code_word.Goals as goal

pub returns-then-eq : goal.returns-then-eq
returns-then-eq c = sym (code_void c.args.word.now (rw c.as_slice.ensures at (sym c.eq.ensures ∙ c.if-eq.true)))

pub returns-in_err-find : goal.returns-in_err-find
returns-in_err-find c =
    let other = rw c.as_slice.ensures at (sym c.eq.ensures ∙ c.if-eq.false) in
    c.from_residual.ensures ∙ sym (code_found c.args.word.now c.find.result other c.find.ensures.found c.find.ensures.none ∙ ap (option_map Some) c.in_err-find.was)

pub returns : goal.returns
returns c =
    let other = rw c.as_slice.ensures at (sym c.eq.ensures ∙ c.if-eq.false) in
    sym (code_found c.args.word.now c.find.result other c.find.ensures.found c.find.ensures.none ∙ ap (option_map Some) c.in_ok-find.was)
