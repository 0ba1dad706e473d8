use Rattle.std.proofs.Common.{◌≡◌, ◌∙◌, Bool, ℕ, List, [], ◌∷◌, arith, sym, subst}
use Rattle.chain_build.specs.Answers.{answer_content}
use Rattle.replay_base.specs.Changes.{Change, changed}
use Rattle.replay_model.specs.Setup.{is_too_long, outcome_text}
use Rattle.report_text.specs.Chains.{answer_text}
use Rattle.report_text.specs.Setups.{outcome_of}
use Rattle.replay_tool.specs.Showing.{Writes}
use Rattle.replay_tool.proofs.Built.{no_excess, same_text}
use Rattle.replay_tool.proofs.chain.put_answer.Goals as goal

pub returns-in-Ok : goal.returns-in-Ok
returns-in-Ok g c =
    let outcome = outcome_of (answer_content c.args.answer.now) in
    let change : Change = changed (g.K.Sink.held c.args.out.now) (g.K.Sink.held c.put_piece.new.out) (g.K.Sink.faults c.args.out.now) (g.K.Sink.faults c.put_piece.new.out) in
    let written : c.deref.result.now ≡ answer_text 0 (answer_content c.args.answer.now) = grind arith in
    let same : c.deref.result.now ≡ outcome_text outcome 0 = written ∙ sym (same_text (answer_content c.args.answer.now) 0) in
    subst (λ (text : List ℕ). Writes (text ∷ []) (is_too_long outcome) change c.put_piece.result) same
    (subst (λ (b : Bool). Writes (c.deref.result.now ∷ []) b change c.put_piece.result) (sym (no_excess c.args.answer.now)) c.put_piece.ensures)
