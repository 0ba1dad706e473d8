-- The seats that come back answer by the policy of the words.
use Rattle.std.proofs.Common.{◌≡◌, ◌∙◌, Option, List, ap, subst, sym}
use Rattle.std.specs.Prelude.{Some, Result, Ok, Err, IfOk, IfErr}
use Rattle.std.specs.List.{AllByRecursion}
use Rattle.model_driver.specs.Seats.{IsPolicy}
use Rattle.model_driver.specs.declared.driver.Policy.{Policy}
use Rattle.program_words.specs.Asked.{Asked, AsksRun, RunAsked}
use Rattle.chain_session.specs.declared.kept.Kept.{Kept}
use Rattle.threads_tool.specs.declared.reading.Stop.{Stop}
use Rattle.threads_tool.specs.Ending.{Answer, AnswersStop, AnswersWith}
use Rattle.threads_tool.specs.Outcome.{AnswerBy}

-- the settings of a replay that is asked for, or these
abbrev settings : RunAsked → Option Asked → RunAsked
settings d (Some (AsksRun asked)) = asked
settings d other = d

pub answer_by : {S R : Type 0} (answers_by : S → Option Policy) (kept : R → Option Kept) (made : R → List S) (asked : RunAsked) (o : Option Asked) (done : Result R Stop) (a : Answer S) → o ≡ Some (AsksRun asked)
    → IfOk done (λ r. AllByRecursion (λ (s : S). IsPolicy (answers_by s) asked.policy) (made r)) → IfOk done (λ r. AnswersWith a (kept r) (made r)) → IfErr done (AnswersStop a) → AnswerBy answers_by o a.seats
answer_by {S} answers_by kept made asked o (Ok r) a is all with stopped other also =
    let same = ap (settings asked) (sym is ∙ also) in
    subst (AllByRecursion (λ (s : S). IsPolicy (answers_by s) other.policy)) (sym with.seats) (subst (λ (x : RunAsked). AllByRecursion (λ (s : S). IsPolicy (answers_by s) x.policy) (made r)) same all)
answer_by {S} answers_by kept made asked o (Err e) a is all with stopped other also = subst (AllByRecursion (λ (s : S). IsPolicy (answers_by s) other.policy)) (sym stopped.seats) tt
