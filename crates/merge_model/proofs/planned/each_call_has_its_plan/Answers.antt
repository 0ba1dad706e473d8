use Rattle.merge_model.proofs.Numbered.{calls_have_plans}
use Rattle.merge_model.proofs.planned.each_call_has_its_plan.Goals as goal

pub returns : goal.returns
returns c = calls_have_plans
