use Rattle.merge_model.proofs.OnPlans.{plan_along, plan_events}
use Rattle.merge_model.proofs.devices.a_device_of_a_merge_follows_its_plan.Goals as goal

pub returns : goal.returns
returns c = record { along = plan_along; events = plan_events }
