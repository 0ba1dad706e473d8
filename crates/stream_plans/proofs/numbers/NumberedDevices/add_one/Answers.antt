use Rattle.std.proofs.Common.{◌∙◌, sym}
use Rattle.stream_plans.proofs.NumberLemmas.{added_again, added_another}
use Rattle.stream_plans.proofs.numbers.NumberedDevices.add_one.Goals as goal

pub returns-in_ok-push-in-None-clause-names : goal.returns-in_ok-push-in-None-clause-names
returns-in_ok-push-in-None-clause-names c = c.in_ok-push-in-None.ensures.names ∙ sym (added_another c.args.self.now.names.items c.args.device (sym c.in-None.ensures))

pub returns-in-Some-clause-names : goal.returns-in-Some-clause-names
returns-in-Some-clause-names c = sym (added_again c.args.self.now.names.items c.args.device c.in-Some.field-0 (sym c.in-Some.ensures))
