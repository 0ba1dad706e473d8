use Rattle.replay_tool.proofs.Judging.{refused_without_driver, shown_is_judged}
use Rattle.replay_tool.proofs.laws.what_is_shown_is_what_is_judged.Goals as goal

pub returns : goal.returns
returns c = record { shown = shown_is_judged; refused = refused_without_driver }
