use Rattle.std.proofs.Common.{refl}
use Rattle.chain_build.specs.Setup.{setup_content}
use Rattle.program_words.specs.Meant.{gen_meant}
use Rattle.report_text.specs.Setups.{trace_setup}
use Rattle.replay_tool.proofs.Soaking.{cut_result}
use Rattle.replay_tool.proofs.soak.replay_made.Goals as goal

pub returns-clause-cut : goal.returns-clause-cut
returns-clause-cut g c =
    cut_result (trace_setup (setup_content c.args.setup.now)) (gen_meant c.args.made) c.requires.few _ _ _ (record { source = c.in-Ok.ensures; before = refl; after = refl }) refl refl refl refl
    c.replay.result c.replay.ensures.cut
