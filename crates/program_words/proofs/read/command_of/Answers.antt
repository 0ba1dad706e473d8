use Rattle.std.proofs.Common.{◌∙◌, ap₂, Bool, ◌||◌}
use Rattle.clap.specs.Words.{app_of, rule_of}
use Rattle.program_words.proofs.Builds.{more_rules}
use Rattle.program_words.proofs.read.command_of.Goals as goal

pub loop-name-preserved : goal.loop-name-preserved
loop-name-preserved c =
    let adds = c.in_ok-command.ensures in (
      more_rules c.args.name.now c.args.options.now c.loop-name.name-index _ (app_of c.loop-name.command) (app_of c.in_ok-command.command) (rule_of c.option.result)
          c.loop-name-test.true c.loop-name.invariant.0 (adds.shape c.option.ensures.local) c.option.ensures.rule,
      adds.globals ∙ ap₂ (λ (a b : Bool). a || b) c.loop-name.invariant.1 c.option.ensures.local,
    )
