use Rattle.std.proofs.Common.{◌∙◌, ap, map}
use Rattle.std.specs.Option.{option_map}
use Rattle.trace_format.specs.Content.{content}
use Rattle.model_driver.specs.Driver.{reply_shown}
use Rattle.chain_build.specs.Setup.{setup_content}
use Rattle.report_text.specs.Setups.{trace_setup}
use Rattle.stream_replay.proofs.Playing.{follows}
use Rattle.stream_replay.proofs.following.follow.Goals as goal

pub returns : goal.returns
returns g c =
    follows (trace_setup (setup_content c.args.setup.now)) (option_map (λ x. x.value.kept) c.args.session.now.started) (option_map (λ x. x.value.kept) c.replay_within.new.session.started) (map content c.args.events.now) (map reply_shown c.args.replies.now)
    c.new-driver.result.given c.replay_within.new.driver.given c.args.lines.now.items c.replay_within.new.lines.items
    c.new-driver.ensures.given (c.has_given.ensures.0 c.if-not-has_given.false) c.in_ok-replay_within.ensures
