use Rattle.replay_base.proofs.FeedLemmas.{feed_found}
use Rattle.replay_base.proofs.lines.find_feed.Goals as goal

pub returns-in-Some : goal.returns-in-Some
returns-in-Some c = feed_found c.args.bytes.now c.args.seen c.in-Some.found c.requires.within c.requires.none c.in-Some.ensures
