use Rattle.stream_log.proofs.owner.Owner.give.Given as goal

abbrev pub ghosts-give_to : goal.ghosts-give_to
ghosts-give_to a = record { thread = a.thread }
