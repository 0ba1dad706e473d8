use Rattle.stream_log.proofs.tick.Tick.split.Given as goal

abbrev pub ghosts-share_of : goal.ghosts-share_of
ghosts-share_of a = record { amount = a.left }
