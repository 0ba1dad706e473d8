use Rattle.stream_replay.proofs.section.replay_section.Given as goal

-- the policy of the seat
abbrev pub ghosts-replay_named : goal.ghosts-replay_named
ghosts-replay_named g a = record { policy = g.D.SharedDriver.answers_by a.seat }
