use Rattle.ats_rows.proofs.calls.play.Given as goal

-- the calls that fail are those that the caller names
abbrev pub ghosts-play_by-S-Fails : goal.ghosts-play_by-S-Fails
ghosts-play_by-S-Fails g a = record { numbers = a.faults.reads.now }

abbrev pub ghosts-play_by-K-Fails : goal.ghosts-play_by-K-Fails
ghosts-play_by-K-Fails g a = record { numbers = a.faults.writes.now }
