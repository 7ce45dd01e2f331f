use Rattle.example_perft.proofs.+count_games.Given as goal

abbrev pub decreases-count_games : goal.decreases-count_games
decreases-count_games l = l.moves
