use Rattle.std.proofs.Common.{ap}
use Rattle.std.specs.Cmp.Lexicographic.{bytes_decides}
use Rattle.bittle.specs.PlainSet.{ascending}
use Rattle.bittle.specs.Comparison.{feed}
use Rattle.bittle_laws.proofs.comparison.equal_sets_feed_alike.Goals as goal

pub returns : goal.returns
returns c = λ s t h. ap feed ((bytes_decides (ascending s) (ascending t)).0 h)
