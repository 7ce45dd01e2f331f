use Rattle.std.proofs.Common.{refl, sym, ◌∙◌, arith}
use Rattle.bittle.specs.BitPatterns.{bit_set}
use Rattle.example_perft.proofs.Stones.{one_stone_more, still_apart}
use Rattle.example_perft.proofs.Position.play.Goals as goal

pub returns-clause-one_more : goal.returns-clause-one_more
returns-clause-one_more c = one_stone_more (bit_set 16 c.args.self.mine)
    (bit_set 16 c.args.self.theirs) _ c.args.square (omega arith) refl
    (sym c.is_taken.ensures ∙ c.if-is_taken.false) c.with_bit.ensures.set

pub returns-clause-apart : goal.returns-clause-apart
returns-clause-apart c = still_apart (bit_set 16 c.args.self.mine)
    (bit_set 16 c.args.self.theirs) _ c.args.square (omega arith) refl
    (sym c.is_taken.ensures ∙ c.if-is_taken.false) c.with_bit.ensures.set
