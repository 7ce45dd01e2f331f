use Rattle.std.proofs.Common.{refl, arith}
use Rattle.bittle_bits.specs.Cursor.{items_left_in}
use Rattle.bittle_bits.proofs.IteratorRuns.{resumes_as}
use Rattle.bittle_bits.proofs.internal.cursor.duplicate.Goals as goal

pub returns-clause-resumes : goal.returns-clause-resumes
unfolding items_left_in
returns-clause-resumes g c = λ s words w counted. rw (c.duplicate.ensures, c.new.ensures)
    (resumes_as _ _ refl refl refl refl refl refl
    (omega (arith, c.with.ensures, c.fetches.ensures)) counted.once)
