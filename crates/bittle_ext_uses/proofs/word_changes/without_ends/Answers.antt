use Rattle.bittle_ext_uses.proofs.word_changes.without_ends.Goals as goal

pub returns : goal.returns
returns c = (
  c.pop_first.result,
  c.pop_last.result,
  c.pop_first.new.self,
  c.pop_first.ensures.least,
  c.pop_first.ensures.set,
  c.pop_last.ensures.greatest,
  c.pop_last.ensures.set,
)
