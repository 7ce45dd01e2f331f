use Rattle.std.proofs.Common.{refl, sym}
use Rattle.bittle_ext.proofs.RankFacts.{selected, rank_of_item}
use Rattle.bittle_ext.proofs.rank_laws.rank_and_select_undo_one_another.Goals as goal

pub returns : goal.returns
returns c s = record {
  member_at_rank = λ i h t. sym (selected s i _ h t refl);
  rank_of_item = rank_of_item s;
}
