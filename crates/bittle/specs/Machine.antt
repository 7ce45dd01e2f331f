-- The plain-set machine: its state is a plain set, and each call has a reply and a next state. It
-- mentions no word, no bit order and no array element.
use Rattle.std.specs.Prelude.{◌-◌, ◌==◌, List}
use Rattle.std.specs.List.{fold, scan}
use Rattle.bittle_bits.specs.PlainSet.{PlainSet, contains, with_index, without_index}
use Rattle.bittle_bits.specs.PlainSet.{without_members, size}
use Rattle.bittle.specs.declared.replay.Call.{Call}
use Rattle.bittle.specs.declared.replay.Call.TheVariants.{Test, Put, Clear, ClearAll, CountOnes}
use Rattle.bittle.specs.declared.replay.Call.TheVariants.{CountZeros, AllZeros, AllOnes, Capacity}
use Rattle.bittle.specs.declared.replay.Reply.{Reply}
use Rattle.bittle.specs.declared.replay.Reply.TheVariants.{Done, Bit, Number}

-- the reply of a set to a call
abbrev pub reply_to : PlainSet → Call → Reply
reply_to s (Test i) = Bit (contains s i)
reply_to s (Put i) = Done
reply_to s (Clear i) = Done
reply_to s ClearAll = Done
reply_to s CountOnes = Number (size s)
reply_to s CountZeros = Number (s.capacity - size s)
reply_to s AllZeros = Bit (size s == 0)
reply_to s AllOnes = Bit (size s == s.capacity)
reply_to s Capacity = Number s.capacity

-- the set after the call
abbrev pub set_after : PlainSet → Call → PlainSet
set_after s (Test i) = s
set_after s (Put i) = with_index s i
set_after s (Clear i) = without_index s i
set_after s ClearAll = without_members s
set_after s CountOnes = s
set_after s CountZeros = s
set_after s AllZeros = s
set_after s AllOnes = s
set_after s Capacity = s

-- the replies to a list of calls
unfoldable pub replies_of : PlainSet → List Call → List Reply
replies_of s calls = scan set_after reply_to s calls

-- the set after a list of calls
unfoldable pub final_set : PlainSet → List Call → PlainSet
final_set s calls = fold set_after s calls
