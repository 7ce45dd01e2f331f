-- What is printed for an input that is refused as a whole.
use Rattle.std.specs.Prelude.{ℕ, List, codes}
use Rattle.bittle_script.specs.declared.reading.Refusal.{Refusal}
use Rattle.bittle_script.specs.declared.reading.Refusal.TheVariants.{TooLong, ReadFailed}

-- the message of a refusal
abbrev pub message_of : Refusal → List ℕ
message_of TooLong = codes "input too long\n"
message_of ReadFailed = codes "read failed\n"
