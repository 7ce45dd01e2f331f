-- What an output was given to write.
use Rattle.std.specs.Prelude.{List, ℕ, Option, Result, ◌++◌}
use Rattle.bittle_script.specs.declared.writing.Output.{Output}
use Rattle.bittle_script.specs.Beginnings.{HasBegun, Begins}

-- the bytes that waited before, followed by `all`, are three parts: first the bytes that were
-- written, then the bytes that wait now, then `left`
abbrev pub HasPut : {W : Type 0} → (W → Option (List ℕ)) → Output W → Output W → List ℕ →
    List ℕ → Type 0
HasPut contents old new all left = HasBegun (contents old.writer.now)
    (contents new.writer.now) (old.waiting ++ all) (new.waiting ++ left)

-- of the bytes that waited before, followed by `bytes`, a beginning was written; at `Ok` the rest
-- of them waits now
abbrev pub Puts : {W T E : Type 0} → (W → Option (List ℕ)) → Output W → Output W → Result T E →
    List ℕ → Type 0
Puts contents old new r bytes = Begins (contents old.writer.now)
    (contents new.writer.now) r (old.waiting ++ bytes) new.waiting
