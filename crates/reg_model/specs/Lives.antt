-- What a life that was found in the marks says.
use Rattle.std.specs.Prelude.{◌+◌}
use Rattle.reg_model.specs.declared.lives.Ending.{Ending as FoundEnding}
use Rattle.reg_model.specs.declared.lives.Ending.TheVariants as found
use Rattle.reg_model.specs.declared.lives.Life.{Life as FoundLife}
use Rattle.reg_model.specs.Marks.{Life, Ending, Answered, Interrupted, Unended}

-- one past the last mark may be no position of a mark, so an operation that is still open is found with the last mark itself
abbrev pub ending_shown : FoundEnding → Ending
ending_shown (found.Answered p answer) = Answered p answer.now
ending_shown (found.Interrupted p) = Interrupted p
ending_shown (found.Unended last) = Unended (last + 1)

abbrev pub life_shown : FoundLife → Life
life_shown life = record { begin = life.begin; brick = life.brick.0; ask = life.ask.now; ending = ending_shown life.ending }
