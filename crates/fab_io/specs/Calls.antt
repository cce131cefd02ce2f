-- The calls made of an end in memory, and those of them that are to fail.
use Rattle.std.specs.Prelude.{ℕ, ◌+◌, ◌≤◌, List, [], All, Contains}
use Rattle.fab_io.specs.Ends.{one_more}

-- how many calls were made, the numbers, from 1, of those that are to fail, and the faults counted
pub record CallCount : Type 0 where
  pub made : ℕ
  pub failing : List ℕ
  pub faults : ℕ

-- no call was made, and none is to fail
abbrev pub no_calls : CallCount
no_calls = record { made = 0; failing = []; faults = 0 }

-- the coming call is to fail
abbrev pub FailsNext : CallCount → Type 0
FailsNext c = Contains c.failing (c.made + 1)

-- no call that is to fail is still to come
abbrev pub NoneToFail : CallCount → Type 0
NoneToFail c = All (λ call. call ≤ c.made) c.failing

-- after one more call that did not fail
abbrev pub after_call : CallCount → CallCount
after_call c = record c { made = one_more c.made }

-- after one more call, which failed
abbrev pub after_failed_call : CallCount → CallCount
after_failed_call c = record c { made = one_more c.made; faults = one_more c.faults }
