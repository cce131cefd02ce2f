-- Calls that are to fail.
use Rattle.std.specs.Prelude.{◌≤◌, ◌+◌, All, Contains}
use Rattle.fab_disk.specs.declared.failing_calls.FailingCalls.{FailingCalls}

-- each call that was to fail was made
abbrev pub NoneLeft : FailingCalls → Type 0
NoneLeft calls = All (λ n. n ≤ calls.made) calls.listed.items

-- the next call is to fail
abbrev pub FailsNext : FailingCalls → Type 0
FailsNext calls = Contains calls.listed.items (calls.made + 1)
