-- What `any` found is an element with the operation's number.
use Rattle.std.proofs.Common.{◌≡◌, ◌↔◌, IsTrue, rules}
use Rattle.std.specs.List.{Any}
use Rattle.reg_model.specs.declared.marks.Happening.{Happening}
use Rattle.reg_model.proofs.Places.{Contains-from_any, any_from_contains}
use Rattle.reg_model.proofs.strictness.has_happened.Goals as goal

pub returns : goal.returns
returns c =
    let n = c.args.operation in
    let found : IsTrue c.any.result ↔ Any (λ (h : Happening). h.operation ≡ n) c.args.happenings.now = search rules in (
      λ r. Contains-from_any (λ (h : Happening). h.operation) c.args.happenings.now n (found.0 r),
      λ has. found.1 (any_from_contains (λ (h : Happening). h.operation) c.args.happenings.now n has),
    )
