-- The operation has counted the message, or is as it was.
use Rattle.std.proofs.Common.{Option, Some, Result, Ok, Err, refl, sym, subst, rules}
use Rattle.std.specs.Result.{OnOk, OnErr}
use Rattle.node.specs.declared.operations.Operation.{Operation}
use Rattle.node.specs.Moves.{WaitsOn}
use Rattle.node.proofs.OpenTables.{same_but_one}
use Rattle.node.proofs.open_calls.OpenCalls.count.Goals as goal

-- what holds where a call is made holds with what it ensures there
on_each : {T E P Q : Type 0} (r : Result T E) → (P → Q) → OnOk r P → OnOk r Q
on_each (Ok x) more is = more is
on_each (Err e) more is = tt

on_refused : {T E P Q : Type 0} (r : Result T E) → (P → Q) → OnErr r P → OnErr r Q
on_refused (Ok x) more is = tt
on_refused (Err e) more is = more is

pub returns-clause-counted : goal.returns-clause-counted
returns-clause-counted c =
    let op : Operation = c.in-Some.open.now in
    let after : Operation = c.count.new.self in
    let written = c.get_mut.follows.holds after in
    let held = sym c.in-Some.ensures.value in
    let waits = subst (λ (o : Option Operation). WaitsOn o c.args.from c.args.message.now) held c.requires.waits in
    on_each c.count.result
    (λ counted. record {
      was = op;
      now = after;
      open_before = held;
      counted = waits.0;
      now_is = counted;
      others = (written.3 (search rules)).0;
      count = written.2;
      me = refl;
      seq_is = refl;
      stamps = refl;
    })
    c.count.ensures.counted

pub returns-clause-err : goal.returns-clause-err
returns-clause-err c =
    let put = c.get_mut.follows.holds c.count.new.self in
    on_refused c.count.result
    (λ same. same_but_one c.args.self.now _ c.args.seq (Some c.count.new.self) (put.3 (search rules)).0 c.in-Some.open.now c.count.new.self
    refl (sym c.in-Some.ensures.value) same refl refl put.2)
    c.count.ensures.same
