-- One brick more, one that is missing, and all of them.
use Rattle.std.proofs.Common.{◌≡◌, ◌<◌, ◌+◌, ◌-◌, ◌++◌, ◌∷◌, [], List, length, take, set, Ok, ap, sym, subst, ◌∙◌, arith}
use Rattle.std.proofs.lemmas.List.{take_more_set, length-set}
use Rattle.std.proofs.lemmas.Result.{err_from_is_err_and}
use Rattle.fab_base.specs.declared.identities.BrickId.{BrickId}
use Rattle.fields.specs.Reading.{times_at}
use Rattle.fields.specs.Values.{brick_codec}
use Rattle.fields.proofs.Loops.{with_front, goes_on, ends, is_done}
use Rattle.fields.proofs.values.take_bricks.Goals as goal

pub returns-in_err-brick : goal.returns-in_err-brick
returns-in_err-brick c =
    let at = c.loop-seat in
    let p = err_from_is_err_and c.from_residual.result c.from_residual.ensures.1 in
    rw (p.1, p.2) (sym at.invariant.read ∙ ends c.in_err-brick.field-0.0.left (take at.seat at.bricks) c.args.count at.seat at.from.rest.now (omega arith)
    c.in_err-brick.ensures)

pub loop-seat-preserved : goal.loop-seat-preserved
loop-seat-preserved c =
    let at = c.loop-seat in
    let within : at.seat < length at.bricks = omega arith in
    let front : take (at.seat + 1) (set at.bricks at.seat c.in_ok-brick.brick) ≡ take at.seat at.bricks ++ c.in_ok-brick.brick ∷ [] = take_more_set at.bricks at.seat c.in_ok-brick.brick within in
    record {
      room = length-set at.bricks at.seat c.in_ok-brick.brick ∙ at.invariant.room;
      read = subst (λ (bricks : List BrickId). with_front bricks
          (times_at brick_codec.read (c.args.count - (at.seat + 1)) c.take.new.self.rest.now) ≡ times_at brick_codec.read c.args.count c.args.from.now.rest.now) (sym front)
          (sym (goes_on (take at.seat at.bricks) c.args.count at.seat at.from.rest.now c.in_ok-brick.brick c.take.new.self.rest.now (omega arith)
          c.in_ok-brick.ensures) ∙ at.invariant.read);
    }

pub returns : goal.returns
returns c =
    let at = c.loop-seat in
    let made = rw c.unwrap.ensures at c.new.ensures.bricks in
    let all : take at.seat at.bricks ≡ c.unwrap.result = ap (λ n. take n at.bricks) (omega arith) ∙ sym made in
    sym at.invariant.read ∙ is_done (take at.seat at.bricks) c.args.count at.seat at.from.rest.now (omega arith)
    ∙ ap (λ (bricks : List BrickId). Ok (bricks, at.from.rest.now)) all
