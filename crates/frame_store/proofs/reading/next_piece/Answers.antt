-- What stands at the front of the bytes that were read is what stands at the front of the piece.
use Rattle.std.proofs.Common.{rules, ◌≡◌, ℕ, List, Err, take, sym, ◌∙◌, ap, subst, arith, length-take}
use Rattle.frame_store.specs.declared.faults.OpenFault.TheVariants.{NoMemory}
use Rattle.frame_store.specs.Images.{part}
use Rattle.frame_store.specs.Reading.{IsFront, IsShutAt}
use Rattle.frame_store.proofs.Stills.{still_then, still_none}
use Rattle.frame_store.proofs.reading.next_piece.Goals as goal

pub returns-in_err-used-clause-still : goal.returns-in_err-used-clause-still
returns-in_err-used-clause-still g c =
    let refused : c.from_residual-in_err-used.result ≡ Err NoMemory = search rules in
    still_then g.D.Disk g.met.D.Disk.counts_now c.args.disk.now c.args.disk.now c.read_piece.new.disk _ _ (λ is. absurd (cc (refused, is)))
    (still_none g.D.Disk c.args.disk.now) c.in_ok-len.ensures.still

pub returns-clause-front : goal.returns-clause-front
returns-clause-front g c =
    let len = c.in_ok-len.len in
    let used = c.in_ok-used.used in
    let front = c.in_ok-used.ensures.front in
    let shut = c.is_shut-closed.ensures in (
      front.0,
      front.2,
      front.1.size,
      omega (arith, front.1.within, length-take len c.deref.result.now),
      λ told.
          let same : take len c.deref.result.now ≡ part c.args.at len (g.D.Disk.seen c.args.disk.now) = ap (take len) c.deref.ensures.value
          ∙ c.in_ok-len.ensures.bytes told in
          record {
            front = subst (λ (bytes : List ℕ). IsFront bytes front.0 used) same front.1;
            ended = λ is. subst (λ (bytes : List ℕ). IsShutAt bytes used) same (shut.0 is);
            not_ended = λ is. shut.1 (subst (λ (bytes : List ℕ). IsShutAt bytes used) (sym same) is);
          },
    )
