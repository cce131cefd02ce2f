use Rattle.std.proofs.Common.{◌≡◌, ℕ, List, length, take, sym, ap, subst, arith}
use Rattle.std.specs.Prelude.{IfOk}
use Rattle.frame_store.specs.Images.{part}
use Rattle.frame_store.proofs.Pieces.{lent_back}
use Rattle.frame_store.proofs.reading.read_piece.Goals as goal

pub returns-clause-bytes : goal.returns-clause-bytes
returns-clause-bytes g c = λ told.
    let back = lent_back c.args.piece.now.len c.args.piece.now.items c.read_front.new.piece
    (omega (arith, c.read_front.ensures.size, ap length c.as_mut_slice.ensures.value)) (omega arith) in
    subst (λ (l : List ℕ). IfOk c.read_front.result (λ n. take n l ≡ part c.args.at n (g.D.Disk.seen c.args.disk.now))) (sym back)
    (c.read_front.ensures.bytes told)
