use Rattle.std.proofs.Common.{rules, inl, inr, ◌≡◌, ◌+◌, ◌∷◌, [], ℕ, List, length, Err, arith, refl, sym, subst}
use Rattle.fab_disk.specs.Disk.{written, Torn}
use Rattle.frame_store.specs.declared.faults.FrameFault.TheVariants.{Disk}
use Rattle.frame_store.specs.Ends.{end_of}
use Rattle.frame_store.specs.Steps.{IsStagedThrice, IsThriceGated, thrice_written}
use Rattle.frame_store.proofs.Ends.{begun}
use Rattle.frame_store.proofs.Gates.{then_on, cut_on}
use Rattle.frame_store.proofs.Stopping.{thrice_none, thrice_all}
use Rattle.frame_store.proofs.steps.write_thrice_gated.Goals as goal

pub write_thrice_synced-requires-clause-room : goal.write_thrice_synced-requires-clause-room
write_thrice_synced-requires-clause-room g c =
    let n = length c.args.first.bytes.now + (length c.args.second.bytes.now + length c.args.third.bytes.now) in
    g.met.D.Disk.room_for_less c.args.disk.now 6 (n + 1) c.args.end 4 n c.args.end (omega arith) (omega arith) (omega arith) c.requires.room

pub write_synced-requires-clause-room : goal.write_synced-requires-clause-room
write_synced-requires-clause-room g c =
    let n = length c.args.first.bytes.now + (length c.args.second.bytes.now + length c.args.third.bytes.now) in
    let had = g.met.D.Disk.room_for_less c.args.disk.now 6 (n + 1) c.args.end (2 + 4) (1 + n) c.args.end (omega arith) (omega arith)
    (omega arith) c.requires.room in
    g.met.D.Disk.room_for_less c.write_thrice_synced.new.disk 2 1 c.args.end 2 1 (c.args.gate + 1) (omega arith) (omega arith)
    (omega (arith, c.requires.gate)) (c.in_ok-write_thrice_synced.ensures.left 2 1 had)

pub returns-clause-change : goal.returns-clause-change
returns-clause-change g c =
    let old = c.args.disk.now in
    let content = g.D.Disk.seen old in
    let a = c.args.first in
    let b = c.args.second in
    let e = c.args.third in
    let P : List ℕ → Type 0 = IsStagedThrice a.at (length a.bytes.now) b.at (length b.bytes.now) e.at (length e.bytes.now) content in
    let W : List ℕ → Type 0 = IsThriceGated a.at a.bytes.now b.at b.bytes.now e.at e.bytes.now c.args.gate content in
    let all = thrice_written a.at a.bytes.now b.at b.bytes.now e.at e.bytes.now content in
    let staged : P all = thrice_all a.at b.at e.at a.bytes.now b.bytes.now e.bytes.now content in
    then_on g.D.Disk 4 2 6 P P all (λ x image. image ≡ x) (Torn c.args.gate 1) (written c.args.gate (165 ∷ [])) P W old c.write_thrice_synced.new.disk
    c.write_synced.new.disk (end_of c.write_synced.result) refl (begun c.write_synced.result c.write_synced.ensures.only)
    (thrice_none a.at b.at e.at a.bytes.now b.bytes.now e.bytes.now content) (λ image is. is) (λ image is. inl is) staged refl
    (λ image is. subst P (sym is) staged) (λ image is. inr is) c.in_ok-write_thrice_synced.ensures.change c.write_synced.ensures.change

pub returns-in_err-write_thrice_synced-clause-change : goal.returns-in_err-write_thrice_synced-clause-change
returns-in_err-write_thrice_synced-clause-change g c =
    let failed : c.write_thrice_synced.result ≡ Err Disk = search rules in
    let is : c.from_residual.result ≡ Err Disk = search rules in
    cut_on g.D.Disk 4 6 _ _ _ _ _ _ _ _ c.write_thrice_synced.result c.from_residual.result failed is (omega arith)
    (thrice_none _ _ _ c.args.first.bytes.now c.args.second.bytes.now c.args.third.bytes.now _) (λ image is. is) (λ image is. inl is)
    (thrice_all _ _ _ c.args.first.bytes.now c.args.second.bytes.now c.args.third.bytes.now _) c.write_thrice_synced.ensures.change
