use Rattle.std.proofs.Common.{rules, inl, inr, ◌≡◌, ◌+◌, ◌∷◌, [], ℕ, List, length, Err, arith, refl}
use Rattle.fab_disk.specs.Disk.{written, Torn}
use Rattle.fab_disk.proofs.Writes.{written_torn}
use Rattle.frame_store.specs.declared.faults.FrameFault.TheVariants.{Disk}
use Rattle.frame_store.specs.Ends.{end_of}
use Rattle.frame_store.specs.Steps.{IsStagedThrice, IsThriceGated, IsShutBefore, IsBrought, thrice_written}
use Rattle.frame_store.proofs.Ends.{begun}
use Rattle.frame_store.proofs.Gates.{then_on, cut_on}
use Rattle.frame_store.proofs.Runs.{torn_is}
use Rattle.frame_store.proofs.Stopping.{thrice_none}
use Rattle.frame_store.proofs.steps.bring_gated.Goals as goal

pub write_synced-requires-clause-room : goal.write_synced-requires-clause-room
write_synced-requires-clause-room g c =
    let s = length c.args.shut.now in
    let n = length c.args.blocks.bytes.now + (length c.args.list.bytes.now + length c.args.rest.now) + 1 in
    g.met.D.Disk.room_for_less c.args.disk.now 8 (s + n) c.args.end 2 s (c.args.gate + s) (omega arith) (omega arith)
    (omega (arith, c.requires.shut)) c.requires.room

pub write_thrice_gated-requires-clause-room : goal.write_thrice_gated-requires-clause-room
write_thrice_gated-requires-clause-room g c =
    let s = length c.args.shut.now in
    let n = length c.args.blocks.bytes.now + (length c.args.list.bytes.now + length c.args.rest.now) + 1 in
    c.in_ok-write_synced.ensures.left 6 n c.args.end (omega (arith, c.requires.shut))
    (g.met.D.Disk.room_for_less c.args.disk.now 8 (s + n) c.args.end (6 + 2) (n + s) c.args.end (omega arith) (omega arith) (omega arith) c.requires.room)

pub returns-clause-change : goal.returns-clause-change
returns-clause-change g c =
    let content = g.D.Disk.seen c.args.disk.now in
    let gate = c.args.gate in
    let x = c.args.shut.now in
    let b = c.args.blocks in
    let l = c.args.list in
    let r = c.args.rest.now in
    let C : List ℕ → Type 0 = Torn gate (length x) content in
    let P : List ℕ → Type 0 = IsShutBefore gate x b.at b.bytes.now l.at l.bytes.now r content in
    let W : List ℕ → Type 0 = IsBrought gate x b.at b.bytes.now l.at l.bytes.now r content in
    let shut = written gate x content in
    let shut_torn : C shut = written_torn gate x content in
    then_on g.D.Disk 2 6 8 (λ image. image ≡ content) C shut
    (IsStagedThrice b.at (length b.bytes.now) l.at (length l.bytes.now) (gate + 1) (length r))
    (IsThriceGated b.at b.bytes.now l.at l.bytes.now (gate + 1) r gate)
    (λ y. written gate (165 ∷ []) (thrice_written b.at b.bytes.now l.at l.bytes.now (gate + 1) r y)) P W c.args.disk.now
    c.write_synced.new.disk c.write_thrice_gated.new.disk (end_of c.write_thrice_gated.result) refl
    (begun c.write_thrice_gated.result c.write_thrice_gated.ensures.only) refl
    (λ image is. inl (torn_is gate (length x) content image is)) (λ image is. inl is) (inl shut_torn)
    (thrice_none b.at l.at (gate + 1) b.bytes.now l.bytes.now r shut) (λ image is. inr is) (λ image is. inr is)
    c.in_ok-write_synced.ensures.change c.write_thrice_gated.ensures.change

pub returns-in_err-write_synced-clause-change : goal.returns-in_err-write_synced-clause-change
returns-in_err-write_synced-clause-change g c =
    let failed : c.write_synced.result ≡ Err Disk = search rules in
    let is : c.from_residual.result ≡ Err Disk = search rules in
    cut_on g.D.Disk 2 8 _ _ _ _ _ _ _ _ c.write_synced.result c.from_residual.result failed is (omega arith) refl
    (λ image is. inl (torn_is _ _ _ image is)) (λ image is. inl is) (inl (written_torn c.args.gate c.args.shut.now (g.D.Disk.seen c.args.disk.now)))
    c.write_synced.ensures.change
