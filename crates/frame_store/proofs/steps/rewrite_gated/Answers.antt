use Rattle.std.proofs.Common.{rules, inl, inr, ◌≡◌, ◌+◌, ◌∷◌, [], ℕ, List, length, Err, arith, refl}
use Rattle.fab_disk.specs.Disk.{written, Torn}
use Rattle.frame_store.specs.declared.faults.FrameFault.TheVariants.{Disk}
use Rattle.fab_disk.proofs.Writes.{written_torn}
use Rattle.frame_store.specs.Ends.{end_of}
use Rattle.frame_store.specs.Steps.{IsStaged, IsBothGated, IsShutFirst, IsRewritten, both_written}
use Rattle.frame_store.proofs.Ends.{begun}
use Rattle.frame_store.proofs.Gates.{then_on, cut_on}
use Rattle.frame_store.proofs.Runs.{torn_is}
use Rattle.frame_store.proofs.Stopping.{staged_none}
use Rattle.frame_store.proofs.steps.rewrite_gated.Goals as goal

pub write_synced-requires-clause-room : goal.write_synced-requires-clause-room
write_synced-requires-clause-room g c =
    g.met.D.Disk.room_for_less c.args.disk.now 7 (length c.args.shut.now + (length c.args.rest.now + length c.args.list.now + 1))
    (c.args.at + length c.args.list.now)
    2 (length c.args.shut.now) (c.args.gate + length c.args.shut.now) (omega arith) (omega arith) (omega (arith, c.requires.shut)) c.requires.room

pub write_both_gated-requires-clause-room : goal.write_both_gated-requires-clause-room
write_both_gated-requires-clause-room g c =
    let s = length c.args.shut.now in
    let n = length c.args.rest.now + length c.args.list.now + 1 in
    let end = c.args.at + length c.args.list.now in
    c.in_ok-write_synced.ensures.left 5 n end (omega (arith, c.requires.shut))
    (g.met.D.Disk.room_for_less c.args.disk.now 7 (s + n) end (5 + 2) (n + s) end (omega arith) (omega arith) (omega arith) c.requires.room)

pub returns-clause-change : goal.returns-clause-change
returns-clause-change g c =
    let content = g.D.Disk.seen c.args.disk.now in
    let C : List ℕ → Type 0 = Torn c.args.gate (length c.args.shut.now) content in
    let P : List ℕ → Type 0 = IsShutFirst c.args.gate c.args.shut.now c.args.rest.now c.args.at c.args.list.now content in
    let W : List ℕ → Type 0 = IsRewritten c.args.gate c.args.shut.now c.args.rest.now c.args.at c.args.list.now content in
    let shut = written c.args.gate c.args.shut.now content in
    let shut_torn : C shut = written_torn c.args.gate c.args.shut.now content in
    let n = length c.args.rest.now in
    let k = length c.args.list.now in
    then_on g.D.Disk 2 5 7 (λ image. image ≡ content) C shut (IsStaged (c.args.gate + 1) n c.args.at k)
    (IsBothGated (c.args.gate + 1) c.args.rest.now c.args.at c.args.list.now c.args.gate)
    (λ x. written c.args.gate (165 ∷ []) (both_written (c.args.gate + 1) c.args.rest.now c.args.at c.args.list.now x)) P W c.args.disk.now
    c.write_synced.new.disk c.write_both_gated.new.disk (end_of c.write_both_gated.result) refl
    (begun c.write_both_gated.result c.write_both_gated.ensures.only) refl
    (λ image is. inl (torn_is c.args.gate (length c.args.shut.now) content image is)) (λ image is. inl is) (inl shut_torn)
    (staged_none (c.args.gate + 1) n c.args.at k shut) (λ image is. inr is) (λ image is. inr is)
    c.in_ok-write_synced.ensures.change c.write_both_gated.ensures.change

pub returns-in_err-write_synced-clause-change : goal.returns-in_err-write_synced-clause-change
returns-in_err-write_synced-clause-change g c =
    let failed : c.write_synced.result ≡ Err Disk = search rules in
    let is : c.from_residual.result ≡ Err Disk = search rules in
    cut_on g.D.Disk 2 7 _ _ _ _ _ _ _ _ c.write_synced.result c.from_residual.result failed is (omega arith) refl
    (λ image is. inl (torn_is _ _ _ image is)) (λ image is. inl is) (inl (written_torn c.args.gate c.args.shut.now (g.D.Disk.seen c.args.disk.now)))
    c.write_synced.ensures.change
