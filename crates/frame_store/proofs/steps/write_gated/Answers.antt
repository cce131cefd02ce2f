use Rattle.std.proofs.Common.{rules, inl, inr, ◌≡◌, ◌+◌, ◌∷◌, [], ℕ, List, length, Err, arith, refl, sym, subst}
use Rattle.fab_disk.specs.Disk.{written, Torn}
use Rattle.frame_store.specs.declared.faults.FrameFault.TheVariants.{Disk}
use Rattle.fab_disk.proofs.Writes.{written_torn}
use Rattle.frame_store.specs.Ends.{end_of}
use Rattle.frame_store.specs.Steps.{IsGated}
use Rattle.frame_store.proofs.Ends.{begun}
use Rattle.frame_store.proofs.Gates.{then_on, cut_on}
use Rattle.frame_store.proofs.Runs.{torn_same}
use Rattle.frame_store.proofs.steps.write_gated.Goals as goal

pub write_synced-requires-2-clause-room : goal.write_synced-requires-2-clause-room
write_synced-requires-2-clause-room g c =
    let n = length c.args.bytes.now in
    let end = c.args.at + n in
    let had = g.met.D.Disk.room_for_less c.args.disk.now 4 (n + 1) end (2 + 2) (1 + n) end (omega arith) (omega arith)
    (omega arith) c.requires.room in
    g.met.D.Disk.room_for_less c.write_synced.new.disk 2 1 end 2 1 (c.args.gate + 1) (omega arith) (omega arith) (omega (arith, c.requires.gate))
    (c.in_ok-write_synced.ensures.left 2 1 end (omega arith) had)

pub returns-clause-change : goal.returns-clause-change
returns-clause-change g c =
    let old = c.args.disk.now in
    let content = g.D.Disk.seen old in
    let n = length c.args.bytes.now in
    let P : List ℕ → Type 0 = Torn c.args.at n content in
    then_on g.D.Disk 2 2 4 (λ image. image ≡ content) P (written c.args.at c.args.bytes.now content) (λ x image. image ≡ x) (Torn c.args.gate 1)
    (written c.args.gate (165 ∷ [])) P (IsGated c.args.at c.args.bytes.now c.args.gate content) old c.write_synced.new.disk c.write_synced-2.new.disk
    (end_of c.write_synced-2.result) refl (begun c.write_synced-2.result c.write_synced-2.ensures.only) refl
    (λ image is. subst P (sym is) (torn_same c.args.at n content)) (λ image is. inl is) (written_torn c.args.at c.args.bytes.now content) refl
    (λ image is. subst P (sym is) (written_torn c.args.at c.args.bytes.now content)) (λ image is. inr is)
    c.in_ok-write_synced.ensures.change c.write_synced-2.ensures.change

pub returns-in_err-write_synced-clause-change : goal.returns-in_err-write_synced-clause-change
returns-in_err-write_synced-clause-change g c =
    let d = g.D.Disk in
    let old = c.args.disk.now in
    let content = d.seen old in
    let n = length c.args.bytes.now in
    let P : List ℕ → Type 0 = Torn c.args.at n content in
    let W : List ℕ → Type 0 = IsGated c.args.at c.args.bytes.now c.args.gate content in
    let R : List ℕ → Type 0 = λ image. image ≡ written c.args.gate (165 ∷ []) (written c.args.at c.args.bytes.now content) in
    let failed : c.write_synced.result ≡ Err Disk = search rules in
    let is : c.from_residual.result ≡ Err Disk = search rules in
    cut_on d 2 4 (λ image. image ≡ content) P (written c.args.at c.args.bytes.now content) P W R old c.write_synced.new.disk c.write_synced.result c.from_residual.result failed is
    (omega arith) refl
    (λ image is. subst P (sym is) (torn_same c.args.at n content)) (λ image is. inl is) (written_torn c.args.at c.args.bytes.now content)
    c.write_synced.ensures.change
