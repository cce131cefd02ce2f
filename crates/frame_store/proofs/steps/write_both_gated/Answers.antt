use Rattle.std.proofs.Common.{rules, inl, inr, ◌≡◌, ◌+◌, ◌∷◌, [], ℕ, List, length, Err, arith, refl, sym, subst}
use Rattle.fab_disk.specs.Disk.{written, Torn}
use Rattle.frame_store.specs.declared.faults.FrameFault.TheVariants.{Disk}
use Rattle.frame_store.specs.Ends.{end_of}
use Rattle.frame_store.specs.Steps.{IsStaged, IsBothGated, both_written}
use Rattle.frame_store.proofs.Ends.{begun}
use Rattle.frame_store.proofs.Gates.{then_on, cut_on}
use Rattle.frame_store.proofs.Stopping.{staged_none, staged_both}
use Rattle.frame_store.proofs.steps.write_both_gated.Goals as goal

pub write_synced-requires-clause-room : goal.write_synced-requires-clause-room
write_synced-requires-clause-room g c =
    let n = length c.args.first.now + length c.args.second.now in
    let end = c.args.at + length c.args.second.now in
    let had = g.met.D.Disk.room_for_less c.args.disk.now 5 (n + 1) end (2 + 3) (1 + n) end (omega arith) (omega arith)
    (omega arith) c.requires.room in
    g.met.D.Disk.room_for_less c.write_both_synced.new.disk 2 1 end 2 1 (c.args.gate + 1) (omega arith) (omega arith) (omega (arith, c.requires.gate))
    (c.in_ok-write_both_synced.ensures.left 2 1 end (omega arith) had)

pub returns-clause-change : goal.returns-clause-change
returns-clause-change g c =
    let old = c.args.disk.now in
    let content = g.D.Disk.seen old in
    let P : List ℕ → Type 0 = IsStaged c.args.from (length c.args.first.now) c.args.at (length c.args.second.now) content in
    let W : List ℕ → Type 0 = IsBothGated c.args.from c.args.first.now c.args.at c.args.second.now c.args.gate content in
    let both = both_written c.args.from c.args.first.now c.args.at c.args.second.now content in
    let staged : P both = staged_both c.args.from c.args.at c.args.first.now c.args.second.now content in
    then_on g.D.Disk 3 2 5 P P both (λ x image. image ≡ x) (Torn c.args.gate 1) (written c.args.gate (165 ∷ [])) P W old c.write_both_synced.new.disk
    c.write_synced.new.disk (end_of c.write_synced.result) refl (begun c.write_synced.result c.write_synced.ensures.only)
    (staged_none c.args.from (length c.args.first.now) c.args.at (length c.args.second.now) content) (λ image is. is) (λ image is. inl is) staged refl
    (λ image is. subst P (sym is) staged) (λ image is. inr is) c.in_ok-write_both_synced.ensures.change c.write_synced.ensures.change

pub returns-in_err-write_both_synced-clause-change : goal.returns-in_err-write_both_synced-clause-change
returns-in_err-write_both_synced-clause-change g c =
    let content = g.D.Disk.seen c.args.disk.now in
    let P : List ℕ → Type 0 = IsStaged c.args.from (length c.args.first.now) c.args.at (length c.args.second.now) content in
    let W : List ℕ → Type 0 = IsBothGated c.args.from c.args.first.now c.args.at c.args.second.now c.args.gate content in
    let both = both_written c.args.from c.args.first.now c.args.at c.args.second.now content in
    let staged : P both = staged_both c.args.from c.args.at c.args.first.now c.args.second.now content in
    let R : List ℕ → Type 0 = λ image. image ≡ written c.args.gate (165 ∷ []) both in
    let failed : c.write_both_synced.result ≡ Err Disk = search rules in
    let is : c.from_residual.result ≡ Err Disk = search rules in
    cut_on g.D.Disk 3 5 P P both P W R c.args.disk.now c.write_both_synced.new.disk c.write_both_synced.result c.from_residual.result failed is
    (omega arith)
    (staged_none c.args.from (length c.args.first.now) c.args.at (length c.args.second.now) content) (λ image is. is) (λ image is. inl is) staged
    c.write_both_synced.ensures.change
