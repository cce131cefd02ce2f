use Rattle.std.proofs.Common.{◌≡◌, ◌+◌, length, ℕ, List, arith, refl, sym, ◌∙◌, Err, rules}
use Rattle.fab_disk.specs.Disk.{written, Torn}
use Rattle.fab_disk.specs.Changing.{Run}
use Rattle.fab_disk.proofs.Moments.{kept_both}
use Rattle.fab_disk.proofs.Plans.{run_both}
use Rattle.frame_store.specs.declared.faults.FrameFault.TheVariants.{Disk}
use Rattle.frame_store.proofs.Ends.{of_cut, on_ok}
use Rattle.frame_store.proofs.Gates.{run_of, cut_of}
use Rattle.frame_store.proofs.Runs.{made_or_cut, write_one, write_then_sync}
use Rattle.frame_store.proofs.Stopping.{stops_write, stops_sync}
use Rattle.frame_store.proofs.steps.write_synced.Goals as goal

pub sync-requires : goal.sync-requires
sync-requires g c =
    let n = length c.args.bytes.now in
    let end = c.args.at + n in
    let had = g.met.D.Disk.room_for_less c.args.disk.now 2 n end (1 + 1) (0 + n) end (omega arith) (omega arith) (omega arith) c.requires.room in
    record {
      room = g.met.D.Disk.room_for_less c.write.new.disk 1 0 end 1 0 0 (omega arith) (omega arith) (omega arith)
          (c.in_ok-write.ensures.left 1 0 end (omega arith) had);
    }

pub returns-in_err-write-clause-change : goal.returns-in_err-write-clause-change
returns-in_err-write-clause-change g c =
    let d = g.D.Disk in
    let old = c.args.disk.now in
    let new = c.write.new.disk in
    let content = d.seen old in
    let failed : c.write.result ≡ Err Disk = search rules in
    let P : List ℕ → Type 0 = λ image. image ≡ content in
    let Q : List ℕ → Type 0 = Torn c.args.at (length c.args.bytes.now) content in
    let R : List ℕ → Type 0 = λ image. image ≡ written c.args.at c.args.bytes.now content in
    of_cut (Run d 2 P Q R old new) c.from_residual.result (search rules) (cut_of d 1 2 P Q R old new c.write.result failed (omega arith)
    (λ told stands.
    write_one d.may_leave d.moment d.left_since g.met.D.Disk.only_now old new content c.args.at (length c.args.bytes.now) stands.only
    c.write.ensures.crash c.write.ensures.time)
    (λ told stands.
    stops_write d.seen d.certain d.moment d.may_leave g.met.D.Disk.certain_is_left 2 old old new (written c.args.at c.args.bytes.now content) P
    stands.only refl refl refl refl c.write.ensures.certain (c.write.ensures.cut told failed))
    c.write.ensures.run c.write.ensures.cause)

pub returns-clause-change : goal.returns-clause-change
returns-clause-change g c =
    let d = g.D.Disk in
    let old = c.args.disk.now in
    let mid = c.write.new.disk in
    let content = d.seen old in
    run_of d 2 (λ image. image ≡ content) (Torn c.args.at (length c.args.bytes.now) content)
    (λ image. image ≡ written c.args.at c.args.bytes.now content) old c.sync.new.disk c.sync.result c.sync.ensures.only
    (λ told stands.
    write_then_sync d.may_leave d.moment d.left_since g.met.D.Disk.only_now old mid c.sync.new.disk content c.args.at (length c.args.bytes.now)
    stands.only c.write.ensures.crash c.write.ensures.time c.sync.ensures.crash c.sync.ensures.time)
    (λ told. on_ok c.sync.result (λ settled. record {
      only = λ image left. settled image left ∙ sym c.sync.ensures.content;
      has = c.sync.ensures.content ∙ c.in_ok-write.ensures.written told;
    }) (c.sync.ensures.durable told))
    (λ told stands failed.
    stops_sync d.seen d.certain d.moment d.may_leave g.met.D.Disk.certain_is_left 2 old mid c.sync.new.disk
    (written c.args.at c.args.bytes.now content) (λ (image : List ℕ). image ≡ content) stands.only refl c.write.ensures.certain
    (c.in_ok-write.ensures.written told) (omega (arith, c.in_ok-write.ensures.run.counted told refl)) (c.sync.ensures.certain failed)
    c.sync.ensures.content c.sync.ensures.time.later (c.sync.ensures.cut failed))
    (run_both d.tells d.moment d.plan d.unlisted 1 1 2 old mid c.sync.new.disk _ _ _ _ refl refl
    (made_or_cut c.sync.result c.sync.ensures.only) c.in_ok-write.ensures.run c.sync.ensures.run)
    (kept_both (d.faults old) (d.faults mid) (d.faults c.sync.new.disk) (d.sound old) (d.sound mid) (d.sound c.sync.new.disk)
    (c.write.result ≡ Err Disk) (c.sync.result ≡ Err Disk) c.write.ensures.cause c.sync.ensures.cause)
