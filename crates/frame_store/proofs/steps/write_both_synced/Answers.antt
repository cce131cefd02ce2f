use Rattle.std.proofs.Common.{◌≡◌, ◌+◌, length, ℕ, List, arith, refl, sym, ap, ◌∙◌, Err, rules}
use Rattle.fab_base.proofs.Keeping.{Kept-trans}
use Rattle.fab_disk.specs.Disk.{written}
use Rattle.fab_disk.proofs.Plans.{run_both}
use Rattle.frame_store.specs.declared.faults.FrameFault.TheVariants.{Disk}
use Rattle.frame_store.specs.Steps.{IsStaged, both_written}
use Rattle.frame_store.proofs.Ends.{of_cut, on_ok}
use Rattle.frame_store.proofs.Gates.{BothRun, run_of, cut_of}
use Rattle.frame_store.proofs.Runs.{made_or_cut, write_first, write_twice, staged_now, then_sync}
use Rattle.frame_store.proofs.Stopping.{stops_early, stops_last, stops_sync, staged_none, staged_one}
use Rattle.frame_store.proofs.steps.write_both_synced.Goals as goal

pub sync-requires : goal.sync-requires
sync-requires g c =
    let n = length c.args.first.now in
    let k = length c.args.second.now in
    let end = c.args.at + k in
    let had = g.met.D.Disk.room_for_less c.args.disk.now 3 (n + k) end (2 + 1) (k + n) end (omega arith) (omega arith)
    (omega arith) c.requires.room in
    let then = c.in_ok-write.ensures.left 2 k end (omega (arith, c.requires.first)) had in
    let then_had = g.met.D.Disk.room_for_less c.write.new.disk 2 k end (1 + 1) (0 + k) end (omega arith) (omega arith) (omega arith) then in
    record {
      room = g.met.D.Disk.room_for_less c.write-2.new.disk 1 0 end 1 0 0 (omega arith) (omega arith) (omega arith)
          (c.in_ok-write-2.ensures.left 1 0 end (omega arith) then_had);
    }

pub returns-in_err-write-clause-change : goal.returns-in_err-write-clause-change
returns-in_err-write-clause-change g c =
    let failed : c.write.result ≡ Err Disk = search rules in
    let to = BothRun g.D.Disk c.args.from c.args.first.now c.args.at c.args.second.now c.args.disk.now c.write.new.disk in
    of_cut to c.from_residual.result (search rules) (cut_of g.D.Disk 1 3 _ _ _ _ _ c.write.result failed (omega arith)
    (λ told stands.
    write_first g.D.Disk.may_leave g.D.Disk.moment g.D.Disk.left_since g.met.D.Disk.only_now _ _ _ _ _ _ _ stands.only
    c.write.ensures.crash c.write.ensures.time)
    (λ told stands.
    stops_early g.D.Disk.seen g.D.Disk.certain g.D.Disk.moment g.D.Disk.may_leave g.met.D.Disk.certain_is_left 3 _ _ _ _ _ (omega arith) stands.only
    (staged_none _ _ _ _ _) (staged_one c.args.from c.args.at _ c.args.first.now _) c.write.ensures.certain (c.write.ensures.cut told failed))
    c.write.ensures.run c.write.ensures.cause)

pub returns-in_err-write-2-clause-change : goal.returns-in_err-write-2-clause-change
returns-in_err-write-2-clause-change g c =
    let failed : c.write-2.result ≡ Err Disk = search rules in
    let to = BothRun g.D.Disk c.args.from c.args.first.now c.args.at c.args.second.now c.args.disk.now c.write-2.new.disk in
    of_cut to c.from_residual-in_err-write-2.result (search rules) (cut_of g.D.Disk 2 3 _ _ _ _ _ c.write-2.result failed (omega arith)
    (λ told stands.
    write_twice g.D.Disk.may_leave g.D.Disk.moment g.D.Disk.left_since g.met.D.Disk.only_now _ _ _ _ _ _ _ _ stands.only
    c.write.ensures.crash c.write.ensures.time c.write-2.ensures.crash c.write-2.ensures.time)
    (λ told stands.
    stops_last g.D.Disk.seen g.D.Disk.certain g.D.Disk.moment g.D.Disk.may_leave g.met.D.Disk.certain_is_left 3 c.args.disk.now c.write.new.disk
    c.write-2.new.disk _ (written c.args.at c.args.second.now) _ stands.only (staged_none _ _ _ _ _)
    (staged_one c.args.from c.args.at _ c.args.first.now _) (c.in_ok-write.ensures.written told) c.write.ensures.certain
    (omega (arith, c.in_ok-write.ensures.run.counted told refl)) c.write-2.ensures.certain (c.write-2.ensures.cut told failed))
    (run_both g.D.Disk.tells g.D.Disk.moment g.D.Disk.plan g.D.Disk.unlisted 1 1 2 _ c.write.new.disk _ _ _ _ _ refl refl
    (made_or_cut c.write-2.result c.write-2.ensures.only) c.in_ok-write.ensures.run c.write-2.ensures.run)
    (Kept-trans c.write.ensures.cause c.write-2.ensures.cause))

pub returns-clause-change : goal.returns-clause-change
returns-clause-change g c =
    let d = g.D.Disk in
    let old = c.args.disk.now in
    let content = d.seen old in
    let n = length c.args.first.now in
    let k = length c.args.second.now in
    let P : List ℕ → Type 0 = IsStaged c.args.from n c.args.at k content in
    let R : List ℕ → Type 0 = λ image. image ≡ both_written c.args.from c.args.first.now c.args.at c.args.second.now content in
    let mid = c.write.new.disk in
    let both = c.write-2.new.disk in
    let new = c.sync.new.disk in
    run_of d 3 P P R old new c.sync.result c.sync.ensures.only
    (λ told stands.
    then_sync d.may_leave d.moment d.left_since g.met.D.Disk.only_now old both new P
    (write_twice d.may_leave d.moment d.left_since g.met.D.Disk.only_now old mid both content c.args.from n c.args.at k stands.only
    c.write.ensures.crash c.write.ensures.time c.write-2.ensures.crash c.write-2.ensures.time)
    (staged_now d.may_leave d.moment d.left_since g.met.D.Disk.only_now old mid both content c.args.from n c.args.at k stands.only
    c.write.ensures.crash c.write-2.ensures.crash)
    c.sync.ensures.crash c.sync.ensures.time)
    (λ told. on_ok c.sync.result (λ settled. record {
      only = λ image left. settled image left ∙ sym c.sync.ensures.content;
      has = c.sync.ensures.content ∙ c.in_ok-write-2.ensures.written told ∙ ap (written c.args.at c.args.second.now) (c.in_ok-write.ensures.written told);
    }) (c.sync.ensures.durable told))
    (λ told stands failed.
    stops_sync d.seen d.certain d.moment d.may_leave g.met.D.Disk.certain_is_left 3 old both new
    (both_written c.args.from c.args.first.now c.args.at c.args.second.now content) P stands.only
    (staged_none c.args.from n c.args.at k content) (c.write-2.ensures.certain ∙ c.write.ensures.certain)
    (c.in_ok-write-2.ensures.written told ∙ ap (written c.args.at c.args.second.now) (c.in_ok-write.ensures.written told))
    (omega (arith, c.in_ok-write.ensures.run.counted told refl, c.in_ok-write-2.ensures.run.counted told refl)) (c.sync.ensures.certain failed)
    c.sync.ensures.content c.sync.ensures.time.later (c.sync.ensures.cut failed))
    (run_both d.tells d.moment d.plan d.unlisted 2 1 3 old both new _ _ _ _ refl refl (made_or_cut c.sync.result c.sync.ensures.only)
    (run_both d.tells d.moment d.plan d.unlisted 1 1 2 old mid both _ _ _ _ refl refl (λ not_whole not_cut. not_whole refl)
    c.in_ok-write.ensures.run c.in_ok-write-2.ensures.run)
    c.sync.ensures.run)
    (Kept-trans (Kept-trans c.write.ensures.cause c.write-2.ensures.cause) c.sync.ensures.cause)
