use Rattle.std.proofs.Common.{◌≡◌, length, ℕ, List, arith, refl, sym, ap, ◌∙◌, Err, rules}
use Rattle.fab_base.proofs.Keeping.{Kept-trans}
use Rattle.fab_disk.specs.Disk.{written}
use Rattle.fab_disk.proofs.Plans.{run_both}
use Rattle.frame_store.specs.declared.faults.FrameFault.TheVariants.{Disk}
use Rattle.frame_store.specs.Steps.{IsStagedThrice, thrice_written}
use Rattle.frame_store.proofs.Ends.{of_cut, on_ok}
use Rattle.frame_store.proofs.Gates.{ThriceRun, run_of, cut_of}
use Rattle.frame_store.proofs.Rooms.{room_for, alone, second_room, third_room, after_three}
use Rattle.frame_store.proofs.Runs.{made_or_cut, thrice_first, thrice_second, thrice_third, thrice_now, then_sync}
use Rattle.frame_store.proofs.Stopping.{stops_early, stops_between, stops_last, stops_sync, thrice_none, thrice_one, thrice_two}
use Rattle.frame_store.proofs.steps.write_thrice_synced.Goals as goal

pub write-requires-clause-room : goal.write-requires-clause-room
write-requires-clause-room g c = room_for g.D.Disk.has_room g.met.D.Disk.room_for_less (omega arith) (omega arith) c.requires.first c.requires.room

pub write-requires-2-clause-room : goal.write-requires-2-clause-room
write-requires-2-clause-room g c = second_room g.D.Disk.has_room g.met.D.Disk.room_for_less _ _ _ 0 0 (alone g.D.Disk.has_room g.met.D.Disk.room_for_less _ _ c.requires.room) c.requires.first
    c.in_ok-write.ensures.left c.requires.second

pub write-requires-3-clause-room : goal.write-requires-3-clause-room
write-requires-3-clause-room g c = third_room g.D.Disk.has_room g.met.D.Disk.room_for_less _ _ _ 0 0 (alone g.D.Disk.has_room g.met.D.Disk.room_for_less _ _ c.requires.room) c.requires.first
    c.in_ok-write.ensures.left c.requires.second c.in_ok-write-2.ensures.left c.requires.third

pub sync-requires : goal.sync-requires
sync-requires g c =
    let left = after_three g.D.Disk.has_room g.met.D.Disk.room_for_less _ _ _ 0 0 (alone g.D.Disk.has_room g.met.D.Disk.room_for_less _ _ c.requires.room) c.requires.first c.in_ok-write.ensures.left
    c.requires.second c.in_ok-write-2.ensures.left c.requires.third c.in_ok-write-3.ensures.left in
    record { room = room_for g.D.Disk.has_room g.met.D.Disk.room_for_less (omega arith) (omega arith) (omega arith) left }

-- what there was beyond these calls is left
pub returns-clause-left : goal.returns-clause-left
returns-clause-left g c = on_ok c.sync.result (λ after calls room had.
    after calls room c.args.end (after_three g.D.Disk.has_room g.met.D.Disk.room_for_less _ _ _ calls room had c.requires.first c.in_ok-write.ensures.left
    c.requires.second c.in_ok-write-2.ensures.left c.requires.third c.in_ok-write-3.ensures.left)) c.sync.ensures.left

pub returns-in_err-write-clause-change : goal.returns-in_err-write-clause-change
returns-in_err-write-clause-change g c =
    let failed : c.write.result ≡ Err Disk = search rules in
    let to = ThriceRun g.D.Disk c.args.first.at c.args.first.bytes.now c.args.second.at c.args.second.bytes.now c.args.third.at c.args.third.bytes.now in
    of_cut (to c.args.disk.now c.write.new.disk) c.from_residual.result (search rules) (cut_of g.D.Disk 1 4 _ _ _ _ _ c.write.result failed (omega arith)
    (λ told stands.
    thrice_first g.D.Disk.may_leave g.D.Disk.moment g.D.Disk.left_since g.met.D.Disk.only_now _ _ _ _ _ _ _ _ _ stands.only
    c.write.ensures.crash c.write.ensures.time)
    (λ told stands.
    stops_early g.D.Disk.seen g.D.Disk.certain g.D.Disk.moment g.D.Disk.may_leave g.met.D.Disk.certain_is_left 4 _ _ _ _ _ (omega arith) stands.only
    (thrice_none _ _ _ _ c.args.second.bytes.now c.args.third.bytes.now _) (thrice_one _ _ _ c.args.first.bytes.now c.args.second.bytes.now c.args.third.bytes.now _)
    c.write.ensures.certain (c.write.ensures.cut told failed))
    c.write.ensures.run c.write.ensures.cause)

pub returns-in_err-write-2-clause-change : goal.returns-in_err-write-2-clause-change
returns-in_err-write-2-clause-change g c =
    let failed : c.write-2.result ≡ Err Disk = search rules in
    let to = ThriceRun g.D.Disk c.args.first.at c.args.first.bytes.now c.args.second.at c.args.second.bytes.now c.args.third.at c.args.third.bytes.now in
    of_cut (to c.args.disk.now c.write-2.new.disk) c.from_residual-in_err-write-2.result (search rules) (cut_of g.D.Disk 2 4 _ _ _ _ _ c.write-2.result failed (omega arith)
    (λ told stands.
    thrice_second g.D.Disk.may_leave g.D.Disk.moment g.D.Disk.left_since g.met.D.Disk.only_now _ _ _ _ _ _ _ _ _ stands.only
    c.write.ensures.crash c.write.ensures.time _ c.write-2.ensures.crash c.write-2.ensures.time)
    (λ told stands.
    stops_between g.D.Disk.seen g.D.Disk.certain g.D.Disk.moment g.D.Disk.may_leave g.met.D.Disk.certain_is_left 4 1 c.args.disk.now c.write.new.disk
    c.write-2.new.disk _ (written c.args.second.at c.args.second.bytes.now) _ _ (omega arith) stands.only
    (thrice_none _ _ _ c.args.first.bytes.now c.args.second.bytes.now c.args.third.bytes.now _)
    (thrice_one _ _ _ c.args.first.bytes.now c.args.second.bytes.now c.args.third.bytes.now _)
    (thrice_two _ _ _ c.args.first.bytes.now c.args.second.bytes.now c.args.third.bytes.now _) (c.in_ok-write.ensures.written told)
    c.write.ensures.certain (omega (arith, c.in_ok-write.ensures.run.counted told refl)) c.write-2.ensures.certain (c.write-2.ensures.cut told failed))
    (run_both g.D.Disk.tells g.D.Disk.moment g.D.Disk.plan g.D.Disk.unlisted 1 1 2 _ c.write.new.disk _ _ _ _ _ refl refl
    (made_or_cut c.write-2.result c.write-2.ensures.only) c.in_ok-write.ensures.run c.write-2.ensures.run)
    (Kept-trans c.write.ensures.cause c.write-2.ensures.cause))

pub returns-in_err-write-3-clause-change : goal.returns-in_err-write-3-clause-change
returns-in_err-write-3-clause-change g c =
    let failed : c.write-3.result ≡ Err Disk = search rules in
    let to = ThriceRun g.D.Disk c.args.first.at c.args.first.bytes.now c.args.second.at c.args.second.bytes.now c.args.third.at c.args.third.bytes.now in
    of_cut (to c.args.disk.now c.write-3.new.disk) c.from_residual-in_err-write-3.result (search rules) (cut_of g.D.Disk 3 4 _ _ _ _ _ c.write-3.result failed (omega arith)
    (λ told stands.
    thrice_third g.D.Disk.may_leave g.D.Disk.moment g.D.Disk.left_since g.met.D.Disk.only_now _ _ _ _ _ _ _ _ _ stands.only
    c.write.ensures.crash c.write.ensures.time _ c.write-2.ensures.crash c.write-2.ensures.time _ c.write-3.ensures.crash c.write-3.ensures.time)
    (λ told stands.
    stops_last g.D.Disk.seen g.D.Disk.certain g.D.Disk.moment g.D.Disk.may_leave g.met.D.Disk.certain_is_left 4 c.args.disk.now c.write-2.new.disk
    c.write-3.new.disk _ (written c.args.third.at c.args.third.bytes.now) _ stands.only
    (thrice_none _ _ _ c.args.first.bytes.now c.args.second.bytes.now c.args.third.bytes.now _)
    (thrice_two _ _ _ c.args.first.bytes.now c.args.second.bytes.now c.args.third.bytes.now _)
    (c.in_ok-write-2.ensures.written told ∙ ap (written c.args.second.at c.args.second.bytes.now) (c.in_ok-write.ensures.written told))
    (c.write-2.ensures.certain ∙ c.write.ensures.certain)
    (omega (arith, c.in_ok-write.ensures.run.counted told refl, c.in_ok-write-2.ensures.run.counted told refl)) c.write-3.ensures.certain
    (c.write-3.ensures.cut told failed))
    (run_both g.D.Disk.tells g.D.Disk.moment g.D.Disk.plan g.D.Disk.unlisted 2 1 3 _ c.write-2.new.disk _ _ _ _ _ refl refl
    (made_or_cut c.write-3.result c.write-3.ensures.only)
    (run_both g.D.Disk.tells g.D.Disk.moment g.D.Disk.plan g.D.Disk.unlisted 1 1 2 _ c.write.new.disk _ _ _ _ _ refl refl (λ not_whole not_cut. not_whole refl)
    c.in_ok-write.ensures.run c.in_ok-write-2.ensures.run) c.write-3.ensures.run)
    (Kept-trans (Kept-trans c.write.ensures.cause c.write-2.ensures.cause) c.write-3.ensures.cause))

pub returns-clause-change : goal.returns-clause-change
returns-clause-change g c =
    let d = g.D.Disk in
    let old = c.args.disk.now in
    let content = d.seen old in
    let first = c.args.first in
    let second = c.args.second in
    let third = c.args.third in
    let P : List ℕ → Type 0 = IsStagedThrice first.at (length first.bytes.now) second.at (length second.bytes.now) third.at (length third.bytes.now) content in
    let R : List ℕ → Type 0 = λ image. image ≡ thrice_written first.at first.bytes.now second.at second.bytes.now third.at third.bytes.now content in
    let one = c.write.new.disk in
    let two = c.write-2.new.disk in
    let all = c.write-3.new.disk in
    let new = c.sync.new.disk in
    let made : d.tells → d.seen all ≡ thrice_written first.at first.bytes.now second.at second.bytes.now third.at third.bytes.now content =
    λ told. c.in_ok-write-3.ensures.written told ∙ ap (written third.at third.bytes.now) (c.in_ok-write-2.ensures.written told
    ∙ ap (written second.at second.bytes.now) (c.in_ok-write.ensures.written told)) in
    run_of d 4 P P R old new c.sync.result c.sync.ensures.only
    (λ told stands.
    then_sync d.may_leave d.moment d.left_since g.met.D.Disk.only_now old all new P
    (thrice_third d.may_leave d.moment d.left_since g.met.D.Disk.only_now old one _ _ _ _ _ _ _ stands.only
    c.write.ensures.crash c.write.ensures.time two c.write-2.ensures.crash c.write-2.ensures.time all c.write-3.ensures.crash c.write-3.ensures.time)
    (thrice_now d.may_leave d.moment d.left_since g.met.D.Disk.only_now old one _ _ _ _ _ _ _ stands.only
    c.write.ensures.crash c.write.ensures.time two c.write-2.ensures.crash c.write-2.ensures.time all c.write-3.ensures.crash c.write-3.ensures.time)
    c.sync.ensures.crash c.sync.ensures.time)
    (λ told. on_ok c.sync.result (λ settled. record {
      only = λ image left. settled image left ∙ sym c.sync.ensures.content;
      has = c.sync.ensures.content ∙ made told;
    }) (c.sync.ensures.durable told))
    (λ told stands failed.
    stops_sync d.seen d.certain d.moment d.may_leave g.met.D.Disk.certain_is_left 4 old all new
    (thrice_written first.at first.bytes.now second.at second.bytes.now third.at third.bytes.now content) P stands.only
    (thrice_none first.at second.at third.at first.bytes.now second.bytes.now third.bytes.now content) (c.write-3.ensures.certain ∙ c.write-2.ensures.certain ∙ c.write.ensures.certain)
    (made told)
    (omega (arith, c.in_ok-write.ensures.run.counted told refl, c.in_ok-write-2.ensures.run.counted told refl, c.in_ok-write-3.ensures.run.counted told refl))
    (c.sync.ensures.certain failed) c.sync.ensures.content c.sync.ensures.time.later (c.sync.ensures.cut failed))
    (run_both d.tells d.moment d.plan d.unlisted 3 1 4 old all new _ _ _ _ refl refl (made_or_cut c.sync.result c.sync.ensures.only)
    (run_both d.tells d.moment d.plan d.unlisted 2 1 3 old two all _ _ _ _ refl refl (λ not_whole not_cut. not_whole refl)
    (run_both d.tells d.moment d.plan d.unlisted 1 1 2 old one two _ _ _ _ refl refl (λ not_whole not_cut. not_whole refl)
    c.in_ok-write.ensures.run c.in_ok-write-2.ensures.run) c.in_ok-write-3.ensures.run)
    c.sync.ensures.run)
    (Kept-trans (Kept-trans (Kept-trans c.write.ensures.cause c.write-2.ensures.cause) c.write-3.ensures.cause) c.sync.ensures.cause)
