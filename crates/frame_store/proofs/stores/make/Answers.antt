use Rattle.std.proofs.Common.{rules, ℕ, ◌∷◌, [], List, sym, ◌∙◌, ap, subst, ◌≡◌}
use Rattle.fab_disk.specs.Disk.{written}
use Rattle.fab_disk.specs.Changing.{IsAny, Still, Run}
use Rattle.fab_disk.proofs.Changing.{widen, still, behind}
use Rattle.frame_store.specs.Ends.{end_of}
use Rattle.frame_store.specs.Images.{IsEmptyStore}
use Rattle.frame_store.specs.Steps.{both_written}
use Rattle.frame_store.proofs.Ends.{of_refused}
use Rattle.frame_store.proofs.Formatting.{formatted, shut_pair, formatted_opens, formatted_slots}
use Rattle.frame_store.proofs.Stopping.{staged_none}
use Rattle.frame_store.proofs.stores.make.Goals as goal

pub returns-clause-change : goal.returns-clause-change
returns-clause-change g c =
    let d = g.D.Disk in
    let mid = c.reserve.new.disk in
    let new = c.write_both_gated.new.disk in
    let end = end_of c.write_both_gated.result in
    let shape = c.args.shape in
    let same : written 0 (165 ∷ []) (both_written 0 c.shut_headers-headers.result c.half_at-first.result (0 ∷ []) (d.seen mid))
    ≡ formatted shape (d.seen mid) =
    ap (λ (l : List ℕ). written 0 (165 ∷ []) (both_written 0 l c.half_at-first.result (0 ∷ []) (d.seen mid))) c.shut_headers-headers.ensures
    ∙ ap (λ (n : ℕ). written 0 (165 ∷ []) (both_written 0 (shut_pair shape) n (0 ∷ []) (d.seen mid))) c.half_at-first.ensures in
    let rest : Still d c.args.disk.now mid ⊥ =
    record { untouched = c.reserve.ensures.untouched; plan = c.reserve.ensures.plan; cause = c.reserve.ensures.cause } in
    behind d g.met.D.Disk.only_now IsAny IsAny (λ image is. is) c.args.disk.now mid ⊥ rest g.met.D.Disk.counts_now 5 (IsEmptyStore shape) new end
    (widen d 5 _ _ _ IsAny IsAny (IsEmptyStore shape) mid new end
    (λ told any. staged_none 0 _ c.half_at-first.result 1 (d.seen mid)) (λ told any image is. tt) (λ told any image is. tt)
    (λ told image is. subst (IsEmptyStore shape) (sym (is ∙ same))
    (record { opens = formatted_opens shape (d.seen mid); slots = formatted_slots shape (d.seen mid) }))
    c.write_both_gated.ensures.change)

pub returns-in_err-reserve-clause-change : goal.returns-in_err-reserve-clause-change
returns-in_err-reserve-clause-change g c =
    let After = IsEmptyStore c.args.shape in
    of_refused (Run g.D.Disk 5 IsAny IsAny After c.args.disk.now c.reserve.new.disk) c.from_residual.result (search rules)
    (still g.D.Disk g.met.D.Disk.only_now IsAny IsAny (λ image is. is) c.args.disk.now c.reserve.new.disk ⊥
    (record { untouched = c.reserve.ensures.untouched; plan = c.reserve.ensures.plan; cause = c.reserve.ensures.cause }) 5 After)
