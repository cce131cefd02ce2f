-- The versions that are left give the records that are left.
use Rattle.std.proofs.Common.{◌+◌, Some, [], ◌∷◌, ◌++◌, drop, get_or, sym, ap, ◌∙◌, append_assoc, arith}
use Rattle.std.proofs.lemmas.List.{append-nil, drop_all}
use Rattle.fab_base.specs.Stamps.{first_stamp}
use Rattle.brick_state.specs.Entries.{Entry}
use Rattle.brick_state.specs.Rewrites.{version_record, version_records}
use Rattle.brick_state.proofs.LiveRecords.{versions_step, versions_none}
use Rattle.brick_state.proofs.rewrites.put_versions.Goals as goal

none : Entry
none = record { stamp = first_stamp; block = 0 }

pub loop-entry-preserved : goal.loop-entry-preserved
unfolding none
loop-entry-preserved c =
    let p = c.args.place in
    let k = c.loop-entry.entry-index in
    let entries = c.args.entries.now in
    let e = get_or entries k none in
    let done = c.loop-entry.records.items in
    let rest = version_records p (Some e) (drop (k + 1) entries) in
    ap (λ xs. xs ++ rest) (c.in_ok-push.ensures.items ∙ ap (λ r. done ++ r ∷ []) c.version_record.ensures)
    ∙ append_assoc done (version_record p c.loop-entry.under e ∷ []) rest
    ∙ ap (λ xs. done ++ xs) (sym (versions_step p c.loop-entry.under k (k + 1) entries none (omega arith) c.loop-entry-test.true))
    ∙ c.loop-entry.invariant

pub returns : goal.returns
returns c =
    let p = c.args.place in
    let k = c.loop-entry.entry-index in
    let done = c.loop-entry.records.items in
    sym (append-nil done)
    ∙ ap (λ xs. done ++ xs) (sym (ap (version_records p c.loop-entry.under) (drop_all k c.args.entries.now c.loop-entry-test.false)
    ∙ versions_none p c.loop-entry.under))
    ∙ c.loop-entry.invariant
