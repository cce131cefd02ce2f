-- The fields of a record are its body.
use Rattle.std.proofs.Common.{◌≡◌, ℕ, List, ◌++◌, ap, sym, ◌∙◌}
use Rattle.std.specs.Int.{w32}
use Rattle.std.proofs.lemmas.List.{append-nil}
use Rattle.fields.specs.Parts.{spelled, AllFit}
use Rattle.stamp_store.specs.declared.kept_records.Kept.{Kept}
use Rattle.stamp_store.specs.declared.kept_records.Kept.TheVariants.{Boot, Ballots, Order}
use Rattle.stamp_store.specs.declared.kept_records.Kept.TheVariants as kinds
use Rattle.stamp_store.specs.declared.log_records.LogChange.{LogChange}
use Rattle.stamp_store.specs.declared.log_records.LogChange.TheVariants.{Same, Collect, Slot}
use Rattle.stamp_store.specs.declared.log_records.Logged.{Logged}
use Rattle.stamp_store.specs.Spelling.{number_bytes, stamp_bytes, body_of, Fits}
use Rattle.stamp_store.specs.LogSpelling.{logged_body, logged_parts, LoggedFits}
use Rattle.stamp_store.specs.Reading.{kept_parts}
use Rattle.stamp_store.proofs.Fields.{both, field32, group_field, view_field, stripe_field, stamp_field, ballot_field, members_field, flag_field, accepted_field}

pub kept_same : (kept : Kept) → AllFit (kept_parts kept) → spelled (kept_parts kept) ≡ body_of kept
unfolding body_of
kept_same (Boot count) h = field32.same count h
kept_same (kinds.View group view synced) h =
    (both group_field (both view_field (both members_field (both members_field flag_field)))).same
    (group, (view.number, (view.members, (view.prior, synced)))) h
kept_same (Ballots group view promised accepted) h =
    (both group_field (both view_field (both ballot_field accepted_field))).same (group, (view, (promised, accepted))) h
kept_same (Order group view stripe stamp) h =
    (both group_field (both view_field (both stripe_field stamp_field))).same (group, (view, (stripe, stamp))) h

pub kept_fits : (kept : Kept) → AllFit (kept_parts kept) → Fits kept
kept_fits (Boot count) h = field32.fits count h
kept_fits (kinds.View group view synced) h =
    (both group_field (both view_field (both members_field (both members_field flag_field)))).fits
    (group, (view.number, (view.members, (view.prior, synced)))) h
kept_fits (Ballots group view promised accepted) h =
    (both group_field (both view_field (both ballot_field accepted_field))).fits (group, (view, (promised, accepted))) h
kept_fits (Order group view stripe stamp) h =
    (both group_field (both view_field (both stripe_field stamp_field))).fits (group, (view, (stripe, stamp))) h

pub kept_back : (kept : Kept) → Fits kept → AllFit (kept_parts kept)
kept_back (Boot count) h = field32.back count h
kept_back (kinds.View group view synced) h =
    (both group_field (both view_field (both members_field (both members_field flag_field)))).back
    (group, (view.number, (view.members, (view.prior, synced)))) h
kept_back (Ballots group view promised accepted) h =
    (both group_field (both view_field (both ballot_field accepted_field))).back (group, (view, (promised, accepted))) h
kept_back (Order group view stripe stamp) h =
    (both group_field (both view_field (both stripe_field stamp_field))).back (group, (view, (stripe, stamp))) h

-- ---- changes of a log

logged_same : (r : Logged) (change : LogChange) → AllFit (logged_parts (record r { change = change }))
    → spelled (logged_parts (record r { change = change })) ≡ logged_body (record r { change = change })
unfolding logged_body
logged_same r Same h =
    (both group_field (both view_field (both stripe_field stamp_field))).same (r.group, (r.view, (r.stripe, r.stamp))) h
    ∙ ap (λ (t : List ℕ). number_bytes w32 r.group.0 ++ (number_bytes w32 r.view.0 ++ (number_bytes w32 r.stripe.0 ++ t)))
    (sym (append-nil (stamp_bytes r.stamp)))
logged_same r Collect h =
    (both group_field (both view_field (both stripe_field stamp_field))).same (r.group, (r.view, (r.stripe, r.stamp))) h
    ∙ ap (λ (t : List ℕ). number_bytes w32 r.group.0 ++ (number_bytes w32 r.view.0 ++ (number_bytes w32 r.stripe.0 ++ t)))
    (sym (append-nil (stamp_bytes r.stamp)))
logged_same r (Slot bottom slot) h =
    (both group_field (both view_field (both stripe_field (both stamp_field (both flag_field field32))))).same
    (r.group, (r.view, (r.stripe, (r.stamp, (bottom, slot))))) h

pub changed_same : (r : Logged) → AllFit (logged_parts r) → spelled (logged_parts r) ≡ logged_body r
changed_same r h = logged_same r r.change h

logged_fit : (r : Logged) (change : LogChange) → AllFit (logged_parts (record r { change = change })) → LoggedFits (record r { change = change })
logged_fit r Same h =
    let f = (both group_field (both view_field (both stripe_field stamp_field))).fits (r.group, (r.view, (r.stripe, r.stamp))) h in
    (f.0, (f.1.0, (f.1.1.0, (f.1.1.1, tt))))
logged_fit r Collect h =
    let f = (both group_field (both view_field (both stripe_field stamp_field))).fits (r.group, (r.view, (r.stripe, r.stamp))) h in
    (f.0, (f.1.0, (f.1.1.0, (f.1.1.1, tt))))
logged_fit r (Slot bottom slot) h =
    (both group_field (both view_field (both stripe_field (both stamp_field (both flag_field field32))))).fits
    (r.group, (r.view, (r.stripe, (r.stamp, (bottom, slot))))) h

pub changed_fits : (r : Logged) → AllFit (logged_parts r) → LoggedFits r
changed_fits r h = logged_fit r r.change h

logged_back : (r : Logged) (change : LogChange) → LoggedFits (record r { change = change }) → AllFit (logged_parts (record r { change = change }))
logged_back r Same (group, (view, (stripe, (stamp, change)))) =
    (both group_field (both view_field (both stripe_field stamp_field))).back (r.group, (r.view, (r.stripe, r.stamp)))
    (group, (view, (stripe, stamp)))
logged_back r Collect (group, (view, (stripe, (stamp, change)))) =
    (both group_field (both view_field (both stripe_field stamp_field))).back (r.group, (r.view, (r.stripe, r.stamp)))
    (group, (view, (stripe, stamp)))
logged_back r (Slot bottom slot) h =
    (both group_field (both view_field (both stripe_field (both stamp_field (both flag_field field32))))).back
    (r.group, (r.view, (r.stripe, (r.stamp, (bottom, slot))))) h

pub changed_back : (r : Logged) → LoggedFits r → AllFit (logged_parts r)
changed_back r h = logged_back r r.change h
