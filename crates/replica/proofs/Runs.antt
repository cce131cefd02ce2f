-- What a message makes a store append, from the change of the store that it makes.
use Rattle.std.proofs.Common.{◌≡◌, ◌≢◌, ℕ, ◌+◌, Bool, true, false, ◌&&◌, cond, eqb, Option, Some, None, List, [], ◌∷◌, ◌++◌, length, refl, sym, ap, ◌∙◌, arith, eq-eqb}
use Rattle.std.specs.Prelude.{is_none, nat_lt}
use Rattle.std.proofs.lemmas.Bool.Decides.{nat_tests}
use Rattle.std.proofs.lemmas.List.{length-append}
use Rattle.fab_base.specs.declared.stamps.Stamp.{Stamp}
use Rattle.fab_base.specs.Stamps.{stamp_below, stamp_same}
use Rattle.fab_base.proofs.StampOrder.{stamp_below_irrefl, stamp_same_refl, stamp_same_true}
use Rattle.fab_disk.specs.declared.disk.Plan.{Plan}
use Rattle.fab_disk.specs.Plan.{IsWithin, IsRun}
use Rattle.fab_disk.proofs.Plans.{sooner_none}
use Rattle.messages.specs.declared.calls.Call.{Call}
use Rattle.messages.specs.declared.requests.Version.{Version}
use Rattle.brick_store.specs.Calls.{Append, append_of, version_calls}
use Rattle.brick_store.specs.Sizes.{version_size}
use Rattle.protocol.specs.Replicas.{Replica, Reaction, below, not_below}
use Rattle.protocol.specs.Nodes.{Node, put, with_replica, replica_at}
use Rattle.replica.specs.Calls.{stored_append, part_append}
use Rattle.replica.proofs.Dropping.{dropped, shorter}

differ : {A : Type 0} → false ≡ true → A
differ h = absurd cc

-- ---- runs of no calls

module _ {D : Type 0} (tells : Type 0) (moment : D → ℕ) (plan : D → Plan) (unlisted : D → Type 0) (old new : D)
    (planned : plan new ≡ plan old) (listed : unlisted old → unlisted new) (W C : Type 0) where
  never_within : IsWithin 0 (plan old) → ⊥
  never_within is = omega (arith, is.some, is.reached)

  -- nothing was to be called
  pub run_of_none : (C → ⊥) → moment new ≡ moment old → IsRun tells moment plan unlisted 0 old new W C
  run_of_none not_cut clock = record {
    counted = λ told is. omega (arith, clock);
    spared = λ is. never_within;
    later = λ is. planned ∙ sym (sooner_none (plan old));
    named = λ free is. absurd (not_cut is);
    stopped = λ told free is. absurd (not_cut is);
    used_up = λ free is. absurd (not_cut is);
    waits = λ a b. planned;
    stays = listed;
  }

-- ---- what a change appends

-- what appends a record of an order stamp, or of what was dropped
abbrev pub stamped : Option Append
stamped = Some (append_of 30 4)

module _ (shares : Bool) (part : Replica) where
  -- one record, unless the order stamp is the same and the log as long
  abbrev unless_same : Bool → Replica → Option Append
  unless_same long after = cond (long && stamp_same part.order after.order) None stamped

  -- a part whose log is as long as before
  pub same_long : (after : Replica) → length after.log ≡ length part.log
      → part_append shares part after ≡ cond (stamp_same part.order after.order) None stamped
  same_long after long =
      let longer : nat_lt (length part.log) (length after.log) ≡ false = grind (arith, nat_tests, long) in
      ap (λ (b : Bool). cond b (Some (stored_append shares)) (unless_same (eqb (length after.log) (length part.log)) after)) longer
      ∙ ap (λ (b : Bool). unless_same b after) (eq-eqb (length after.log) (length part.log) long)

  pub append_kept : part_append shares part part ≡ None
  append_kept = same_long part refl ∙ ap (λ (b : Bool). cond b None stamped) (stamp_same_refl part.order)

  other_stamp : (t : Stamp) → stamp_below part.order t ≡ true → stamp_same part.order t ≡ false
  other_stamp t later = by (stamp_same part.order t) refl
    where
      by : (b : Bool) → stamp_same part.order t ≡ b → b ≡ false
      by false is = refl
      by true is = differ (sym (stamp_below_irrefl part.order) ∙ ap (stamp_below part.order) (stamp_same_true part.order t is) ∙ later)

  pub append_ordered : (t : Stamp) → stamp_below part.order t ≡ true → part_append shares part (record part { order = t }) ≡ stamped
  append_ordered t later =
      same_long (record part { order = t }) refl ∙ ap (λ (b : Bool). cond b None stamped) (other_stamp t later)

  pub append_stored : (v : Version) → part_append shares part (record part { log = part.log ++ (v ∷ []) }) ≡ Some (stored_append shares)
  append_stored v =
      let sum : length (part.log ++ (v ∷ [])) ≡ length part.log + 1 = length-append part.log (v ∷ []) in
      let longer : nat_lt (length part.log) (length (part.log ++ (v ∷ []))) ≡ true = grind (arith, nat_tests, sum) in
      let after : Replica = record part { log = part.log ++ (v ∷ []) } in
      ap (λ (b : Bool). cond b (Some (stored_append shares)) (unless_same (eqb (length after.log) (length part.log)) after)) longer

  -- a part whose log got shorter
  pub append_dropped : (t : Stamp) → below t part.log ≢ [] → part_append shares part (dropped part t).replica ≡ stamped
  append_dropped t some =
      let less = shorter t part.log some in
      let longer : nat_lt (length part.log) (length (not_below t part.log)) ≡ false = grind (arith, nat_tests, less) in
      let other : eqb (length (not_below t part.log)) (length part.log) ≡ false = grind (arith, nat_tests, less) in
      let after = (dropped part t).replica in
      ap (λ (b : Bool). cond b (Some (stored_append shares)) (unless_same (eqb (length after.log) (length part.log)) after)) longer
      ∙ ap (λ (b : Bool). unless_same b after) other

-- what a version takes is told by its block
pub version_stored : (block : Option (List ℕ)) → Some (stored_append (is_none block)) ≡ Some (append_of (version_size block) (version_calls block))
version_stored None = refl
version_stored (Some bytes) = refl

-- the part of a call's stripe, once it was changed
pub replica_after : (node : Node) (call : Call) (reaction : Reaction) → replica_at (with_replica node call reaction) call ≡ reaction.replica
replica_after node call reaction =
    let g = call.group.0 in
    let e = call.view.0 in
    let s = call.stripe.0 in
    let inmost = put (node.replicas g e) s reaction.replica in
    ap (λ (b : Bool). cond b (put (node.replicas g) e inmost) (node.replicas g) e s) (eq-eqb g g refl)
    ∙ ap (λ (b : Bool). cond b inmost (node.replicas g e) s) (eq-eqb e e refl)
    ∙ ap (λ (b : Bool). cond b reaction.replica (node.replicas g e s)) (eq-eqb s s refl)
