-- What an operation does with a reply that counts and tells a later view.
use Rattle.std.proofs.Common.{◌≡◌, ◌<◌, ◌≤◌, ◌+◌, ℕ, Bool, true, false, cond, nat_lt, [], ◌∷◌, ◌++◌, length, Option, Some, None, sym, ◌∙◌, ap, arith}
use Rattle.std.proofs.lemmas.Bool.Decides.{nat_tests}
use Rattle.std.proofs.lemmas.List.{length-append}
use Rattle.fab_base.specs.declared.answers.Answer.TheVariants.{Aborted}
use Rattle.fab_base.specs.declared.answers.Cause.TheVariants as Cause
use Rattle.fab_base.specs.declared.identities.BrickId.{BrickId}
use Rattle.fab_base.specs.declared.identities.ViewNo.{ViewNo}
use Rattle.fab_base.specs.declared.stamps.Stamp.{Stamp}
use Rattle.fab_base.specs.Layouts.{seat_in}
use Rattle.messages.specs.declared.calls.Call.{Call}
use Rattle.messages.specs.declared.replies.Lineage.{Lineage}
use Rattle.messages.specs.declared.replies.Reply.TheVariants.{Moved}
use Rattle.protocol.specs.Settings.{Code}
use Rattle.protocol.specs.declared.phases.Counted.{Counted}
use Rattle.protocol.specs.declared.phases.Mover.{Mover}
use Rattle.protocol.specs.Coordinators.{Coordinator, Next, Waits, asked_group, counts_at, counted_at, decided, lowest_mover, needed, on_reply, once_full, unless_told_moved, aborted_moved, with_reply}
use Rattle.protocol.proofs.CountsAt.{counts_facts}
use Rattle.node.specs.Operations.{EndsOrWaits}

-- a member that told a later view aborts the operation, whatever else would be done
moved_first : (o : Option Mover) (m : Mover) (next : Next) → o ≡ Some m → unless_told_moved o next ≡ aborted_moved m
moved_first o m next is = ap (λ (told : Option Mover). unless_told_moved told next) is

-- where some member told a later view, the operation is aborted by the one of the lowest seat
decided_by : (block : ℕ) (code : Code) (fresh : Option Stamp) (c : Coordinator) (m : Mover) → lowest_mover c.counted ≡ Some m
    → decided block code fresh c ≡ aborted_moved m
unfolding decided
decided_by block code fresh c m lowest = moved_first (lowest_mover c.counted) m _ lowest

-- a brick that is no member ends nothing
pub no_member : (c : Coordinator) (from : BrickId) (view : ViewNo) → seat_in (asked_group c).members from.0 ≡ None → EndsOrWaits c from view None
no_member c from view none block code fresh call lineage seat counts =
    let at = (counts_facts block c from.0 call (Moved view lineage) seat counts).seat_is in
    absurd (let never : None ≡ Some seat = sym none ∙ at in cc)

module _ (c : Coordinator) (from : BrickId) (view : ViewNo) (at : ℕ) (here : seat_in (asked_group c).members from.0 ≡ Some at) where
  -- the reply, as it counts at the brick's seat
  abbrev told : Option Lineage → Counted
  told lineage = record { seat = at; brick = from; reply = Moved view lineage }

  -- it counts at that seat
  seat_at : (block : ℕ) (call : Call) (lineage : Option Lineage) (seat : ℕ) → counts_at block c from.0 call (Moved view lineage) ≡ Some seat → seat ≡ at
  seat_at block call lineage seat counts =
      let is = (counts_facts block c from.0 call (Moved view lineage) seat counts).seat_is in
      let same : Some seat ≡ Some at = sym is ∙ here in
      cc

  -- with it so many replies count
  one_longer : (lineage : Option Lineage) → length (c.counted ++ (told lineage ∷ [])) ≡ length c.counted + 1
  one_longer lineage = length-append c.counted (told lineage ∷ [])

  -- so the coordinator decides once these are enough
  counted_so : (block : ℕ) (code : Code) (fresh : Option Stamp) (call : Call) (lineage : Option Lineage) (seat : ℕ)
      → counts_at block c from.0 call (Moved view lineage) ≡ Some seat
      → on_reply block code fresh c from call (Moved view lineage) ≡ once_full block code fresh (with_reply c at from (Moved view lineage))
  unfolding on_reply
  counted_so block code fresh call lineage seat counts =
      ap (counted_at block code fresh c from (Moved view lineage)) counts
      ∙ ap (λ (k : ℕ). once_full block code fresh (with_reply c k from (Moved view lineage))) (seat_at block call lineage seat counts)

  -- it waits where they are fewer
  pub waits_on : length c.counted + 1 < needed c → EndsOrWaits c from view None
  waits_on few block code fresh call lineage seat counts =
      let reply = Moved view lineage in
      let longer = one_longer lineage in
      let test : nat_lt (length (c.counted ++ (told lineage ∷ []))) (needed c) ≡ true = grind (arith, nat_tests, few, longer) in
      counted_so block code fresh call lineage seat counts
      ∙ ap (λ (b : Bool). cond b (Waits (with_reply c at from reply)) (decided block code fresh (with_reply c at from reply))) test
      ∙ ap (λ (k : ℕ). Waits (with_reply c k from reply)) (sym (seat_at block call lineage seat counts))

  -- and ends where they are enough, by the mover of the lowest seat
  pub ends_on : needed c ≤ length c.counted + 1 → (m : Mover) → ((lineage : Option Lineage) → lowest_mover (c.counted ++ (told lineage ∷ [])) ≡ Some m)
      → EndsOrWaits c from view (Some (Aborted (Cause.Moved m.brick m.view)))
  ends_on many m lowest block code fresh call lineage seat counts =
      let reply = Moved view lineage in
      let longer = one_longer lineage in
      let test : nat_lt (length (c.counted ++ (told lineage ∷ []))) (needed c) ≡ false = grind (arith, nat_tests, many, longer) in
      counted_so block code fresh call lineage seat counts
      ∙ ap (λ (b : Bool). cond b (Waits (with_reply c at from reply)) (decided block code fresh (with_reply c at from reply))) test
      ∙ decided_by block code fresh (with_reply c at from reply) m (lowest lineage)
