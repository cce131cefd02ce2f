-- A message that does not count, or with which fewer replies count than decide, ends no operation.
use Rattle.std.proofs.Common.{◌≡◌, ◌<◌, ◌+◌, ◌++◌, ◌∷◌, [], ℕ, Bool, true, false, cond, nat_lt, length, Option, Some, None, is_some, sym, subst, arith}
use Rattle.std.proofs.lemmas.Bool.Decides.{nat_tests}
use Rattle.std.proofs.lemmas.List.{length-append}
use Rattle.fab_base.specs.declared.identities.BrickId.{BrickId}
use Rattle.fab_base.specs.declared.stamps.Stamp.{Stamp}
use Rattle.messages.specs.declared.packets.Message.{Message}
use Rattle.messages.specs.declared.packets.Message.TheVariants as message
use Rattle.messages.specs.declared.replies.Reply.{Reply}
use Rattle.stripe_code.specs.Codes.{block_code}
use Rattle.protocol.specs.declared.phases.Counted.{Counted}
use Rattle.protocol.specs.Settings.{Code}
use Rattle.protocol.specs.Coordinators.{Coordinator, Waits, counted_at, counts_at, decided, needed, on_reply, with_reply}
use Rattle.coord_phase.specs.Operations.{Operation, counts, seat_told}
use Rattle.coord_phase.specs.Decisions.{decided_on}
use Rattle.node.specs.Decisions.{NeverEnds}

module _ (block : ℕ) (code : Code) (fresh : Option Stamp) (c : Coordinator) (from : BrickId) (told : Reply) where
  uncounted_at : (seat : Option ℕ) → is_some seat ≡ false → NeverEnds (counted_at block code fresh c from told seat)
  uncounted_at None is = tt
  uncounted_at (Some seat) is = absurd cc

  few_at : (seat : Option ℕ) → length c.counted + 1 < needed c → NeverEnds (counted_at block code fresh c from told seat)
  few_at None few = tt
  few_at (Some seat) few =
      let reply : Counted = record { seat = seat; brick = from; reply = told } in
      let longer = length-append c.counted (reply ∷ []) in
      let test : nat_lt (length (c.counted ++ (reply ∷ []))) (needed c) ≡ true = grind (arith, nat_tests, few, longer) in
      subst (λ (b : Bool). NeverEnds (cond b (Waits (with_reply c seat from told)) (decided block code fresh (with_reply c seat from told)))) (sym test) tt

module _ (fresh : Option Stamp) (op : Operation) (from : BrickId) where
  -- it does not count
  pub uncounted : (m : Message) → counts op from m ≡ false → NeverEnds (decided_on fresh op from m)
  unfolding seat_told on_reply
  uncounted (message.Reply call told) is =
      uncounted_at op.block (block_code op.block) fresh op.state from told (counts_at op.block op.state from.0 call told) is
  uncounted (message.Request call request) is = tt
  uncounted (message.Learn group view) is = tt
  uncounted (message.Synced group view) is = tt
  uncounted (message.Client ask) is = tt
  uncounted (message.ClientReply id answer) is = tt

  -- with it too few count
  pub too_few : (m : Message) → length op.state.counted + 1 < needed op.state → NeverEnds (decided_on fresh op from m)
  unfolding on_reply
  too_few (message.Reply call told) few =
      few_at op.block (block_code op.block) fresh op.state from told (counts_at op.block op.state from.0 call told) few
  too_few (message.Request call request) few = tt
  too_few (message.Learn group view) few = tt
  too_few (message.Synced group view) few = tt
  too_few (message.Client ask) few = tt
  too_few (message.ClientReply id answer) few = tt
