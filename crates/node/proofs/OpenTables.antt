-- The open calls of a brick, once their table was changed.
use Rattle.std.proofs.Common.{◌≡◌, ℕ, cond, nat_eq, Option, Some, refl, sym, ◌∙◌, ap, subst}
use Rattle.std.specs.Option.{option_map}
use Rattle.std.specs.Ordering.{nat_cmp}
use Rattle.std.specs.BTreeMap.{get, is_at, btree_map_len}
use Rattle.fab_base.specs.Layouts.{Layout}
use Rattle.stamp_store.specs.declared.stamp_sources.StampSource.{StampSource}
use Rattle.protocol.specs.Coordinators.{Coordinator}
use Rattle.node.specs.declared.open_calls.OpenCalls.{OpenCalls}
use Rattle.node.specs.declared.operations.Operation.{Operation}
use Rattle.node.specs.Operations.{coordinator_of}
use Rattle.node.specs.States.{AreCallsOf, AreSameCalls, IsAt, OtherParts, state_with}
use Rattle.node.proofs.Replied.{put_held}
use Rattle.node.proofs.States.{same_states}
use Rattle.node.proofs.Tables.{each_after, shown_after}

module _ (before after : OpenCalls) where
  -- where the machine sees the same operations, it sees the same brick
  pub same_seen : after.stamps ≡ before.stamps → after.seq ≡ before.seq → btree_map_len after.operations ≡ btree_map_len before.operations
      → ((k : ℕ) → option_map coordinator_of (get nat_cmp after.operations k) ≡ option_map coordinator_of (get nat_cmp before.operations k))
      → (parts : OtherParts) → state_with parts after ≡ state_with parts before
  unfolding state_with
  same_seen stamps seq count calls parts =
      same_states _ _ (ap (λ (s : StampSource). s.boot) stamps) seq (ap (λ (s : StampSource). s.known) stamps) refl count refl
      (λ g e. refl) (λ g. refl) (λ g. refl) (λ g e s. refl) calls refl refl refl

  module _ (seq : ℕ) (left : Option Operation)
      (calls : (q : ℕ) → get nat_cmp after.operations q ≡ cond (is_at (nat_cmp seq) q) left (get nat_cmp before.operations q)) where
    -- so it does where one operation was changed, of which it sees nothing
    pub same_but_one : (was now : Operation) → left ≡ Some now → get nat_cmp before.operations seq ≡ Some was → coordinator_of now ≡ coordinator_of was
        → after.stamps ≡ before.stamps → after.seq ≡ before.seq → btree_map_len after.operations ≡ btree_map_len before.operations
        → (parts : OtherParts) → state_with parts after ≡ state_with parts before
    same_but_one was now there held same stamps seq_is count =
        let f = λ (q : ℕ). option_map coordinator_of (get nat_cmp before.operations q) in
        let is : f seq ≡ option_map coordinator_of left =
        ap (option_map coordinator_of) held ∙ ap (λ (k : Coordinator). Some k) (sym same) ∙ ap (option_map coordinator_of) (sym there) in
        same_seen stamps seq_is count
        (λ k. shown_after coordinator_of before.operations after.operations seq left calls k
        ∙ sym (put_held f seq (option_map coordinator_of left) k (nat_eq k seq) is refl))

    -- the calls are of the same brick, where what is left of one operation is of its layout
    pub same_left : (layout : Layout) → after.me ≡ before.me → after.stamps.boot ≡ before.stamps.boot
        → (AreCallsOf layout before → (operation : Operation) → left ≡ Some operation → IsAt layout seq operation) → AreSameCalls layout before after
    same_left layout me boot at =
        record {
          me = me;
          boot = boot;
          of = λ of. each_after (λ k (operation : Operation). IsAt layout k operation) before.operations after.operations seq left calls of (at of);
        }

    -- so they are where it is open
    pub same_put : (layout : Layout) (now : Operation) → left ≡ Some now → after.me ≡ before.me → after.stamps.boot ≡ before.stamps.boot
        → (AreCallsOf layout before → IsAt layout seq now) → AreSameCalls layout before after
    same_put layout now there me boot at =
        same_left layout me boot
        (λ of operation is. let same : now ≡ operation = cc in subst (λ (o : Operation). IsAt layout seq o) same (at of))
