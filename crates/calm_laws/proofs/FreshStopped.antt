-- Where a brick stops or starts, fresh operations that are still open stay fresh.
use Rattle.std.proofs.lemmas.Option.{slice_get_within}
use Rattle.std.proofs.Common.{inl, inr, subst, ◌+◌, ◌≡◌, ◌≢◌, ℕ, ◌<◌, Bool, true, false, [], length, Option, Some, None, refl, sym, ap, ◌∙◌, arith}
use Rattle.std.specs.Prelude.{nat_eq}
use Rattle.std.proofs.lemmas.Bool.{cond_both, false≢true}
use Rattle.std.proofs.lemmas.List.{append-nil}
use Rattle.fab_base.specs.declared.identities.BrickId.{BrickId}
use Rattle.messages.specs.declared.packets.Packet.{Packet}
use Rattle.protocol.specs.Settings.{Setting}
use Rattle.protocol.specs.Nodes.{Node, put, stopped, restarted}
use Rattle.protocol.specs.Worlds.{World, Operation, Found, Before, After, world_stopped, world_found, world_started, reached_during, reached_at, packet_of}
use Rattle.protocol_laws.proofs.Books.{Books}
use Rattle.view_laws.proofs.CallSteps.{Calls}
use Rattle.protocol.proofs.Tables.{put_each, put_same, put_twice}
use Rattle.protocol.proofs.Puts.{put_other}
use Rattle.calm_laws.proofs.Queues.{operation_same}
use Rattle.calm_laws.proofs.Fresh.{IsMadeBy, IsNumbered, AreFresh, made_put, IsOpenAt, opens_at, opens_in, put_before, packet_stands, fresh_kept}

module _ (setting : Setting) (w : World) (books : Books setting w) (calls : Calls w) (numbered : IsNumbered w) (fresh : AreFresh setting w) where
  -- a brick stops
  module _ (brick : BrickId) (during : Option ℕ) where
    abbrev halted : World
    halted = world_stopped setting w brick during

    -- what was not delivered then was not before
    reached_before : (z : Option ℕ) (k : ℕ) → reached_during w brick z k ≡ false → w.reached k ≡ false
    reached_before None k is = is
    reached_before (Some number) k is = at (packet_of w.packets number) is
      where
        at : (z : Option Packet) → reached_at w.reached brick number z k ≡ false → w.reached k ≡ false
        at None is = is
        at (Some packet) is =
            cond_both (nat_eq packet.to.0 brick.0) (put w.reached number true) w.reached (λ (f : ℕ → Bool). f k ≡ false → w.reached k ≡ false)
            (λ here. put_before w.reached number k) (λ other was. was) is

    -- and what was not sent was not delivered
    reached_beyond : (z : Option ℕ) (k : ℕ) → length w.packets < k → reached_during w brick z k ≡ false
    reached_beyond None k beyond = numbered.reached k beyond
    reached_beyond (Some number) k beyond = at (packet_of w.packets number) refl
      where
        at : (z : Option Packet) → packet_of w.packets number ≡ z → reached_at w.reached brick number z k ≡ false
        at None is = numbered.reached k beyond
        at (Some packet) is =
            let place = packet_stands w.packets number packet is in
            let inside : place.0 < length w.packets = slice_get_within w.packets place.0 packet place.2 in
            let number_is = place.1 in
            cond_both (nat_eq packet.to.0 brick.0) (put w.reached number true) w.reached (λ (f : ℕ → Bool). f k ≡ false)
            (λ here. put_other w.reached number true k (λ same. absurd (omega (arith, inside, number_is, same, beyond))) ∙ numbered.reached k beyond)
            (λ other. numbered.reached k beyond)

    pub stopped_numbered : IsNumbered halted
    unfolding stopped
    stopped_numbered = record {
      numbers = numbered.numbers;
      drafts = λ i p is.
          put_each (λ j (n : Node). n.proposal ≡ Some p → w.numbers j p.call.boot p.call.seq ≡ 0) w.nodes brick.0 (stopped (w.nodes brick.0))
          (λ none. absurd (let never : None ≡ Some p = none in cc)) (λ j other was. numbered.drafts j p was) i is;
      packets = λ k packet at.
          made_put w.nodes brick.0 (stopped (w.nodes brick.0)) (inr (refl, omega arith, omega arith)) packet (numbered.packets k packet at);
      reached = reached_beyond during;
    }

    pub stopped_fresh : AreFresh setting halted
    stopped_fresh n c opens untouched =
        let at : IsOpenAt halted n c = opens_at halted n c opens in
        let o : Operation = at.operation in
        let other : o.brick.0 ≢ brick.0
        = λ same. false≢true (sym (ap (λ (j : ℕ). put w.up brick.0 false j) same ∙ put_same w.up brick.0 false) ∙ at.up) in
        let up : w.up o.brick.0 ≡ true = sym (put_other w.up brick.0 false o.brick.0 other) ∙ at.up in
        let node : put w.nodes brick.0 (stopped (w.nodes brick.0)) o.brick.0 ≡ w.nodes o.brick.0
        = put_other w.nodes brick.0 (stopped (w.nodes brick.0)) o.brick.0 other in
        fresh_kept setting w halted [] fresh (sym (append-nil w.packets)) (λ j packet at'. refl) (reached_before during) n c untouched
        (opens_in w n o c at.operation_is up (ap (λ (x : Node). x.boot) (sym node) ∙ at.boot) (ap (λ (x : Node). x.calls o.seq) (sym node) ∙ at.call))
        (λ j packet at'. let never : ⊥ = cc in absurd never)

  -- a brick starts with no call, and the others stay as they are
  woken_fresh : (brick : BrickId) (next : World) → next.packets ≡ w.packets → next.numbers ≡ w.numbers → next.reached ≡ w.reached
      → next.operations ≡ w.operations → next.up ≡ put w.up brick.0 true → ((j : ℕ) → j ≢ brick.0 → next.nodes j ≡ w.nodes j)
      → ((k : ℕ) → (next.nodes brick.0).calls k ≡ None) → AreFresh setting next
  woken_fresh brick next packets numbers reached operations up others none n c opens untouched =
      let at : IsOpenAt next n c = opens_at next n c opens in
      let o : Operation = at.operation in
      let other : o.brick.0 ≢ brick.0
      = λ same. absurd (let never : None ≡ Some c = sym (none o.seq) ∙ ap (λ (j : ℕ). (next.nodes j).calls o.seq) (sym same) ∙ at.call in cc) in
      let node : next.nodes o.brick.0 ≡ w.nodes o.brick.0 = others o.brick.0 other in
      fresh_kept setting w next [] fresh (packets ∙ sym (append-nil w.packets))
      (λ j packet at'. operation_same w next packet numbers)
      (λ k is. ap (λ f. f k) (sym reached) ∙ is) n c untouched
      (opens_in w n o c (ap (λ f. f n) (sym operations) ∙ at.operation_is)
      (sym (put_other w.up brick.0 true o.brick.0 other) ∙ ap (λ f. f o.brick.0) (sym up) ∙ at.up)
      (ap (λ (x : Node). x.boot) (sym node) ∙ at.boot) (ap (λ (x : Node). x.calls o.seq) (sym node) ∙ at.call))
      (λ j packet at'. let never : ⊥ = cc in absurd never)

  -- a brick that starts with what it would have kept
  found_twice : (brick : BrickId) (openings : ℕ)
      → put (put w.nodes brick.0 (w.after brick.0)) brick.0 (restarted openings (put w.nodes brick.0 (w.after brick.0) brick.0))
      ≡ put w.nodes brick.0 (restarted openings (w.after brick.0))
  found_twice brick openings =
      put_twice w.nodes brick.0 (w.after brick.0) (restarted openings (put w.nodes brick.0 (w.after brick.0) brick.0))
      ∙ ap (λ (node : Node). put w.nodes brick.0 (restarted openings node)) (put_same w.nodes brick.0 (w.after brick.0))

  -- a stopped brick starts again
  -- a brick that starts has no proposal, and its boot rose
  starts_so : (brick : BrickId) (openings : ℕ) (node : Node) → 0 < openings → node.boot ≡ (w.nodes brick.0).boot
      → IsNumbered (record w { nodes = put w.nodes brick.0 (restarted openings node) })
  unfolding restarted
  starts_so brick openings node some boot = record {
    numbers = numbered.numbers;
    drafts = λ i p is.
        put_each (λ j (n : Node). n.proposal ≡ Some p → w.numbers j p.call.boot p.call.seq ≡ 0) w.nodes brick.0 (restarted openings node)
        (λ none. absurd (let never : None ≡ Some p = none in cc)) (λ j other was. numbered.drafts j p was) i is;
    packets = λ k packet at.
        made_put w.nodes brick.0 (restarted openings node)
        (inl (let more : (w.nodes brick.0).boot < node.boot + openings = omega (arith, some, boot) in more)) packet (numbered.packets k packet at);
    reached = numbered.reached;
  }

  pub started_numbered : (brick : BrickId) (openings : ℕ) (found : Found) → 0 < openings → w.up brick.0 ≡ false
      → IsNumbered (world_started (world_found w brick found) brick openings)
  started_numbered brick openings found some down = of found
    where
      of : (z : Found) → IsNumbered (world_started (world_found w brick z) brick openings)
      of Before =
          let is = starts_so brick openings (w.nodes brick.0) some refl in
          record { numbers = is.numbers; drafts = is.drafts; packets = is.packets; reached = is.reached }
      of After =
          let is = starts_so brick openings (w.after brick.0) some (calls.left brick.0 down).boot in
          let twice = found_twice brick openings in
          record {
            numbers = is.numbers;
            drafts = λ i p at. is.drafts i p (ap (λ (f : ℕ → Node). (f i).proposal) (sym twice) ∙ at);
            packets = λ k packet at. subst (λ (f : ℕ → Node). IsMadeBy f packet) (sym twice) (is.packets k packet at);
            reached = is.reached;
          }

  pub started_fresh : (brick : BrickId) (openings : ℕ) (found : Found) → AreFresh setting (world_started (world_found w brick found) brick openings)
  unfolding restarted
  started_fresh brick openings Before =
      woken_fresh brick (world_started w brick openings) refl refl refl refl refl
      (λ j other. put_other w.nodes brick.0 (restarted openings (w.nodes brick.0)) j other)
      (λ k. ap (λ (x : Node). x.calls k) (put_same w.nodes brick.0 (restarted openings (w.nodes brick.0))))
  started_fresh brick openings After =
      woken_fresh brick (world_started (world_found w brick After) brick openings) refl refl refl refl refl
      (λ j other.
      put_other (put w.nodes brick.0 (w.after brick.0)) brick.0 (restarted openings (put w.nodes brick.0 (w.after brick.0) brick.0)) j other
      ∙ put_other w.nodes brick.0 (w.after brick.0) j other)
      (λ k. ap (λ (x : Node). x.calls k)
      (put_same (put w.nodes brick.0 (w.after brick.0)) brick.0 (restarted openings (put w.nodes brick.0 (w.after brick.0) brick.0))))
