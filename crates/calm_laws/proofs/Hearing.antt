-- The replies that wait are heard in order: those to earlier phases are left out, and the first ones to the present phase count.
use Rattle.std.proofs.Common.{Bool, List, None, Option, [], ap, arith, cond, false, refl, subst, sym, ℕ, ◌&&◌, ◌++◌, ◌<◌, ◌∙◌, ◌∷◌, ◌≡◌}
use Rattle.std.proofs.lemmas.Bool.Decides.{nat_tests}
use Rattle.std.specs.Prelude.{nat_lt, ◌-◌, ◌^◌}
use Rattle.calm_laws.proofs.Scenes.{Closes, Each, Outcome, Scene, Stage, decision, heard, hears, replying, with_queue}
use Rattle.fab_base.specs.declared.identities.BrickId.{BrickId}
use Rattle.messages.specs.declared.calls.Call.{Call}
use Rattle.messages.specs.declared.packets.Message.{Message}
use Rattle.messages.specs.declared.packets.Packet.{Packet}
use Rattle.messages.specs.declared.replies.Reply.{Reply}
use Rattle.protocol.specs.Coordinators.{Coordinator, Ignores, Next, answering_seat, call_same, counted_at, counts_at, new_seat, on_reply, counting_seat}
use Rattle.protocol.specs.Views.{view_told}
use Rattle.protocol.specs.Nodes.{fresh_stamp, known_after}

-- the time that a brick knows once it heard this packet
abbrev pub known_from : Packet → ℕ → ℕ
known_from packet known = from packet.message
  where
    from : Message → ℕ
    from (Message.Reply call reply) = known_after known reply
    from message = known

abbrev pub known_through : List Packet → ℕ → ℕ
known_through [] known = known
known_through (packet ∷ packets) known = known_through packets (known_from packet known)

-- a reply to an earlier phase of the call, which teaches no view
abbrev pub IsStale : Stage → Coordinator → Packet → Type 0
IsStale stage c packet =
    (from : BrickId) × (call : Call) × (reply : Reply) × (packet ≡ replying stage from call reply) × (call.boot ≡ c.call.boot)
    × (call.seq ≡ c.call.seq) × (call.phase < c.call.phase) × (view_told reply ≡ None)

-- such a call is another one
other_call : (a b : Call) → a.phase < b.phase → call_same a b ≡ false
unfolding call_same
other_call a b less = grind (arith, nat_tests)

-- what is no call of the present phase does not count
uncounted : (block : ℕ) (c : Coordinator) (from : ℕ) (call : Call) (reply : Reply) → call_same call c.call ≡ false
    → counts_at block c from call reply ≡ None
unfolding counts_at
uncounted block c from call reply other =
    ap (λ (b : Bool). cond (b && nat_lt c.call.phase (2 ^ 32 - 1)) (new_seat c.counted (answering_seat block c reply (counting_seat c from))) None)
    other

-- nor does it decide anything
left_out : (stage : Stage) (s : Scene) (from : BrickId) (call : Call) (reply : Reply) → call.phase < s.c.call.phase
    → decision stage s from call reply ≡ Ignores
unfolding on_reply
left_out stage s from call reply less =
    ap (λ (z : Option ℕ). counted_at stage.setting.layout.block stage.setting.code
    (fresh_stamp stage.me s.c.stamp.view stage.now s.c.call.boot (known_after s.known reply)) s.c from reply z)
    (uncounted stage.setting.layout.block s.c from.0 call reply (other_call call s.c.call less))

-- replies to earlier phases are left out, though one may raise the time that is known
pub stale_pass : (stage : Stage) (stale : List Packet) (s : Scene) (rest : List Packet) → s.queue ≡ stale ++ rest → Each (IsStale stage s.c) stale
    → Closes stage (record s { known = known_through stale s.known; queue = rest }) → Closes stage s
stale_pass stage [] s rest is old closes = with_queue stage s rest is closes
stale_pass stage (packet ∷ stale) s rest is old closes =
    let from : BrickId = old.0.0 in
    let call : Call = old.0.1 in
    let reply : Reply = old.0.2 in
    hears stage s from call reply (stale ++ rest)
    (record { queue = is ∙ ap (λ (p : Packet). p ∷ (stale ++ rest)) old.0.3; seq = (old.0.4, old.0.5); plain = old.0.7 })
    (subst (λ (z : Next). Outcome stage (heard s reply (stale ++ rest)) z) (sym (left_out stage s from call reply old.0.6))
    (stale_pass stage stale (heard s reply (stale ++ rest)) rest refl old.1
    (subst (λ (p : Packet). Closes stage (record s { known = known_through stale (known_from p s.known); queue = rest })) old.0.3 closes)))
