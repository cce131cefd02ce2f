-- There is no message of number 0: none such is ever delivered.
use Rattle.std.proofs.Common.{◌≡◌, ℕ, zero, suc, ◌+◌, Bool, true, false, nat_eq, get_or, List, Option, Some, None, refl, sym, ap, ◌∙◌, arith}
use Rattle.std.proofs.lemmas.Bool.{cond_both}
use Rattle.fab_base.specs.declared.identities.BrickId.{BrickId}
use Rattle.messages.specs.declared.packets.Packet.{Packet}
use Rattle.protocol.specs.Settings.{Setting}
use Rattle.protocol.specs.Nodes.{NodeStep, put, proposed, synced_at, scrubbed_at}
use Rattle.protocol.specs.Worlds.{World, packet_of, reached_at, reached_during, world_stepped}
use Rattle.stripe_code.specs.Codes.{coding}
use Rattle.world.specs.Deliveries.{is_noted}
use Rattle.world.specs.Runs.{Run, all_events, world_of}
use Rattle.world.proofs.Places.{value_elsewhere}
use Rattle.protocol.proofs.Events.{EventCases, step_on, world_counting, world_handled, stepped_each, started_each, always}

-- no message of number 0 was delivered
abbrev pub NoneAtZero : World → Type 0
NoneAtZero w = w.reached 0 ≡ false

-- a message of another number is
zero_put : (reached : ℕ → Bool) (k : ℕ) → reached 0 ≡ false → put reached (suc k) true 0 ≡ false
zero_put reached k none = value_elsewhere reached (suc k) 0 true (λ e. omega arith) ∙ none

-- a brick's step delivers none
zero_stepped : (setting : Setting) (w : World) (brick : BrickId) (step : NodeStep) → NoneAtZero w → NoneAtZero (world_stepped setting w brick step)
zero_stepped setting w brick step none =
    stepped_each NoneAtZero setting brick step (λ x seq t base holds. holds) (λ x seq v holds. holds) (λ x nodes call holds. holds) (λ x seq cause holds. holds)
    (λ x one holds. holds)
    (λ x nodes held packets choices holds. holds) w none

-- so it stays at a delivery
zero_handled : (setting : Setting) (w : World) (number : ℕ) (packet : Packet) → packet_of w.packets number ≡ Some packet → NoneAtZero w
    → NoneAtZero (world_handled setting w number packet)
zero_handled setting w zero packet at none = absurd (let never : None ≡ Some packet = at in cc)
zero_handled setting w (suc k) packet at none =
    zero_stepped setting (world_counting setting w (suc k) packet) packet.to (step_on setting w packet) (zero_put w.reached k none)

-- and where a brick stops in the midst of one
zero_during : (w : World) (brick : BrickId) (during : Option ℕ) → NoneAtZero w → reached_during w brick during 0 ≡ false
zero_during w brick None none = none
zero_during w brick (Some zero) none = none
zero_during w brick (Some (suc k)) none = by_packet (packet_of w.packets (suc k))
  where
    by_packet : (found : Option Packet) → reached_at w.reached brick (suc k) found 0 ≡ false
    by_packet None = none
    by_packet (Some packet) =
        cond_both (nat_eq packet.to.0 brick.0) (put w.reached (suc k) true) w.reached (λ (f : ℕ → Bool). f 0 ≡ false)
        (λ here. zero_put w.reached k none) (λ elsewhere. none)

-- at every event
zero_cases : (setting : Setting) (w : World) → NoneAtZero w → EventCases setting w NoneAtZero
zero_cases setting w none = record {
  begins = λ brick ask may. none;
  proposes = λ brick group members may. zero_stepped setting w brick (proposed setting brick (w.nodes brick.0) group members) none;
  syncs = λ brick group may. zero_stepped setting w brick (synced_at setting brick (w.clocks brick.0) (w.nodes brick.0) group) none;
  scrubs = λ brick group stripe members may.
      zero_stepped setting w brick (scrubbed_at setting brick (w.clocks brick.0) (w.nodes brick.0) group stripe members) none;
  handles = λ number packet at up. zero_handled setting w number packet at none;
  sets = λ brick time is. none;
  ticks = λ brick up. none;
  stops = λ brick during up. zero_during w brick during none;
  starts = λ brick openings found may. started_each NoneAtZero w brick openings none none found;
}

-- what is noted of a message is whether it was delivered
pub noted_is : (reached : List Bool) (w : World) (number : ℕ) → NoneAtZero w → ((k : ℕ) → get_or reached k false ≡ w.reached (k + 1))
    → is_noted reached number ≡ w.reached number
noted_is reached w zero none are = sym none
noted_is reached w (suc k) none are = are k ∙ ap w.reached (let e : k + 1 ≡ suc k = omega arith in e)

-- so in the world that a run leaves
pub none_at_zero : (r : Run) → NoneAtZero (world_of r)
none_at_zero r = always NoneAtZero (coding r.layout) refl (zero_cases (coding r.layout)) (all_events r.steps)
