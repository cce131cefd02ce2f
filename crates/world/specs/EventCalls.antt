-- How many calls of a brick's disk an event makes.
use Rattle.std.specs.Prelude.{◌≡◌, ℕ, ◌&&◌, Bool, not, if◌then◌else◌, Option, Some, None}
use Rattle.fab_base.specs.declared.identities.BrickId.{BrickId}
use Rattle.fab_base.specs.Layouts.{Layout}
use Rattle.messages.specs.declared.packets.Packet.{Packet}
use Rattle.frame_store.specs.declared.shapes.Form.{Form}
use Rattle.frame_store.specs.Layouts.{formed}
use Rattle.brick_store.specs.Calls.{calls_to_open}
use Rattle.node.specs.Calls.{packet_calls}
use Rattle.node.specs.Running.{shape_at}
use Rattle.protocol.specs.Worlds.{World, Event, Invokes, Proposes, Syncs, Scrubs, Delivers, Sets, Ticks, Stops, Starts, is_brick, is_up, may_start, packet_of}

-- so many calls keep what a packet makes its receiver change, where it was sent, and that one is up
abbrev pub handled_calls : Layout → World → ℕ → Option Packet → ℕ
handled_calls layout w listed None = 0
handled_calls layout w listed (Some packet) =
    if is_up layout w packet.to then packet_calls layout packet.to (w.nodes packet.to.0) packet listed else 0

-- a brick of the layout that is down
abbrev pub is_down : Layout → World → BrickId → Bool
is_down layout w brick = is_brick layout brick && not (w.up brick.0)

-- so many calls the start of a brick makes, where its store is in this form and its list can be appended to or not
abbrev pub start_calls : Layout → BrickId → Form → Bool → ℕ
start_calls layout brick form appendable = calls_to_open (formed form (shape_at layout brick)) appendable

-- How many calls of `write_at` and `sync` an event makes, over a list of frames of so many bytes, or a store of this form whose list an opening can append to
-- or not: those of the message that is handled, whole or in part, or those of an opening. A brick that is down stops where its start was cut short.
abbrev pub event_calls : Layout → World → ℕ → Form → Bool → Event → ℕ
event_calls layout w listed form appendable (Invokes brick ask) = 0
event_calls layout w listed form appendable (Proposes brick group members) = 0
event_calls layout w listed form appendable (Syncs brick group) = 0
event_calls layout w listed form appendable (Scrubs brick group stripe members) = 0
event_calls layout w listed form appendable (Delivers number) = handled_calls layout w listed (packet_of w.packets number)
event_calls layout w listed form appendable (Sets brick time) = 0
event_calls layout w listed form appendable (Ticks brick) = 0
event_calls layout w listed form appendable (Stops brick None) = if is_down layout w brick then start_calls layout brick form appendable else 0
event_calls layout w listed form appendable (Stops brick (Some number)) = handled_calls layout w listed (packet_of w.packets number)
event_calls layout w listed form appendable (Starts brick openings found) = if may_start layout w brick openings then start_calls layout brick form appendable else 0

-- it makes none, whatever the list
abbrev pub MakesNoCall : Layout → World → Event → Type 0
MakesNoCall layout w event = (listed : ℕ) (form : Form) (appendable : Bool) → event_calls layout w listed form appendable event ≡ 0
