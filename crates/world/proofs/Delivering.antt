-- What comes of a message that is to be delivered.
use Rattle.std.proofs.Common.{◌≡◌, ℕ, zero, suc, ◌+◌, ◌≤◌, true, false, nat_eq, get_or, List, Option, Some, None, refl, sym, ap, ◌∙◌, subst, arith}
use Rattle.std.specs.Prelude.{Ok, Err, if◌then◌else◌}
use Rattle.std.proofs.lemmas.Bool.{and_parts}
use Rattle.fab_base.specs.declared.faults.NoMem.TheVariants.{NoMemory}
use Rattle.fab_base.specs.declared.identities.BrickId.{BrickId}
use Rattle.fab_base.specs.Layouts.{Layout}
use Rattle.lines.specs.declared.forms.Fault.{Fault}
use Rattle.lines.specs.declared.forms.Line.TheVariants.{Deliver}
use Rattle.messages.specs.declared.packets.Packet.{Packet}
use Rattle.node.specs.Outcomes.{Outcome as Sent}
use Rattle.stripe_code.specs.Codes.{coding}
use Rattle.protocol.specs.Nodes.{NodeStep, put, received}
use Rattle.protocol.specs.Worlds.{World, is_brick, is_up, packet_of}
use Rattle.protocol.proofs.Events.{world_counting}
use Rattle.world.specs.BrickSteps.{ChangesBrick, DoesHandle}
use Rattle.world.specs.CallNumbers.{calls_in}
use Rattle.world.specs.Noted.{IsSameHistory, NotesCrash, NotesStep}
use Rattle.world.specs.Runs.{brick_of}
use Rattle.world.specs.Shown.{FindsUp, IsUp, RunsLine, Shows, Stands, StaysAs, Tells, seqs_of, world_in}
use Rattle.world.specs.declared.bricks.Brick.{Brick}
use Rattle.world.specs.declared.call_numbers.CallNumbers.{CallNumbers}
use Rattle.world.specs.declared.deliveries.Deliveries.{Deliveries}
use Rattle.world.specs.declared.histories.History.{History}
use Rattle.world.specs.declared.simulations.Outcome.TheVariants.{Marks, Idle}
use Rattle.world.specs.declared.simulations.Simulation.{Simulation}
use Rattle.world.proofs.BrickListLemmas.{handled_contents, handled_kept, running_not, takes_there, up_there}
use Rattle.world.proofs.DeliveryLemmas.{unsent_comes, astray_comes, whole_comes, part_comes}
use Rattle.world.proofs.HistoryLemmas.{tells_same, tells_delivered, tells_crashed}
use Rattle.world.proofs.HearingLemmas.{tells_step}
use Rattle.world.proofs.MachineSteps.{received_opens_reads}
use Rattle.world.proofs.RunLaws.{reached_numbered}
use Rattle.world.proofs.SimulationLemmas.{come_to, shows_alike, stays_alike, tells_replies}

-- there is no message of number 0
pub some_number : (packets : List Packet) (k : ℕ) (packet : Packet) → Some packet ≡ packet_of packets k → 1 ≤ k
some_number packets zero packet is = absurd (let never : Some packet ≡ None = is in cc)
some_number packets (suc k) packet is = omega arith

-- the room that was made, and the notes that no message was delivered, tell nothing
still : (old new : History) → IsSameHistory old new → (d : Deliveries)
    → ((k : ℕ) → get_or d.reached.items k false ≡ get_or new.delivered.reached.items k false) → (calls : CallNumbers)
    → ((i : ℕ) → calls_in calls i ≡ calls_in new.calls i) → IsSameHistory old (record new { delivered = d; calls = calls })
still old new same d reached calls are = record {
  sent = same.sent;
  reached = λ k. reached k ∙ same.reached k;
  marks = same.marks;
  reports = same.reports;
  operations = same.operations;
  marked = same.marked;
  calls = λ i. are i ∙ same.calls i;
}

-- Room was made for what a step of a brick adds.
module _ (layout : Layout) (old : Simulation) (room : History) (same : IsSameHistory old.history room) (stands : Stands layout old) where
  -- the state with the room, and the world that it has come to
  abbrev roomy : Simulation
  roomy = record old { history = room }

  abbrev w : World
  w = world_in layout old

  -- and for the delivery and the call, or not
  pub room_stays : (delivered : Deliveries) → ((k : ℕ) → get_or delivered.reached.items k false ≡ get_or room.delivered.reached.items k false)
      → (calls : CallNumbers) → ((i : ℕ) → calls_in calls i ≡ calls_in room.calls i)
      → StaysAs layout old (record old { history = record room { delivered = delivered; calls = calls } })
  room_stays delivered expects calls reserves = stays_alike layout old _ (still old.history room same delivered expects calls reserves) stands

  -- what was found of the messages behind a slice is what the machine finds
  module _ (message : ℕ) (fault : Option Fault) (sent : List Packet) (sent_is : sent ≡ room.sent.packets.items) where
    -- the state with the room shows the world, and what was found of the messages is the machine's
    shows : Shows layout roomy w
    shows = shows_alike layout old roomy w refl same stands

    found_is : (found : Option Packet) → found ≡ packet_of sent message → packet_of w.packets message ≡ found
    found_is found is = sym (ap (λ (xs : List Packet). packet_of xs message) (sent_is ∙ shows.history.packets)) ∙ sym is

    -- there is no such message
    pub unsent : None ≡ packet_of sent message → RunsLine layout old roomy (Deliver message fault) Idle
    unsent is = record { trail = refl; comes = unsent_comes layout w roomy message fault (found_is None is) shows }

    -- there is
    module _ (packet : Packet) (is : Some packet ≡ packet_of sent message) (b : ℕ) (b_is : b ≡ packet.to.0) (bricks : List Brick)
        (bricks_are : bricks ≡ old.bricks.items) where
      -- its brick is not up
      pub astray : FindsUp bricks b None → RunsLine layout old roomy (Deliver message fault) Idle
      astray none = record {
        trail = refl;
        comes = astray_comes layout w roomy message fault packet (found_is (Some packet) is)
            (subst (λ (n : ℕ). is_up layout w (brick_of n) ≡ false) b_is
            (running_not layout old.bricks.items w b stands.bricks (subst (λ (l : List Brick). FindsUp l b None) bricks_are none))) shows;
      }

      -- it is, and room was made
      module _ (to : BrickId) (finds : FindsUp bricks b (Some to)) where
        -- it is the one that the message is for
        to_is : to ≡ packet.to
        to_is = finds.0 ∙ ap brick_of b_is

        pub receives : IsUp old.bricks.items to
        receives = subst (λ (l : List Brick). IsUp l to) bricks_are finds.1

        up_here : is_up layout w to ≡ true
        up_here = up_there layout old.bricks.items w to receives stands.bricks

        up : is_up layout w packet.to ≡ true
        up = subst (λ (brick : BrickId). is_up layout w brick ≡ true) to_is up_here

        module _ (delivered : Deliveries) (expects : (k : ℕ) → get_or delivered.reached.items k false ≡ get_or room.delivered.reached.items k false)
            (calls : CallNumbers) (reserves : (i : ℕ) → calls_in calls i ≡ calls_in room.calls i) where
          -- the history with all the room tells the world
          abbrev ready : History
          ready = record room { delivered = delivered; calls = calls }

          told : Tells ready w
          told = tells_same (seqs_of w) old.history ready w (still old.history room same delivered expects calls reserves) stands.history

          -- memory was refused
          pub refused : (new : Simulation) → new.trail ≡ old.trail → new.history ≡ ready
              → ChangesBrick old.bricks.items new.bricks.items to (DoesHandle packet fault (Err NoMemory)) → StaysAs layout old new
          refused new trail history handles = record {
            trail = trail;
            shows = record {
              bricks = handled_kept packet fault NoMemory w (and_parts (is_brick layout to) (w.up to.0) up_here).1 stands.bricks handles;
              history = subst (λ (h : History). Tells h w) (sym history) told;
            };
            contents = handled_contents packet fault NoMemory handles;
          }

          -- the brick took it, and the delivery was noted
          module _ (noted : History) (rest : noted ≡ record ready { delivered = noted.delivered })
              (notes : (k : ℕ) → get_or noted.delivered.reached.items k false
              ≡ (if nat_eq (k + 1) message then true else get_or ready.delivered.reached.items k false)) (new : Simulation) (trail : new.trail ≡ old.trail) where
            -- the history with the delivery tells the world with it
            told_noted : Tells noted (record w { reached = put w.reached message true })
            told_noted = tells_delivered (seqs_of w) ready noted w message rest notes told

            -- what the brick did is so of the one that the message is for
            handled : (o found : Option Sent) → o ≡ found → ChangesBrick old.bricks.items new.bricks.items to (DoesHandle packet fault (Ok o))
                → ChangesBrick old.bricks.items new.bricks.items packet.to (DoesHandle packet fault (Ok found))
            handled o found at changes =
                subst (λ (brick : BrickId). ChangesBrick old.bricks.items new.bricks.items brick (DoesHandle packet fault (Ok found))) to_is
                (subst (λ (x : Option Sent). ChangesBrick old.bricks.items new.bricks.items to (DoesHandle packet fault (Ok x))) at changes)

            -- whole
            pub whole : (outs : Sent) (o : Option Sent) → o ≡ Some outs
                → ChangesBrick old.bricks.items new.bricks.items to (DoesHandle packet fault (Ok o)) → NotesStep noted new.history to outs
                → RunsLine layout old new (Deliver message fault) Marks
            whole outs o at changes steps =
                let handles = handled o (Some outs) at changes in
                let took = takes_there packet fault (Ok (Some outs)) w stands.bricks handles in
                let step : NodeStep = received (coding layout) packet.to (w.clocks packet.to.0) (w.nodes packet.to.0) packet in
                record {
                  trail = trail;
                  comes = whole_comes layout w old new message fault packet (found_is (Some packet) is) up stands.bricks handles outs took
                      (tells_step (coding layout) noted new.history (world_counting (coding layout) w message packet) packet.to outs step.node step
                      (tells_replies layout noted w message packet told_noted)
                      (and_parts (is_brick layout packet.to) (w.up packet.to.0) up).1
                      (received_opens_reads (coding layout) packet.to (w.clocks packet.to.0) (w.nodes packet.to.0) packet
                      (λ k call open_at. reached_numbered layout w (come_to layout old) packet.to.0 k call open_at))
                      (record { packets = took.packets; told = took.told; answers = took.answers; reports = took.reports; state_is = refl })
                      (subst (λ (brick : BrickId). NotesStep noted new.history brick outs) to_is steps));
                }

            -- or in part
            pub part : (o : Option Sent) → o ≡ None → ChangesBrick old.bricks.items new.bricks.items to (DoesHandle packet fault (Ok o))
                → NotesCrash noted new.history to → RunsLine layout old new (Deliver message fault) Marks
            part o at changes crashes =
                let handles = handled o None at changes in
                record {
                  trail = trail;
                  comes = part_comes layout w old new message fault packet (found_is (Some packet) is) up stands.bricks handles
                      (takes_there packet fault (Ok None) w stands.bricks handles)
                      (tells_crashed (coding layout) noted new.history (record w { reached = put w.reached message true }) packet.to told_noted
                      (subst (λ (brick : BrickId). NotesCrash noted new.history brick) to_is crashes));
                }
