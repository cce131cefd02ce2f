-- Whatever comes in turns, each message that a brick of the layout sends can be sent.
use Rattle.std.proofs.Common.{◌≡◌, ℕ, ◌+◌, ◌-◌, ◌<◌, ◌^◌, true, List, [], ◌∷◌, ◌++◌, Option, Some, None, refl, sym, subst, ◌∙◌, ⊎_elim, arith}
use Rattle.std.specs.Prelude.{nat_le, nat_lt, ◌&&◌}
use Rattle.std.specs.List.{list_all}
use Rattle.std.proofs.lemmas.Bool.{cond_both, and_from, and_parts, lt-ltb, leb-true, ltb-true}
use Rattle.std.proofs.lemmas.List.Folds.{list_all-append}
use Rattle.std.specs.Option.{IfSome}
use Rattle.std.proofs.lemmas.Option.{same_Some}
use Rattle.fab_base.specs.declared.answers.Answer.{Answer}
use Rattle.fab_base.specs.declared.answers.Refusal.{Refusal}
use Rattle.fab_base.specs.declared.asks.Ask.{Ask}
use Rattle.fab_base.specs.declared.identities.BrickId.{BrickId}
use Rattle.fab_base.specs.Layouts.{Layout}
use Rattle.fab_io.specs.declared.links.Datagram.{Datagram}
use Rattle.fab_wire.specs.Spelling.{Spells}
use Rattle.layout.specs.Limits.{IsLayout}
use Rattle.messages.specs.declared.clients.ClientAnswer.{ClientAnswer}
use Rattle.messages.specs.declared.clients.ClientAnswer.TheVariants.{Ended, Refused}
use Rattle.messages.specs.declared.packets.Message.{Message}
use Rattle.messages.specs.declared.packets.Message.TheVariants as messages
use Rattle.messages.specs.declared.packets.Packet.{Packet}
use Rattle.node.specs.Running.{Running, state_of, shape_at}
use Rattle.protocol.specs.Nodes.{NodeStep, put, refusal_of, invoked, received, ticked}
use Rattle.protocol.specs.declared.tellings.Answered.{Answered}
use Rattle.protocol.proofs.Tables.{put_each}
use Rattle.stripe_code.specs.Codes.{coding}
use Rattle.serving.specs.declared.clients.Client.{Client}
use Rattle.serving.specs.declared.incomings.Incoming.{Incoming}
use Rattle.serving.specs.declared.incomings.Incoming.TheVariants.{Nothing, Malformed, Dropped, Handed, Asked}
use Rattle.serving.specs.Datagrams.{can_send}
use Rattle.serving.specs.Incomings.{handed, incoming_of, IsIncoming}
use Rattle.serving.specs.Ports.{ports_of, brick_at}
use Rattle.serving.specs.Servings.{Serving, Served, begun, idle, to_ports, answer_to, answer_for, answers_for, still_waiting, stepped, asked_by, tick_time, waited, served}
use Rattle.serving.specs.Spellings.{has_spelling, answer_fits}
use Rattle.serving.specs.Turns.{Turn, AreRead, sends_of}
use Rattle.serving.specs.Views.{SendsAll}
use Rattle.serving.proofs.Fitting.{PacketsFit, AreAnswers, NodeFits, StepFits}
use Rattle.serving.proofs.Shown.{shown_fits}
use Rattle.serving.proofs.Stepping.{refusal_said, invoked_fits, received_fits, ticked_fits}

-- all of them can be sent
abbrev CanSend : List (ℕ × Message) → Type 0
CanSend sends = list_all can_send sends ≡ true

can_more : (first later : List (ℕ × Message)) → CanSend first → CanSend later → CanSend (first ++ later)
can_more first later some more = list_all-append can_send first later ∙ and_from (list_all can_send first) (list_all can_send later) some more

-- one, and more behind it
can_one : (outgoing : ℕ × Message) (more : List (ℕ × Message)) → outgoing.0 < 2 ^ 16 → has_spelling outgoing.1 ≡ true → CanSend more
    → CanSend (outgoing ∷ more)
can_one outgoing more port spelled rest =
    and_from (can_send outgoing) (list_all can_send more)
    (and_from (nat_lt outgoing.0 (2 ^ 16)) (has_spelling outgoing.1) (lt-ltb outgoing.0 (2 ^ 16) port) spelled) rest

-- ---- clients

-- the clients that wait have ports
abbrev HavePorts : (ℕ → Option Client) → Type 0
HavePorts waiting = (seq : ℕ) (client : Client) → waiting seq ≡ Some client → client.port < 2 ^ 16

answer_sent : (client : Client) (answer : ClientAnswer) → client.port < 2 ^ 16 → answer_fits answer ≡ true → CanSend (answer_to client answer ∷ [])
unfolding has_spelling
answer_sent client answer port spelled = can_one (answer_to client answer) [] port spelled refl

one_answered : (client : Option Client) (answer : Answer) → ((c : Client) → client ≡ Some c → c.port < 2 ^ 16) → answer_fits (Ended answer) ≡ true
    → CanSend (answer_for client answer)
one_answered None answer ports spelled = refl
one_answered (Some client) answer ports spelled = answer_sent client (Ended answer) (ports client refl) spelled

all_answered : (waiting : ℕ → Option Client) (answers : List Answered) → HavePorts waiting → AreAnswers answers → CanSend (answers_for waiting answers)
all_answered waiting [] ports fit = refl
all_answered waiting (answered ∷ answers) ports fit =
    can_more (answer_for (waiting answered.seq) answered.answer) (answers_for waiting answers)
    (one_answered (waiting answered.seq) answered.answer (ports answered.seq) fit.0) (all_answered waiting answers ports fit.1)

put_ports : (waiting : ℕ → Option Client) (k : ℕ) (client : Option Client) → HavePorts waiting → ((c : Client) → client ≡ Some c → c.port < 2 ^ 16)
    → HavePorts (put waiting k client)
put_ports waiting k client ports own =
    put_each (λ j x. (c : Client) → x ≡ Some c → c.port < 2 ^ 16) waiting k client own (λ j other. ports j)

still_ports : (waiting : ℕ → Option Client) (answers : List Answered) → HavePorts waiting → HavePorts (still_waiting waiting answers)
still_ports waiting [] ports = ports
still_ports waiting (answered ∷ answers) ports =
    still_ports (put waiting answered.seq None) answers (put_ports waiting answered.seq None ports (λ c none. cc))

-- ---- turns

-- a serving brick of the layout, and what it does in a turn
record ServingFits (layout : Layout) (serving : Serving) : Type 0 where
  node : NodeFits layout serving.node
  clients : HavePorts serving.waiting

record ServedFits (layout : Layout) (does : Served) : Type 0 where
  serving : ServingFits layout does.serving
  sends : CanSend does.sends

-- what comes is of a brick of the layout, or of a client that has a port
abbrev ComesFrom : Layout → Incoming → Type 0
ComesFrom layout (Handed packet) = packet.from.0 < layout.bricks
ComesFrom layout (Asked client ask) = client.port < 2 ^ 16
ComesFrom layout incoming = Unit {0}

module _ (layout : Layout) (is : IsLayout layout) (me : BrickId) where
  -- a brick's port is one of the layout's
  from_brick : (message : Message) (port : ℕ) → ComesFrom layout (handed me message (brick_at (ports_of layout) port))
  from_brick message port =
      cond_both (nat_le layout.port port && nat_lt port (layout.port + layout.bricks)) (Some (record { 0 = port - layout.port })) None
      (λ (b : Option BrickId). ComesFrom layout (handed me message b))
      (λ its.
      let parts = and_parts (nat_le layout.port port) (nat_lt port (layout.port + layout.bricks)) its in
      let above = leb-true layout.port port parts.0 in
      let below = ltb-true port (layout.port + layout.bricks) parts.1 in
      omega (arith, above, below))
      (λ other. tt)

  said_from : (port : ℕ) (message : Message) → port < 2 ^ 16 → ComesFrom layout (incoming_of (ports_of layout) me port message)
  said_from port (messages.Client asked) there = there
  said_from port (messages.ClientReply id answer) there = tt
  said_from port (messages.Request call request) there = from_brick (messages.Request call request) port
  said_from port (messages.Reply call reply) there = from_brick (messages.Reply call reply) port
  said_from port (messages.Learn group view) there = from_brick (messages.Learn group view) port
  said_from port (messages.Synced group view) there = from_brick (messages.Synced group view) port

  comes_from : (came : Option Datagram) (incoming : Incoming) → IsIncoming (ports_of layout) me came incoming → ComesFrom layout incoming
  comes_from None incoming nothing = subst (ComesFrom layout) (sym nothing) tt
  comes_from (Some datagram) incoming (there, read) = ⊎_elim
      (λ (said : (said : Message) × Spells datagram.bytes said × (incoming ≡ incoming_of (ports_of layout) me datagram.port said)).
      subst (ComesFrom layout) (sym said.2) (said_from datagram.port said.0 there))
      (λ (not : ((said : Message) → Spells datagram.bytes said → ⊥) × (incoming ≡ Malformed)). subst (ComesFrom layout) (sym not.1) tt)
      read

  -- packets to bricks of the layout
  packets_sent : (packets : List Packet) → PacketsFit layout packets → CanSend (to_ports (ports_of layout) packets)
  packets_sent [] fit = refl
  packets_sent (packet ∷ packets) fit =
      let below = fit.0.to in
      let port = is.few_ports in
      let bricks = is.few_bricks in
      can_one (layout.port + packet.to.0, packet.message) (to_ports (ports_of layout) packets) (omega (arith, below, port, bricks)) fit.0.spelled
      (packets_sent packets fit.1)

  stepped_fits : (serving : Serving) (step : NodeStep) → ServingFits layout serving → StepFits layout step
      → ServedFits layout (stepped (ports_of layout) serving step)
  stepped_fits serving step fits steps =
      record {
        serving = record { node = steps.node; clients = still_ports serving.waiting step.answers fits.clients };
        sends = can_more (to_ports (ports_of layout) step.packets) (answers_for serving.waiting step.answers) (packets_sent step.packets steps.packets)
            (all_answered serving.waiting step.answers fits.clients steps.answers);
      }

  asked_fits : (serving : Serving) (client : Client) (now : ℕ) (ask : Ask) (refusal : Option Refusal) → refusal_of layout serving.node ask ≡ refusal
      → ServingFits layout serving → client.port < 2 ^ 16
      → ServedFits layout (asked_by (ports_of layout) serving client (invoked (coding layout) me now serving.node ask) refusal)
  asked_fits serving client now ask None free fits port =
      let step : NodeStep = invoked (coding layout) me now serving.node ask in
      let steps : StepFits layout step = invoked_fits layout is me now serving.node ask fits.node free in
      record {
        serving = record {
          node = steps.node;
          clients = put_ports serving.waiting step.node.seq (Some client) fits.clients
              (λ c same. subst (λ (x : Client). x.port < 2 ^ 16) (same_Some client c same) port);
        };
        sends = packets_sent step.packets steps.packets;
      }
  asked_fits serving client now ask (Some reason) refused fits port =
      record {
        serving = fits;
        sends = answer_sent client (Refused reason) port
            (subst (λ (o : Option Refusal). IfSome o (λ why. answer_fits (Refused why) ≡ true)) refused (refusal_said layout serving.node ask));
      }

  waited_fits : (serving : Serving) (now : ℕ) → ServingFits layout serving → ServedFits layout (waited (coding layout) me serving now)
  waited_fits serving now fits =
      cond_both (nat_le (serving.ticked + tick_time) now) _ (idle serving) (ServedFits layout)
      (λ due. record {
        serving = record { node = fits.node; clients = fits.clients };
        sends = packets_sent (ticked (coding layout) me serving.node) (ticked_fits layout is me serving.node fits.node);
      })
      (λ early. record { serving = fits; sends = refl })

  served_fits : (serving : Serving) (incoming : Incoming) (now : ℕ) → ServingFits layout serving → ComesFrom layout incoming
      → ServedFits layout (served (coding layout) me serving incoming now)
  unfolding served
  served_fits serving Nothing now fits from = waited_fits serving now fits
  served_fits serving Malformed now fits from = record { serving = fits; sends = refl }
  served_fits serving Dropped now fits from = record { serving = fits; sends = refl }
  served_fits serving (Handed packet) now fits from =
      stepped_fits serving (received (coding layout) me now serving.node packet) fits (received_fits layout is me now serving.node packet from fits.node)
  served_fits serving (Asked client ask) now fits from = asked_fits serving client now ask (refusal_of layout serving.node ask) refl fits from

  all_sent : (turns : List Turn) (serving : Serving) → ServingFits layout serving → AreRead (coding layout) me turns
      → CanSend (sends_of (coding layout) me serving turns)
  all_sent [] serving fits read = refl
  all_sent (turn ∷ turns) serving fits read =
      let does : Served = served (coding layout) me serving turn.incoming turn.now in
      let fit : ServedFits layout does = served_fits serving turn.incoming turn.now fits (comes_from turn.came turn.incoming read.0) in
      can_more does.sends (sends_of (coding layout) me does.serving turns) fit.sends (all_sent turns does.serving fit.serving read.1)

-- one that begins to serve, as the image of a disk shows it
pub sends_all : {D : Type 0} (node : Running D) → IsLayout node.layout → SendsAll node
sends_all node is image shows idle proposing syncing turns read =
    all_sent node.layout is node.me turns (begun (state_of node))
    (record {
      node = shown_fits node.layout is (shape_at node.layout node.me) refl shows.st image (state_of node) shows.stands shows.parts shows.lists idle proposing syncing;
      clients = λ seq client none. cc;
    }) read
