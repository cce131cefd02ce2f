-- The datagrams that carry messages.
use Rattle.std.proofs.Common.{◌≡◌, ℕ, ◌+◌, ◌<◌, if◌then◌else◌, List, [], ◌∷◌, ◌++◌, length, take, drop, get_or, Option, Result, Ok, Err, OnOk, OnErr, MatchResult, refl, sym, ap, ◌∙◌, subst, append_assoc}
use Rattle.std.proofs.lemmas.List.{map-append, take_more, take-append-drop}
use Rattle.fab_base.specs.declared.identities.BrickId.{BrickId}
use Rattle.fab_io.specs.declared.links.Datagram.{Datagram}
use Rattle.fab_io.specs.Datagrams.{Stays, Grows}
use Rattle.fab_io.proofs.Told.{Grows-none, Grows-trans}
use Rattle.messages.specs.declared.packets.Message.{Message}
use Rattle.messages.specs.declared.packets.Packet.{Packet}
use Rattle.coord_phase.specs.Messages.{packets_from}
use Rattle.serving.specs.declared.faults.ServeFault.{ServeFault}
use Rattle.serving.specs.declared.ports.Ports.{Ports}
use Rattle.serving.specs.Datagrams.{datagrams_of, datagram_of, can_send, GrowsFront}
use Rattle.serving.specs.Ports.{port_of}
use Rattle.serving.specs.Sending.{addressed}
use Rattle.serving.specs.Servings.{to_ports}

-- the datagrams of messages, and of more behind them
pub datagrams_of-append : (first later : List (ℕ × Message)) → datagrams_of (first ++ later) ≡ datagrams_of first ++ datagrams_of later
datagrams_of-append [] later = refl
datagrams_of-append (outgoing ∷ first) later =
    ap (λ l. (if can_send outgoing then datagram_of outgoing ∷ [] else []) ++ l) (datagrams_of-append first later)
    ∙ sym (append_assoc (if can_send outgoing then datagram_of outgoing ∷ [] else []) (datagrams_of first) (datagrams_of later))

-- messages with their receivers go where the packets that they make go
pub to_ports-packets : (ports : Ports) (me : BrickId) (messages : List (BrickId × Message))
    → to_ports ports (packets_from me messages) ≡ addressed ports messages
to_ports-packets ports me [] = refl
to_ports-packets ports me (sent ∷ messages) = ap (λ l. (port_of ports sent.0, sent.1) ∷ l) (to_ports-packets ports me messages)

-- the same, of messages that are those, at ports that are those
pub addressed-packets : (ports those : Ports) (me : BrickId) (messages these : List (BrickId × Message)) (packets : List Packet) → ports ≡ those
    → messages ≡ these → packets_from me these ≡ packets → addressed ports messages ≡ to_ports those packets
addressed-packets ports those me messages these packets at same is =
    ap (λ (p : Ports). addressed p messages) at ∙ ap (addressed those) same ∙ sym (to_ports-packets those me these) ∙ ap (to_ports those) is

-- nothing was sent
pub GrowsFront-none : (a b : Option (List Datagram)) (datagrams : List Datagram) → Stays a b → GrowsFront a b datagrams
GrowsFront-none a b datagrams stays = record { front = []; rest = datagrams; parts = refl; grows = Grows-none a b stays }

-- all was sent, of what may be followed by more
pub GrowsFront-all : (a b : Option (List Datagram)) (datagrams more : List Datagram) → Grows a b datagrams → GrowsFront a b (datagrams ++ more)
GrowsFront-all a b datagrams more grows = record { front = datagrams; rest = more; parts = refl; grows = grows }

-- some was sent, of what is followed by more
pub GrowsFront-more : (a b : Option (List Datagram)) (datagrams more : List Datagram) → GrowsFront a b datagrams → GrowsFront a b (datagrams ++ more)
GrowsFront-more a b datagrams more sent =
    record {
      front = sent.front;
      rest = sent.rest ++ more;
      parts = ap (λ l. l ++ more) sent.parts ∙ append_assoc sent.front sent.rest more;
      grows = sent.grows;
    }

-- all of the first was sent, and later some of what follows
pub GrowsFront-after : (a b c : Option (List Datagram)) (datagrams more : List Datagram) → Grows a b datagrams → GrowsFront b c more
    → GrowsFront a c (datagrams ++ more)
GrowsFront-after a b c datagrams more grows sent =
    record {
      front = datagrams ++ sent.front;
      rest = sent.rest;
      parts = ap (λ l. datagrams ++ l) sent.parts ∙ sym (append_assoc datagrams sent.front sent.rest);
      grows = Grows-trans a b c datagrams sent.front grows sent.grows;
    }

-- the datagrams of one more message
one_more : (ports : Ports) (messages : List (BrickId × Message)) (i : ℕ) (sent : BrickId × Message) → i < length messages → sent ≡ get_or messages i sent
    → datagrams_of (addressed ports (take (i + 1) messages))
    ≡ datagrams_of (addressed ports (take i messages)) ++ datagrams_of ((port_of ports sent.0, sent.1) ∷ [])
one_more ports messages i sent within is =
    ap (λ l. datagrams_of (addressed ports l)) (take_more messages i sent within ∙ ap (λ (m : BrickId × Message). take i messages ++ m ∷ []) (sym is))
    ∙ ap datagrams_of (map-append (λ (s : BrickId × Message). (port_of ports s.0, s.1)) (take i messages) (sent ∷ []))
    ∙ datagrams_of-append (addressed ports (take i messages)) (addressed ports (sent ∷ []))

-- one more message was sent
pub sent_more : (a b c : Option (List Datagram)) (ports : Ports) (messages : List (BrickId × Message)) (i port : ℕ) (sent : BrickId × Message)
    → i < length messages → sent ≡ get_or messages i sent → port ≡ port_of ports sent.0 → Grows a b (datagrams_of (addressed ports (take i messages)))
    → Grows b c (datagrams_of ((port, sent.1) ∷ [])) → Grows a c (datagrams_of (addressed ports (take (i + 1) messages)))
sent_more a b c ports messages i port sent within is at p q =
    subst (Grows a c) (sym (one_more ports messages i sent within is))
    (Grows-trans a b c (datagrams_of (addressed ports (take i messages))) (datagrams_of ((port_of ports sent.0, sent.1) ∷ [])) p
    (subst (λ (n : ℕ). Grows b c (datagrams_of ((n, sent.1) ∷ []))) at q))

-- the first messages were sent, and then none
pub sent_first : (a b c : Option (List Datagram)) (ports : Ports) (messages : List (BrickId × Message)) (i : ℕ)
    → Grows a b (datagrams_of (addressed ports (take i messages))) → Stays b c → GrowsFront a c (datagrams_of (addressed ports messages))
sent_first a b c ports messages i p q =
    subst (λ (l : List (BrickId × Message)). GrowsFront a c (datagrams_of (addressed ports l))) (take-append-drop i messages)
    (subst (GrowsFront a c)
    (sym (ap datagrams_of (map-append (λ (s : BrickId × Message). (port_of ports s.0, s.1)) (take i messages) (drop i messages))
    ∙ datagrams_of-append (addressed ports (take i messages)) (addressed ports (drop i messages))))
    (GrowsFront-after a b c (datagrams_of (addressed ports (take i messages))) (datagrams_of (addressed ports (drop i messages))) p
    (GrowsFront-none b c (datagrams_of (addressed ports (drop i messages))) q)))

-- messages were sent, and then others, or none of those
pub sent_both : {T : Type 0} (a b c : Option (List Datagram)) (first behind later : List (ℕ × Message)) (r : Result T ServeFault) → behind ≡ later
    → Grows a b (datagrams_of first) → MatchResult r (λ _. Grows b c (datagrams_of later)) (λ _. Stays b c)
    → OnOk r (Grows a c (datagrams_of (first ++ behind)))
sent_both a b c first behind later (Ok x) same p q =
    subst (Grows a c) (sym (ap (λ l. datagrams_of (first ++ l)) same ∙ datagrams_of-append first later))
    (Grows-trans a b c (datagrams_of first) (datagrams_of later) p q)
sent_both a b c first behind later (Err e) same p q = tt

pub sent_one : {T : Type 0} (a b c : Option (List Datagram)) (first behind later : List (ℕ × Message)) (r : Result T ServeFault)
    → Grows a b (datagrams_of first) → MatchResult r (λ _. Grows b c (datagrams_of later)) (λ _. Stays b c)
    → OnErr r (GrowsFront a c (datagrams_of (first ++ behind)))
sent_one a b c first behind later (Ok x) p q = tt
sent_one a b c first behind later (Err e) p q =
    subst (GrowsFront a c) (sym (datagrams_of-append first behind))
    (GrowsFront-after a b c (datagrams_of first) (datagrams_of behind) p (GrowsFront-none b c (datagrams_of behind) q))

-- some of the first messages were sent, and none of those behind them
pub sent_some : (a b : Option (List Datagram)) (first behind : List (ℕ × Message)) → GrowsFront a b (datagrams_of first)
    → GrowsFront a b (datagrams_of (first ++ behind))
sent_some a b first behind p =
    subst (GrowsFront a b) (sym (datagrams_of-append first behind)) (GrowsFront-more a b (datagrams_of first) (datagrams_of behind) p)
