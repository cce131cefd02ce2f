-- The datagrams that carry messages, and those that a link gave or sent.
use Rattle.std.specs.Prelude.{◌≡◌, ℕ, zero, suc, ◌^◌, nat_lt, ◌&&◌, Bool, if◌then◌else◌, List, [], ◌∷◌, ◌++◌, length, take, drop, ⊤, Option, Some, None}
use Rattle.fab_io.specs.declared.links.Datagram.{Datagram}
use Rattle.fab_io.specs.Datagrams.{Grows}
use Rattle.fab_wire.specs.Spelling.{fields_of}
use Rattle.fields.specs.Parts.{spelled}
use Rattle.messages.specs.declared.packets.Message.{Message}
use Rattle.serving.specs.Spellings.{has_spelling}

-- a message for a port can be sent: it has a spelling, and there is such a port
abbrev pub can_send : ℕ × Message → Bool
can_send outgoing = nat_lt outgoing.0 (2 ^ 16) && has_spelling outgoing.1

-- the datagram that carries a message to a port
abbrev pub datagram_of : ℕ × Message → Datagram
datagram_of outgoing = record { port = outgoing.0; bytes = spelled (fields_of outgoing.1) }

-- the datagrams of messages, in order: one for each that can be sent, and none for any other
abbrev pub datagrams_of : List (ℕ × Message) → List Datagram
datagrams_of [] = []
datagrams_of (outgoing ∷ more) = (if can_send outgoing then datagram_of outgoing ∷ [] else []) ++ datagrams_of more

-- datagrams that are told grow by some of these, from their front
pub record GrowsFront (before after : Option (List Datagram)) (datagrams : List Datagram) : Type 0 where
  pub front : List Datagram
  pub rest : List Datagram
  pub parts : datagrams ≡ front ++ rest
  pub grows : Grows before after front

-- the most bytes of a datagram that are looked at
abbrev pub most_bytes : ℕ
most_bytes = 65535

-- a datagram, as far as it is looked at
abbrev pub cut : Datagram → Datagram
cut datagram = record datagram { bytes = take most_bytes datagram.bytes }

-- what so many looks give where these datagrams wait: the next one each, while there is one
abbrev pub looks : ℕ → List Datagram → List (Option Datagram)
looks zero waiting = []
looks (suc n) [] = None ∷ looks n []
looks (suc n) (datagram ∷ waiting) = Some (cut datagram) ∷ looks n waiting

-- looks gave these, of the datagrams that waited where that is told
abbrev pub Looked : Option (List Datagram) → Option (List Datagram) → List (Option Datagram) → Type 0
Looked None after came = ⊤
Looked (Some before) None came = ⊥
Looked (Some before) (Some after) came = (came ≡ looks (length came) before) × (after ≡ drop (length came) before)
