-- The bytes of messages: FABW, the version, the number of the kind, and its fields.
use Rattle.std.proofs.Common.{◌≡◌, ℕ, ◌&&◌, ◌<◌, ◌≤◌, List, [], ◌∷◌, ◌++◌, length, Option, Some, Result, Ok, Err, refl, ap, arith}
use Rattle.std.specs.Prelude.{nat_le, ◌==◌, if◌then◌else◌}
use Rattle.fab_base.specs.declared.identities.GroupId.{GroupId}
use Rattle.fab_base.specs.declared.identities.ViewNo.{ViewNo}
use Rattle.fab_base.specs.declared.member_lists.View.{View}
use Rattle.fab_wire.specs.declared.datagrams.WireFault.{WireFault}
use Rattle.fab_wire.specs.declared.datagrams.WireFault.TheVariants.{Malformed, NoMemory}
use Rattle.messages.specs.declared.calls.Call.{Call}
use Rattle.messages.specs.declared.clients.ClientAnswer.{ClientAnswer}
use Rattle.messages.specs.declared.clients.ClientAsk.{ClientAsk}
use Rattle.messages.specs.declared.packets.Message.{Message}
use Rattle.messages.specs.declared.packets.Message.TheVariants as messages
use Rattle.messages.specs.declared.requests.Request.{Request}
use Rattle.messages.specs.declared.replies.Reply.{Reply}
use Rattle.fields.specs.Codecs.{Codec, u64_codec, pair, seen, free, limited_to}
use Rattle.fields.specs.Kinds.{kind_of, parts_of, LimitsOf, limits_within, read_of, kind_field, kinds_at, kinds_law}
use Rattle.fields.specs.Laws.{IsField, IsPlain, IsMade, AllFit-back, made_field, pair_field}
use Rattle.fields.specs.Numbers.{size1, size4, Stands, exact_stands, exactly_field}
use Rattle.fields.specs.Parts.{Part, Limited, AllFit, spelled, exactly}
use Rattle.fields.specs.Reading.{Reads, ◌>>=◌, then_at, as_at, find, exactly_at}
use Rattle.fields.specs.Values.{HasMembers, ContentFits, group_codec, view_number_codec, view_codec}
use Rattle.fab_wire.specs.Values.{call_codec}
use Rattle.fab_wire.specs.Requests.{RequestKind, Read, request_number, request_of, request_row, request_view, request_union}
use Rattle.fab_wire.specs.Replies.{ReplyKind, Found, reply_number, reply_of, reply_row, reply_view, reply_union}
use Rattle.fab_wire.specs.Clients.{AnswerFits, client_codec, answer_codec}

-- ---- the kinds of messages

pub data Kind : Type 0 where
  OfRequest : RequestKind → Kind
  OfReply : ReplyKind → Kind
  Learn : Kind
  Synced : Kind
  Client : Kind
  ClientReply : Kind

abbrev pub kind_number : Kind → ℕ
kind_number (OfRequest kind) = request_number kind
kind_number (OfReply kind) = reply_number kind
kind_number Learn = 10
kind_number Synced = 11
kind_number Client = 64
kind_number ClientReply = 65

-- the kind of a number
abbrev pub kind_value : ℕ → Option Kind
kind_value n =
    if nat_le 1 n && nat_le n 9 then Some (OfRequest (request_of n)) else
    if nat_le 32 n && nat_le n 45 then Some (OfReply (reply_of n)) else find kind_number (Learn ∷ Synced ∷ Client ∷ ClientReply ∷ []) n

abbrev pub message_kind : Message → Kind
message_kind (messages.Request call request) = OfRequest (kind_of (request_view request))
message_kind (messages.Reply call reply) = OfReply (kind_of (reply_view reply))
message_kind (messages.Learn group view) = Learn
message_kind (messages.Synced group view) = Synced
message_kind (messages.Client ask) = Client
message_kind (messages.ClientReply id answer) = ClientReply

-- what is spelled after the kind
abbrev pub body_parts : Message → List Part
body_parts (messages.Request call request) = call_codec.parts call ++ parts_of (request_view request)
body_parts (messages.Reply call reply) = call_codec.parts call ++ parts_of (reply_view reply)
body_parts (messages.Learn group view) = group_codec.parts group ++ view_codec.parts view
body_parts (messages.Synced group view) = group_codec.parts group ++ view_number_codec.parts view
body_parts (messages.Client ask) = client_codec.parts ask
body_parts (messages.ClientReply id answer) = u64_codec.parts id ++ answer_codec.parts answer

-- the message has a spelling: what its types leave open is as the fields ask
abbrev pub HasSpelling : Message → Type 0
HasSpelling (messages.Request call request) = LimitsOf (request_view request)
HasSpelling (messages.Reply call reply) = LimitsOf (reply_view reply)
HasSpelling (messages.Learn group view) = HasMembers view.members × HasMembers view.prior
HasSpelling (messages.Synced group view) = Unit {0}
HasSpelling (messages.Client ask) = ContentFits ask.bytes
HasSpelling (messages.ClientReply id answer) = AnswerFits answer

-- how the fields of each kind are read
abbrev pub body_at : Kind → Reads Message
body_at (OfRequest kind) = as_at (λ p. messages.Request p.0 p.1) (then_at call_codec.read (read_of (request_row kind)))
body_at (OfReply kind) = as_at (λ p. messages.Reply p.0 p.1) (then_at call_codec.read (read_of (reply_row kind)))
body_at Learn = as_at (λ p. messages.Learn p.0 p.1) (then_at group_codec.read view_codec.read)
body_at Synced = as_at (λ p. messages.Synced p.0 p.1) (then_at group_codec.read view_number_codec.read)
body_at Client = as_at (λ ask. messages.Client ask) client_codec.read
body_at ClientReply = as_at (λ p. messages.ClientReply p.0 p.1) (then_at u64_codec.read answer_codec.read)

-- the number of a kind is its own
known : (kind : Kind) → kind_number kind < 256 → kind_value (kind_number kind) ≡ Some kind
known (OfRequest Read) lt = refl
known (OfRequest kind) lt = refl
known (OfReply Found) lt = refl
known (OfReply kind) lt = refl
known kind lt = refl

pub kind_stands : Stands 1 (λ (kind : Kind). exactly (kind_number kind)) kind_value
kind_stands = exact_stands kind_number kind_value known refl Synced (omega arith)

-- a message of each kind is made of its fields
a_request : (kind : RequestKind) (m : Message) → message_kind m ≡ OfRequest kind
    → IsMade (λ (p : Call × Request). kind_of (request_view p.1) ≡ kind) (λ p. messages.Request p.0 p.1) m
a_request kind (messages.Request call request) e = record { from = (call, request); is = cc; same = refl }
a_request kind m e = absurd cc

a_reply : (kind : ReplyKind) (m : Message) → message_kind m ≡ OfReply kind
    → IsMade (λ (p : Call × Reply). kind_of (reply_view p.1) ≡ kind) (λ p. messages.Reply p.0 p.1) m
a_reply kind (messages.Reply call reply) e = record { from = (call, reply); is = cc; same = refl }
a_reply kind m e = absurd cc

a_learn : (m : Message) → message_kind m ≡ Learn → IsMade (λ (p : GroupId × View). Unit {0}) (λ p. messages.Learn p.0 p.1) m
a_learn (messages.Learn group view) e = record { from = (group, view); is = tt; same = refl }
a_learn m e = absurd cc

a_synced : (m : Message) → message_kind m ≡ Synced → IsMade (λ (p : GroupId × ViewNo). Unit {0}) (λ p. messages.Synced p.0 p.1) m
a_synced (messages.Synced group view) e = record { from = (group, view); is = tt; same = refl }
a_synced m e = absurd cc

a_client : (m : Message) → message_kind m ≡ Client → IsMade (λ (ask : ClientAsk). Unit {0}) (λ ask. messages.Client ask) m
a_client (messages.Client ask) e = record { from = ask; is = tt; same = refl }
a_client m e = absurd cc

an_answer : (m : Message) → message_kind m ≡ ClientReply → IsMade (λ (p : ℕ × ClientAnswer). Unit {0}) (λ p. messages.ClientReply p.0 p.1) m
an_answer (messages.ClientReply id answer) e = record { from = (id, answer); is = tt; same = refl }
an_answer m e = absurd cc

-- the messages of a kind are read as they are spelled
body_field : (kind : Kind) → IsField (λ (m : Message). message_kind m ≡ kind) body_parts (body_at kind)
body_field (OfRequest kind) = made_field (λ m. message_kind m ≡ OfRequest kind) body_parts (λ p. messages.Request p.0 p.1)
    (λ p e. ap (λ (k : RequestKind). OfRequest k) e) (λ p e. refl) (a_request kind) (pair_field call_codec.law (kind_field request_union kind))
body_field (OfReply kind) = made_field (λ m. message_kind m ≡ OfReply kind) body_parts (λ p. messages.Reply p.0 p.1)
    (λ p e. ap (λ (k : ReplyKind). OfReply k) e) (λ p e. refl) (a_reply kind) (pair_field call_codec.law (kind_field reply_union kind))
body_field Learn = made_field (λ m. message_kind m ≡ Learn) body_parts (λ p. messages.Learn p.0 p.1) (λ p u. refl) (λ p u. refl) a_learn
    (pair group_codec view_codec).law
body_field Synced = made_field (λ m. message_kind m ≡ Synced) body_parts (λ p. messages.Synced p.0 p.1) (λ p u. refl) (λ p u. refl) a_synced
    (pair group_codec view_number_codec).law
body_field Client = made_field (λ m. message_kind m ≡ Client) body_parts (λ ask. messages.Client ask) (λ ask u. refl) (λ ask u. refl) a_client client_codec.law
body_field ClientReply = made_field (λ m. message_kind m ≡ ClientReply) body_parts (λ p. messages.ClientReply p.0 p.1) (λ p u. refl) (λ p u. refl) an_answer
    (pair u64_codec answer_codec).law

pub body_law : IsPlain (λ (m : Message). exactly (kind_number (message_kind m)) ∷ body_parts m) (kinds_at kind_value body_at)
body_law = kinds_law kind_stands body_field

pub body_within : (m : Message) → AllFit (body_parts m) → HasSpelling m
body_within (messages.Request call request) fits = limits_within (request_view request) (AllFit-back (call_codec.parts call) (parts_of (request_view request)) fits)
body_within (messages.Reply call reply) fits = limits_within (reply_view reply) (AllFit-back (call_codec.parts call) (parts_of (reply_view reply)) fits)
body_within (messages.Learn group view) fits = ((pair group_codec view_codec).within (group, view) fits).1
body_within (messages.Synced group view) fits = tt
body_within (messages.Client ask) fits = client_codec.within ask fits
body_within (messages.ClientReply id answer) fits = ((pair u64_codec answer_codec).within (id, answer) fits).1

-- ---- messages

-- FABW is 46414257 in hexadecimal digits
pub fabw_law : IsPlain (λ (u : Unit {0}). Limited 4 1178681943 1178681943 1178681943 ∷ []) (exactly_at 4 1178681943)
fabw_law = exactly_field size4 1178681943 (omega arith)

pub version_law : IsPlain (λ (u : Unit {0}). exactly 1 ∷ []) (exactly_at 1 1)
version_law = exactly_field size1 1 (omega arith)

-- FABW, the version, the kind and its fields
unfoldable pub message_fields : Codec Message
message_fields = seen (λ p. p.1.1) (λ message. (tt, (tt, message))) (λ message. refl) (λ p. refl) (pair (free fabw_law) (pair (free version_law) (free body_law)))

-- a message that fits has a spelling
pub message_within : (message : Message) → AllFit (message_fields.parts message) → HasSpelling message
unfolding message_fields
message_within message fits = body_within message fits.1.1.1

abbrev pub message_codec : Codec Message
message_codec = limited_to HasSpelling message_fields message_within

abbrev pub fields_of : Message → List Part
fields_of message = message_codec.parts message

-- all of the bytes
unfoldable pub datagram_of : List ℕ → Result Message ℕ
datagram_of bytes = message_codec.read bytes >>= λ x. if length x.1 == 0 then Ok x.0 else Err (length x.1)

-- these bytes spell this message
pub record Spells (bytes : List ℕ) (message : Message) : Type 0 where
  pub fits : AllFit (fields_of message)
  pub bytes_are : bytes ≡ spelled (fields_of message)

-- these fields stand at this place of the bytes
pub record IsAt (bytes : List ℕ) (at : ℕ) (fields : List Part) : Type 0 where
  pub front : List ℕ
  pub tail : List ℕ
  pub fits : AllFit fields
  pub bytes_are : bytes ≡ front ++ (spelled fields ++ tail)
  pub at_is : length front ≡ at

-- the bytes begin with the first fields of a message that has a spelling, so many bytes
pub record Begins (bytes : List ℕ) (message : Message) (at : ℕ) : Type 0 where
  pub front : List Part
  pub back : List Part
  pub tail : List ℕ
  pub fits : AllFit (fields_of message)
  pub fields : fields_of message ≡ front ++ back
  pub bytes_are : bytes ≡ spelled front ++ tail
  pub at_is : length (spelled front) ≡ at

-- No message is spelled, and the place is that of the first field that is cut short or has a value not allowed, or of the first
-- byte left over: the bytes before it are whole fields of some message, and no longer front of the bytes is.
pub record IsMalformed (bytes : List ℕ) (at : ℕ) : Type 0 where
  pub no_message : (message : Message) → Spells bytes message → ⊥
  pub reached : (message : Message) × Begins bytes message at
  pub no_further : (message : Message) (further : ℕ) → Begins bytes message further → further ≤ at

-- what decoding gives
abbrev pub MalformedIs : List ℕ → WireFault → Type 0
MalformedIs bytes (Malformed at) = IsMalformed bytes at
MalformedIs bytes NoMemory = Unit {0}
