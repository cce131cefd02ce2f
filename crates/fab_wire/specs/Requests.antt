-- The kinds of requests: the number of each, and the fields after its call.
use Rattle.std.proofs.Common.{◌≡◌, ℕ, List, [], ◌∷◌, refl}
use Rattle.fab_base.specs.declared.stamps.Stamp.{Stamp}
use Rattle.messages.specs.declared.requests.Request.{Request}
use Rattle.messages.specs.declared.requests.Request.TheVariants as requests
use Rattle.fields.specs.Codecs.{Codec, pair}
use Rattle.fields.specs.Kinds.{Row, of, Value, made_by, Tagged, Tag, made_of, IsUnion, option}
use Rattle.fields.specs.Reading.{find_or}
use Rattle.fields.specs.Values.{stamp_codec, ballot_codec, members_codec, block_codec}
use Rattle.fab_wire.specs.Values.{want_codec, look_codec, data_block_codec}

-- the kinds, in the order of their numbers
pub data RequestKind : Type 0 where
  Read : RequestKind
  Order : RequestKind
  OrderRead : RequestKind
  Write : RequestKind
  Modify : RequestKind
  Collect : RequestKind
  OldRead : RequestKind
  Prepare : RequestKind
  Accept : RequestKind

abbrev pub request_number : RequestKind → ℕ
request_number Read = 1
request_number Order = 2
request_number OrderRead = 3
request_number Write = 4
request_number Modify = 5
request_number Collect = 6
request_number OldRead = 7
request_number Prepare = 8
request_number Accept = 9

-- the kind of a number from 1 to 9
abbrev pub request_of : ℕ → RequestKind
request_of = find_or Accept request_number (Read ∷ Order ∷ OrderRead ∷ Write ∷ Modify ∷ Collect ∷ OldRead ∷ Prepare ∷ [])

-- the version that is changed, and by what
abbrev pub change_codec : Codec (Stamp × (ℕ × List ℕ))
change_codec = pair stamp_codec (pair data_block_codec block_codec)

-- the fields of each kind, in their order
abbrev pub request_row : RequestKind → Row Request
request_row Read = of want_codec (λ want. requests.Read want)
request_row Order = of stamp_codec (λ stamp. requests.Order stamp)
request_row OrderRead = of (pair stamp_codec (pair look_codec want_codec)) (λ p. requests.OrderRead p.0 p.1.0 p.1.1)
request_row Write = of (pair stamp_codec block_codec) (λ p. requests.Write p.0 p.1)
request_row Modify = of (pair stamp_codec change_codec) (λ p. requests.Modify p.0 p.1.0 p.1.1.0 p.1.1.1)
request_row Collect = of stamp_codec (λ stamp. requests.Collect stamp)
request_row OldRead = of (option stamp_codec) (λ bound. requests.OldRead bound)
request_row Prepare = of ballot_codec (λ ballot. requests.Prepare ballot)
request_row Accept = of (pair ballot_codec members_codec) (λ p. requests.Accept p.0 p.1)

-- each request by its kind and fields
abbrev pub request_view : Request → Tagged request_row
request_view (requests.Read want) = Tag Read want
request_view (requests.Order stamp) = Tag Order stamp
request_view (requests.OrderRead stamp look want) = Tag OrderRead (stamp, (look, want))
request_view (requests.Write stamp block) = Tag Write (stamp, block)
request_view (requests.Modify stamp base data_block delta) = Tag Modify (stamp, (base, (data_block, delta)))
request_view (requests.Collect stamp) = Tag Collect stamp
request_view (requests.OldRead bound) = Tag OldRead bound
request_view (requests.Prepare ballot) = Tag Prepare ballot
request_view (requests.Accept ballot members) = Tag Accept (ballot, members)

request_back : (request : Request) → made_of (request_view request) ≡ request
request_back (requests.Read want) = refl
request_back request = refl

request_forth : (kind : RequestKind) (v : Value (request_row kind)) → request_view (made_by (request_row kind) v) ≡ Tag kind v
request_forth Read v = refl
request_forth kind v = refl

pub request_union : IsUnion request_row request_view
request_union = record { back = request_back; forth = request_forth }
