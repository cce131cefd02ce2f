-- How names, stamps, ballots, lists of members, views and bytes are spelled.
use Rattle.std.proofs.Common.{ℕ, ◌≤◌, List, [], ◌∷◌, length, map, refl, arith}
use Rattle.fab_base.specs.declared.identities.BrickId.{BrickId}
use Rattle.fab_base.specs.declared.identities.GroupId.{GroupId}
use Rattle.fab_base.specs.declared.identities.StripeNo.{StripeNo}
use Rattle.fab_base.specs.declared.identities.ViewNo.{ViewNo}
use Rattle.fab_base.specs.declared.member_lists.View.{View}
use Rattle.fab_base.specs.declared.stamps.Stamp.{Stamp}
use Rattle.fab_base.specs.declared.stamps.Ballot.{Ballot}
use Rattle.fields.specs.Parts.{Part, Number, Limited, Raw, AllFit}
use Rattle.fields.specs.Reading.{Reads, ◌>>=◌, limited_at, raw_at, times_at}
use Rattle.fields.specs.Laws.{IsPlain, times_field}
use Rattle.fields.specs.Numbers.{IsSize, size1, size2, size4, limited_field, raw_field}
use Rattle.fields.specs.Codecs.{Codec, u16_codec, u32_codec, u64_codec, pair, seen, free, limited_to, counted_law}

abbrev pub brick_codec : Codec BrickId
brick_codec = seen (λ (n : ℕ). let brick : BrickId = record { 0 = n } in brick) (λ brick. brick.0) (λ brick. refl) (λ n. refl) u16_codec

abbrev pub group_codec : Codec GroupId
group_codec = seen (λ (n : ℕ). let group : GroupId = record { 0 = n } in group) (λ group. group.0) (λ group. refl) (λ n. refl) u32_codec

abbrev pub stripe_codec : Codec StripeNo
stripe_codec = seen (λ (n : ℕ). let stripe : StripeNo = record { 0 = n } in stripe) (λ stripe. stripe.0) (λ stripe. refl) (λ n. refl) u32_codec

abbrev pub view_number_codec : Codec ViewNo
view_number_codec = seen (λ (n : ℕ). let view : ViewNo = record { 0 = n } in view) (λ view. view.0) (λ view. refl) (λ n. refl) u32_codec

-- view, time, brick, boot
abbrev pub made_stamp : ViewNo × (ℕ × (BrickId × ℕ)) → Stamp
made_stamp (view, (time, (brick, boot))) = record { view = view; time = time; brick = brick; boot = boot }

unfoldable pub stamp_fields : Codec Stamp
stamp_fields = seen made_stamp (λ s. (s.view, (s.time, (s.brick, s.boot)))) (λ s. refl) (λ p. refl)
    (pair view_number_codec (pair u64_codec (pair brick_codec u32_codec)))

abbrev pub stamp_codec : Codec Stamp
stamp_codec = free stamp_fields.law

-- round, brick, boot
abbrev pub made_ballot : ℕ × (BrickId × ℕ) → Ballot
made_ballot (round, (brick, boot)) = record { round = round; brick = brick; boot = boot }

unfoldable pub ballot_fields : Codec Ballot
ballot_fields = seen made_ballot (λ b. (b.round, (b.brick, b.boot))) (λ b. refl) (λ p. refl) (pair u32_codec (pair brick_codec u32_codec))

abbrev pub ballot_codec : Codec Ballot
ballot_codec = free ballot_fields.law

-- a count from 1 to 32, and each brick
abbrev pub brick_part : BrickId → Part
brick_part brick = Number 2 brick.0

abbrev pub members_parts : List BrickId → List Part
members_parts members = Limited 1 1 32 (length members) ∷ map brick_part members

abbrev pub members_at : Reads (List BrickId)
members_at bytes = limited_at 1 1 32 bytes >>= λ n. times_at brick_codec.read n.0 n.1

pub members_law : IsPlain members_parts members_at
members_law = counted_law (limited_field size1 1 32 (omega arith) (omega arith)) (times_field {part = brick_part} brick_codec.law)

-- a list of members is not empty
abbrev pub HasMembers : List BrickId → Type 0
HasMembers members = 1 ≤ length members

unfoldable pub members_fields : Codec (List BrickId)
members_fields = free members_law

pub members_within : (members : List BrickId) → AllFit (members_fields.parts members) → HasMembers members
unfolding members_fields
members_within members fits = fits.0.1.0

abbrev pub members_codec : Codec (List BrickId)
members_codec = limited_to HasMembers members_fields members_within

-- number, members, the members of the view before
abbrev pub made_view : ViewNo × (List BrickId × List BrickId) → View
made_view (number, (members, prior)) = record { number = number; members = members; prior = prior }

unfoldable pub view_fields : Codec View
view_fields = seen made_view (λ v. (v.number, (v.members, v.prior))) (λ v. refl) (λ p. refl) (pair view_number_codec (pair members_codec members_codec))

pub view_within : (v : View) → AllFit (view_fields.parts v) → HasMembers v.members × HasMembers v.prior
unfolding view_fields
view_within v fits = (view_fields.within v fits).1

abbrev pub view_codec : Codec View
view_codec = limited_to (λ v. HasMembers v.members × HasMembers v.prior) view_fields view_within

-- a length in so many bytes, of at most so many, and the bytes
abbrev pub bytes_parts : ℕ → ℕ → List ℕ → List Part
bytes_parts size most bytes = Limited size 0 most (length bytes) ∷ Raw bytes ∷ []

abbrev pub bytes_at : ℕ → ℕ → Reads (List ℕ)
bytes_at size most bytes = limited_at size 0 most bytes >>= λ n. raw_at n.0 n.1

pub bytes_law : {size : ℕ} → IsSize size → (most : ℕ) → IsPlain (bytes_parts size most) (bytes_at size most)
bytes_law is most = counted_law (limited_field is 0 most (omega arith) is.some) raw_field

-- a member's block: a length of two bytes, at most 4,096
abbrev pub BlockFits : List ℕ → Type 0
BlockFits bytes = length bytes ≤ 4096

unfoldable pub block_fields : Codec (List ℕ)
block_fields = free (bytes_law size2 4096)

pub block_within : (bytes : List ℕ) → AllFit (block_fields.parts bytes) → BlockFits bytes
unfolding block_fields
block_within bytes fits = fits.0.1.1

abbrev pub block_codec : Codec (List ℕ)
block_codec = limited_to BlockFits block_fields block_within

-- a client's bytes: a length of four bytes, at most 32,768
abbrev pub ContentFits : List ℕ → Type 0
ContentFits bytes = length bytes ≤ 32768

unfoldable pub content_fields : Codec (List ℕ)
content_fields = free (bytes_law size4 32768)

pub content_within : (bytes : List ℕ) → AllFit (content_fields.parts bytes) → ContentFits bytes
unfolding content_fields
content_within bytes fits = fits.0.1.1

abbrev pub content_codec : Codec (List ℕ)
content_codec = limited_to ContentFits content_fields content_within
