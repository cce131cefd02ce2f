-- A client's invocation, and its answer: the number of each status, and what goes with it.
use Rattle.std.proofs.Common.{◌≡◌, ℕ, ◌<◌, List, [], ◌∷◌, Option, Some, refl, arith}
use Rattle.fab_base.specs.declared.answers.Answer.TheVariants as answers
use Rattle.fab_base.specs.declared.answers.Cause.TheVariants as causes
use Rattle.fab_base.specs.declared.answers.Refusal.{Refusal}
use Rattle.fab_base.specs.declared.answers.Refusal.TheVariants.{Down, NoStripe, NoQuorum, NoBlock, Length, Busy, Spent}
use Rattle.fab_base.specs.declared.identities.GroupId.{GroupId}
use Rattle.fab_base.specs.declared.identities.StripeNo.{StripeNo}
use Rattle.messages.specs.declared.clients.ClientAnswer.{ClientAnswer}
use Rattle.messages.specs.declared.clients.ClientAnswer.TheVariants.{Ended, Refused}
use Rattle.messages.specs.declared.clients.ClientAsk.{ClientAsk}
use Rattle.messages.specs.declared.clients.ClientOp.{ClientOp}
use Rattle.fields.specs.Codecs.{Codec, u8_codec, u32_codec, u64_codec, pair, seen, limited_to, nothing}
use Rattle.fields.specs.Kinds.{Row, of, Value, made_by, Tagged, Tag, made_of, IsUnion, one_of}
use Rattle.fields.specs.Numbers.{Stands, exact_stands}
use Rattle.fields.specs.Parts.{AllFit, exactly}
use Rattle.fields.specs.Reading.{find}
use Rattle.fields.specs.Values.{ContentFits, brick_codec, group_codec, stripe_codec, view_number_codec, stamp_codec, content_codec}
use Rattle.fab_wire.specs.Values.{op_codec}

-- ---- an invocation: id, group, stripe, operation, data block, bytes

abbrev pub made_client : ℕ × (GroupId × (StripeNo × (ClientOp × (ℕ × List ℕ)))) → ClientAsk
made_client (id, (group, (stripe, (op, (block, bytes))))) =
    record { id = id; group = group; stripe = stripe; op = op; block = block; bytes = bytes }

unfoldable pub client_fields : Codec ClientAsk
client_fields = seen made_client (λ a. (a.id, (a.group, (a.stripe, (a.op, (a.block, a.bytes)))))) (λ a. refl) (λ p. refl)
    (pair u64_codec (pair group_codec (pair stripe_codec (pair op_codec (pair u8_codec content_codec)))))

pub client_within : (ask : ClientAsk) → AllFit (client_fields.parts ask) → ContentFits ask.bytes
unfolding client_fields
client_within ask fits = (client_fields.within ask fits).1.1.1.1.1

abbrev pub client_codec : Codec ClientAsk
client_codec = limited_to (λ ask. ContentFits ask.bytes) client_fields client_within

-- ---- an answer

-- the statuses: what an operation ended with, or why it was not begun
pub data Status : Type 0 where
  Data : Status
  Done : Status
  Later : Status
  Gone : Status
  Full : Status
  Moved : Status
  Refuse : Refusal → Status

-- A brick that is down answers nothing, and no client names bricks: the numbers of these two have no room in a byte.
abbrev pub status_number : Status → ℕ
status_number Data = 0
status_number Done = 1
status_number Later = 2
status_number Gone = 3
status_number Full = 4
status_number Moved = 5
status_number (Refuse NoStripe) = 16
status_number (Refuse NoBlock) = 17
status_number (Refuse Length) = 18
status_number (Refuse Busy) = 19
status_number (Refuse Spent) = 20
status_number (Refuse Down) = 256
status_number (Refuse NoQuorum) = 257

abbrev pub status_value : ℕ → Option Status
status_value = find status_number (Data ∷ Done ∷ Later ∷ Gone ∷ Full ∷ Moved
    ∷ Refuse NoStripe ∷ Refuse NoBlock ∷ Refuse Length ∷ Refuse Busy ∷ Refuse Spent ∷ [])

-- what goes with each status
abbrev pub answer_row : Status → Row ClientAnswer
answer_row Data = of content_codec (λ bytes. Ended (answers.Data bytes))
answer_row Done = of nothing (λ none. Ended answers.Done)
answer_row Later = of (pair brick_codec stamp_codec) (λ p. Ended (answers.Aborted (causes.Later p.0 p.1)))
answer_row Gone = of brick_codec (λ brick. Ended (answers.Aborted (causes.Gone brick)))
answer_row Full = of (pair brick_codec u32_codec) (λ p. Ended (answers.Aborted (causes.Full p.0 p.1)))
answer_row Moved = of (pair brick_codec view_number_codec) (λ p. Ended (answers.Aborted (causes.Moved p.0 p.1)))
answer_row (Refuse refusal) = of nothing (λ none. Refused refusal)

-- each answer by its status and what goes with it
abbrev pub answer_view : ClientAnswer → Tagged answer_row
answer_view (Ended (answers.Data bytes)) = Tag Data bytes
answer_view (Ended answers.Done) = Tag Done tt
answer_view (Ended (answers.Aborted (causes.Later brick stamp))) = Tag Later (brick, stamp)
answer_view (Ended (answers.Aborted (causes.Gone brick))) = Tag Gone brick
answer_view (Ended (answers.Aborted (causes.Full brick live))) = Tag Full (brick, live)
answer_view (Ended (answers.Aborted (causes.Moved brick view))) = Tag Moved (brick, view)
answer_view (Refused refusal) = Tag (Refuse refusal) tt

answer_back : (answer : ClientAnswer) → made_of (answer_view answer) ≡ answer
answer_back (Ended (answers.Data bytes)) = refl
answer_back (Ended (answers.Aborted (causes.Later brick stamp))) = refl
answer_back answer = refl

answer_forth : (status : Status) (v : Value (answer_row status)) → answer_view (made_by (answer_row status) v) ≡ Tag status v
answer_forth Data v = refl
answer_forth status v = refl

pub answer_union : IsUnion answer_row answer_view
answer_union = record { back = answer_back; forth = answer_forth }

-- the number of a status that has room is its own
status_known : (status : Status) → status_number status < 256 → status_value (status_number status) ≡ Some status
status_known (Refuse Down) lt = absurd (omega (arith, lt))
status_known (Refuse NoQuorum) lt = absurd (omega (arith, lt))
status_known status lt = refl

pub status_stands : Stands 1 (λ (status : Status). exactly (status_number status)) status_value
status_stands = exact_stands status_number status_value status_known refl Done (omega arith)

-- what the types leave open
abbrev pub AnswerFits : ClientAnswer → Type 0
AnswerFits (Ended (answers.Data bytes)) = ContentFits bytes
AnswerFits (Refused Down) = ⊥
AnswerFits (Refused NoQuorum) = ⊥
AnswerFits answer = Unit {0}

abbrev pub answer_fields : Codec ClientAnswer
answer_fields = one_of status_stands answer_union

pub answer_within : (answer : ClientAnswer) → AllFit (answer_fields.parts answer) → AnswerFits answer
answer_within (Ended (answers.Data bytes)) fits = answer_fields.within (Ended (answers.Data bytes)) fits
answer_within (Refused Down) fits = absurd (omega (arith, fits.0.0))
answer_within (Refused NoQuorum) fits = absurd (omega (arith, fits.0.0))
answer_within answer fits = tt

abbrev pub answer_codec : Codec ClientAnswer
answer_codec = limited_to AnswerFits answer_fields answer_within
