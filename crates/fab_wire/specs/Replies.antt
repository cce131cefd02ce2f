-- The kinds of replies: the number of each, and the fields after its call.
use Rattle.std.proofs.Common.{◌≡◌, ℕ, [], ◌∷◌, Some, None, refl}
use Rattle.messages.specs.declared.replies.Reply.{Reply}
use Rattle.messages.specs.declared.replies.Reply.TheVariants as replies
use Rattle.fields.specs.Codecs.{pair, nothing, u32_codec}
use Rattle.fields.specs.Kinds.{Row, of, Value, made_by, Tagged, Tag, made_of, IsUnion, option}
use Rattle.fields.specs.Reading.{find_or}
use Rattle.fields.specs.Values.{stamp_codec, ballot_codec, members_codec, view_number_codec}
use Rattle.fab_wire.specs.Values.{version_codec, pair_of_choice, choice_of, pair_of_lineage, lineage_of}

-- the kinds, in the order of their numbers
pub data ReplyKind : Type 0 where
  Found : ReplyKind
  Ordered : ReplyKind
  OrderedRead : ReplyKind
  Stored : ReplyKind
  Behind : ReplyKind
  Later : ReplyKind
  Full : ReplyKind
  Moved : ReplyKind
  Old : ReplyKind
  Retired : ReplyKind
  Promise : ReplyKind
  Accepted : ReplyKind
  Outbid : ReplyKind
  NotSynced : ReplyKind

abbrev pub reply_number : ReplyKind → ℕ
reply_number Found = 32
reply_number Ordered = 33
reply_number OrderedRead = 34
reply_number Stored = 35
reply_number Behind = 36
reply_number Later = 37
reply_number Full = 38
reply_number Moved = 39
reply_number Old = 40
reply_number Retired = 41
reply_number Promise = 42
reply_number Accepted = 43
reply_number Outbid = 44
reply_number NotSynced = 45

-- the kind of a number from 32 to 45
abbrev pub reply_of : ℕ → ReplyKind
reply_of = find_or NotSynced reply_number
    (Found ∷ Ordered ∷ OrderedRead ∷ Stored ∷ Behind ∷ Later ∷ Full ∷ Moved ∷ Old ∷ Retired ∷ Promise ∷ Accepted ∷ Outbid ∷ [])

-- the fields of each kind, in their order
abbrev pub reply_row : ReplyKind → Row Reply
reply_row Found = of (pair stamp_codec (option version_codec)) (λ p. replies.Found p.0 p.1)
reply_row Ordered = of nothing (λ none. replies.Ordered)
reply_row OrderedRead = of (option version_codec) (λ found. replies.OrderedRead found)
reply_row Stored = of nothing (λ none. replies.Stored)
reply_row Behind = of (option stamp_codec) (λ newest. replies.Behind newest)
reply_row Later = of stamp_codec (λ stamp. replies.Later stamp)
reply_row Full = of u32_codec (λ live. replies.Full live)
reply_row Moved = of (pair view_number_codec (option (pair members_codec members_codec))) (λ p. replies.Moved p.0 (lineage_of p.1))
reply_row Old = of (option version_codec) (λ found. replies.Old found)
reply_row Retired = of nothing (λ none. replies.Retired)
reply_row Promise = of (option (pair ballot_codec members_codec)) (λ accepted. replies.Promise (choice_of accepted))
reply_row Accepted = of nothing (λ none. replies.Accepted)
reply_row Outbid = of ballot_codec (λ ballot. replies.Outbid ballot)
reply_row NotSynced = of nothing (λ none. replies.NotSynced)

-- each reply by its kind and fields
abbrev pub reply_view : Reply → Tagged reply_row
reply_view (replies.Found order newest) = Tag Found (order, newest)
reply_view replies.Ordered = Tag Ordered tt
reply_view (replies.OrderedRead found) = Tag OrderedRead found
reply_view replies.Stored = Tag Stored tt
reply_view (replies.Behind newest) = Tag Behind newest
reply_view (replies.Later stamp) = Tag Later stamp
reply_view (replies.Full live) = Tag Full live
reply_view (replies.Moved view lineage) = Tag Moved (view, pair_of_lineage lineage)
reply_view (replies.Old found) = Tag Old found
reply_view replies.Retired = Tag Retired tt
reply_view (replies.Promise accepted) = Tag Promise (pair_of_choice accepted)
reply_view replies.Accepted = Tag Accepted tt
reply_view (replies.Outbid ballot) = Tag Outbid ballot
reply_view replies.NotSynced = Tag NotSynced tt

reply_back : (reply : Reply) → made_of (reply_view reply) ≡ reply
reply_back (replies.Moved view None) = refl
reply_back (replies.Moved view (Some lineage)) = refl
reply_back (replies.Promise None) = refl
reply_back (replies.Promise (Some choice)) = refl
reply_back reply = refl

reply_forth : (kind : ReplyKind) (v : Value (reply_row kind)) → reply_view (made_by (reply_row kind) v) ≡ Tag kind v
reply_forth Moved (view, None) = refl
reply_forth Moved (view, Some lineage) = refl
reply_forth Promise None = refl
reply_forth Promise (Some choice) = refl
reply_forth kind v = refl

pub reply_union : IsUnion reply_row reply_view
reply_union = record { back = reply_back; forth = reply_forth }
