-- One frame more, and one record less that is left.
use Rattle.std.proofs.Common.{◌≡◌, ◌+◌, Some, Option, List, [], ◌∷◌, ◌++◌, map, drop, refl, sym, ap, subst, ◌∙◌, append_assoc, arith}
use Rattle.std.specs.List.{AllByRecursion}
use Rattle.std.proofs.lemmas.List.{map-append}
use Rattle.frame_store.specs.declared.frames.Frame.{Frame}
use Rattle.frame_store.specs.Listed.{size_of}
use Rattle.frame_store.proofs.Listing.{size_of-append}
use Rattle.brick_state.specs.declared.records.Record.{Record}
use Rattle.brick_store.specs.Images.{record_of}
use Rattle.brick_store.specs.Sizes.{most, most_of}
use Rattle.brick_store.specs.Steps.{RecordHasMembers}
use Rattle.brick_store.proofs.Framing.{left_is}
use Rattle.brick_store.proofs.rewrites.frames_of.Goals as goal

most_cons : (r : Record) (rs : List Record) → most_of (r ∷ rs) ≡ most r + most_of rs
unfolding most_of
most_cons r rs = refl

pub frame_of-requires : goal.frame_of-requires
frame_of-requires c =
    let left = left_is c.args.records.now c.loop-item.item-index c.item-item.result c.loop-item-test.true c.item-item.is in
    let all = subst (λ (rs : List Record). AllByRecursion RecordHasMembers rs) left c.loop-item.invariant.members in
    all.0

pub loop-item-preserved : goal.loop-item-preserved
loop-item-preserved c =
    let rs = c.args.records.now in
    let k = c.loop-item.item-index in
    let r = c.item-item.result in
    let frame = c.in_ok-frame.frame in
    let done = c.loop-item.frames in
    let now = c.push.new.self in
    let left = left_is rs k r c.loop-item-test.true c.item-item.is in
    let pushed : now ≡ done ++ frame ∷ [] = c.in_ok-push.ensures in
    let rest = map Some (drop (k + 1) rs) in
    let all = subst (λ (xs : List Record). AllByRecursion RecordHasMembers xs) left c.loop-item.invariant.members in
    record {
      read =
          ap (λ (fs : List Frame). map record_of fs ++ rest) pushed
          ∙ ap (λ xs. xs ++ rest) (map-append record_of done (frame ∷ []))
          ∙ append_assoc (map record_of done) (record_of frame ∷ []) rest
          ∙ ap (λ (o : Option Record). map record_of done ++ o ∷ rest) c.in_ok-frame.ensures.read
          ∙ ap (λ (xs : List Record). map record_of done ++ map Some xs) (sym left)
          ∙ c.loop-item.invariant.read;
      size = omega (
        arith,
        ap size_of pushed,
        size_of-append done (frame ∷ []),
        c.in_ok-frame.ensures.size,
        ap most_of left,
        most_cons r
            (drop (k + 1) rs),
        c.loop-item.invariant.size,
      );
      members = all.1;
    }
