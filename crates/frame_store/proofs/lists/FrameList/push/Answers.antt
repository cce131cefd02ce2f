-- Each frame takes some bytes, so there are fewer frames than a vector has bytes.
use Rattle.std.proofs.Common.{rules, ◌≡◌, ◌++◌, [], ◌∷◌, ℕ, List, ap, sym, length, length-append, arith, ◌∙◌}
use Rattle.frame_store.specs.Listed.{frame_of, frame_rest, spelled}
use Rattle.frame_store.proofs.Listing.{length-spelled, length_le-size_of, spelled_more}
use Rattle.frame_store.proofs.lists.FrameList.push.Goals as goal

pub overflow_add-self : goal.overflow_add-self
overflow_add-self c =
    let frames = c.self.inside.listing.frames in
    omega (arith, c.self.invariant.1, ap length c.self.invariant.0, length-spelled frames, length_le-size_of frames)

pub invariant_of-self-2 : goal.invariant_of-self-2
invariant_of-self-2 c =
    let frames = c.self.inside.listing.frames in
    let frame = frame_of c.args.frame.now.kind c.as_slice-body.result.now in
    let gate : c.push.new.self.items ≡ c.self.inside.bytes.items ++ 165 ∷ [] = search rules in (
      c.put_rest.ensures.items ∙ ap (λ (l : List ℕ). l ++ frame_rest frame) (gate ∙ ap (λ (l : List ℕ). l ++ 165 ∷ []) c.self.invariant.0)
          ∙ sym (spelled_more frames frame) ∙ ap spelled (sym c.with-self-inside.ensures),
      omega (arith, c.self.invariant.1, ap length c.with-self-inside.ensures, length-append frames (frame ∷ [])),
    )
