use Rattle.std.proofs.Common.{◌≡◌, ◌^◌, ◌<◌, ◌++◌, ◌∷◌, [], List, ℕ, length, sym, ◌∙◌, ap, subst, rules, arith, append_assoc, length-append}
use Rattle.std.proofs.lemmas.List.{append-nil}
use Rattle.frame_store.specs.declared.frames.Frame.{Frame}
use Rattle.frame_store.specs.Listed.{frame_of, frame_rest, spelled}
use Rattle.frame_store.proofs.Listing.{spelled-append, size_of-append, are_short-append}
use Rattle.frame_store.proofs.reading.take_frames.Goals as goal

-- one frame more
pub loop-kind-preserved : goal.loop-kind-preserved
loop-kind-preserved g c =
    let f = frame_of c.in-Some.kind c.in-Some.body.now in
    let after = c.in-Some.after.now in
    let before = c.loop-kind.invariant.front in
    let frames = before.0 in
    let split : c.loop-kind.rest.now ≡ 165 ∷ (frame_rest f ++ after) = search rules in
    let short : length f.body < 2 ^ 32 = search rules in
    let one : spelled (f ∷ []) ++ after ≡ c.loop-kind.rest.now = ap (λ (l : List ℕ). 165 ∷ (l ++ after)) (append-nil (frame_rest f)) ∙ sym split in
    record {
      makes = λ first old made. subst (λ (l : List Frame). g.T.TakesFrames.makes first old l c.take.new.self) (sym c.with-listing.ensures)
          (c.in_ok-take.ensures first old c.loop-kind.listing.frames (c.loop-kind.invariant.makes first old made));
      front = (
        frames ++ f ∷ [],
        c.with-listing.ensures ∙ ap (λ (l : List Frame). l ++ f ∷ []) before.1 ∙ append_assoc c.args.listing.frames frames (f ∷ []),
        ap (λ (l : List ℕ). l ++ after) (spelled-append frames (f ∷ []))
            ∙ append_assoc (spelled frames) (spelled (f ∷ [])) after ∙ ap (λ (l : List ℕ). spelled frames ++ l) one ∙ before.2,
        omega (
          arith,
          size_of-append frames (f ∷ []),
          ap length split,
          length-append (frame_rest f) after,
          before.3,
        ),
        are_short-append frames (f ∷ []) before.4 (short, tt),
      );
    }
