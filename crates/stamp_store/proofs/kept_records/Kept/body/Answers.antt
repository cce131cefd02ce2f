-- The bytes put are the body, and the numbers put fit their fields.
use Rattle.std.proofs.Common.{◌++◌, ◌∙◌, ap, refl}
use Rattle.fields.specs.Parts.{spelled}
use Rattle.stamp_store.specs.Reading.{kept_parts}
use Rattle.stamp_store.proofs.Bodies.{kept_same, kept_fits}
use Rattle.stamp_store.proofs.kept_records.Kept.body.Goals as goal

pub returns : goal.returns
returns c =
    let fits = c.in_ok-put.ensures.fits in
    let kept = c.args.self.now in
    record {
      fits = kept_fits kept fits;
      kind_is = refl;
      body_is = c.from_vec.ensures ∙ c.in_ok-put.ensures.bytes ∙ ap (λ made. made ++ spelled (kept_parts kept)) c.new-out.ensures.items
          ∙ kept_same kept fits;
    }
