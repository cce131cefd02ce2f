use Rattle.std.proofs.Common.{rules, ◌≡◌, ◌-◌, ℕ, ◌∙◌, ap, take, min, length, ◌++◌}
use Rattle.hosting.proofs.ReadingLines.{kept_more}
use Rattle.hosting.proofs.reading.keep.Goals as goal

pub returns : goal.returns
returns c =
    c.in_ok-extend_from_slice.ensures.items
    ∙ ap (λ (n : ℕ). c.args.line.now.items ++ take n c.args.piece.now) (let same : c.min.result ≡ min (70003 - length c.args.line.now.items) (length c.args.piece.now) = search rules in same)
    ∙ kept_more 70003 c.args.line.now.items c.args.piece.now c.requires
