-- Each row that is read is one of the list's, and has to be a segment.
use Rattle.std.proofs.Common.{◌≡◌, ◌+◌, ℤ, List, Vec, Global, drop, get_or, map, Some, None, refl, sym, ap, ◌∙◌, rules}
use Rattle.layout.specs.Checks.{segment_in, segments_in}
use Rattle.layout.proofs.Readings.{with_rest, one_read, none_read}
use Rattle.layout.proofs.volume_tables.segments_in.Goals as goal

pub loop-row-preserved : goal.loop-row-preserved
loop-row-preserved c =
    let rows = c.args.rows.now in
    let i = c.loop-row.row-index in
    let row = c.row-item.result in
    let read : segment_in c.args.groups.now (get_or rows i row).items ≡ Some c.in-Some.segment =
    ap (λ (row : Vec ℤ Global). segment_in c.args.groups.now row.items) (sym c.row-item.is)
    ∙ ap (λ (numbers : List ℤ). segment_in c.args.groups.now numbers) (sym c.as_slice.ensures.value) ∙ sym c.segment_in.ensures ∙ c.in-Some.is in
    c.loop-row.invariant
    ∙ one_read (λ rows. segments_in c.args.groups.now (map (λ row. row.items) rows)) (λ row. segment_in c.args.groups.now row.items)
    (λ _ _. refl) rows i row c.loop-row.segments.items c.in-Some.segment (search rules) read
    ∙ ap (λ segments. with_rest segments (segments_in c.args.groups.now (map (λ row. row.items) (drop (i + 1) rows))))
    (sym c.in_ok-push.ensures.items)

pub returns-in_default : goal.returns-in_default
returns-in_default c =
    let rows = c.args.rows.now in
    let i = c.loop-row.row-index in
    let row = c.row-item.result in
    let read : segment_in c.args.groups.now (get_or rows i row).items ≡ None =
    ap (λ (row : Vec ℤ Global). segment_in c.args.groups.now row.items) (sym c.row-item.is)
    ∙ ap (λ (numbers : List ℤ). segment_in c.args.groups.now numbers) (sym c.as_slice.ensures.value) ∙ sym c.segment_in.ensures ∙ c.in_default.is in
    sym (c.loop-row.invariant
    ∙ none_read (λ rows. segments_in c.args.groups.now (map (λ row. row.items) rows)) (λ row. segment_in c.args.groups.now row.items)
    (λ _ _. refl) rows i row c.loop-row.segments.items (search rules) read)
