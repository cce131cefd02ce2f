-- The search behind the bytes that were scanned finds the first line feed of all.
use Rattle.std.proofs.Common.{ℕ, ◌+◌, List, drop, sym, ap, ◌∙◌}
use Rattle.std.specs.List.{position}
use Rattle.std.specs.Option.{option_map}
use Rattle.lines.specs.Lines.{is_line_feed}
use Rattle.lines.proofs.Scanning.{position_from}
use Rattle.lines.proofs.reader.LineReader.first_line_feed.Goals as goal

pub returns-in-None-clause-value : goal.returns-in-None-clause-value
returns-in-None-clause-value c =
    ap (option_map (λ at. c.args.scanned + at)) (sym c.in-None.is ∙ c.line_feed_in.ensures)
    ∙ ap (λ (l : List ℕ). option_map (λ at. c.args.scanned + at) (position is_line_feed l))
    (c.split_at.ensures.back ∙ ap (drop c.args.scanned) c.as_slice.ensures.value)
    ∙ sym (position_from c.args.self.now c.args.scanned c.requires.scanned c.requires.none)

pub returns-in-Some-clause-value : goal.returns-in-Some-clause-value
returns-in-Some-clause-value c =
    ap (option_map (λ at. c.args.scanned + at)) (sym c.in-Some.is ∙ c.line_feed_in.ensures)
    ∙ ap (λ (l : List ℕ). option_map (λ at. c.args.scanned + at) (position is_line_feed l))
    (c.split_at.ensures.back ∙ ap (drop c.args.scanned) c.as_slice.ensures.value)
    ∙ sym (position_from c.args.self.now c.args.scanned c.requires.scanned c.requires.none)
