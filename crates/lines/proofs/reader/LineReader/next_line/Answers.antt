use Rattle.std.proofs.Common.{rules, ◌≡◌, ℕ, List, length, take, Ok, Err, sym, ap, ◌∙◌, subst, arith}
use Rattle.std.specs.List.{position}
use Rattle.std.proofs.KnownBytes.{Keeps-trans}
use Rattle.lines.specs.Lines.{is_line_feed}
use Rattle.std.specs.Str.Lines.{strip_carriage_return}
use Rattle.fab_base.specs.declared.faults.IoFault.TheVariants.{Failed}
use Rattle.fab_base.proofs.Keeping.{Kept-trans, Kept-calm}
use Rattle.lines.specs.Reading.{IsBegun}
use Rattle.lines.proofs.RawLines.{stripped}
use Rattle.lines.proofs.Answering.{says_found, says_long, says_last}
use Rattle.lines.proofs.LineReading.{begun_of, HasRead, HasRead-filled, reads_of, reads_err, last_bytes}
use Rattle.lines.proofs.reader.LineReader.next_line.Goals as goal

pub returns-in-Some-clause-says : goal.returns-in-Some-clause-says
returns-in-Some-clause-says g c =
    let found = sym c.first_line_feed.ensures.value ∙ c.in-Some.is in
    says_found _ _ _ _ _ _ _ c.loop-at.invariant.left found c.in_ok-take.ensures.ok

pub returns-then-without_return-limit-clause-says : goal.returns-then-without_return-limit-clause-says
returns-then-without_return-limit-clause-says g c =
    let none = sym c.first_line_feed.ensures.value ∙ c.in_default.is in
    let long = ap length (c.without_return.ensures ∙ ap strip_carriage_return c.as_slice.ensures.value) in
    says_long _ _ _ _ c.loop-at.invariant.left none (omega (arith, long, c.if-without_return-limit.true))

pub returns-then-branch-eq0-clause-says : goal.returns-then-branch-eq0-clause-says
returns-then-branch-eq0-clause-says g c =
    let ended = c.in_ok-fill.ensures.end c.if-branch-eq0.true in
    let none = ap (position is_line_feed) ended.0 ∙ sym c.first_line_feed.ensures.value ∙ c.in_default.is in
    let left = Keeps-trans _ _ _ c.loop-at.invariant.left c.fill.ensures.content in
    says_last _ _ _ _ _ _ left none ended.1 c.in_ok-take_last.ensures.ok

pub returns-in_err-fill-clause-reads : goal.returns-in_err-fill-clause-reads
returns-in_err-fill-clause-reads g c =
    let here = begun_of _ _ _ _ (sym c.first_line_feed.ensures.value ∙ c.in_default.is) c.without_return.ensures c.as_slice.ensures.value
    c.if-without_return-limit.false in
    let read = HasRead-filled _ _ _ _ _ _ _ _ _ _ _ c.loop-at.invariant.reads here c.fill.ensures.reads in
    reads_err _ _ _ _ _ _ _ _ c.from_residual-in_err-fill.ensures.0 read
    (subst (IsBegun c.args.limit) (sym c.in_err-fill.ensures.err) here)

pub returns-then-branch-eq0-clause-reads : goal.returns-then-branch-eq0-clause-reads
returns-then-branch-eq0-clause-reads g c =
    let here = begun_of _ _ _ _ (sym c.first_line_feed.ensures.value ∙ c.in_default.is) c.without_return.ensures c.as_slice.ensures.value
    c.if-without_return-limit.false in
    let read = HasRead-filled _ _ _ _ _ _ _ _ _ _ _ c.loop-at.invariant.reads here c.fill.ensures.reads in
    reads_of _ _ _ _ _ _ _ _ _ (Ok c.in_ok-take_last.field-0 ≡ Err Failed) read (last_bytes _ _ _ _ c.in_ok-take_last.ensures.ok)
    (λ (failed : Ok c.in_ok-take_last.field-0 ≡ Err Failed). cc)

pub loop-at-preserved : goal.loop-at-preserved
loop-at-preserved g c =
    let here = begun_of _ _ _ _ (sym c.first_line_feed.ensures.value ∙ c.in_default.is) c.without_return.ensures c.as_slice.ensures.value
    c.if-without_return-limit.false in
    let all = c.as_slice-held.ensures.len in
    let front = c.in_ok-fill.ensures.front in
    record {
      within = omega (arith, all, c.in_ok-fill.ensures.grows);
      none = ap (λ (k : ℕ). position is_line_feed (take k c.fill.new.self)) all ∙ ap (position is_line_feed) front ∙ here.0;
      left = Keeps-trans _ _ _ c.loop-at.invariant.left c.fill.ensures.content;
      ends = Kept-trans c.loop-at.invariant.ends (Kept-calm c.fill.ensures.kept);
      reads = HasRead-filled _ _ _ _ _ _ _ _ _ _ _ c.loop-at.invariant.reads here c.fill.ensures.reads;
      held = omega (arith, here.1, stripped c.loop-at.self, c.in_ok-fill.ensures.grows, c.in_ok-fill.ensures.within);
    }

pub returns-in_err-take_last : goal.returns-in_err-take_last
returns-in_err-take_last g c =
    let reads = (
    let here = begun_of _ _ _ _ (sym c.first_line_feed.ensures.value ∙ c.in_default.is) c.without_return.ensures c.as_slice.ensures.value
    c.if-without_return-limit.false in
    let same = c.in_err-take_last.ensures.err in
    let ended = c.in_ok-fill.ensures.end c.if-branch-eq0.true in
    let read = HasRead-filled _ _ _ _ _ _ _ _ _ _ _ c.loop-at.invariant.reads here c.fill.ensures.reads in
    reads_err _ _ _ _ _ _ _ _ c.from_residual-in_err-take_last.ensures.0
    (subst (λ (l : List ℕ). HasRead c.args.limit c.args.self.now l (g.S.Source.told c.args.source.now) (g.S.Source.told c.fill.new.source)
    (g.S.Source.came c.fill.new.source) (c.fill.new.source ≡ c.args.source.now)) (sym same) read)
    (subst (IsBegun c.args.limit) (sym (same ∙ ended.0)) here)
    ) in
    search (rules, reads)

pub returns-in_err-take : goal.returns-in_err-take
returns-in_err-take g c = search rules
