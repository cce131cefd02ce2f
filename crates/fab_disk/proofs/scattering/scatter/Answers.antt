use Rattle.std.proofs.Common.{◌≡◌, ℕ, ◌%◌, Bool, ◌<◌, List, [], ◌++◌, take, drop, set, reverse, length, sym, ◌∙◌, ap, arith, rules}
use Rattle.std.proofs.Math.Seq.{take-set-lt}
use Rattle.std.proofs.lemmas.List.{drop-set-lt, length-set, length-take, take-append-drop}
use Rattle.rand_pcg.specs.Lcg.{Lcg}
use Rattle.rand_pcg.specs.Pcg.{pcg32}
use Rattle.fab_disk.specs.Past.{past_of}
use Rattle.fab_disk.specs.Settled.{is_uncertain, filled, left_over}
use Rattle.fab_disk.proofs.Filled.{goes_on_drawn, goes_on_kept}
use Rattle.fab_disk.proofs.Scattered.{after_place, left_more, end_drawn_at}
use Rattle.fab_disk.proofs.scattering.scatter.Goals as goal
use Rattle.fab_disk.proofs.scattering.scatter.Goals.{then-is_uncertain, else-is_uncertain}

pub loop-place-preserved : goal.loop-place-preserved
loop-place-preserved c =
    let uncertain : ℕ → Bool = is_uncertain (past_of (reverse c.args.steps.now) []) c.args.size in
    let start : ℕ = c.args.start in
    let place : ℕ = c.loop-place.place in
    let n : ℕ = c.args.count in
    let bytes : List ℕ = c.loop-place.bytes.items in
    let before : Lcg = left_over uncertain c.args.source.now start place in
    let within : place < length (take n bytes) = omega (arith, length-take n bytes, c.loop-place.invariant.length, c.requires.few) in
    elim c.if-is_uncertain.branch [
      | then-is_uncertain w ↦
          let is = sym c.is_uncertain.ensures ∙ w.if-is_uncertain.true in
          let items : c.if-is_uncertain.bytes.items ≡ set bytes place (w.next_word.result % 256) = search rules in
          let first : take n c.if-is_uncertain.bytes.items ≡ set (take n bytes) place (w.next_word.result % 256) =
          ap (take n) items ∙ take-set-lt n bytes place (w.next_word.result % 256) (omega arith) in
          record {
            first = goes_on_drawn uncertain c.loop-place.source (take n bytes) start place within _ w.next_word.result c.if-is_uncertain.source
                (ap (λ (r : Lcg). (w.next_word.result, r)) w.source-is ∙ w.next_word.ensures) first is
                ∙ c.loop-place.invariant.first;
            behind = ap (drop n) items ∙ drop-set-lt n bytes place (w.next_word.result % 256) (omega arith) ∙ c.loop-place.invariant.behind;
            length = ap length items ∙ length-set bytes place (w.next_word.result % 256) ∙ c.loop-place.invariant.length;
            source = w.source-is ∙ ap (λ (p : ℕ × Lcg). p.1) w.next_word.ensures ∙ ap (λ (r : Lcg). (pcg32 r).1) c.loop-place.invariant.source
                ∙ ap (λ (b : Bool). after_place b before) (sym is) ∙ sym (left_more uncertain c.args.source.now start place);
          }
      | else-is_uncertain w ↦
          let is = sym c.is_uncertain.ensures ∙ w.if-is_uncertain.false in
          let items : c.if-is_uncertain.bytes.items ≡ bytes = search rules in
          record {
            first = goes_on_kept uncertain c.loop-place.source (take n bytes) start place within _ _ w.source-is (ap (take n) items) is
                ∙ c.loop-place.invariant.first;
            behind = ap (drop n) items ∙ c.loop-place.invariant.behind;
            length = ap length items ∙ c.loop-place.invariant.length;
            source = w.source-is ∙ c.loop-place.invariant.source ∙ ap (λ (b : Bool). after_place b before) (sym is)
                ∙ sym (left_more uncertain c.args.source.now start place);
          }
    ]

pub returns-clause-items : goal.returns-clause-items
returns-clause-items c =
    let uncertain : ℕ → Bool = is_uncertain (past_of (reverse c.args.steps.now) []) c.args.size in
    let n : ℕ = c.args.count in
    let bytes : List ℕ = c.loop-place.bytes.items in
    sym (take-append-drop n bytes)
    ∙ ap (λ (l : List ℕ). l ++ drop n bytes)
    (sym (end_drawn_at uncertain c.loop-place.source (take n bytes) c.args.start c.loop-place.place (omega (arith, length-take n bytes)))
    ∙ c.loop-place.invariant.first)
    ∙ ap (λ (l : List ℕ). filled uncertain c.args.source.now c.args.start (take n c.args.bytes.now.items) ++ l) c.loop-place.invariant.behind
