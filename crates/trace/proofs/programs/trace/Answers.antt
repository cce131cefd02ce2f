use Rattle.std.proofs.Common.{◌≡◌, ℕ, ◌⊎◌, Err, codes, inl, inr, refl, sym, ap, ◌∙◌, subst, arith}
use Rattle.std.specs.Prelude.{map, string_bytes}
use Rattle.std.specs.Io.KnownBytes.{Appends}
use Rattle.fab_io.specs.Ends.{AppendsFront}
use Rattle.replay.specs.Replays.{IsDecided}
use Rattle.replay.proofs.Statuses.{of_write, one_word}
use Rattle.trace.proofs.CalledEnds.{decided-called}
use Rattle.trace.proofs.programs.trace.Goals as goal

pub returns-then-is_word-clause-text : goal.returns-then-is_word-clause-text
returns-then-is_word-clause-text g c = λ _. (
  record { ending = c.tell.result; status_is = c.status_of.ensures; tells = c.tell.ensures.tells; called = c.tell.ensures.called },
  refl,
)

pub returns-then-is_word-clause-picture : goal.returns-then-is_word-clause-picture
returns-then-is_word-clause-picture g c = λ picture.
    let lengths = one_word (codes "text") (codes "svg") (map string_bytes c.args.words.now) (sym c.is_word.ensures ∙ c.if-is_word.true) picture in
    let never : ⊥ = omega (arith, lengths) in
    absurd never

pub returns-then-is_word-clause-decided : goal.returns-then-is_word-clause-decided
returns-then-is_word-clause-decided g c = λ asks source sink errors.
    subst (λ (s : ℕ). IsDecided (g.S.Source.told c.args.source.now) s) (sym c.status_of.ensures)
    (decided-called _ c.tell.result c.tell.ensures.called (λ e. c.tell.ensures.source.never source e) (λ e. c.tell.ensures.sink.never sink e))

pub returns-then-is_word-2-clause-picture : goal.returns-then-is_word-2-clause-picture
returns-then-is_word-2-clause-picture g c = λ _. record {
  ending = c.draw.result;
  status_is = c.status_of-then-is_word-2.ensures;
  called = c.draw.ensures.called;
  undrawn = c.draw.ensures.undrawn;
  ran = c.draw.ensures.ran;
}

pub returns-then-is_word-2-clause-decided : goal.returns-then-is_word-2-clause-decided
returns-then-is_word-2-clause-decided g c = λ asks source sink errors.
    subst (λ (s : ℕ). IsDecided (g.S.Source.told c.args.source.now) s) (sym c.status_of-then-is_word-2.ensures)
    (decided-called _ c.draw.result c.draw.ensures.called (λ e. c.draw.ensures.source.never source e) (λ e. c.draw.ensures.sinks.never sink errors e))

pub returns-in-Ok-clause-words : goal.returns-in-Ok-clause-words
returns-in-Ok-clause-words g c = λ _ _. (inl (refl, subst (Appends _ _) c.as_slice.ensures c.in-Ok.ensures.content), refl, refl)

pub returns-in-Err-clause-words : goal.returns-in-Err-clause-words
returns-in-Err-clause-words g c = λ _ _.
    let status = of_write c.in-Err.halt (λ e. c.write.ensures.cause (c.in-Err.is ∙ ap (λ h. Err h) e)) in (
      inr (
        subst (λ (s : ℕ). (s ≡ 6) ⊎ (s ≡ 7)) (sym c.status_of-in-Err.ensures) status,
        subst (AppendsFront _ _) c.as_slice.ensures c.in-Err.ensures.content,
      ),
      refl,
      refl,
    )
