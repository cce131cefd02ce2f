-- The stamps that a source makes, over all that it is used for.
use Rattle.std.proofs.Common.{◌≡◌, ◌≢◌, ◌-◌, ◌^◌, ◌<◌, max, Bool, true, false, cond, eqb, Some, None, List, [], ◌∷◌, ◌++◌, All, refl, ap, sym, ◌∙◌, arith}
use Rattle.std.specs.Option.{option_to_list}
use Rattle.std.specs.List.{AllPairs}
use Rattle.std.proofs.lemmas.List.Elements.{All-cons, All-weaker, All-contains}
use Rattle.std.proofs.lemmas.List.Kept.{AllPairs-cons}
use Rattle.fab_base.specs.declared.stamps.Stamp.{Stamp}
use Rattle.stamp_store.specs.declared.stamp_sources.StampSource.{StampSource}
use Rattle.stamp_store.specs.Sources.{Use, Asked, Saw, next_time, after_seen, stamps_of, TimesRise, NeverMakeTheSame}

-- what holds of a stamp that may be made and of those after it holds of all
asked : (P : Stamp → Type 0) (b : Bool) (s : Stamp) (source later : StampSource) (uses : List Use)
    → (b ≡ true → All P (stamps_of source uses)) → (b ≡ false → P s × All P (stamps_of later uses))
    → All P (option_to_list (cond b None (Some s)) ++ stamps_of (cond b source later) uses)
asked P true s source later uses spent made = spent refl
asked P false s source later uses spent made = let h = made refl in All-cons P s (stamps_of later uses) h.0 h.1

-- each stamp has a greater time than the source knew
above : (source : StampSource) (uses : List Use) → All (λ (s : Stamp). source.known < s.time) (stamps_of source uses)
unfolding stamps_of
above source [] = λ k d below. absurd (omega arith)
above source (Asked now view brick ∷ uses) =
    let later : StampSource = record source { known = next_time source now } in
    asked (λ (s : Stamp). source.known < s.time) (eqb source.known (2 ^ 64 - 1))
    (record { view = view; time = next_time source now; brick = brick; boot = source.boot }) source later uses
    (λ spent. above source uses)
    (λ made. (
      omega arith,
      All-weaker (λ (s : Stamp). next_time source now < s.time) (λ (s : Stamp). source.known < s.time) (λ s h. omega (arith, h))
          (stamps_of later uses) (above later uses),
    ))
above source (Saw stamp ∷ uses) =
    All-weaker (λ (s : Stamp). max source.known stamp.time < s.time) (λ (s : Stamp). source.known < s.time) (λ s h. omega (arith, h))
    (stamps_of (after_seen source stamp) uses) (above (after_seen source stamp) uses)

-- each stamp has the source's boot
of_boot : (source : StampSource) (uses : List Use) → All (λ (s : Stamp). s.boot ≡ source.boot) (stamps_of source uses)
unfolding stamps_of
of_boot source [] = λ k d below. absurd (omega arith)
of_boot source (Asked now view brick ∷ uses) =
    let later : StampSource = record source { known = next_time source now } in
    asked (λ (s : Stamp). s.boot ≡ source.boot) (eqb source.known (2 ^ 64 - 1))
    (record { view = view; time = next_time source now; brick = brick; boot = source.boot }) source later uses
    (λ spent. of_boot source uses) (λ made. (refl, of_boot later uses))
of_boot source (Saw stamp ∷ uses) = of_boot (after_seen source stamp) uses

-- a stamp that may be made has a time below those after it
asked_rises : (b : Bool) (s : Stamp) (source later : StampSource) (uses : List Use)
    → AllPairs (λ (t u : Stamp). t.time < u.time) (stamps_of source uses)
    → AllPairs (λ (t u : Stamp). t.time < u.time) (stamps_of later uses) → All (λ (t : Stamp). s.time < t.time) (stamps_of later uses)
    → AllPairs (λ (t u : Stamp). t.time < u.time) (option_to_list (cond b None (Some s)) ++ stamps_of (cond b source later) uses)
asked_rises true s source later uses spent made first = spent
asked_rises false s source later uses spent made first = AllPairs-cons (λ (t u : Stamp). t.time < u.time) s (stamps_of later uses) first made

-- the stamps of a source have rising times
pub times_rise : (source : StampSource) → TimesRise source
unfolding stamps_of
times_rise source [] = λ i j d before within. absurd (omega arith)
times_rise source (Asked now view brick ∷ uses) =
    let later : StampSource = record source { known = next_time source now } in
    asked_rises (eqb source.known (2 ^ 64 - 1)) (record { view = view; time = next_time source now; brick = brick; boot = source.boot }) source later uses
    (times_rise source uses) (times_rise later uses) (above later uses)
times_rise source (Saw stamp ∷ uses) = times_rise (after_seen source stamp) uses

-- two openings never make the same stamp
pub never_the_same : (a b : StampSource) → a.boot ≢ b.boot → NeverMakeTheSame a b
never_the_same a b other uses more s t from_a from_b same =
    let one : s.boot ≡ a.boot = All-contains (λ (u : Stamp). u.boot ≡ a.boot) (stamps_of a uses) s (of_boot a uses) from_a in
    let two : t.boot ≡ b.boot = All-contains (λ (u : Stamp). u.boot ≡ b.boot) (stamps_of b more) t (of_boot b more) from_b in
    other (sym one ∙ ap (λ (u : Stamp). u.boot) same ∙ two)
