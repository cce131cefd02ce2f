-- Plans, over runs of calls.
use Rattle.std.proofs.Common.{◌≡◌, ◌≢◌, inl, inr, ℕ, ◌+◌, ◌-◌, ◌<◌, ◌≤◌, refl, sym, ◌∙◌, ap, subst, arith}
use Rattle.std.proofs.lemmas.Bool.{cases_lt}
use Rattle.std.proofs.lemmas.Bool.Decides.{nat_tests}
use Rattle.fab_disk.specs.declared.disk.Plan.{Plan}
use Rattle.fab_disk.specs.declared.disk.Plan.TheVariants.{Never, Stop, Fail}
use Rattle.fab_disk.specs.declared.disk.Fate.TheVariants.{Goes, Stops, Fails}
use Rattle.fab_disk.specs.Plan.{call_of, calls_made, sooner, IsWithin, IsRun, KeepsPlan, next_fate, plan_after}

-- the plan names the next call, or it does not
pub goes_spared : (plan : Plan) → next_fate plan ≡ Goes → IsWithin 1 plan → ⊥
goes_spared Never goes is = omega (arith, is.some)
goes_spared (Stop number) goes is = grind (arith, nat_tests, is.some, is.reached)
goes_spared (Fail number) goes is = grind (arith, nat_tests, is.some, is.reached)

pub goes_sooner : (plan : Plan) → next_fate plan ≡ Goes → plan_after plan ≡ sooner 1 plan
goes_sooner Never goes = refl
goes_sooner (Stop number) goes = grind (arith, nat_tests)
goes_sooner (Fail number) goes = grind (arith, nat_tests)

pub struck_call : (plan : Plan) → next_fate plan ≢ Goes → call_of plan ≡ 1
struck_call Never other = absurd (other refl)
struck_call (Stop number) other = grind (arith, nat_tests)
struck_call (Fail number) other = grind (arith, nat_tests)

pub stopped_calls : (plan : Plan) → next_fate plan ≡ Stops → calls_made plan ≡ 1
stopped_calls Never is = absurd cc
stopped_calls (Stop number) is = grind (arith, nat_tests)
stopped_calls (Fail number) is = grind (arith, nat_tests)

pub failed_calls : (plan : Plan) → next_fate plan ≡ Fails → calls_made plan ≡ 0
failed_calls Never is = refl
failed_calls (Stop number) is = grind (arith, nat_tests)
failed_calls (Fail number) is = grind (arith, nat_tests)

pub struck_after : (plan : Plan) → next_fate plan ≢ Goes → plan_after plan ≡ Never
struck_after Never other = refl
struck_after (Stop number) other = grind (arith, nat_tests)
struck_after (Fail number) other = grind (arith, nat_tests)

-- a plan after runs
pub sooner_none : (plan : Plan) → sooner 0 plan ≡ plan
sooner_none Never = refl
sooner_none (Stop number) = ap Stop (let same : number - 0 ≡ number = omega arith in same)
sooner_none (Fail number) = ap Fail (let same : number - 0 ≡ number = omega arith in same)

pub sooner_twice : (first second : ℕ) (plan : Plan) → sooner second (sooner first plan) ≡ sooner (first + second) plan
sooner_twice first second Never = refl
sooner_twice first second (Stop number) = ap Stop (let same : number - first - second ≡ number - (first + second) = omega arith in same)
sooner_twice first second (Fail number) = ap Fail (let same : number - first - second ≡ number - (first + second) = omega arith in same)

pub call_sooner : (calls : ℕ) (plan : Plan) → call_of (sooner calls plan) ≡ call_of plan - calls
call_sooner calls Never = omega arith
call_sooner calls (Stop number) = refl
call_sooner calls (Fail number) = refl

-- how many calls are made, from those that were made before
pub made_sooner : (calls : ℕ) (plan : Plan) → 1 ≤ call_of (sooner calls plan) → calls + calls_made (sooner calls plan) ≡ calls_made plan
made_sooner calls Never named = absurd (omega (arith, named))
made_sooner calls (Stop number) named = omega (arith, named)
made_sooner calls (Fail number) named = omega (arith, named)

-- two calls, the second made where the first did not fail
pub keeps_both : {D : Type 0} (plan : D → Plan) (unlisted : D → Type 0) (old mid new : D) (F G : Type 0) → KeepsPlan plan unlisted old mid F
    → KeepsPlan plan unlisted mid new G → KeepsPlan plan unlisted old new G
keeps_both plan unlisted old mid new F G first second = record {
  same = second.same ∙ first.same;
  stays = λ free. second.stays (first.stays free);
  never = λ free failed. second.never (first.stays free) failed;
}

module _ {D : Type 0} (tells : Type 0) (moment : D → ℕ) (plan : D → Plan) (unlisted : D → Type 0) where
  abbrev Run : ℕ → D → D → Type 0 → Type 0 → Type 0
  Run calls old new whole cut = IsRun tells moment plan unlisted calls old new whole cut

  -- what a run says in other words
  pub run_as : (calls : ℕ) (old new : D) (W C V E : Type 0) → (V → W) → (E → C) → ((V → ⊥) → (E → ⊥) → plan new ≡ plan old)
      → Run calls old new W C → Run calls old new V E
  run_as calls old new W C V E whole cut waits run = record {
    counted = λ told is. run.counted told (whole is);
    spared = λ is. run.spared (whole is);
    later = λ is. run.later (whole is);
    named = λ free is. run.named free (cut is);
    stopped = λ told free is. run.stopped told free (cut is);
    used_up = λ free is. run.used_up free (cut is);
    waits = waits;
    stays = run.stays;
  }

  -- the number of its calls in other words
  pub run_calls : (calls other : ℕ) (old new : D) (W C : Type 0) → calls ≡ other → Run calls old new W C → Run other old new W C
  run_calls calls other old new W C is run = subst (λ (n : ℕ). Run n old new W C) is run

  -- a call that makes none of the run's calls, and was refused
  pub run_not_begun : (calls : ℕ) (old new : D) (W C : Type 0) → (W → ⊥) → KeepsPlan plan unlisted old new C → Run calls old new W C
  run_not_begun calls old new W C not_whole kept = record {
    counted = λ told is. absurd (not_whole is);
    spared = λ is. absurd (not_whole is);
    later = λ is. absurd (not_whole is);
    named = λ free is. absurd (kept.never free is);
    stopped = λ told free is. absurd (kept.never free is);
    used_up = λ free is. absurd (kept.never free is);
    waits = λ a b. kept.same;
    stays = kept.stays;
  }

  -- a call that makes none of the run's calls, and then the run
  pub run_after : (calls : ℕ) (old mid new : D) (F W C : Type 0) → KeepsPlan plan unlisted old mid F → moment mid ≡ moment old
      → Run calls mid new W C → Run calls old new W C
  run_after calls old mid new F W C kept clock run =
      let same : plan mid ≡ plan old = kept.same in
      record {
        counted = λ told is. run.counted told is ∙ ap (λ (n : ℕ). n + calls) clock;
        spared = λ is within. run.spared is (subst (IsWithin calls) (sym same) within);
        later = λ is. run.later is ∙ ap (sooner calls) same;
        named = λ free is. subst (IsWithin calls) same (run.named (kept.stays free) is);
        stopped = λ told free is. omega (arith, run.stopped told (kept.stays free) is, clock, ap calls_made same);
        used_up = λ free is. run.used_up (kept.stays free) is;
        waits = λ a b. run.waits a b ∙ same;
        stays = λ free. run.stays (kept.stays free);
      }

  -- the first part of a run was cut short, and so was the run
  pub run_cut : (first calls : ℕ) (old new : D) (W C : Type 0) → first ≤ calls → (W → ⊥) → ((C → ⊥) → plan new ≡ plan old)
      → Run first old new ⊥ C → Run calls old new W C
  run_cut first calls old new W C le not_whole waits run = record {
    counted = λ told is. absurd (not_whole is);
    spared = λ is. absurd (not_whole is);
    later = λ is. absurd (not_whole is);
    named = λ free is. record { some = (run.named free is).some; reached = omega (arith, le, (run.named free is).reached) };
    stopped = run.stopped;
    used_up = run.used_up;
    waits = λ a b. waits b;
    stays = run.stays;
  }

  -- one run made whole, and then another
  pub run_both : (first second calls : ℕ) (old mid new : D) (V E W C : Type 0) → calls ≡ first + second → V → ((W → ⊥) → (C → ⊥) → ⊥)
      → Run first old mid V E → Run second mid new W C → Run calls old new W C
  run_both first second calls old mid new V E W C sum made ends one two =
      let moved : plan mid ≡ sooner first (plan old) = one.later made in
      let call : call_of (plan mid) ≡ call_of (plan old) - first = ap call_of moved ∙ call_sooner first (plan old) in
      record {
        counted = λ told is. omega (arith, sum, one.counted told made, two.counted told is);
        spared = λ is within. by is within call;
        later = λ is. two.later is ∙ ap (sooner second) moved ∙ sooner_twice first second (plan old)
            ∙ ap (λ (n : ℕ). sooner n (plan old)) (sym sum);
        named = λ free is. record {
          some = omega (arith, call, (two.named (one.stays free) is).some);
          reached = omega (arith, call, sum, (two.named (one.stays free) is).reached, (two.named (one.stays free) is).some);
        };
        stopped = λ told free is. omega (
          arith,
          one.counted told made,
          two.stopped told (one.stays free) is,
          ap calls_made moved,
          made_sooner first (plan old) (subst (λ (p : Plan). 1 ≤ call_of p) moved (two.named (one.stays free) is).some),
        );
        used_up = λ free is. two.used_up (one.stays free) is;
        waits = λ a b. absurd (ends a b);
        stays = λ free. two.stays (one.stays free);
      }
    where
      later_call : W → call_of (plan mid) ≡ call_of (plan old) - first → call_of (plan old) ≤ calls → first < call_of (plan old) → ⊥
      later_call is call reached beyond = two.spared is (record { some = omega (arith, call); reached = omega (arith, call, sum) })

      by : W → IsWithin calls (plan old) → call_of (plan mid) ≡ call_of (plan old) - first → ⊥
      by is within call = elim (cases_lt first (call_of (plan old))) [
        | inl beyond ↦ later_call is call within.reached beyond
        | inr not_beyond ↦ one.spared made (record { some = within.some; reached = omega arith })
      ]

  -- a run that was made whole, in words by which it was
  pub run_whole : (calls : ℕ) (old new : D) (W C V E : Type 0) → W → V → (E → ⊥) → Run calls old new W C → Run calls old new V E
  run_whole calls old new W C V E made done not_cut run =
      run_as calls old new W C V E (λ is. made) (λ is. absurd (not_cut is)) (λ a b. absurd (a done)) run
