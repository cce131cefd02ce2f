-- The laws of changes of a disk.
use Rattle.std.proofs.Common.{◌≡◌, ◌≢◌, inl, inr, ⊎_elim, ℕ, ◌+◌, ◌≤◌, List, refl, sym, ◌∙◌, subst, arith}
use Rattle.std.proofs.lemmas.Bool.{cases_lt}
use Rattle.fab_disk.specs.declared.disk.Disk as on_disk
use Rattle.fab_disk.specs.Disk.{Elapses, IsUntouched, LeavesOnly}
use Rattle.fab_disk.specs.Changing.{End, Whole, Cut, NotBegun, Stands, Still, Run}
use Rattle.fab_disk.proofs.Moments.{started, goes_on, joined, widened, kept_both}
use Rattle.fab_disk.proofs.Plans.{sooner_none, run_as, run_after, run_not_begun, run_both, run_cut}

-- a run that was begun was made whole or cut short
begun_ends : (end : End) → end ≢ NotBegun → (end ≡ Whole → ⊥) → (end ≡ Cut → ⊥) → ⊥
begun_ends Whole begun not_whole not_cut = not_whole refl
begun_ends Cut begun not_whole not_cut = not_cut refl
begun_ends NotBegun begun not_whole not_cut = begun refl

module _ {D : Type 0} (d : on_disk.Ghosts D) where
  -- what is so of images, in other words
  pub widen : (calls : ℕ) (Before During After Before' During' After' : List ℕ → Type 0) (old new : D) (end : End)
      → (d.tells → Before' (d.seen old) → Before (d.seen old))
      → (d.tells → Before' (d.seen old) → (image : List ℕ) → Before image → Before' image)
      → (d.tells → Before' (d.seen old) → (image : List ℕ) → During image → During' image)
      → (d.tells → (image : List ℕ) → After image → After' image)
      → Run d calls Before During After old new end → Run d calls Before' During' After' old new end
  widen calls Before During After Before' During' After' old new end from before during after run = record {
    moments = λ told stands. widened d.moment d.left_since old new During During' (during told stands.has)
        (run.moments told (begun told stands));
    whole = λ is told. record { only = (run.whole is told).only; has = after told (d.seen new) (run.whole is told).has };
    cut = λ is told stands.
        let stops = run.cut is told (begun told stands) in
        record {
          clock = stops.clock;
          settled = before told stands.has (d.certain new) stops.settled;
          early = λ le. before told stands.has (d.seen new) (stops.early le);
          late = λ lt. after told (d.seen new) (stops.late lt);
        };
    not_begun = run.not_begun;
    run = run.run;
    cause = run.cause;
  }
    where
      begun : d.tells → Stands d Before' old → Stands d Before old
      begun told stands = record { only = stands.only; has = from told stands.has }

  -- one run made whole that leaves what is so as it was, and then another that is not refused
  pub then : (first second calls : ℕ) (Before During After : List ℕ → Type 0) (old mid new : D) (end : End) → calls ≡ first + second → end ≢ NotBegun
      → Run d first Before During Before old mid Whole → Run d second Before During After mid new end → Run d calls Before During After old new end
  then first second calls Before During After old mid new end sum begun one two = record {
    moments = λ told stands. joined d.moment d.left_since old mid new During (one.moments told stands) (two.moments told (one.whole refl told));
    whole = two.whole;
    cut = λ is told stands.
        let stops = two.cut is told (one.whole refl told) in
        let made = one.run.counted told refl in
        record {
          clock = omega (arith, stops.clock, made, sum);
          settled = stops.settled;
          early = λ le. stops.early (omega (arith, made, sum));
          late = λ lt. stops.late (omega (arith, made, sum));
        };
    not_begun = λ is. absurd (begun is);
    run = run_both d.tells d.moment d.plan d.unlisted first second calls old mid new _ _ _ _ sum refl (begun_ends end begun) one.run two.run;
    cause = kept_both (d.faults old) (d.faults mid) (d.faults new) _ _ _ _ _ one.cause two.cause;
  }

  -- the first run was cut short, and so was the change
  pub cut_first : (first calls : ℕ) (Before During After : List ℕ → Type 0) (old new : D) → first + 2 ≤ calls
      → Run d first Before During Before old new Cut → Run d calls Before During After old new Cut
  cut_first first calls Before During After old new long one = record {
    moments = one.moments;
    whole = λ is. absurd cc;
    cut = λ is told stands.
        let stops = one.cut is told stands in
        record {
          clock = omega (arith, stops.clock);
          settled = stops.settled;
          early = λ le. elim (cases_lt (d.moment old + first) (d.moment new + 2)) [
            | inl late ↦ stops.late late
            | inr early ↦ stops.early (omega arith)
          ];
          late = λ lt. absurd (omega (arith, stops.clock));
        };
    not_begun = λ is. absurd cc;
    run = run_cut d.tells d.moment d.plan d.unlisted first calls old new _ _ (omega arith) (λ is. absurd cc) (λ not. absurd (not refl))
        (run_as d.tells d.moment d.plan d.unlisted first old new _ _ ⊥ (Cut ≡ Cut) (λ is. absurd is) (λ is. is) (λ a b. absurd (b refl)) one.run);
    cause = one.cause;
  }

  module _ (only_now : (disk : D) (image : List ℕ) → d.left_since disk (d.moment disk) image → d.may_leave disk image)
      (Before During : List ℕ → Type 0) (before : (image : List ℕ) → Before image → During image) (old mid : D)
      (F : Type 0) (rest : Still d old mid F) where
    untouched : IsUntouched d.seen d.may_leave d.moment d.left_since old mid
    untouched = rest.untouched

    -- what stood stands still
    stands_still : Stands d Before old → Stands d Before mid
    stands_still stands = record {
      only = λ image left. stands.only image (untouched.crash image left) ∙ sym untouched.content;
      has = subst Before (sym untouched.content) stands.has;
    }

    moments_still : Stands d Before old → LeavesOnly d.moment d.left_since old mid During
    moments_still stands =
        let here : (image : List ℕ) → d.may_leave old image → During image =
        λ image left. before image (subst Before (sym (stands.only image left)) stands.has) in
        goes_on d.moment d.left_since old old mid During (d.may_leave mid)
        (started d.moment d.left_since old During (λ image left. here image (only_now old image left)))
        untouched.time (λ image left. here image (untouched.crash image left))

    -- a call that was refused, and changed nothing
    pub still : (calls : ℕ) (After : List ℕ → Type 0) → Run d calls Before During After old mid NotBegun
    still calls After = record {
      moments = λ told stands. moments_still stands;
      whole = λ is. absurd cc;
      cut = λ is. absurd cc;
      not_begun = λ is. untouched;
      run = run_not_begun d.tells d.moment d.plan d.unlisted calls old mid _ _ (λ is. absurd cc)
          (record { same = rest.plan.same; stays = rest.plan.stays; never = λ free is. absurd cc });
      cause = record { later = rest.cause.later; rose = λ is. absurd cc; stays = rest.cause.stays; never = λ sound is. absurd cc };
    }

    -- a call that changed nothing and did not succeed: it was refused, or failed before the first call of a run
    pub idle : ((disk : D) → d.may_leave disk (d.certain disk)) → d.certain mid ≡ d.certain old → (calls : ℕ) (After : List ℕ → Type 0) (end : End)
        → 2 ≤ calls → (end ≡ Whole → ⊥) → (end ≡ Cut → F) → Run d calls Before During After old mid end
    idle certain_is_left certain calls After end long not_whole failed = record {
      moments = λ told stands. moments_still stands;
      whole = λ is. absurd (not_whole is);
      cut = λ is told stands. record {
        clock = omega (arith, untouched.clock);
        settled = subst Before (sym (certain ∙ stands.only (d.certain old) (certain_is_left old))) stands.has;
        early = λ le. subst Before (sym untouched.content) stands.has;
        late = λ lt. absurd (omega (arith, untouched.clock, long));
      };
      not_begun = λ is. untouched;
      run = run_not_begun d.tells d.moment d.plan d.unlisted calls old mid _ _ not_whole
          (record { same = rest.plan.same; stays = rest.plan.stays; never = λ free is. rest.plan.never free (failed is) });
      cause = record {
        later = rest.cause.later;
        rose = λ is. rest.cause.rose (failed is);
        stays = rest.cause.stays;
        never = λ sound is. rest.cause.never sound (failed is);
      };
    }

    -- a call that changes nothing, and then a run
    pub behind : ((disk : D) (t : ℕ) (image : List ℕ) → t ≤ d.moment disk → d.may_leave disk image → d.left_since disk t image) → (calls : ℕ) (After : List ℕ → Type 0) (new : D) (end : End) → Run d calls Before During After mid new end
        → Run d calls Before During After old new end
    behind counts calls After new end run = record {
      moments = λ told stands. joined d.moment d.left_since old mid new During (moments_still stands) (run.moments told (stands_still stands));
      whole = run.whole;
      cut = λ is told stands.
          let stops = run.cut is told (stands_still stands) in
          let clock = untouched.clock in
          record {
            clock = omega (arith, stops.clock, clock);
            settled = stops.settled;
            early = λ le. stops.early (omega (arith, clock));
            late = λ lt. stops.late (omega (arith, clock));
          };
      not_begun = λ is.
          let second = run.not_begun is in
          record {
            content = second.content ∙ untouched.content;
            crash = λ image left. untouched.crash image (second.crash image left);
            clock = second.clock ∙ untouched.clock;
            time = elapsed second;
          };
      run = run_after d.tells d.moment d.plan d.unlisted calls old mid new F _ _ rest.plan untouched.clock run.run;
      cause = kept_both (d.faults old) (d.faults mid) (d.faults new) _ _ _ _ _ rest.cause run.cause;
    }
      where
        elapsed : IsUntouched d.seen d.may_leave d.moment d.left_since mid new
            → Elapses (d.moment old) (d.moment new) (d.left_since old) (d.left_since new) (d.may_leave new)
        elapsed second = record {
          later = omega (arith, untouched.time.later, second.time.later);
          nothing_else = λ t image le since.
              ⊎_elim (λ past. inl (⊎_elim (λ had. had) (λ now. counts old t image le (untouched.crash image now)) (untouched.time.nothing_else t image le past)))
              (λ now. inr now)
              (second.time.nothing_else t image (omega (arith, le, untouched.time.later)) since);
          keeps = λ t image le past. second.time.keeps t image (omega (arith, le, untouched.time.later)) (untouched.time.keeps t image le past);
        }

  -- a call that was refused at once
  pub same : ((disk : D) (image : List ℕ) → d.left_since disk (d.moment disk) image → d.may_leave disk image) → (calls : ℕ)
      (Before During After : List ℕ → Type 0) → ((image : List ℕ) → Before image → During image) → (disk : D)
      → Run d calls Before During After disk disk NotBegun
  same only_now calls Before During After before disk = still only_now Before During before disk disk ⊥ (record {
    untouched = record {
      content = refl;
      crash = λ image left. left;
      clock = refl;
      time = record { later = omega arith; nothing_else = λ t image le left. inl left; keeps = λ t image le left. left };
    };
    plan = record { same = refl; stays = λ free. free; never = λ free is. is };
    cause = record { later = omega arith; rose = λ is. absurd is; stays = λ sound. sound; never = λ sound is. is };
  }) calls After

  -- a change that needs no call
  pub none : ((disk : D) (image : List ℕ) → d.left_since disk (d.moment disk) image → d.may_leave disk image)
      → (Before During After : List ℕ → Type 0) → ((image : List ℕ) → Before image → During image) → (disk : D)
      → (d.tells → Stands d After disk) → Run d 0 Before During After disk disk Whole
  none only_now Before During After before disk stands = record {
    moments = (same only_now 0 Before During After before disk).moments;
    whole = λ is. stands;
    cut = λ is. absurd cc;
    not_begun = λ is. absurd cc;
    run = record {
      counted = λ told is. omega arith;
      spared = λ is within. absurd (omega (arith, within.some, within.reached));
      later = λ is. sym (sooner_none (d.plan disk));
      named = λ free is. absurd cc;
      stopped = λ told free is. absurd cc;
      used_up = λ free is. absurd cc;
      waits = λ a b. refl;
      stays = λ free. free;
    };
    cause = record { later = omega arith; rose = λ is. absurd cc; stays = λ sound. sound; never = λ sound is. absurd cc };
  }

  -- a change that was refused made no call
  pub refused_any : (calls other : ℕ) (Before During After After' : List ℕ → Type 0) (old new : D) → Run d calls Before During After old new NotBegun
      → Run d other Before During After' old new NotBegun
  refused_any calls other Before During After After' old new run = record {
    moments = run.moments;
    whole = λ is. absurd cc;
    cut = λ is. absurd cc;
    not_begun = run.not_begun;
    run = run_not_begun d.tells d.moment d.plan d.unlisted other old new _ _ (λ is. absurd cc) (record {
      same = run.run.waits (λ is. absurd cc) (λ is. absurd cc);
      stays = run.run.stays;
      never = λ free is. absurd cc;
    });
    cause = run.cause;
  }
