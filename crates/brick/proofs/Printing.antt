-- What the exit status says of how a program ended, and of its sink.
use Rattle.std.proofs.Common.{◌≡◌, ◌≢◌, ◌⊎◌, ◌≤◌, ℕ, arith, List, Option, inl, inr, refl, ◌∙◌}
use Rattle.std.proofs.lemmas.Bool.{cases_lt}
use Rattle.fab_io.specs.Ends.{Rose, Kept}
use Rattle.fab_base.proofs.Keeping.{Rose-later}
use Rattle.brick.specs.declared.endings.Ending.{Ending}
use Rattle.brick.specs.declared.endings.Ending.TheVariants.{Formatted, Ended, Commanded, Served, Usage, BadLayout, LongLayout, Source, Sink, Memory, Disk, Host, NotAStore, Worn}
use Rattle.brick_words.specs.declared.words.Task.TheVariants.{Commands, Session}
use Rattle.brick_words.specs.declared.words.Work.{Work}
use Rattle.brick_words.specs.declared.words.Work.TheVariants.{Format, Serve, HostAll}
use Rattle.brick.specs.Bricks.{FailsAt, OutFailed}
use Rattle.brick.specs.Endings.{status_of, Prints, IsDone}

-- a count that rose, and later
rose_then : {a b c : ℕ} → Rose a b → b ≤ c → Rose a c
rose_then r more = elim r [ inl less ↦ inl (omega (arith, less, more)) | inr limit ↦ inr (omega (arith, limit, more)) ]

six_or_not : (n : ℕ) → (n ≡ 6) ⊎ (n ≢ 6)
six_or_not n =
    elim (cases_lt n 6) [
      | inl below ↦ inr (λ e. omega (arith, below, e))
      | inr least ↦ elim (cases_lt 6 n) [ inl above ↦ inr (λ e. omega (arith, above, e)) | inr most ↦ inl (omega (arith, least, most)) ]
    ]

-- the sink failed before the last text, or at it
kept_six : {a b c : ℕ} {S T U F G : Type 0} (wanted status : ℕ) → (G → (status ≡ 6) × (wanted ≡ 6 → F)) → Kept a b S T F
    → Kept b c T U ((status ≡ 6) × (wanted ≢ 6)) → Kept a c S U G
kept_six wanted status says first then = record {
  later = let p = first.later in let q = then.later in omega arith;
  rose = λ e. elim (six_or_not wanted) [
    | inl six ↦ rose_then (first.rose ((says e).1 six)) then.later
    | inr other ↦ Rose-later first.later (then.rose ((says e).0, other))
  ];
  stays = λ s. then.stays (first.stays s);
  never = λ s e. elim (six_or_not wanted) [
    | inl six ↦ first.never s ((says e).1 six)
    | inr other ↦ then.never (first.stays s) ((says e).0, other)
  ];
}

-- what the program's sink has failed at, by the work
out_failed : (work : Work) (ending : Ending) (status : ℕ) → OutFailed work ending status → (status ≡ 6) × (status_of ending ≡ 6 → FailsAt work ending)
out_failed (Format id) ending status six = (six, λ e. e)
out_failed (Serve id turns) ending status six = (six, λ e. e)
out_failed (HostAll (Commands turns)) ending status six = (six, λ e. e)
out_failed (HostAll (Session port turns)) ending status six = (six.0, λ e. absurd (six.1 e))

pub kept_out : {a b c : ℕ} {S T U : Type 0} (work : Work) (ending : Ending) (status : ℕ) → Kept a b S T (FailsAt work ending)
    → Kept b c T U ((status ≡ 6) × (status_of ending ≢ 6)) → Kept a c S U (OutFailed work ending status)
kept_out work ending status first then = kept_six (status_of ending) status (out_failed work ending status) first then

-- the work was done at status 0, and at 7 no memory was left
done_status : (ending : Ending) → IsDone ending → (status_of ending ≡ 0) ⊎ (status_of ending ≡ 7)
done_status (Formatted me) done = inl refl
done_status (Ended turns malformed) done = inl refl
done_status Commanded done = inl refl
done_status (Served end) done = inl refl
done_status Usage done = absurd done
done_status (BadLayout fault) done = absurd done
done_status LongLayout done = absurd done
done_status Source done = absurd done
done_status Sink done = absurd done
done_status Memory done = inr refl
done_status Disk done = absurd done
done_status Host done = absurd done
done_status NotAStore done = absurd done
done_status Worn done = absurd done

-- so a sound sink leaves these alone
pub completes : (ending : Ending) (said new : Option (List ℕ)) (text : List ℕ) (status : ℕ) → IsDone ending
    → Prints said new text (status_of ending) status → ((status ≡ 6) × (status_of ending ≢ 6) → ⊥) → (status ≡ 0) ⊎ (status ≡ 7)
completes ending said new text status done prints never =
    elim (done_status ending done) [
      | inl zero_is ↦ elim prints [
        | inl same ↦ inl (same.0 ∙ zero_is)
        | inr other ↦ elim other [ inl six ↦ absurd (never (six.0, λ e. omega (arith, e, zero_is))) | inr seven ↦ inr seven.0 ]
      ]
      | inr seven_is ↦ elim prints [
        | inl same ↦ inr (same.0 ∙ seven_is)
        | inr other ↦ elim other [ inl six ↦ absurd (never (six.0, λ e. omega (arith, e, seven_is))) | inr seven ↦ inr seven.0 ]
      ]
    ]
