-- A program that finds no memory for its words has done nothing.
use Rattle.std.proofs.Common.{◌≡◌, ℕ, arith, List, Option, Some, None, Err, inl, inr, refl, sym, append-nil}
use Rattle.std.proofs.KnownBytes.{Keeps-refl}
use Rattle.brick.specs.declared.endings.Ending.TheVariants.{Memory}
use Rattle.brick.specs.Bricks.{OutFailed, Runs}
use Rattle.brick.specs.Hosts.{HostSeen}
use Rattle.brick.specs.Views.{Views, Streams}
use Rattle.brick_words.specs.declared.words.Task.TheVariants.{Commands, Session}
use Rattle.brick_words.specs.declared.words.Work.{Work}
use Rattle.brick_words.specs.declared.words.Work.TheVariants.{Format, Serve, HostAll}
use Rattle.brick_words.specs.Words.{Wanted}
use Rattle.brick.proofs.Lending.{told_same}

-- its status is that of no failed sink
not_six : (seven : ℕ) → seven ≡ 7 → seven ≡ 6 → ⊥
not_six seven is six = omega (arith, is, six)

not_zero : (seven : ℕ) → seven ≡ 7 → seven ≡ 0 → ⊥
not_zero seven is zero = omega (arith, is, zero)

-- nor does a sink fail that was not written to
not_out : (work : Work) → OutFailed work Memory 7 → ⊥
not_out (Format id) six = not_six 7 refl six
not_out (Serve id turns) six = not_six 7 refl six
not_out (HostAll (Commands turns)) six = not_six 7 refl six
not_out (HostAll (Session port turns)) six = not_six 7 refl six.0

-- whatever the words want
pub lacking : {S D L N C : Type 0} (e : Streams S N) (v : Views D L C) (host : HostSeen S D L N C) (out : Option (List ℕ)) (kept : Type 0 → Type 0)
    (w : Option Wanted) → ((F : Type 0) → (F → ⊥) → kept F) → Runs e v host host out out kept 7 w
lacking e v host out kept None keeps = (inr (inr (refl, Keeps-refl out)), keeps (7 ≡ 6) (not_six 7 refl))
lacking e v host out kept (Some w) keeps = record {
  said = out;
  ending = Memory;
  works = record { found = Err Memory; between = host; finds = inl (refl, told_same _ host.holds (λ h. refl)); goes_on = (refl, refl, refl) };
  printed = inr (inr (refl, Keeps-refl out));
  asks = record { some = (0, sym (append-nil host.asked)); all = λ none. absurd (not_zero 7 refl none) };
  sink = keeps _ (not_out w.work);
}
