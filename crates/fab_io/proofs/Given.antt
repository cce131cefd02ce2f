-- What a look at a link gives.
use Rattle.std.proofs.Common.{◌≡◌, ℕ, ◌+◌, ◌≤◌, List, [], length, take, drop, refl, sym, ap, subst, ◌∙◌, arith, length-take-le, drop_of_length-le}
use Rattle.std.proofs.lemmas.List.{take-take, drop-drop}
use Rattle.fab_io.specs.declared.links.Datagram.{Datagram}
use Rattle.fab_io.specs.Calls.{CallCount, after_call}
use Rattle.fab_io.specs.Datagrams.{IsGiven}
use Rattle.fab_io.specs.Scripts.{LinkInMemory, after_look}

-- the front of a buffer is a datagram that a link may have given
pub IsGiven-front : (port n : ℕ) (buffer : List ℕ) → n ≤ length buffer → (datagram : Datagram) × Unit {0} × IsGiven datagram port n buffer
IsGiven-front port n buffer within = (
  record { port = port; bytes = take n buffer },
  tt,
  record {
    port_is = refl;
    length_is = omega (arith, length-take-le n buffer within);
    bytes_are = sym (take-take n n buffer (omega arith));
  },
)

-- a look at a link where no datagram waits
pub look_none : (datagrams sent : List Datagram) (at : ℕ) (made now : CallCount) (l : LinkInMemory)
    → record { waiting = drop at datagrams; sent = sent; calls = made } ≡ l → length datagrams ≤ at → now ≡ after_call made
    → (l.waiting ≡ []) × (drop at datagrams ≡ l.waiting) × (record { waiting = drop at datagrams; sent = sent; calls = now } ≡ after_look l)
look_none datagrams sent at made now l is all counted =
    let none = drop_of_length-le datagrams all in
    subst (λ (l : LinkInMemory). (l.waiting ≡ []) × (drop at datagrams ≡ l.waiting)
    × (record { waiting = drop at datagrams; sent = sent; calls = now } ≡ after_look l)) is (
      none,
      refl,
      ap (λ (c : CallCount). record { waiting = drop at datagrams; sent = sent; calls = c }) counted
          ∙ ap (λ (w : List Datagram). record { waiting = w; sent = sent; calls = after_call made }) (none ∙ sym (ap (drop 1) none)),
    )

-- a look at one where a datagram waits
pub look_one : (datagrams sent : List Datagram) (at : ℕ) (made now : CallCount) (l : LinkInMemory)
    → record { waiting = drop at datagrams; sent = sent; calls = made } ≡ l → now ≡ after_call made
    → record { waiting = drop (at + 1) datagrams; sent = sent; calls = now } ≡ after_look l
look_one datagrams sent at made now l is counted =
    subst (λ (l : LinkInMemory). record { waiting = drop (at + 1) datagrams; sent = sent; calls = now } ≡ after_look l) is
    (ap (λ (c : CallCount). record { waiting = drop (at + 1) datagrams; sent = sent; calls = c }) counted
    ∙ ap (λ (w : List Datagram). record { waiting = w; sent = sent; calls = after_call made }) (sym (drop-drop 1 at datagrams)))
