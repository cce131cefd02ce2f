-- What a link does to the datagrams that wait at it, and to those that it sent.
use Rattle.std.specs.Prelude.{◌≡◌, ℕ, min, List, [], ◌∷◌, ◌++◌, length, take, ⊤, Option, Some, None, Result, MatchResult}
use Rattle.fab_io.specs.declared.links.Datagram.{Datagram}

-- datagrams that are told stay as they were
abbrev pub Stays : Option (List Datagram) → Option (List Datagram) → Type 0
Stays None after = ⊤
Stays (Some before) None = ⊥
Stays (Some before) (Some after) = after ≡ before

-- datagrams that are told begin with these, and lose them
abbrev pub Loses : Option (List Datagram) → Option (List Datagram) → List Datagram → Type 0
Loses None after lost = ⊤
Loses (Some before) None lost = ⊥
Loses (Some before) (Some after) lost = before ≡ lost ++ after

-- datagrams that are told grow by these
abbrev pub Grows : Option (List Datagram) → Option (List Datagram) → List Datagram → Type 0
Grows None after more = ⊤
Grows (Some before) None more = ⊥
Grows (Some before) (Some after) more = after ≡ before ++ more

-- none is told
abbrev pub HasNone : Option (List Datagram) → Type 0
HasNone None = ⊤
HasNone (Some waiting) = waiting ≡ []

-- a datagram from that port stands at the front of a buffer, in so many bytes: all of it, or what there is room for
pub record IsGiven (datagram : Datagram) (port n : ℕ) (buffer : List ℕ) : Type 0 where
  pub port_is : port ≡ datagram.port
  pub length_is : n ≡ min (length datagram.bytes) (length buffer)
  pub bytes_are : take n buffer ≡ take n datagram.bytes

-- a look gave the first of the datagrams that waited, which waits no longer, or there was none
abbrev pub Looks : Option (List Datagram) → Option (List Datagram) → Option (ℕ × ℕ) → List ℕ → Type 0
Looks before after None buffer = HasNone before × Stays before after
Looks before after (Some came) buffer =
    (datagram : Datagram) × Loses before after (datagram ∷ []) × IsGiven datagram came.0 came.1 buffer

-- `recv(into)` looked at `Ok`, and took nothing at `Err`
abbrev pub RecvTakes : {E : Type 0} → Option (List Datagram) → Option (List Datagram) → Result (Option (ℕ × ℕ)) E → List ℕ → Type 0
RecvTakes before after r into = MatchResult r (λ came. Looks before after came into) (λ _. Stays before after)

-- `send(port, from)` sent this datagram at `Ok`, and nothing at `Err`
abbrev pub SendAdds : {T E : Type 0} → Option (List Datagram) → Option (List Datagram) → Result T E → Datagram → Type 0
SendAdds before after r datagram = MatchResult r (λ _. Grows before after (datagram ∷ [])) (λ _. Stays before after)
