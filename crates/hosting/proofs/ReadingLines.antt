-- Reading a line, piece by piece.
use Rattle.std.proofs.Common.{◌≡◌, ◌≢◌, All, min, get_or, append_assoc, ne_eqb, ℕ, zero, suc, ◌+◌, ◌-◌, ◌*◌, ◌<◌, ◌≤◌, true, false, List, [], ◌∷◌, ◌++◌, length, take, Option, Some, None, Ok, Err, refl, sym, ap, subst, ◌∙◌, arith, inl, inr}
use Rattle.std.specs.Io.KnownBytes.{Consumes, Keeps, IsAtEnd}
use Rattle.std.proofs.KnownBytes.{Consumes-nil, Consumes-trans, Consumes-kept, Keeps-refl}
use Rattle.std.proofs.lemmas.List.{length-append, length-take, take_all, take_more, take_min}
use Rattle.std.proofs.lemmas.List.Elements.{All-head, All-tail}
use Rattle.std.proofs.Math.Seq.{take-append-add}
use Rattle.std.proofs.Transfers.{All-of_StopsAt}
use Rattle.std.specs.Io.{StopsAt}
use Rattle.std.proofs.lemmas.Bool.{cases_Bool}
use Rattle.std.proofs.lemmas.Bool.Decides.{nat_tests}
use Rattle.std.proofs.lemmas.List.Folds.{list_any-append}
use Rattle.lines.specs.Lines.{is_line_feed}
use Rattle.hosting.specs.declared.faults.HostFault.{HostFault}
use Rattle.hosting.specs.declared.reading.LineRead.{LineRead}
use Rattle.hosting.specs.Reading.{turn_bytes, most_kept, AreTurnsOf, HasNoFeed, IsWhole, IsFront, Reads, ReadsLine, IsReading, IsLine, IsLast}

-- bytes of which none is 10 have no line feed
HasNoFeed-of_All : (bytes : List ℕ) → All (λ byte. byte ≢ 10) bytes → HasNoFeed bytes
HasNoFeed-of_All [] none = refl
HasNoFeed-of_All (b ∷ bytes) none =
    let rest = HasNoFeed-of_All bytes (All-tail (λ (byte : ℕ). byte ≢ 10) b bytes none) in
    let first : is_line_feed b ≡ false = ne_eqb b 10 (All-head (λ (byte : ℕ). byte ≢ 10) b bytes none) in
    grind (arith, nat_tests, rest, first)

HasNoFeed-more : (bytes piece : List ℕ) → HasNoFeed bytes → HasNoFeed piece → HasNoFeed (bytes ++ piece)
HasNoFeed-more bytes piece none more =
    let all = list_any-append is_line_feed bytes piece in
    grind (arith, nat_tests, all, none, more)

-- a piece that stops at a line feed, and whose last byte is none
pub HasNoFeed-piece : (piece : List ℕ) (last : ℕ) → 0 < length piece → last ≡ get_or piece (length piece - 1) last → is_line_feed last ≡ false → StopsAt piece 10
    → HasNoFeed piece
HasNoFeed-piece piece last some is none stops =
    HasNoFeed-of_All piece (All-of_StopsAt piece 10 (length piece) last refl (λ zero. omega (arith, zero, some)) is (λ e. absurd (grind (arith, nat_tests, none, e))) stops)

-- a piece that stops at a line feed, and whose last byte is one
pub IsWhole-piece : (line piece : List ℕ) (last : ℕ) → HasNoFeed line → 0 < length piece → last ≡ get_or piece (length piece - 1) last → last ≡ 10 → StopsAt piece 10
    → IsWhole (line ++ piece)
IsWhole-piece line piece last none some is feed stops =
    let front = take (length piece - 1) piece in
    let split : piece ≡ front ++ (10 ∷ []) =
    sym (take_all (length piece - 1 + 1) piece (omega (arith, some))) ∙ take_more piece (length piece - 1) last (omega (arith, some))
    ∙ ap (λ (b : ℕ). front ++ (b ∷ [])) (sym is ∙ feed) in (
      line ++ front,
      HasNoFeed-more line front none (HasNoFeed-of_All front stops),
      ap (λ (l : List ℕ). line ++ l) split ∙ sym (append_assoc line front (10 ∷ [])),
    )

-- with a piece that stops at a line feed it is a front of a line still
pub IsFront-piece : (line piece : List ℕ) (last : ℕ) → HasNoFeed line → 0 < length piece → last ≡ get_or piece (length piece - 1) last → StopsAt piece 10
    → IsFront (line ++ piece)
IsFront-piece line piece last none some is stops =
    elim (cases_Bool (is_line_feed last)) [
      | inl feed ↦ inr (IsWhole-piece line piece last none some is (grind (arith, nat_tests, feed)) stops)
      | inr other ↦ inl (HasNoFeed-more line piece none (HasNoFeed-piece piece last some is other stops))
    ]

-- the front of more bytes is that of their front and a piece
take-more : (n : ℕ) (bytes piece : List ℕ) → take n (take n bytes ++ piece) ≡ take n (bytes ++ piece)
take-more zero bytes piece = refl
take-more (suc n) [] piece = refl
take-more (suc n) (b ∷ bytes) piece = ap (λ (l : List ℕ). b ∷ l) (take-more n bytes piece)

-- nothing is read yet
pub IsReading-none : (turns : ℕ) (told : Option (List ℕ)) → IsReading turns turns 0 told told []
IsReading-none turns told =
    record { line = []; consumes = Consumes-nil told; no_feed = refl; kept_is = refl; pays = omega arith; few = omega arith }

-- a piece is read that has no line feed
pub IsReading-more : (turns now paid then paid_then : ℕ) (told before after : Option (List ℕ)) (kept kept_then piece : List ℕ)
    → IsReading turns now paid told before kept → Consumes before after piece → then * turn_bytes + paid_then + length piece ≡ now * turn_bytes + paid
    → paid_then < turn_bytes → kept_then ≡ take most_kept (kept ++ piece) → HasNoFeed piece → IsReading turns then paid_then told after kept_then
IsReading-more turns now paid then paid_then told before after kept kept_then piece h came pays few keeps none =
    record {
      line = h.line ++ piece;
      consumes = Consumes-trans told before after h.line piece h.consumes came;
      no_feed = HasNoFeed-more h.line piece h.no_feed none;
      kept_is = keeps ∙ ap (λ (l : List ℕ). take most_kept (l ++ piece)) h.kept_is ∙ take-more most_kept h.line piece;
      pays = omega (arith, h.pays, pays, length-append h.line piece);
      few = few;
    }

-- the turns that were taken
Reads-turns : (turns now paid bytes : ℕ) → now * turn_bytes + paid + bytes ≡ turns * turn_bytes → paid < turn_bytes
    → (turns ≡ now + (turns - now)) × AreTurnsOf bytes (turns - now)
Reads-turns turns now paid bytes pays few = (omega (arith, pays), record { enough = omega (arith, pays); begun = omega (arith, pays, few) })

-- what was read so far
pub Reads-now : (turns now paid : ℕ) (told before after : Option (List ℕ)) (kept : List ℕ) → (h : IsReading turns now paid told before kept) → Keeps before after
    → Reads turns now told after h.line (turns - now)
Reads-now turns now paid told before after kept h keeps =
    let count = Reads-turns turns now paid (length h.line) h.pays h.few in
    record { consumes = Consumes-kept told before after h.line h.consumes keeps; counted = count.0; turns_of = count.1 }

-- and a piece more
pub Reads-more : (turns now paid then paid_then : ℕ) (told before after : Option (List ℕ)) (kept piece : List ℕ) → (h : IsReading turns now paid told before kept)
    → Consumes before after piece → then * turn_bytes + paid_then + length piece ≡ now * turn_bytes + paid → paid_then < turn_bytes
    → Reads turns then told after (h.line ++ piece) (turns - then)
Reads-more turns now paid then paid_then told before after kept piece h came pays few =
    let long = length-append h.line piece in
    let count = Reads-turns turns then paid_then (length (h.line ++ piece)) (omega (arith, long, h.pays, pays)) few in
    record { consumes = Consumes-trans told before after h.line piece h.consumes came; counted = count.0; turns_of = count.1 }

-- a call that failed, at whatever fault
pub ReadsLine-failed : (turns now paid : ℕ) (told before after : Option (List ℕ)) (kept : List ℕ) (fault : HostFault) → IsReading turns now paid told before kept
    → Keeps before after → ReadsLine turns now told after (Err fault)
ReadsLine-failed turns now paid told before after kept fault h keeps =
    record { line = h.line; taken = turns - now; reads = Reads-now turns now paid told before after kept h keeps; answers = inl h.no_feed }

pub ReadsLine-lost : (turns now paid then paid_then last : ℕ) (told before after : Option (List ℕ)) (kept piece : List ℕ) (fault : HostFault)
    → IsReading turns now paid told before kept → Consumes before after piece → then * turn_bytes + paid_then + length piece ≡ now * turn_bytes + paid
    → paid_then < turn_bytes → 0 < length piece → last ≡ get_or piece (length piece - 1) last → StopsAt piece 10 → ReadsLine turns then told after (Err fault)
ReadsLine-lost turns now paid then paid_then last told before after kept piece fault h came pays few some is stops =
    record {
      line = h.line ++ piece;
      taken = turns - then;
      reads = Reads-more turns now paid then paid_then told before after kept piece h came pays few;
      answers = IsFront-piece h.line piece last h.no_feed some is stops;
    }

-- no turn is left
pub ReadsLine-out : (turns now paid : ℕ) (told before : Option (List ℕ)) (kept : List ℕ) → IsReading turns now paid told before kept → paid ≡ 0 → now ≡ 0
    → ReadsLine turns now told before (Ok None)
ReadsLine-out turns now paid told before kept h none left =
    record {
      line = h.line;
      taken = turns - now;
      reads = Reads-now turns now paid told before before kept h (Keeps-refl before);
      answers = inr (h.no_feed, left, omega (arith, h.pays, none, left));
    }

-- no byte was left
empty_line : (line kept : List ℕ) → kept ≡ take most_kept line → length kept ≡ 0 → line ≡ []
empty_line [] kept same none = refl
empty_line (b ∷ line) kept same none = absurd (omega (arith, ap length same, length-take most_kept (b ∷ line), none))

ReadsLine-ended : (turns now paid : ℕ) (told before after : Option (List ℕ)) (kept : List ℕ) → IsReading turns now paid told before kept
    → Keeps before after → IsAtEnd after → length kept ≡ 0 → ReadsLine turns now told after (Ok None)
ReadsLine-ended turns now paid told before after kept h keeps end none =
    record {
      line = h.line;
      taken = turns - now;
      reads = Reads-now turns now paid told before after kept h keeps;
      answers = inl (empty_line h.line kept h.kept_is none, end);
    }

ReadsLine-last : (turns now paid : ℕ) (told before after : Option (List ℕ)) (kept : List ℕ) (read : LineRead) → IsReading turns now paid told before kept
    → Keeps before after → IsAtEnd after → 1 ≤ length kept → read.kept ≡ kept → read.is_last ≡ true → ReadsLine turns now told after (Ok (Some read))
ReadsLine-last turns now paid told before after kept read h keeps end some same last =
    record {
      line = h.line;
      taken = turns - now;
      reads = Reads-now turns now paid told before after kept h keeps;
      answers = (
        same ∙ h.kept_is,
        subst (IsLine after h.line) (sym last) (h.no_feed, omega (arith, ap length h.kept_is, length-take most_kept h.line, some), end),
      );
    }

-- no byte was read
pub Keeps-none : (before after : Option (List ℕ)) (piece : List ℕ) → length piece ≡ 0 → Consumes before after piece → Keeps before after
Keeps-none None after piece none came = tt
Keeps-none (Some x) None piece none came = absurd came
Keeps-none (Some x) (Some y) [] none came = sym came
Keeps-none (Some x) (Some y) (b ∷ piece) none came = absurd (omega (arith, none))

-- the source is at its end
pub ReadsLine-end : (turns now paid : ℕ) (told before after : Option (List ℕ)) (kept : List ℕ) (last : Option LineRead) → IsReading turns now paid told before kept
    → Keeps before after → IsAtEnd after → IsLast kept last → ReadsLine turns now told after (Ok last)
ReadsLine-end turns now paid told before after kept None h keeps end is = ReadsLine-ended turns now paid told before after kept h keeps end is
ReadsLine-end turns now paid told before after kept (Some read) h keeps end is =
    ReadsLine-last turns now paid told before after kept read h keeps end is.0 is.1 is.2

-- the line's end was read
pub ReadsLine-whole : (turns now paid then paid_then last : ℕ) (told before after : Option (List ℕ)) (kept kept_then piece : List ℕ) (read : LineRead)
    → IsReading turns now paid told before kept → Consumes before after piece → then * turn_bytes + paid_then + length piece ≡ now * turn_bytes + paid
    → paid_then < turn_bytes → kept_then ≡ take most_kept (kept ++ piece) → 0 < length piece → last ≡ get_or piece (length piece - 1) last → last ≡ 10
    → StopsAt piece 10 → read.kept ≡ kept_then → read.is_last ≡ false → ReadsLine turns then told after (Ok (Some read))
ReadsLine-whole turns now paid then paid_then last told before after kept kept_then piece read h came pays few keeps some is feed stops same more =
    record {
      line = h.line ++ piece;
      taken = turns - then;
      reads = Reads-more turns now paid then paid_then told before after kept piece h came pays few;
      answers = (
        same ∙ keeps ∙ ap (λ (l : List ℕ). take most_kept (l ++ piece)) h.kept_is ∙ take-more most_kept h.line piece,
        subst (IsLine after (h.line ++ piece)) (sym more) (IsWhole-piece h.line piece last h.no_feed some is feed stops),
      );
    }

-- what is kept of a line, and of a piece as much as there is room for
pub kept_more : (n : ℕ) (old piece : List ℕ) → length old ≤ n → old ++ take (min (n - length old) (length piece)) piece ≡ take n (old ++ piece)
kept_more n old piece few =
    ap (λ (l : List ℕ). old ++ l) (take_min (n - length old) piece) ∙ sym (take-append-add old piece (n - length old))
    ∙ ap (λ (k : ℕ). take k (old ++ piece)) (let all : length old + (n - length old) ≡ n = omega (arith, few) in all)
