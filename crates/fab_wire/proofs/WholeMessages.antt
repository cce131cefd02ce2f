-- Which message the bytes of a datagram spell, and where they stop.
use Rattle.std.proofs.Common.{◌≡◌, ℕ, ◌+◌, ◌≤◌, Bool, true, false, cond, eqb, List, [], ◌∷◌, ◌++◌, length, Result, Ok, Err, refl, sym, ap, subst, ◌∙◌, arith, inl, inr, append_assoc}
use Rattle.std.proofs.lemmas.Bool.{eqb-true}
use Rattle.std.proofs.lemmas.List.{append-nil, length-append, nil_from_length}
use Rattle.messages.specs.declared.packets.Message.{Message}
use Rattle.fields.specs.Parts.{Part, AllFit, bytes_of, spelled}
use Rattle.fields.specs.Reading.{◌>>=◌}
use Rattle.fields.specs.Laws.{IsBytes, Front, front_none, front_after, IsRead, left_of, no_more}
use Rattle.fab_wire.specs.Spelling.{fields_of, message_codec, datagram_of, Spells, Begins, IsMalformed}

-- ---- which message the bytes spell

-- what is spelled so is read
pub spells_read : (bytes : List ℕ) (m : Message) → Spells bytes m → datagram_of bytes ≡ Ok m
unfolding datagram_of
spells_read bytes m spells =
    let again : message_codec.read bytes ≡ Ok (m, []) = ap message_codec.read (spells.bytes_are ∙ sym (append-nil (spelled (fields_of m))))
    ∙ message_codec.law.again m [] tt spells.fits in
    ap (λ (r : Result (Message × List ℕ) ℕ). r >>= λ x. cond (eqb (length x.1) 0) (Ok x.0) (Err (length x.1))) again

abbrev read : Message → Result Message ℕ
read m = Ok m

-- no bytes spell two messages
pub one_message : (bytes : List ℕ) (a b : Message) → Spells bytes a → Spells bytes b → a ≡ b
one_message bytes a b spells_a spells_b =
    let same : read a ≡ read b = sym (spells_read bytes a spells_a) ∙ spells_read bytes b spells_b in
    cc

-- ---- where they stop

-- the bytes begin with the first parts of a message where they begin with the parts that stand there
begins : (a : List Part) (bytes : List ℕ) (left : ℕ) → Front a bytes left
    → (front : List Part) × (back : List Part) × (tail : List ℕ) × (a ≡ front ++ back) × (bytes ≡ spelled front ++ tail) × (length tail ≡ left)
begins [] bytes left e = ([], [], bytes, refl, refl, e)
begins (part ∷ a) bytes left (inl e) = ([], part ∷ a, bytes, refl, refl, e)
begins (part ∷ a) bytes left (inr w) =
    let more = begins a w.0 left w.2 in (
      part ∷ more.0,
      more.1,
      more.2,
      ap (λ (t : List Part). part ∷ t) more.3,
      w.1 ∙ ap (λ (t : List ℕ). bytes_of part ++ t) more.4 ∙ sym (append_assoc (bytes_of part) (spelled more.0) more.2),
      more.5,
    )

message_begins : (bytes : List ℕ) (m : Message) (at left : ℕ) → AllFit (fields_of m) → Front (fields_of m) bytes left → at + left ≡ length bytes → Begins bytes m at
message_begins bytes m at left fits there sum =
    let b = begins (fields_of m) bytes left there in
    record {
      front = b.0;
      back = b.1;
      tail = b.2;
      fits = fits;
      fields = b.3;
      bytes_are = b.4;
      at_is = omega (arith, ap (λ (t : List ℕ). length t) b.4, b.5, sum, length-append (spelled b.0) b.2);
    }

all_there : (a : List Part) (rest : List ℕ) → Front a (spelled a ++ rest) (length rest)
all_there [] rest = refl
all_there (part ∷ a) rest = inr (spelled a ++ rest, append_assoc (bytes_of part) (spelled a) rest, all_there a rest)

-- so many parts of a message are there
begins_at : (bytes : List ℕ) (at : ℕ) (r : Result (Message × List ℕ) ℕ) → IsRead (λ m. Unit {0}) fields_of bytes r → at + left_of r ≡ length bytes
    → (m : Message) × Begins bytes m at
begins_at bytes at (Ok x) (u, took) sum =
    let there : Front (fields_of x.0) bytes (length x.1) = subst (λ (b : List ℕ). Front (fields_of x.0) b (length x.1)) (sym took.parts)
    (all_there (fields_of x.0) x.1) in
    (x.0, message_begins bytes x.0 at (length x.1) took.fits there sum)
begins_at bytes at (Err left) s sum = (s.value, message_begins bytes s.value at left s.fits s.front sum)

-- what a datagram is read as: the message that it spells, or how many bytes are left
abbrev Whole : List ℕ → Result (Message × List ℕ) ℕ → Result Message ℕ → Type 0
Whole bytes r (Ok m) = Spells bytes m
Whole bytes r (Err left) = left_of r ≡ left

whole_by : (bytes : List ℕ) (m : Message) (rest : List ℕ) → IsRead (λ m. Unit {0}) fields_of bytes (Ok (m, rest)) → (b : Bool) → eqb (length rest) 0 ≡ b
    → Whole bytes (Ok (m, rest)) (cond b (Ok m) (Err (length rest)))
whole_by bytes m rest (u, took) true e = record {
  fits = took.fits;
  bytes_are = took.parts ∙ ap (λ (t : List ℕ). spelled (fields_of m) ++ t) (nil_from_length rest (eqb-true _ _ e)) ∙ append-nil (spelled (fields_of m));
}
whole_by bytes m rest took false e = refl

whole : (bytes : List ℕ) (r : Result (Message × List ℕ) ℕ) → IsRead (λ m. Unit {0}) fields_of bytes r
    → Whole bytes r (r >>= λ x. cond (eqb (length x.1) 0) (Ok x.0) (Err (length x.1)))
whole bytes (Ok x) read = whole_by bytes x.0 x.1 read (eqb (length x.1) 0) refl
whole bytes (Err left) read = refl

datagram_read : (bytes : List ℕ) → IsBytes bytes → Whole bytes (message_codec.read bytes) (datagram_of bytes)
unfolding datagram_of
datagram_read bytes isb = whole bytes (message_codec.read bytes) (message_codec.law.reads bytes isb)

-- what is read is spelled so
pub read_spells : (bytes : List ℕ) (m : Message) → IsBytes bytes → datagram_of bytes ≡ Ok m → Spells bytes m
read_spells bytes m isb e = subst (λ (r : Result Message ℕ). Whole bytes (message_codec.read bytes) r) e (datagram_read bytes isb)

stops_there : (bytes : List ℕ) (left : ℕ) → IsBytes bytes → datagram_of bytes ≡ Err left → left_of (message_codec.read bytes) ≡ left
stops_there bytes left isb e = subst (λ (r : Result Message ℕ). Whole bytes (message_codec.read bytes) r) e (datagram_read bytes isb)

pub left_within : (bytes : List ℕ) (left : ℕ) → IsBytes bytes → datagram_of bytes ≡ Err left → left ≤ length bytes
left_within bytes left isb e = omega (arith, no_more message_codec.law bytes isb, stops_there bytes left isb e)

failed : (m : Message) (left : ℕ) → read m ≡ Err left → ⊥
failed m left e = absurd cc

pub malformed_at : (bytes : List ℕ) (left at : ℕ) → IsBytes bytes → datagram_of bytes ≡ Err left → at + left ≡ length bytes → IsMalformed bytes at
malformed_at bytes left at isb e sum =
    let stops = stops_there bytes left isb e in
    record {
      no_message = λ m spells. failed m left (sym (spells_read bytes m spells) ∙ e);
      reached = begins_at bytes at (message_codec.read bytes) (message_codec.law.reads bytes isb) (omega (arith, stops, sum));
      no_further = λ m further b.
          let there : Front (fields_of m) bytes (length b.tail) = subst (λ (fs : List Part). Front fs bytes (length b.tail)) (sym b.fields)
          (subst (λ (t : List ℕ). Front (b.front ++ b.back) t (length b.tail)) (sym b.bytes_are) (front_after b.front b.back b.tail (length b.tail) (front_none b.back b.tail (length b.tail) refl))) in
          let within = message_codec.law.furthest bytes m (length b.tail) isb tt b.fits there in
          omega (arith, within, stops, sum, b.at_is, ap (λ (t : List ℕ). length t) b.bytes_are, length-append (spelled b.front) b.tail);
    }
