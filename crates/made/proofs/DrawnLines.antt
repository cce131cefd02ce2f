-- Each line that may be drawn reads back as it is spelt.
use Rattle.std.proofs.Common.{◌≡◌, ℕ, zero, suc, ◌+◌, ◌-◌, ◌%◌, ◌<◌, ◌≤◌, ◌^◌, ◌==◌, Bool, true, false, min, List, [], ◌∷◌, ◌++◌, length, Some, None, refl, sym, ap, subst, arith, codes}
use Rattle.std.specs.Prelude.{slice_index, if◌then◌else◌}
use Rattle.std.specs.Fmt.{decimal}
use Rattle.std.specs.Int.{w32, to_be_bytes}
use Rattle.hex.specs.Hex.{IsBytes, encode_lower}
use Rattle.lines.specs.Grammar.{line_of}
use Rattle.lines.specs.declared.forms.Line.{Line}
use Rattle.lines.specs.declared.forms.Line.TheVariants.{Invoke, Deliver, SetClock, Tick, Crash, Start, Propose, Sync}
use Rattle.lines.specs.declared.forms.Access.TheVariants.{WriteBlock, ReadBlock, WriteStripe, ReadStripe}
use Rattle.lines.specs.declared.forms.Fault.TheVariants.{Cut}
use Rattle.rand_pcg.specs.Lcg.{Lcg}
use Rattle.rand_pcg.specs.Pcg.{pcg32}
use Rattle.made.specs.Draws.{◌>>=◌, just, number_below}
use Rattle.made.specs.Lines.{write_line, read_line, write_all_line, read_all_line, tick_line, clock_line, crash_line, start_line, power_line, proposal_line, sync_line, change_line, message, delivery_line, cut_line, fault_line, line_of_kind, next_line}
use Rattle.made.specs.Spellings.{spelt}
use Rattle.made.proofs.SpeltLines.{IsWord, NoWords, Words, clear_of, line_back, decimal_word, hex_word, write_back, read_back, write_all_back, read_all_back, tick_back, crash_back, start_back, clock_back, sync_back, propose_back, deliver_back, cut_back}

-- a line reads back
abbrev Reads : Line → Type 0
Reads line = line_of (spelt line) ≡ Some line

-- what is drawn reads back
abbrev DrawsReads : (Lcg → Line × Lcg) → Type 0
DrawsReads draw = (random : Lcg) → Reads (draw random).0

-- one of two draws
either : (b : Bool) (one other : Lcg → Line × Lcg) (random : Lcg) → Reads (one random).0 → Reads (other random).0
    → Reads ((if b then one else other) random).0
either true one other random first second = first
either false one other random first second = second

-- bytes

-- a number in four bytes
be_bytes : (n i : ℕ) → slice_index (to_be_bytes w32 n) i < 256
be_bytes n zero = omega arith
be_bytes n (suc zero) = omega arith
be_bytes n (suc (suc zero)) = omega arith
be_bytes n (suc (suc (suc zero))) = omega arith
be_bytes n (suc (suc (suc (suc i)))) = omega arith

-- two runs of bytes
both_bytes : (xs ys : List ℕ) → IsBytes xs → IsBytes ys → (i : ℕ) → slice_index (xs ++ ys) i < 256
both_bytes [] ys one other i = other i
both_bytes (x ∷ xs) ys one other zero = one 0
both_bytes (x ∷ xs) ys one other (suc i) = both_bytes xs ys (λ k. one (suc k)) other i

-- so many bytes are four
four_long : (n : ℕ) → length (to_be_bytes w32 n) ≡ 4
four_long n = refl

-- words

write_word : IsWord (codes "write")
write_word = record { some = omega arith; short = omega arith; clear = clear_of (codes "write") refl }

read_word : IsWord (codes "read")
read_word = record { some = omega arith; short = omega arith; clear = clear_of (codes "read") refl }

write_all_word : IsWord (codes "writeall")
write_all_word = record { some = omega arith; short = omega arith; clear = clear_of (codes "writeall") refl }

read_all_word : IsWord (codes "readall")
read_all_word = record { some = omega arith; short = omega arith; clear = clear_of (codes "readall") refl }

tick_word : IsWord (codes "tick")
tick_word = record { some = omega arith; short = omega arith; clear = clear_of (codes "tick") refl }

clock_word : IsWord (codes "clock")
clock_word = record { some = omega arith; short = omega arith; clear = clear_of (codes "clock") refl }

crash_word : IsWord (codes "crash")
crash_word = record { some = omega arith; short = omega arith; clear = clear_of (codes "crash") refl }

start_word : IsWord (codes "start")
start_word = record { some = omega arith; short = omega arith; clear = clear_of (codes "start") refl }

view_word : IsWord (codes "view")
view_word = record { some = omega arith; short = omega arith; clear = clear_of (codes "view") refl }

sync_word : IsWord (codes "sync")
sync_word = record { some = omega arith; short = omega arith; clear = clear_of (codes "sync") refl }

deliver_word : IsWord (codes "deliver")
deliver_word = record { some = omega arith; short = omega arith; clear = clear_of (codes "deliver") refl }

the_cut_word : IsWord (codes "cut")
the_cut_word = record { some = omega arith; short = omega arith; clear = clear_of (codes "cut") refl }

pick_word : IsWord (codes "pick")
pick_word = record { some = omega arith; short = omega arith; clear = clear_of (codes "pick") refl }

-- lines

reads_write : (b s j : ℕ) (bytes : List ℕ) → b < 2 ^ 64 → s < 2 ^ 64 → j < 2 ^ 64 → IsBytes bytes → 1 ≤ length bytes → length bytes ≤ 10
    → Reads (Invoke b 0 s (WriteBlock j bytes))
reads_write b s j bytes hb hs hj are some few =
    line_back (codes "write") (decimal b ∷ decimal 0 ∷ decimal s ∷ decimal j ∷ encode_lower bytes ∷ []) (Invoke b 0 s (WriteBlock j bytes)) write_word
    (Words (decimal_word b hb) (Words (decimal_word 0 (omega arith)) (Words (decimal_word s hs) (Words (decimal_word j hj)
    (Words (hex_word bytes are some few) NoWords))))) (omega arith) refl
    (write_back b 0 s j bytes hb (omega arith) hs hj are some)

reads_read : (b s j : ℕ) → b < 2 ^ 64 → s < 2 ^ 64 → j < 2 ^ 64 → Reads (Invoke b 0 s (ReadBlock j))
reads_read b s j hb hs hj =
    line_back (codes "read") (decimal b ∷ decimal 0 ∷ decimal s ∷ decimal j ∷ []) (Invoke b 0 s (ReadBlock j)) read_word
    (Words (decimal_word b hb) (Words (decimal_word 0 (omega arith)) (Words (decimal_word s hs) (Words (decimal_word j hj) NoWords))))
    (omega arith) refl (read_back b 0 s j hb (omega arith) hs hj)

reads_write_all : (b s : ℕ) (bytes : List ℕ) → b < 2 ^ 64 → s < 2 ^ 64 → IsBytes bytes → 1 ≤ length bytes → length bytes ≤ 10
    → Reads (Invoke b 0 s (WriteStripe bytes))
reads_write_all b s bytes hb hs are some few =
    line_back (codes "writeall") (decimal b ∷ decimal 0 ∷ decimal s ∷ encode_lower bytes ∷ []) (Invoke b 0 s (WriteStripe bytes)) write_all_word
    (Words (decimal_word b hb) (Words (decimal_word 0 (omega arith)) (Words (decimal_word s hs) (Words (hex_word bytes are some few) NoWords))))
    (omega arith) refl (write_all_back b 0 s bytes hb (omega arith) hs are some)

reads_read_all : (b s : ℕ) → b < 2 ^ 64 → s < 2 ^ 64 → Reads (Invoke b 0 s ReadStripe)
reads_read_all b s hb hs =
    line_back (codes "readall") (decimal b ∷ decimal 0 ∷ decimal s ∷ []) (Invoke b 0 s ReadStripe) read_all_word
    (Words (decimal_word b hb) (Words (decimal_word 0 (omega arith)) (Words (decimal_word s hs) NoWords)))
    (omega arith) refl (read_all_back b 0 s hb (omega arith) hs)

reads_tick : (b : ℕ) → b < 2 ^ 64 → Reads (Tick b)
reads_tick b hb = line_back (codes "tick") (decimal b ∷ []) (Tick b) tick_word (Words (decimal_word b hb) NoWords) (omega arith) refl (tick_back b hb)

reads_clock : (b v : ℕ) → b < 2 ^ 64 → v < 2 ^ 64 → Reads (SetClock b v)
reads_clock b v hb hv =
    line_back (codes "clock") (decimal b ∷ decimal v ∷ []) (SetClock b v) clock_word (Words (decimal_word b hb) (Words (decimal_word v hv) NoWords))
    (omega arith) refl (clock_back b v hb hv)

reads_crash : (b : ℕ) → b < 2 ^ 64 → Reads (Crash b)
reads_crash b hb = line_back (codes "crash") (decimal b ∷ []) (Crash b) crash_word (Words (decimal_word b hb) NoWords) (omega arith) refl (crash_back b hb)

reads_start : (b : ℕ) → b < 2 ^ 64 → Reads (Start b None)
reads_start b hb = line_back (codes "start") (decimal b ∷ []) (Start b None) start_word (Words (decimal_word b hb) NoWords) (omega arith) refl (start_back b hb)

reads_propose : (b i j k l : ℕ) → b < 2 ^ 64 → i < 2 ^ 64 → j < 2 ^ 64 → k < 2 ^ 64 → l < 2 ^ 64 → Reads (Propose b 0 (i ∷ j ∷ k ∷ l ∷ []))
reads_propose b i j k l hb hi hj hk hl =
    line_back (codes "view") (decimal b ∷ decimal 0 ∷ decimal i ∷ decimal j ∷ decimal k ∷ decimal l ∷ []) (Propose b 0 (i ∷ j ∷ k ∷ l ∷ [])) view_word
    (Words (decimal_word b hb) (Words (decimal_word 0 (omega arith)) (Words (decimal_word i hi) (Words (decimal_word j hj) (Words (decimal_word k hk)
    (Words (decimal_word l hl) NoWords)))))) (omega arith) refl (propose_back b 0 i j k l hb (omega arith) hi hj hk hl)

reads_sync : (b : ℕ) → b < 2 ^ 64 → Reads (Sync b 0)
reads_sync b hb =
    line_back (codes "sync") (decimal b ∷ decimal 0 ∷ []) (Sync b 0) sync_word (Words (decimal_word b hb) (Words (decimal_word 0 (omega arith)) NoWords))
    (omega arith) refl (sync_back b 0 hb (omega arith))

reads_deliver : (k : ℕ) → k < 2 ^ 64 → Reads (Deliver k None)
reads_deliver k hk = line_back (codes "deliver") (decimal k ∷ []) (Deliver k None) deliver_word (Words (decimal_word k hk) NoWords) (omega arith) refl (deliver_back k hk)

reads_cut : (k c p : ℕ) → k < 2 ^ 64 → 1 ≤ c → c < 2 ^ 64 → p < 2 ^ 64 → Reads (Deliver k (Some (Cut c p)))
reads_cut k c p hk some hc hp =
    line_back (codes "deliver") (decimal k ∷ codes "cut" ∷ decimal c ∷ codes "pick" ∷ decimal p ∷ []) (Deliver k (Some (Cut c p))) deliver_word
    (Words (decimal_word k hk) (Words the_cut_word (Words (decimal_word c hc) (Words pick_word (Words (decimal_word p hp) NoWords)))))
    (omega arith) refl (cut_back k c p hk some hc hp)

-- draws

-- the word that a generator gives, and the generator that goes on
abbrev word_of : Lcg → ℕ
word_of random = (pcg32 random).0

abbrev on : Lcg → Lcg
on random = (pcg32 random).1

-- what is drawn below a number of one to four digits
small : (w k : ℕ) → 0 < k → k ≤ 1000 → w % k < 2 ^ 64
small w k some few = omega arith

drawn_write : DrawsReads write_line
unfolding write_line
drawn_write random =
    reads_write (word_of random % 6) (word_of (on random) % 8) (word_of (on (on random)) % 2) (to_be_bytes w32 (word_of (on (on (on random)))))
    (small _ 6 (omega arith) (omega arith)) (small _ 8 (omega arith) (omega arith)) (small _ 2 (omega arith) (omega arith))
    (be_bytes (word_of (on (on (on random))))) (omega (arith, four_long (word_of (on (on (on random)))))) (omega (arith, four_long (word_of (on (on (on random))))))

drawn_read : DrawsReads read_line
unfolding read_line
drawn_read random =
    reads_read (word_of random % 6) (word_of (on random) % 8) (word_of (on (on random)) % 2)
    (small _ 6 (omega arith) (omega arith)) (small _ 8 (omega arith) (omega arith)) (small _ 2 (omega arith) (omega arith))

drawn_write_all : DrawsReads write_all_line
unfolding write_all_line
drawn_write_all random = by (word_of random % 6) (word_of (on random) % 8) (word_of (on (on random))) (word_of (on (on (on random))))
    (small _ 6 (omega arith) (omega arith)) (small _ 8 (omega arith) (omega arith))
  where
    by : (b s n m : ℕ) → b < 2 ^ 64 → s < 2 ^ 64 → Reads (Invoke b 0 s (WriteStripe (to_be_bytes w32 n ++ to_be_bytes w32 m)))
    by b s n m hb hs =
        let long : length (to_be_bytes w32 n ++ to_be_bytes w32 m) ≡ 8 = refl in
        reads_write_all b s (to_be_bytes w32 n ++ to_be_bytes w32 m) hb hs
        (both_bytes (to_be_bytes w32 n) (to_be_bytes w32 m) (be_bytes n) (be_bytes m)) (omega (arith, long)) (omega (arith, long))

drawn_read_all : DrawsReads read_all_line
unfolding read_all_line
drawn_read_all random =
    reads_read_all (word_of random % 6) (word_of (on random) % 8) (small _ 6 (omega arith) (omega arith)) (small _ 8 (omega arith) (omega arith))

drawn_tick : DrawsReads tick_line
unfolding tick_line
drawn_tick random = reads_tick (word_of random % 6) (small _ 6 (omega arith) (omega arith))

drawn_clock : DrawsReads clock_line
unfolding clock_line
drawn_clock random =
    reads_clock (word_of random % 6) (word_of (on random) % 1000) (small _ 6 (omega arith) (omega arith)) (small _ 1000 (omega arith) (omega arith))

drawn_crash : DrawsReads crash_line
unfolding crash_line
drawn_crash random = reads_crash (word_of random % 6) (small _ 6 (omega arith) (omega arith))

drawn_start : DrawsReads start_line
unfolding start_line
drawn_start random = reads_start (word_of random % 6) (small _ 6 (omega arith) (omega arith))

drawn_power : DrawsReads power_line
unfolding power_line
drawn_power random = either (word_of random % 8 == 0) crash_line start_line (on random) (drawn_crash (on random)) (drawn_start (on random))

drawn_proposal : DrawsReads proposal_line
unfolding proposal_line
drawn_proposal random = by (word_of random % 6) (word_of (on random) % 6) (small _ 6 (omega arith) (omega arith)) (small _ 6 (omega arith) (omega arith))
  where
    by : (b r : ℕ) → b < 2 ^ 64 → r < 2 ^ 64 → Reads (Propose b 0 (r ∷ (r + 1) % 6 ∷ (r + 2) % 6 ∷ (r + 3) % 6 ∷ []))
    by b r hb hr = reads_propose b r ((r + 1) % 6) ((r + 2) % 6) ((r + 3) % 6) hb hr (small (r + 1) 6 (omega arith) (omega arith))
        (small (r + 2) 6 (omega arith) (omega arith)) (small (r + 3) 6 (omega arith) (omega arith))

drawn_sync : DrawsReads sync_line
unfolding sync_line
drawn_sync random = reads_sync (word_of random % 6) (small _ 6 (omega arith) (omega arith))

drawn_change : DrawsReads change_line
unfolding change_line
drawn_change random =
    either (word_of random % 64 == 0) proposal_line (if word_of random % 64 == 1 then sync_line else start_line) (on random) (drawn_proposal (on random))
    (either (word_of random % 64 == 1) sync_line start_line (on random) (drawn_sync (on random)) (drawn_start (on random)))

-- a message's number
message_small : (sent : ℕ) (random : Lcg) → sent < 2 ^ 64 → (message sent random).0 < 2 ^ 64
unfolding message
message_small sent random small = by (sent == 0)
  where
    by : (b : Bool) → ((if b then just 1 else (do
      x ← number_below (min sent 32)
      just (sent - x))) random).0 < 2 ^ 64
    by true = omega arith
    by false = omega arith

drawn_delivery : (sent : ℕ) → sent < 2 ^ 64 → DrawsReads (delivery_line sent)
unfolding delivery_line
drawn_delivery sent few random = reads_deliver (message sent random).0 (message_small sent random few)

drawn_cut : (sent : ℕ) → sent < 2 ^ 64 → DrawsReads (cut_line sent)
unfolding cut_line
drawn_cut sent few random = by (message sent random).0 (message sent random).1 (message_small sent random few)
  where
    by : (k : ℕ) (behind : Lcg) → k < 2 ^ 64 → Reads (Deliver k (Some (Cut (1 + word_of behind % 8) (word_of (on behind) % 4))))
    by k behind hk =
        reads_cut k (1 + word_of behind % 8) (word_of (on behind) % 4) hk (omega arith) (omega arith) (small _ 4 (omega arith) (omega arith))

drawn_fault : (sent : ℕ) → sent < 2 ^ 64 → DrawsReads (fault_line sent)
unfolding fault_line
drawn_fault sent few random =
    either (word_of random % 16 == 0) (cut_line sent) (delivery_line sent) (on random) (drawn_cut sent few (on random)) (drawn_delivery sent few (on random))

-- a line of any kind
drawn_kind : (sent c : ℕ) → sent < 2 ^ 64 → DrawsReads (line_of_kind sent c)
drawn_kind sent c few random =
    either (c == 0) write_line _ random (drawn_write random)
    (either (c == 1) read_line _ random (drawn_read random)
    (either (c == 2) write_all_line _ random (drawn_write_all random)
    (either (c == 3) read_all_line _ random (drawn_read_all random)
    (either (c == 4) tick_line _ random (drawn_tick random)
    (either (c == 5) clock_line _ random (drawn_clock random)
    (either (c == 6) power_line _ random (drawn_power random)
    (either (c == 7) change_line _ random (drawn_change random)
    (either (c == 15) (fault_line sent) (delivery_line sent) random (drawn_fault sent few random) (drawn_delivery sent few random)))))))))

-- the next line
pub drawn_next : (sent : ℕ) (random : Lcg) → sent < 2 ^ 64 → Reads (next_line sent random).0
unfolding next_line
drawn_next sent random few = drawn_kind sent (word_of random % 16) few (on random)

-- the same, by what was drawn
pub drawn_reads : (sent : ℕ) (random after : Lcg) (line : Line) → sent < 2 ^ 64 → (line, after) ≡ next_line sent random → line_of (spelt line) ≡ Some line
drawn_reads sent random after line few is =
    let same : line ≡ (next_line sent random).0 = ap (λ (p : Line × Lcg). p.0) is in
    subst (λ (l : Line). Reads l) (sym same) (drawn_next sent random few)
