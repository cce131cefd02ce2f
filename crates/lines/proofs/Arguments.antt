-- What stands behind a line's first word, where there are so many words of it.
use Rattle.std.proofs.Common.{◌≡◌, ◌≢◌, ◌-◌, ◌<◌, ◌≤◌, ℕ, List, [], ◌∷◌, length, map, take, drop, take_all, get_or, Bor, Some, None, refl, arith}
use Rattle.lines.specs.Grammar.{write_block, read_block, write_all, read_all, fault, deliver, start, clock, one_brick, calm, propose, sync, scrub, two_bricks, spare}

-- the words that stand in a slice
abbrev pub words : List (Bor (List ℕ)) → List (List ℕ)
words found = map (λ token. token.now) found

-- the word at a place
abbrev pub word_at : List (Bor (List ℕ)) → ℕ → List ℕ
word_at found place = (get_or found place (record { ref_ptr = (0, 0); now = [] })).now

-- one word to five words are what stands at their places
pub one_word : (found : List (Bor (List ℕ))) → length found ≡ 1 → words found ≡ word_at found 0 ∷ []
one_word [] count = absurd (omega arith)
one_word (x ∷ []) count = refl
one_word (x ∷ y ∷ more) count = absurd (omega arith)

pub two_words : (found : List (Bor (List ℕ))) → length found ≡ 2 → words found ≡ word_at found 0 ∷ word_at found 1 ∷ []
two_words [] count = absurd (omega arith)
two_words (x ∷ []) count = absurd (omega arith)
two_words (x ∷ y ∷ []) count = refl
two_words (x ∷ y ∷ z ∷ more) count = absurd (omega arith)

pub three_words : (found : List (Bor (List ℕ))) → length found ≡ 3
    → words found ≡ word_at found 0 ∷ word_at found 1 ∷ word_at found 2 ∷ []
three_words [] count = absurd (omega arith)
three_words (x ∷ []) count = absurd (omega arith)
three_words (x ∷ y ∷ []) count = absurd (omega arith)
three_words (x ∷ y ∷ z ∷ []) count = refl
three_words (x ∷ y ∷ z ∷ w ∷ more) count = absurd (omega arith)

pub four_words : (found : List (Bor (List ℕ))) → length found ≡ 4
    → words found ≡ word_at found 0 ∷ word_at found 1 ∷ word_at found 2 ∷ word_at found 3 ∷ []
four_words [] count = absurd (omega arith)
four_words (x ∷ []) count = absurd (omega arith)
four_words (x ∷ y ∷ []) count = absurd (omega arith)
four_words (x ∷ y ∷ z ∷ []) count = absurd (omega arith)
four_words (x ∷ y ∷ z ∷ w ∷ []) count = refl
four_words (x ∷ y ∷ z ∷ w ∷ v ∷ more) count = absurd (omega arith)

pub five_words : (found : List (Bor (List ℕ))) → length found ≡ 5
    → words found ≡ word_at found 0 ∷ word_at found 1 ∷ word_at found 2 ∷ word_at found 3 ∷ word_at found 4 ∷ []
five_words [] count = absurd (omega arith)
five_words (x ∷ []) count = absurd (omega arith)
five_words (x ∷ y ∷ []) count = absurd (omega arith)
five_words (x ∷ y ∷ z ∷ []) count = absurd (omega arith)
five_words (x ∷ y ∷ z ∷ w ∷ []) count = absurd (omega arith)
five_words (x ∷ y ∷ z ∷ w ∷ v ∷ []) count = refl
five_words (x ∷ y ∷ z ∷ w ∷ v ∷ u ∷ more) count = absurd (omega arith)

-- with another count of words a form is none
pub deliver_none : (found : List (Bor (List ℕ))) → length found < 1 → None ≡ deliver (words found)
unfolding deliver
deliver_none [] none = refl
deliver_none (k ∷ behind) none = absurd (omega arith)

pub start_none : (found : List (Bor (List ℕ))) → length found < 1 → None ≡ start (words found)
unfolding start
start_none [] none = refl
start_none (b ∷ behind) none = absurd (omega arith)

pub calm_none : (found : List (Bor (List ℕ))) → length found < 1 → None ≡ calm (words found)
unfolding calm
calm_none [] none = refl
calm_none (n ∷ behind) none = absurd (omega arith)

pub propose_none : (found : List (Bor (List ℕ))) → length found < 2 → None ≡ propose (words found)
unfolding propose
propose_none [] none = refl
propose_none (b ∷ []) none = refl
propose_none (b ∷ g ∷ behind) none = absurd (omega arith)

pub scrub_none : (found : List (Bor (List ℕ))) → length found < 3 → None ≡ scrub (words found)
unfolding scrub
scrub_none [] none = refl
scrub_none (b ∷ []) none = refl
scrub_none (b ∷ g ∷ []) none = refl
scrub_none (b ∷ g ∷ s ∷ behind) none = absurd (omega arith)

-- the first word, and those behind it
pub first_and_rest : (found : List (Bor (List ℕ))) → 1 ≤ length found
    → words found ≡ word_at found 0 ∷ words (take (length found - 1) (drop 1 found))
first_and_rest [] some = absurd (omega arith)
first_and_rest (word ∷ rest) some =
    let behind : take (length (word ∷ rest) - 1) rest ≡ rest = take_all _ _ (omega arith) in
    rw behind refl

-- the first two words, and those behind them
pub two_and_rest : (found : List (Bor (List ℕ))) → 2 ≤ length found
    → words found ≡ word_at found 0 ∷ word_at found 1 ∷ words (take (length found - 2) (drop 2 found))
two_and_rest [] some = absurd (omega arith)
two_and_rest (word ∷ []) some = absurd (omega arith)
two_and_rest (word ∷ second ∷ rest) some =
    let behind : take (length (word ∷ second ∷ rest) - 2) rest ≡ rest = take_all _ _ (omega arith) in
    rw behind refl

-- the first three words, and those behind them
pub three_and_rest : (found : List (Bor (List ℕ))) → 3 ≤ length found
    → words found ≡ word_at found 0 ∷ word_at found 1 ∷ word_at found 2 ∷ words (take (length found - 3) (drop 3 found))
three_and_rest [] some = absurd (omega arith)
three_and_rest (word ∷ []) some = absurd (omega arith)
three_and_rest (word ∷ second ∷ []) some = absurd (omega arith)
three_and_rest (word ∷ second ∷ third ∷ rest) some =
    let behind : take (length (word ∷ second ∷ third ∷ rest) - 3) rest ≡ rest = take_all _ _ (omega arith) in
    rw behind refl

-- no word befalls nothing, and any count but 0, 2 and 4 is none
pub fault_nothing : (found : List (Bor (List ℕ))) → length found ≡ 0 → Some None ≡ fault (words found)
unfolding fault
fault_nothing [] none = refl
fault_nothing (word ∷ more) none = absurd (omega arith)

pub fault_count : (found : List (Bor (List ℕ))) → length found ≢ 0 → length found ≢ 2 → length found ≢ 4 → None ≡ fault (words found)
unfolding fault
fault_count [] none two four = absurd (none refl)
fault_count (a ∷ []) none two four = refl
fault_count (a ∷ b ∷ []) none two four = absurd (two refl)
fault_count (a ∷ b ∷ c ∷ []) none two four = refl
fault_count (a ∷ b ∷ c ∷ d ∷ []) none two four = absurd (four refl)
fault_count (a ∷ b ∷ c ∷ d ∷ e ∷ more) none two four = refl

pub one_brick_count : (found : List (Bor (List ℕ))) → length found ≢ 1 → None ≡ one_brick (words found)
unfolding one_brick
one_brick_count [] other = refl
one_brick_count (b ∷ []) other = absurd (other refl)
one_brick_count (b ∷ a ∷ more) other = refl

pub clock_count : (found : List (Bor (List ℕ))) → length found ≢ 2 → None ≡ clock (words found)
unfolding clock
clock_count [] other = refl
clock_count (b ∷ []) other = refl
clock_count (b ∷ v ∷ []) other = absurd (other refl)
clock_count (b ∷ v ∷ a ∷ more) other = refl

pub sync_count : (found : List (Bor (List ℕ))) → length found ≢ 2 → None ≡ sync (words found)
unfolding sync
sync_count [] other = refl
sync_count (b ∷ []) other = refl
sync_count (b ∷ g ∷ []) other = absurd (other refl)
sync_count (b ∷ g ∷ s ∷ more) other = refl

pub two_bricks_count : (found : List (Bor (List ℕ))) → length found ≢ 2 → None ≡ two_bricks (words found)
unfolding two_bricks
two_bricks_count [] other = refl
two_bricks_count (b ∷ []) other = refl
two_bricks_count (b ∷ c ∷ []) other = absurd (other refl)
two_bricks_count (b ∷ c ∷ a ∷ more) other = refl

pub spare_count : (found : List (Bor (List ℕ))) → length found ≢ 2 → None ≡ spare (words found)
unfolding spare
spare_count [] other = refl
spare_count (b ∷ []) other = refl
spare_count (b ∷ g ∷ []) other = absurd (other refl)
spare_count (b ∷ g ∷ s ∷ more) other = refl

pub read_all_count : (found : List (Bor (List ℕ))) → length found ≢ 3 → None ≡ read_all (words found)
unfolding read_all
read_all_count [] other = refl
read_all_count (b ∷ []) other = refl
read_all_count (b ∷ g ∷ []) other = refl
read_all_count (b ∷ g ∷ s ∷ []) other = absurd (other refl)
read_all_count (b ∷ g ∷ s ∷ a ∷ more) other = refl

pub write_all_count : (found : List (Bor (List ℕ))) → length found ≢ 4 → None ≡ write_all (words found)
unfolding write_all
write_all_count [] other = refl
write_all_count (b ∷ []) other = refl
write_all_count (b ∷ g ∷ []) other = refl
write_all_count (b ∷ g ∷ s ∷ []) other = refl
write_all_count (b ∷ g ∷ s ∷ t ∷ []) other = absurd (other refl)
write_all_count (b ∷ g ∷ s ∷ t ∷ a ∷ more) other = refl

pub read_block_count : (found : List (Bor (List ℕ))) → length found ≢ 4 → None ≡ read_block (words found)
unfolding read_block
read_block_count [] other = refl
read_block_count (b ∷ []) other = refl
read_block_count (b ∷ g ∷ []) other = refl
read_block_count (b ∷ g ∷ s ∷ []) other = refl
read_block_count (b ∷ g ∷ s ∷ j ∷ []) other = absurd (other refl)
read_block_count (b ∷ g ∷ s ∷ j ∷ a ∷ more) other = refl

pub write_block_count : (found : List (Bor (List ℕ))) → length found ≢ 5 → None ≡ write_block (words found)
unfolding write_block
write_block_count [] other = refl
write_block_count (b ∷ []) other = refl
write_block_count (b ∷ g ∷ []) other = refl
write_block_count (b ∷ g ∷ s ∷ []) other = refl
write_block_count (b ∷ g ∷ s ∷ j ∷ []) other = refl
write_block_count (b ∷ g ∷ s ∷ j ∷ t ∷ []) other = absurd (other refl)
write_block_count (b ∷ g ∷ s ∷ j ∷ t ∷ a ∷ more) other = refl
