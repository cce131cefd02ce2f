-- What a stopped disk in memory is made to hold: one of the images that a crash may leave, chosen by a number.
use Rattle.std.specs.Prelude.{ℕ, zero, suc, ◌+◌, ◌%◌, ◌==◌, Bool, ◌||◌, ◌&&◌, nat_le, nat_lt, if◌then◌else◌, List, [], ◌∷◌, length}
use Rattle.rand_core.specs.Pcg32Seed.{pcg32_seed}
use Rattle.rand_pcg.specs.Lcg.{Lcg}
use Rattle.rand_pcg.specs.Pcg.{pcg32, pcg32_of_seed}
use Rattle.fab_disk.specs.Past.{Past, wrote, synced, undone}

-- the content after the last sync
abbrev pub rolled_back : List Past → List ℕ → List ℕ
rolled_back [] content = content
rolled_back (synced ∷ older) content = content
rolled_back (wrote w ∷ older) content = rolled_back older (undone w content)

-- place i was written since the last sync, or lies past the end that the content had then; the content is this long now
abbrev pub is_uncertain : List Past → ℕ → ℕ → Bool
is_uncertain [] size i = nat_le size i
is_uncertain (synced ∷ older) size i = nat_le size i
is_uncertain (wrote w ∷ older) size i = (nat_le w.at i && nat_lt i (w.at + w.len)) || is_uncertain older w.length_before i

-- the bytes from place i on, each uncertain one replaced by the low eight bits of the generator's next word
abbrev pub filled : (ℕ → Bool) → Lcg → ℕ → List ℕ → List ℕ
filled uncertain random i [] = []
filled uncertain random i (byte ∷ bytes) =
    if uncertain i
    then ((pcg32 random).0 % 256) ∷ filled uncertain (pcg32 random).1 (i + 1) bytes
    else byte ∷ filled uncertain random (i + 1) bytes

-- the generator after the next n places from place i on
abbrev pub left_over : (ℕ → Bool) → Lcg → ℕ → ℕ → Lcg
left_over uncertain random i zero = random
left_over uncertain random i (suc n) =
    if uncertain i then left_over uncertain (pcg32 random).1 (i + 1) n else left_over uncertain random (i + 1) n

-- Pcg32 made from a number
abbrev pub seeded : ℕ → Lcg
seeded pick = pcg32_of_seed (pcg32_seed 16 pick)

-- At 0 what stood there at the last sync, at 1 what was written, above 1 bytes drawn by this number.
abbrev pub settled_at : ℕ → List Past → List ℕ → List ℕ
settled_at pick past content =
    if pick == 0 then rolled_back past content
    else if pick == 1 then content
    else filled (is_uncertain past (length content)) (seeded pick) 0 content
