-- Lines that are drawn, worked out.
use Rattle.std.proofs.Common.{◌≡◌, codes, refl}
use Rattle.std.specs.Fmt.{digits}
use Rattle.hex.specs.Hex.{encode_with}
use Rattle.rand_core.specs.Steps.{u32_at, word_bytes}
use Rattle.rand_core.specs.Pcg32Seed.{pcg32_seed}
use Rattle.made.specs.Draws.{seeded}
use Rattle.made.specs.Lines.{write_line, read_line, write_all_line, read_all_line, tick_line, clock_line, crash_line, start_line, power_line, proposal_line, sync_line, change_line, message, delivery_line, cut_line, fault_line, next_line}
use Rattle.made.specs.Spellings.{spaced, spelt}

-- all that is opened to work a line out
unfoldable drawing : Type 0
unfolding u32_at word_bytes pcg32_seed digits encode_with spaced write_line read_line write_all_line read_all_line tick_line clock_line crash_line start_line power_line proposal_line sync_line change_line message delivery_line cut_line fault_line next_line
drawing = Unit {0}

starts : spelt (next_line 0 (seeded 1)).0 ≡ codes "start 1"
unfolding drawing
starts = refl

delivers_none : spelt (next_line 0 (seeded 2)).0 ≡ codes "deliver 1"
unfolding drawing
delivers_none = refl

delivers : spelt (next_line 40 (seeded 2)).0 ≡ codes "deliver 35"
unfolding drawing
delivers = refl

stops : spelt (next_line 0 (seeded 5)).0 ≡ codes "crash 1"
unfolding drawing
stops = refl

writes : spelt (next_line 0 (seeded 6)).0 ≡ codes "write 0 0 6 0 52b197be"
unfolding drawing
writes = refl

sets : spelt (next_line 0 (seeded 15)).0 ≡ codes "clock 5 434"
unfolding drawing
sets = refl

writes_all : spelt (next_line 0 (seeded 27)).0 ≡ codes "writeall 4 0 2 8573fee9670c1718"
unfolding drawing
writes_all = refl

reads_all : spelt (next_line 0 (seeded 28)).0 ≡ codes "readall 2 0 3"
unfolding drawing
reads_all = refl

reads : spelt (next_line 0 (seeded 29)).0 ≡ codes "read 1 0 7 1"
unfolding drawing
reads = refl

ticks : spelt (next_line 0 (seeded 63)).0 ≡ codes "tick 2"
unfolding drawing
ticks = refl

cuts : spelt (next_line 40 (seeded 116)).0 ≡ codes "deliver 10 cut 1 pick 0"
unfolding drawing
cuts = refl

syncs : spelt (next_line 0 (seeded 537)).0 ≡ codes "sync 1 0"
unfolding drawing
syncs = refl

proposes : spelt (next_line 0 (seeded 967)).0 ≡ codes "view 2 0 5 0 1 2"
unfolding drawing
proposes = refl
