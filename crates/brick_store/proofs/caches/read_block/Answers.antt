-- Each exit is proved whole, by one search.
use Rattle.std.proofs.Common.{rules}
use Rattle.brick_store.proofs.caches.read_block.Goals as goal

pub returns-then-not-has_slot : goal.returns-then-not-has_slot
returns-then-not-has_slot g c = search rules

pub returns-in_err-bytes : goal.returns-in_err-bytes
returns-in_err-bytes g c = search rules

pub returns-in_err-read_slot : goal.returns-in_err-read_slot
returns-in_err-read_slot g c = search rules
