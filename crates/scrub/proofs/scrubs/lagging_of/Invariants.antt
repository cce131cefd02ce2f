-- Those who lag so far, and those of the members that are left, are all.
use Rattle.std.proofs.Common.{◌≡◌, ◌≤◌, ◌++◌, length, filter, take, drop}
use Rattle.protocol.specs.Scrubs.{lags}
use Rattle.scrub.proofs.scrubs.lagging_of.Given as goal

abbrev pub invariant-loop-member : goal.invariant-loop-member
invariant-loop-member l =
    record {
      few : l.count ≤ l.member-index;
      long : length l.lagging ≡ 32;
      so_far : take l.count l.lagging ++ filter (lags l.newest l.counted) (drop l.member-index l.members) ≡ filter (lags l.newest l.counted) l.members;
    }
