use Rattle.std.proofs.Common.{rules, ◌+◌, List, ℕ, length, sym, subst}
use Rattle.fab_disk.specs.Past.{Past}
use Rattle.fab_disk.specs.Stored.{shown}
use Rattle.fab_disk.specs.Medium.{past, HasRoom, IsWrittenOver}
use Rattle.fab_disk.specs.declared.medium.Medium.{Medium}
use Rattle.fab_disk.proofs.Images.{write_crash, certain_wrote}
use Rattle.fab_disk.proofs.Rooms.{room_less}
use Rattle.fab_disk.proofs.mem_disk.MemDiskDisk.write_at.Goals as goal

pub returns-in-Goes-clause-crash : goal.returns-in-Goes-clause-crash
returns-in-Goes-clause-crash c = λ image left.
    let old = c.args.self.now.medium in
    let over = subst (λ (m : Medium). IsWrittenOver c.args.at (length c.args.from.now) (past m)
    (past c.overwrite.new.self) (shown m.content) (shown c.overwrite.new.self.content)) c.next_fate.ensures.medium c.overwrite.ensures.past in
    let over_past = subst (λ (p : List Past). IsWrittenOver c.args.at (length c.args.from.now) p
    (past c.overwrite.new.self) (shown c.reserve.new.self.content) (shown c.overwrite.new.self.content)) c.reserve.ensures.past over in
    let over_old = subst (λ (b : List ℕ). IsWrittenOver c.args.at (length c.args.from.now) (past old)
    (past c.overwrite.new.self) b (shown c.overwrite.new.self.content)) c.reserve.ensures.content over_past in
    write_crash c.args.at (length c.args.from.now) (past old)
    (past c.overwrite.new.self) (shown old.content) (shown c.overwrite.new.self.content) over_old image left

pub returns-in-Goes-clause-room : goal.returns-in-Goes-clause-room
returns-in-Goes-clause-room c = record {
  left = λ calls bytes limit le had. c.overwrite.ensures.room calls bytes limit le
      (subst (λ (m : Medium). HasRoom m (calls + 1) (bytes + length c.args.from.now) limit) (sym c.next_fate.ensures.medium)
      (c.reserve.ensures.room (calls + 1) (bytes + length c.args.from.now) limit had));
  enough = λ calls bytes limit le had refused. cc;
}

pub returns-in-Goes-clause-cause : goal.returns-in-Goes-clause-cause
returns-in-Goes-clause-cause c = record {
  later = c.next_fate.ensures.cause.later;
  rose = λ failed. absurd (cc failed);
  stays = c.next_fate.ensures.cause.stays;
  never = λ sound failed. cc failed;
}

pub returns-in-Stops-clause-crash : goal.returns-in-Stops-clause-crash
returns-in-Stops-clause-crash c = λ image left.
    let old = c.args.self.now.medium in
    let over = subst (λ (m : Medium). IsWrittenOver c.args.at (length c.args.from.now) (past m)
    (past c.overwrite-in-Stops.new.self) (shown m.content) (shown c.overwrite-in-Stops.new.self.content)) c.next_fate.ensures.medium c.overwrite-in-Stops.ensures.past in
    let over_past = subst (λ (p : List Past). IsWrittenOver c.args.at (length c.args.from.now) p
    (past c.overwrite-in-Stops.new.self) (shown c.reserve.new.self.content) (shown c.overwrite-in-Stops.new.self.content)) c.reserve.ensures.past over in
    let over_old = subst (λ (b : List ℕ). IsWrittenOver c.args.at (length c.args.from.now) (past old)
    (past c.overwrite-in-Stops.new.self) b (shown c.overwrite-in-Stops.new.self.content)) c.reserve.ensures.content over_past in
    write_crash c.args.at (length c.args.from.now) (past old)
    (past c.overwrite-in-Stops.new.self) (shown old.content) (shown c.overwrite-in-Stops.new.self.content) over_old image left

pub returns-in-Stops-clause-room : goal.returns-in-Stops-clause-room
returns-in-Stops-clause-room c = record {
  left = λ calls bytes limit le had. c.overwrite-in-Stops.ensures.room calls bytes limit le
      (subst (λ (m : Medium). HasRoom m (calls + 1) (bytes + length c.args.from.now) limit) (sym c.next_fate.ensures.medium)
      (c.reserve.ensures.room (calls + 1) (bytes + length c.args.from.now) limit had));
  enough = λ calls bytes limit le had refused. cc;
}

pub returns-in-Fails-clause-room : goal.returns-in-Fails-clause-room
returns-in-Fails-clause-room c = record {
  left = λ calls bytes limit le had. subst (λ (m : Medium). HasRoom m calls bytes limit) (sym c.next_fate.ensures.medium)
      (room_less c.reserve.new.self calls bytes (length c.args.from.now) limit
      (c.reserve.ensures.room (calls + 1) (bytes + length c.args.from.now) limit had));
  enough = λ calls bytes limit le had refused. cc;
}

pub returns-in-Goes-clause-whole : goal.returns-in-Goes-clause-whole
returns-in-Goes-clause-whole c = λ fails. absurd (cc (c.in-Goes.ensures.whole fails))

pub returns-in-Stops-clause-whole : goal.returns-in-Stops-clause-whole
returns-in-Stops-clause-whole c = λ fails. absurd (cc (c.in-Stops.ensures.whole fails))

pub returns-in_err-reserve : goal.returns-in_err-reserve
returns-in_err-reserve c = search rules

pub returns-in-Goes-clause-certain : goal.returns-in-Goes-clause-certain
returns-in-Goes-clause-certain c =
    let old = c.args.self.now.medium in
    let over = subst (λ (m : Medium). IsWrittenOver c.args.at (length c.args.from.now) (past m)
    (past c.overwrite.new.self) (shown m.content) (shown c.overwrite.new.self.content)) c.next_fate.ensures.medium c.overwrite.ensures.past in
    let over_past = subst (λ (p : List Past). IsWrittenOver c.args.at (length c.args.from.now) p
    (past c.overwrite.new.self) (shown c.reserve.new.self.content) (shown c.overwrite.new.self.content)) c.reserve.ensures.past over in
    let over_old = subst (λ (b : List ℕ). IsWrittenOver c.args.at (length c.args.from.now) (past old)
    (past c.overwrite.new.self) b (shown c.overwrite.new.self.content)) c.reserve.ensures.content over_past in
    certain_wrote c.args.at (length c.args.from.now) (past old)
    (past c.overwrite.new.self) (shown old.content) (shown c.overwrite.new.self.content) over_old

pub returns-in-Stops-clause-certain : goal.returns-in-Stops-clause-certain
returns-in-Stops-clause-certain c =
    let old = c.args.self.now.medium in
    let over = subst (λ (m : Medium). IsWrittenOver c.args.at (length c.args.from.now) (past m)
    (past c.overwrite-in-Stops.new.self) (shown m.content) (shown c.overwrite-in-Stops.new.self.content)) c.next_fate.ensures.medium c.overwrite-in-Stops.ensures.past in
    let over_past = subst (λ (p : List Past). IsWrittenOver c.args.at (length c.args.from.now) p
    (past c.overwrite-in-Stops.new.self) (shown c.reserve.new.self.content) (shown c.overwrite-in-Stops.new.self.content)) c.reserve.ensures.past over in
    let over_old = subst (λ (b : List ℕ). IsWrittenOver c.args.at (length c.args.from.now) (past old)
    (past c.overwrite-in-Stops.new.self) b (shown c.overwrite-in-Stops.new.self.content)) c.reserve.ensures.content over_past in
    certain_wrote c.args.at (length c.args.from.now) (past old)
    (past c.overwrite-in-Stops.new.self) (shown old.content) (shown c.overwrite-in-Stops.new.self.content) over_old
