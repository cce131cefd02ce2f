use Rattle.std.proofs.Common.{rules, ◌≡◌, ◌+◌, ℕ, List, sym, ◌∙◌, ap, subst, arith}
use Rattle.fab_disk.specs.Past.{Past, IsImage}
use Rattle.fab_disk.specs.PastLaws.{content_is_image}
use Rattle.fab_disk.specs.Stored.{shown}
use Rattle.fab_disk.specs.MediumLaws.{fits_shown}
use Rattle.fab_disk.specs.Medium.{past, HasRoom, IsWrittenOver}
use Rattle.fab_disk.specs.declared.medium.Medium.{Medium}
use Rattle.fab_disk.proofs.Images.{write_crash, certain_wrote, torn_none}
use Rattle.fab_disk.proofs.Rooms.{room_less, room_same}
use Rattle.fab_disk.proofs.mem_disk.MemDiskDisk.sync.Goals as goal

pub returns-in-Goes-clause-crash : goal.returns-in-Goes-clause-crash
returns-in-Goes-clause-crash c = λ image left.
    let old = c.args.self.now.medium in
    let here : image ≡ (shown c.commit.new.self.content) = subst
    (λ (p : List Past). IsImage p (shown c.commit.new.self.content) image) c.commit.ensures.past left in
    let same : image ≡ (shown old.content) = here ∙ c.commit.ensures.content ∙ ap (λ (m : Medium). (shown m.content)) c.next_fate.ensures.medium
    ∙ c.reserve.ensures.content in
    subst (IsImage (past old) (shown old.content)) (sym same) (content_is_image (past old) (shown old.content) (fits_shown old))

pub returns-in-Goes-clause-room : goal.returns-in-Goes-clause-room
returns-in-Goes-clause-room c = record {
  left = λ calls bytes limit le had. c.commit.ensures.room calls bytes limit
      (subst (λ (m : Medium). HasRoom m (calls + 1) bytes limit) (sym c.next_fate.ensures.medium)
      (c.reserve.ensures.room (calls + 1) bytes limit (room_same c.args.self.now.medium (calls + 1) bytes limit had)));
  enough = λ calls bytes limit le had refused. cc;
}

-- it counts as a write of no bytes, which tears nothing
pub returns-in-Stops-clause-crash : goal.returns-in-Stops-clause-crash
returns-in-Stops-clause-crash c = λ image left.
    let old = c.args.self.now.medium in
    let over = subst (λ (m : Medium). IsWrittenOver 0 0 (past m) (past c.overwrite.new.self) (shown m.content) (shown c.overwrite.new.self.content))
    c.next_fate.ensures.medium c.overwrite.ensures.past in
    let over_past = subst (λ (p : List Past). IsWrittenOver 0 0 p (past c.overwrite.new.self) (shown c.reserve.new.self.content)
    (shown c.overwrite.new.self.content)) c.reserve.ensures.past over in
    let over_old = subst (λ (b : List ℕ). IsWrittenOver 0 0 (past old) (past c.overwrite.new.self) b (shown c.overwrite.new.self.content))
    c.reserve.ensures.content over_past in
    let torn = write_crash 0 0 (past old) (past c.overwrite.new.self) (shown old.content) (shown c.overwrite.new.self.content) over_old image left in
    subst (IsImage (past old) (shown old.content)) (sym (torn_none 0 torn.0 image torn.2 (omega arith))) torn.1

pub returns-in-Stops-clause-room : goal.returns-in-Stops-clause-room
returns-in-Stops-clause-room c = record {
  left = λ calls bytes limit le had. c.overwrite.ensures.room calls bytes limit (omega arith)
      (subst (λ (m : Medium). HasRoom m (calls + 1) (bytes + 0) limit) (sym c.next_fate.ensures.medium)
      (c.reserve.ensures.room (calls + 1) (bytes + 0) limit had));
  enough = λ calls bytes limit le had refused. cc;
}

pub returns-in-Fails-clause-room : goal.returns-in-Fails-clause-room
returns-in-Fails-clause-room c = record {
  left = λ calls bytes limit le had. subst (λ (m : Medium). HasRoom m calls bytes limit) (sym c.next_fate.ensures.medium)
      (room_less c.reserve.new.self calls bytes 0 limit (c.reserve.ensures.room (calls + 1) (bytes + 0) limit had));
  enough = λ calls bytes limit le had refused. cc;
}

pub returns-in_err-reserve : goal.returns-in_err-reserve
returns-in_err-reserve c = search rules

pub returns-in-Stops-clause-certain : goal.returns-in-Stops-clause-certain
returns-in-Stops-clause-certain c =
    let old = c.args.self.now.medium in
    let over = subst (λ (m : Medium). IsWrittenOver 0 0 (past m) (past c.overwrite.new.self) (shown m.content) (shown c.overwrite.new.self.content))
    c.next_fate.ensures.medium c.overwrite.ensures.past in
    let over_past = subst (λ (p : List Past). IsWrittenOver 0 0 p (past c.overwrite.new.self) (shown c.reserve.new.self.content)
    (shown c.overwrite.new.self.content)) c.reserve.ensures.past over in
    let over_old = subst (λ (b : List ℕ). IsWrittenOver 0 0 (past old) (past c.overwrite.new.self) b (shown c.overwrite.new.self.content))
    c.reserve.ensures.content over_past in
    certain_wrote 0 0 (past old) (past c.overwrite.new.self) (shown old.content) (shown c.overwrite.new.self.content) over_old
