use Rattle.std.proofs.Common.{rules, ◌+◌, sym, subst, arith}
use Rattle.frame_store.specs.Layouts.{store_end}
use Rattle.frame_store.specs.Stores.{Held, HasRoom}
use Rattle.frame_store.proofs.stores.FrameStore.sync.Goals as goal

pub returns-in-Err-NoMemory-clause-room : goal.returns-in-Err-NoMemory-clause-room
returns-in-Err-NoMemory-clause-room g c = λ calls bytes written had refused.
    let x = c.self.inside in
    let before = subst (λ (s : Held g.row.D.Denot). HasRoom g.D.Disk.has_room s (calls + 1) bytes written) (sym c.self.view_is) had in
    let room = g.met.D.Disk.room_for_less x.disk (calls + 1) bytes (store_end x.shape) (calls + 1) (bytes + 0) (store_end x.shape) (omega arith)
    (omega arith) (omega arith) before.disk in
    c.sync.ensures.room.enough calls bytes (store_end x.shape) (omega arith) room (cc)

pub returns-then-self : goal.returns-then-self
returns-then-self g c = search rules

pub returns-in-Ok : goal.returns-in-Ok
returns-in-Ok g c = search rules

pub returns-in-Err-Failed : goal.returns-in-Err-Failed
returns-in-Err-Failed g c = search rules
