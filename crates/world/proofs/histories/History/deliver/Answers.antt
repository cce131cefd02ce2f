-- There is the room that there was.
use Rattle.world.proofs.histories.History.deliver.Goals as goal

pub returns-clause-room : goal.returns-clause-room
returns-clause-room c = record { sent = c.requires.room.sent; marks = c.requires.room.marks; reports = c.requires.room.reports; operations = c.requires.room.operations; marked = c.requires.room.marked }
