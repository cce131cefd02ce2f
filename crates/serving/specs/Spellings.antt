-- Which messages have a spelling.
use Rattle.std.specs.Prelude.{ℕ, Bool, true, false, not, nat_le, ◌==◌, ◌&&◌, List, length, Option, Some, None}
use Rattle.fab_base.specs.declared.answers.Answer.TheVariants.{Data}
use Rattle.fab_base.specs.declared.answers.Refusal.TheVariants.{Down, NoQuorum}
use Rattle.messages.specs.declared.clients.ClientAnswer.{ClientAnswer}
use Rattle.messages.specs.declared.clients.ClientAnswer.TheVariants.{Ended, Refused}
use Rattle.messages.specs.declared.packets.Message.{Message}
use Rattle.messages.specs.declared.packets.Message.TheVariants as message
use Rattle.messages.specs.declared.replies.Choice.{Choice}
use Rattle.messages.specs.declared.replies.Lineage.{Lineage}
use Rattle.messages.specs.declared.replies.Reply.{Reply}
use Rattle.messages.specs.declared.replies.Reply.TheVariants.{Found, OrderedRead, Old, Moved, Promise}
use Rattle.messages.specs.declared.requests.Request.{Request}
use Rattle.messages.specs.declared.requests.Request.TheVariants.{Read, OrderRead, Write, Modify, Accept}
use Rattle.messages.specs.declared.requests.Version.{Version}
use Rattle.messages.specs.declared.requests.Want.{Want}
use Rattle.messages.specs.declared.requests.Want.TheVariants.{Seat, All}

-- at most so many bytes
abbrev pub is_within : ℕ → List ℕ → Bool
is_within most bytes = nat_le (length bytes) most

-- at least one
abbrev pub has_some : {A : Type 0} → List A → Bool
has_some members = not (length members == 0)

abbrev pub is_seat : Want → Bool
is_seat (Seat seat) = nat_le seat 31
is_seat All = true

abbrev pub has_short_block : Option Version → Bool
has_short_block None = true
has_short_block (Some version) = is_within 4096 version.block

abbrev pub has_whole_lineage : Option Lineage → Bool
has_whole_lineage None = true
has_whole_lineage (Some lineage) = has_some lineage.members && has_some lineage.prior

abbrev pub has_whole_choice : Option Choice → Bool
has_whole_choice None = true
has_whole_choice (Some choice) = has_some choice.members

abbrev pub request_fits : Request → Bool
request_fits (Read want) = is_seat want
request_fits (OrderRead stamp look want) = is_seat want
request_fits (Write stamp block) = is_within 4096 block
request_fits (Modify stamp base j delta) = nat_le j 15 && is_within 4096 delta
request_fits (Accept ballot members) = has_some members
request_fits request = true

abbrev pub reply_fits : Reply → Bool
reply_fits (Found order newest) = has_short_block newest
reply_fits (OrderedRead found) = has_short_block found
reply_fits (Old found) = has_short_block found
reply_fits (Moved view lineage) = has_whole_lineage lineage
reply_fits (Promise accepted) = has_whole_choice accepted
reply_fits reply = true

abbrev pub answer_fits : ClientAnswer → Bool
answer_fits (Ended (Data bytes)) = is_within 32768 bytes
answer_fits (Refused Down) = false
answer_fits (Refused NoQuorum) = false
answer_fits answer = true

-- A message has a spelling: a list of members has at least one, a block has at most 4,096 bytes, a client's bytes are at most
-- 32,768, a seat is below 32, a data block below 16, a brick that is down says nothing, and no client names bricks.
unfoldable pub has_spelling : Message → Bool
has_spelling (message.Request call request) = request_fits request
has_spelling (message.Reply call reply) = reply_fits reply
has_spelling (message.Learn group view) = has_some view.members && has_some view.prior
has_spelling (message.Synced group view) = true
has_spelling (message.Client ask) = is_within 32768 ask.bytes
has_spelling (message.ClientReply id answer) = answer_fits answer
