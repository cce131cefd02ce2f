-- An operation as a client's invocation says it, and back.
use Rattle.std.specs.Prelude.{ℕ, List}
use Rattle.fab_base.specs.declared.asks.Ask.{Ask}
use Rattle.fab_base.specs.declared.asks.Op.{Op}
use Rattle.fab_base.specs.declared.asks.Op.TheVariants as operation
use Rattle.fab_base.specs.Asks.{bytes_by}
use Rattle.messages.specs.declared.clients.ClientAsk.{ClientAsk}
use Rattle.messages.specs.declared.clients.ClientOp.{ClientOp}
use Rattle.messages.specs.declared.clients.ClientOp.TheVariants.{ReadBlock, WriteBlock, ReadStripe, WriteStripe}

-- what an operation does
abbrev pub client_op : Op → ClientOp
client_op (operation.ReadBlock j) = ReadBlock
client_op (operation.WriteBlock j bytes) = WriteBlock
client_op operation.ReadStripe = ReadStripe
client_op (operation.WriteStripe bytes) = WriteStripe

-- the data block that an operation is on; one on a stripe names none, and says 0
abbrev pub block_named : Op → ℕ
block_named (operation.ReadBlock j) = j
block_named (operation.WriteBlock j bytes) = j
block_named operation.ReadStripe = 0
block_named (operation.WriteStripe bytes) = 0

-- the invocation of this number for an operation
abbrev pub client_ask : ℕ → Ask → ClientAsk
client_ask id ask =
    record { id = id; group = ask.group; stripe = ask.stripe; op = client_op ask.op; block = block_named ask.op; bytes = bytes_by ask.op }

-- the operation of a kind, with a data block and bytes
abbrev pub op_of_client : ClientOp → ℕ → List ℕ → Op
op_of_client ReadBlock block bytes = operation.ReadBlock block
op_of_client WriteBlock block bytes = operation.WriteBlock block bytes
op_of_client ReadStripe block bytes = operation.ReadStripe
op_of_client WriteStripe block bytes = operation.WriteStripe bytes

-- the operation that an invocation asks for
abbrev pub ask_of_client : ClientAsk → Ask
ask_of_client asked = record { group = asked.group; stripe = asked.stripe; op = op_of_client asked.op asked.block asked.bytes }
