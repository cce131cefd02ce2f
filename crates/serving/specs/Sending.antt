-- Messages with their receivers, as a brick's steps give them.
use Rattle.std.specs.Prelude.{ℕ, List, [], ◌∷◌, map, Option, Some, None}
use Rattle.fab_base.specs.declared.answers.Answer.{Answer}
use Rattle.fab_base.specs.declared.identities.BrickId.{BrickId}
use Rattle.messages.specs.declared.packets.Message.{Message}
use Rattle.messages.specs.declared.clients.ClientAnswer.TheVariants.{Ended}
use Rattle.serving.specs.declared.clients.Client.{Client}
use Rattle.serving.specs.declared.ports.Ports.{Ports}
use Rattle.serving.specs.Servings.{answer_to}
use Rattle.serving.specs.Ports.{port_of}

-- each message goes to its receiver's port
abbrev pub addressed : Ports → List (BrickId × Message) → List (ℕ × Message)
addressed ports messages = map (λ sent. (port_of ports sent.0, sent.1)) messages

-- the answer goes to the client
abbrev pub replies : Option (Client × Answer) → List (ℕ × Message)
replies None = []
replies (Some reply) = answer_to reply.0 (Ended reply.1) ∷ []
