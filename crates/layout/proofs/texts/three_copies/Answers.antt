-- The constant is the text.
use Rattle.layout.proofs.Documents.{three_copies-read}
use Rattle.layout.proofs.texts.three_copies.Goals as goal

pub returns : goal.returns
returns c = three_copies-read
