-- What the words ask for is done.
use Rattle.std.proofs.Common.{◌≡◌, refl, sym}
use Rattle.std.specs.Prelude.{map, string_bytes}
use Rattle.replay_words.specs.Requests.{request_of}
use Rattle.replay_words.proofs.Legal.{legal_words}
use Rattle.replay.proofs.RequestLemmas.{answers_memory, decided_memory}
use Rattle.replay.proofs.programs.replay.Goals as goal

pub answer-requires : goal.answer-requires
answer-requires g c = legal_words (map string_bytes c.args.words.now) c.in-Ok.request (sym c.in-Ok.ensures)

pub returns-in-Err-clause-answers : goal.returns-in-Err-clause-answers
returns-in-Err-clause-answers g c =
    answers_memory (request_of (map string_bytes c.args.words.now)) (g.S.Source.told c.args.source.now) (g.K.Sink.told c.args.sink.now)
    (g.S.Source.came c.args.source.now) (c.args.source.now ≡ c.args.source.now) refl

pub returns-in-Err-clause-decided : goal.returns-in-Err-clause-decided
returns-in-Err-clause-decided g c = λ sink.
    decided_memory (request_of (map string_bytes c.args.words.now)) (g.S.Source.sound c.args.source.now) (g.S.Source.told c.args.source.now)
