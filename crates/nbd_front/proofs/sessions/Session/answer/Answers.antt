use Rattle.std.proofs.Common.{sym, subst}
use Rattle.nbd_front.specs.Sessions.{Session, ReadsNoFurther}
use Rattle.nbd_front.proofs.Within.{answers_within}
use Rattle.nbd_front.proofs.sessions.Session.answer.Goals as goal

pub returns-clause-within : goal.returns-clause-within
returns-clause-within c = λ within.
    subst (λ (s : Session). ReadsNoFurther s) (sym c.take_answer.ensures) (answers_within c.args.self.now c.args.answer c.requires within)
