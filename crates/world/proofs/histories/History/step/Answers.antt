-- What is told and answered is noted, and then what is sent and reported.
use Rattle.std.proofs.Common.{◌++◌, List, ap, subst, ◌∙◌}
use Rattle.std.specs.Prelude.{option_to_list}
use Rattle.coord_phase.specs.Messages.{packets_from}
use Rattle.protocol.specs.declared.tellings.Answered.{Answered}
use Rattle.protocol.specs.declared.tellings.Told.{Told}
use Rattle.protocol.specs.Worlds.{reports_of}
use Rattle.world.specs.Noted.{NotesTold, NotesEnds}
use Rattle.world.specs.declared.histories.History.{History}
use Rattle.world.proofs.HistoryLemmas.{spoken}
use Rattle.world.proofs.HearingLemmas.{notes_then}
use Rattle.world.proofs.histories.History.step.Goals as goal

pub returns : goal.returns
returns c =
    let old = c.args.self.now in
    let brick = c.args.brick in
    let parts = c.into_parts-messages.result in
    let is = c.into_parts-messages.ensures in
    record {
      heard = c.tell-3.new.self;
      told = subst (λ (l : List Told). NotesTold brick l old c.tell-3.new.self) is.told
          (notes_then brick (option_to_list parts.1.version) (option_to_list parts.1.ended ++ option_to_list parts.1.begun) old c.tell.new.self c.tell-3.new.self
          c.tell.ensures.told
          (notes_then brick (option_to_list parts.1.ended) (option_to_list parts.1.begun) c.tell.new.self c.tell-2.new.self c.tell-3.new.self c.tell-2.ensures.told
          c.tell-3.ensures.told));
      ended = c.answer.new.self;
      answers = subst (λ (l : List Answered). NotesEnds brick l c.tell-3.new.self c.answer.new.self) is.answers c.answer.ensures.ended;
      sent = ap (λ (h : History). h.sent.packets.items) c.report.ensures.rest ∙ c.send.ensures.items
          ∙ ap (λ l. c.answer.new.self.sent.packets.items ++ packets_from brick l) is.messages;
      reports = c.report.ensures.items ∙ ap (λ (h : History). h.reports.items ++ reports_of brick (option_to_list parts.3)) c.send.ensures.rest
          ∙ ap (λ l. c.answer.new.self.reports.items ++ reports_of brick l) is.reports;
      rest = spoken c.answer.new.self c.send.new.self c.report.new.self c.send.ensures.rest c.report.ensures.rest;
    }
