-- The call is counted, and what is sent and reported is noted.
use Rattle.std.proofs.Common.{◌++◌, List, ap, ◌∙◌}
use Rattle.std.specs.Prelude.{option_to_list}
use Rattle.coord_phase.specs.Messages.{packets_from}
use Rattle.protocol.specs.declared.tellings.Report.{Report}
use Rattle.protocol.specs.Worlds.{reports_of}
use Rattle.world.specs.CallNumbers.{calls_in}
use Rattle.world.specs.Noted.{calls_aside}
use Rattle.world.specs.declared.histories.History.{History}
use Rattle.world.proofs.HistoryLemmas.{spoken_aside}
use Rattle.world.proofs.histories.History.propose.Goals as goal

pub returns : goal.returns
returns c =
    let old = c.args.self.now in
    let brick = c.args.brick in
    let parts = c.into_parts-messages.result in
    let is = c.into_parts-messages.ensures in
    let sends = c.send.ensures.rest in
    let counts = c.count_call.ensures.rest in
    let reported = c.report.ensures.rest in
    record {
      sent = ap (λ (h : History). h.sent.packets.items) reported ∙ c.send.ensures.items
          ∙ ap (λ (h : History). h.sent.packets.items ++ packets_from brick parts.0.items) counts
          ∙ ap (λ l. old.sent.packets.items ++ packets_from brick l) is.messages;
      reports = c.report.ensures.items ∙ ap (λ (h : History). h.reports.items ++ reports_of brick (option_to_list parts.3)) (sends ∙ ap (λ (h : History). record h { sent = c.send.new.self.sent }) counts)
          ∙ ap (λ l. old.reports.items ++ reports_of brick l) is.reports;
      calls = λ i. ap (λ (h : History). calls_in h.calls i) reported ∙ ap (λ (h : History). calls_in h.calls i) sends ∙ c.count_call.ensures.calls i
          ∙ ap (λ (l : List Report). calls_aside old.calls brick.0 l i) is.reports;
      rest = spoken_aside old c.count_call.new.self c.send.new.self c.report.new.self counts sends reported;
    }
