use Rattle.std.proofs.Common.{rules}
use Rattle.hosting.specs.Rounds.{told}
use Rattle.hosting.proofs.Hearing.{HearsOnce-end, HearsOnce-none}
use Rattle.hosting.proofs.clients.ClientEnd.hear_once.Goals as goal

pub returns-in_ok-on_end-in-Some-clause-hears : goal.returns-in_ok-on_end-in-Some-clause-hears
returns-in_ok-on_end-in-Some-clause-hears g c =
    let heard = rw c.in-Some.is at c.in_ok-end.ensures.heard in
    HearsOnce-end c.ask_next.result c.args.port c.args.self.now.sent c.ask_next.new.self.sent c.args.range.now c.on_end.new.self c.args.wanted
    (told (g.L.Link.waiting c.args.self.now.link) (g.L.Link.sent c.args.self.now.link)) (told (g.L.Link.waiting c.hear.new.link) (g.L.Link.sent c.hear.new.link))
    (told (g.L.Link.waiting c.ask_next.new.self.link) (g.L.Link.sent c.ask_next.new.self.link)) heard.0 c.in-Some.end c.requires.stands heard.1 c.hear.ensures.sent
    heard.2 c.in_ok-on_end-in-Some.ensures.after c.ask_next.ensures.waiting c.ask_next.ensures.asks c.ask_next.ensures.sent

pub returns-in-None-clause-hears : goal.returns-in-None-clause-hears
returns-in-None-clause-hears g c =
    let heard = rw c.in-None.is at c.in_ok-end.ensures.heard in
    HearsOnce-none c.args.port c.args.self.now.sent c.args.range.now c.args.wanted
    (told (g.L.Link.waiting c.args.self.now.link) (g.L.Link.sent c.args.self.now.link)) (told (g.L.Link.waiting c.hear.new.link) (g.L.Link.sent c.hear.new.link))
    heard.0 c.requires.stands heard.1 c.hear.ensures.sent heard.2

pub returns-in_err-end : goal.returns-in_err-end
returns-in_err-end g c = search rules

pub returns-in_err-on_end-in-Some : goal.returns-in_err-on_end-in-Some
returns-in_err-on_end-in-Some g c = search rules

pub returns-in_ok-on_end-in-Some-clause-stands : goal.returns-in_ok-on_end-in-Some-clause-stands
returns-in_ok-on_end-in-Some-clause-stands g c = search rules

pub returns-in_ok-on_end-in-Some-clause-parts : goal.returns-in_ok-on_end-in-Some-clause-parts
returns-in_ok-on_end-in-Some-clause-parts g c = search rules

pub returns-in_ok-on_end-in-Some-clause-few : goal.returns-in_ok-on_end-in-Some-clause-few
returns-in_ok-on_end-in-Some-clause-few g c = search rules

pub returns-in_ok-on_end-in-Some-clause-lost : goal.returns-in_ok-on_end-in-Some-clause-lost
returns-in_ok-on_end-in-Some-clause-lost g c = search rules

pub returns-in_ok-on_end-in-Some-clause-unsent : goal.returns-in_ok-on_end-in-Some-clause-unsent
returns-in_ok-on_end-in-Some-clause-unsent g c = search rules

pub returns-in_ok-on_end-in-Some-clause-only : goal.returns-in_ok-on_end-in-Some-clause-only
returns-in_ok-on_end-in-Some-clause-only g c = search rules

pub returns-in_ok-on_end-in-Some-clause-kept : goal.returns-in_ok-on_end-in-Some-clause-kept
returns-in_ok-on_end-in-Some-clause-kept g c = search rules

pub returns-in-None-clause-stands : goal.returns-in-None-clause-stands
returns-in-None-clause-stands g c = search rules

pub returns-in-None-clause-parts : goal.returns-in-None-clause-parts
returns-in-None-clause-parts g c = search rules

pub returns-in-None-clause-few : goal.returns-in-None-clause-few
returns-in-None-clause-few g c = search rules

pub returns-in-None-clause-lost : goal.returns-in-None-clause-lost
returns-in-None-clause-lost g c = search rules

pub returns-in-None-clause-unsent : goal.returns-in-None-clause-unsent
returns-in-None-clause-unsent g c = search rules

pub returns-in-None-clause-only : goal.returns-in-None-clause-only
returns-in-None-clause-only g c = search rules

pub returns-in-None-clause-kept : goal.returns-in-None-clause-kept
returns-in-None-clause-kept g c = search rules
