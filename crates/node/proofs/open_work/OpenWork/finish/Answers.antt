-- What is still to be done is the machine's.
use Rattle.std.proofs.Common.{◌-◌, [], ◌∷◌, ℕ, None, refl, sym, ◌∙◌, ap, subst}
use Rattle.protocol.specs.Nodes.{with_call}
use Rattle.node.specs.declared.open_work.Turn.{Turn}
use Rattle.node.specs.Moves.{IsTurn}
use Rattle.node.specs.Outcomes.{Outcome}
use Rattle.node.specs.States.{state_with}
use Rattle.node.proofs.Turns.{ends_done, goes_done}
use Rattle.node.proofs.open_work.OpenWork.finish.Goals as goal

pub returns-in-Ends-clause-step : goal.returns-in-Ends-clause-step
returns-in-Ends-clause-step c = λ layout now from call reply before seq is kept.
    let mid = c.args.self.now in
    let answer = c.in-Ends.answer in
    let outs = λ (s : ℕ). (let o : Outcome = record { messages = []; told = []; answers = record { seq = s; answer = answer } ∷ []; reports = [] } in o) in
    ends_done layout from call reply before mid answer (record { calls = c.close.new.self; proposals = mid.proposals }) c.close.result
    (c.close.ensures.outs ∙ ap outs (sym seq)) refl
    (λ parts. c.close.ensures.state parts
    ∙ ap (λ (s : ℕ). with_call (state_with parts mid.calls) mid.calls.stamps.known ((state_with parts mid.calls).busy - 1) s None) (sym seq))
    (subst (λ (turn : Turn). IsTurn layout from call reply before turn mid) c.in-Ends.is is) now kept

pub returns-in-Ends-clause-same : goal.returns-in-Ends-clause-same
returns-in-Ends-clause-same c = λ layout from call reply before is.
    let same = c.close.ensures.same layout in
    record { me = same.me; boot = same.boot; of = λ of. record { calls = same.of of.calls; proposing = of.proposing } }

pub returns-in-Goes-clause-step : goal.returns-in-Goes-clause-step
returns-in-Goes-clause-step c = λ layout now from call reply before seq is kept.
    let mid = c.args.self.now in
    goes_done layout from call reply before mid c.in-Goes.heard (record { calls = mid.calls; proposals = c.go_on.new.self }) c.go_on.result
    c.go_on.ensures.outs refl c.go_on.ensures.rounds c.go_on.ensures.under_way
    (subst (λ (turn : Turn). IsTurn layout from call reply before turn mid) c.in-Goes.is is) now kept
