-- When two states of a brick are the same.
use Rattle.std.proofs.Common.{◌≡◌, ℕ, Option, Result, Ok, Err, sym, subst}
use Rattle.std.specs.Result.{OnOk, OnErr}
use Rattle.fab_base.specs.declared.identities.BrickId.{BrickId}
use Rattle.protocol.specs.Coordinators.{Coordinator}
use Rattle.protocol.specs.Nodes.{Node, NodeStep}
use Rattle.node.specs.Outcomes.{Outcome}
use Rattle.node.specs.States.{StepsAs}

-- states with the same parts are the same
pub same_states : (a b : Node) → a.boot ≡ b.boot → a.seq ≡ b.seq → a.known ≡ b.known → a.round ≡ b.round → a.busy ≡ b.busy → a.live ≡ b.live
    → ((g e : ℕ) → a.live_in g e ≡ b.live_in g e) → ((g : ℕ) → a.learnt g ≡ b.learnt g) → ((g : ℕ) → a.ballots g ≡ b.ballots g)
    → ((g e s : ℕ) → a.replicas g e s ≡ b.replicas g e s) → ((k : ℕ) → a.calls k ≡ b.calls k) → a.proposal ≡ b.proposal → a.job ≡ b.job
    → a.scrub ≡ b.scrub → a ≡ b
same_states a b boot seq known round busy live live_in learnt ballots replicas calls proposal job scrub =
    λ i. record {
      boot = boot i;
      seq = seq i;
      known = known i;
      round = round i;
      busy = busy i;
      live = live i;
      live_in = λ g e. live_in g e i;
      learnt = λ g. learnt g i;
      ballots = λ g. ballots g i;
      replicas = λ g e s. replicas g e s i;
      calls = λ k. calls k i;
      proposal = proposal i;
      job = job i;
      scrub = scrub i;
    }

-- states that differ in what is under way alone
pub same_but : (n : Node) (boot seq known busy : ℕ) (calls : ℕ → Option Coordinator) → n.boot ≡ boot → n.seq ≡ seq → n.known ≡ known → n.busy ≡ busy
    → ((k : ℕ) → n.calls k ≡ calls k) → n ≡ record n { boot = boot; seq = seq; known = known; busy = busy; calls = calls }
same_but n boot seq known busy calls is_boot is_seq is_known is_busy is_calls =
    λ i. record n { boot = is_boot i; seq = is_seq i; known = is_known i; busy = is_busy i; calls = λ k. is_calls k i }

-- a step is the machine's, if it is an equal one
pub steps_as : (me : BrickId) (state : Node) (a b : NodeStep) (outs : Outcome) → a ≡ b → StepsAs me state b outs → StepsAs me state a outs
steps_as me state a b outs e h = subst (λ (step : NodeStep). StepsAs me state step outs) (sym e) h

-- what holds in any case holds at an answer, and at an error
pub on_ok : {T E P : Type 0} (r : Result T E) → P → OnOk r P
on_ok (Ok x) p = p
on_ok (Err e) p = tt

pub on_err : {T E P : Type 0} (r : Result T E) → P → OnErr r P
on_err (Ok x) p = tt
on_err (Err e) p = p
