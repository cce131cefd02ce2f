-- The end of a call that is chained is behind all of its messages.
use Rattle.std.proofs.Common.{◌≡◌, ℕ, ◌<◌, ◌≤◌, List, length, Option, unwrap_or, sym, ap, subst, arith}
use Rattle.std.proofs.lemmas.Option.{slice_get_within}
use Rattle.std.specs.BTreeMap.{BTreeMap}
use Rattle.messages.specs.declared.packets.Packet.{Packet}
use Rattle.world.specs.Sendings.{CallKey, IsBehind, IsChained, end_in}
use Rattle.world.proofs.sendings.Sendings.end_of.Goals as goal

-- where all messages are chained
behind_all : (packets : List Packet) (links : List ℕ) (ends : BTreeMap CallKey ℕ) (call : CallKey) (end : ℕ) → IsChained packets links ends
    → length packets ≤ length links → end ≡ end_in ends call → IsBehind packets call end
behind_all packets links ends call end chained all is k packet at of =
    subst (λ (n : ℕ). k < n) (sym is) (chained.behind call k packet at of (omega (arith, all, slice_get_within packets k packet at)))

pub returns-in-Some-clause-within : goal.returns-in-Some-clause-within
returns-in-Some-clause-within c =
    let end : c.in-Some.end.now ≡ end_in c.args.self.now.ends c.args.call = ap (λ (found : Option ℕ). unwrap_or found 0) c.in-Some.ensures.value in
    let chained = c.args.self.now.chained in
    omega (arith, end, chained.within c.args.call, chained.count, c.args.self.now.packets.ok.0)

pub returns-in-Some-clause-behind : goal.returns-in-Some-clause-behind
returns-in-Some-clause-behind c =
    behind_all c.args.self.now.packets.items c.args.self.now.links.items c.args.self.now.ends c.args.call c.in-Some.end.now c.args.self.now.chained
    (omega (arith, c.if-len.false, c.len.ensures, c.len-2.ensures, c.args.self.now.links.ok.0, c.args.self.now.packets.ok.0))
    (ap (λ (found : Option ℕ). unwrap_or found 0) c.in-Some.ensures.value)

pub returns-in-None-clause-behind : goal.returns-in-None-clause-behind
returns-in-None-clause-behind c =
    behind_all c.args.self.now.packets.items c.args.self.now.links.items c.args.self.now.ends c.args.call 0 c.args.self.now.chained
    (omega (arith, c.if-len.false, c.len.ensures, c.len-2.ensures, c.args.self.now.links.ok.0, c.args.self.now.packets.ok.0))
    (ap (λ (found : Option ℕ). unwrap_or found 0) c.in-None.ensures.value)
