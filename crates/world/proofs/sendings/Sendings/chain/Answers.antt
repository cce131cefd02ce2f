-- The first message that was not chained is, or memory was refused for it.
use Rattle.std.proofs.Common.{◌≡◌, ◌+◌, ◌<◌, ◌++◌, [], ◌∷◌, ℕ, List, length, get_or, Some, Option, unwrap_or, sym, ap, ◌∙◌, subst, arith}
use Rattle.std.specs.Prelude.{slice_get}
use Rattle.std.specs.BTreeMap.{BTreeMap, is_at, Updates}
use Rattle.std.specs.Map.{lookup}
use Rattle.std.proofs.lemmas.Option.{slice_get-get_or}
use Rattle.messages.specs.declared.packets.Packet.{Packet}
use Rattle.world.specs.Sendings.{CallKey, IsChained, call_cmp}
use Rattle.world.proofs.Chains.{chained_call, chained_none, chained_same}
use Rattle.world.proofs.sendings.Sendings.chain.Goals as goal
use Rattle.world.proofs.sendings.Sendings.chain.Goals.{in-Some+in_ok-insert-in-Some, in-None}

pub invariant_of-self-in-Break-branch-2 : goal.invariant_of-self-in-Break-branch-2
invariant_of-self-in-Break-branch-2 c = record {
  chained = chained_same c.args.self.now.packets.items c.args.self.now.links.items _ c.args.self.now.ends _ c.reserve.ensures.items
      (λ call. ap (λ (entries : List (CallKey × ℕ)). lookup (is_at (call_cmp call)) entries) c.in_err-insert-in-Some.ensures.err) c.args.self.now.chained;
}

pub invariant_of-self-2 : goal.invariant_of-self-2
invariant_of-self-2 c =
    let packets : List Packet = c.args.self.now.packets.items in
    let links : List ℕ = c.args.self.now.links.items in
    let packet : Packet = c.index.result.now in
    let place : c.len-place.result ≡ length links = c.len-place.ensures ∙ c.args.self.now.links.ok.0 in
    let room : length links < length packets = omega (arith, c.requires, c.args.self.now.links.ok.0, c.args.self.now.packets.ok.0) in
    let at : slice_get packets (length links) ≡ Some packet =
    slice_get-get_or packets (length links) packet room
    ∙ ap Some (ap (λ (k : ℕ). get_or packets k packet) (sym place) ∙ sym c.index.ensures) in
    let grows : c.push_reserved.new.self.items ≡ links ++ c.match-call_of.link ∷ [] =
    c.push_reserved.ensures.items ∙ ap (λ (l : List ℕ). l ++ c.match-call_of.link ∷ []) c.reserve.ensures.items in
    elim c.match-call_of.branch [
      | in-Some+in_ok-insert-in-Some w ↦
          subst (λ (ends : BTreeMap CallKey ℕ). record { chained : IsChained packets c.push_reserved.new.self.items ends })
          (sym (ap (λ s. s.1.1.1.0) w.self-is))
          (record {
            chained = chained_call packets links c.args.self.now.ends w.insert.new.self packet c.args.self.now.chained room at w.in-Some.call
                (sym c.call_of.ensures ∙ w.in-Some.is)
                (subst (λ (k : ℕ). Updates call_cmp c.args.self.now.ends w.insert.new.self w.in-Some.call (Some (k + 1))) place w.in_ok-insert-in-Some.ensures.updates)
                c.match-call_of.link c.push_reserved.new.self.items
                (w.link-is ∙ w.unwrap_or-link.ensures ∙ ap (λ (found : Option ℕ). unwrap_or found 0) w.in_ok-insert-in-Some.ensures.old) grows;
          })
      | in-None w ↦
          subst (λ (ends : BTreeMap CallKey ℕ). record { chained : IsChained packets c.push_reserved.new.self.items ends })
          (sym (ap (λ s. s.1.1.1.0) w.self-is))
          (record {
            chained = chained_none packets links c.args.self.now.ends c.args.self.now.ends packet c.args.self.now.chained room at
                (sym c.call_of.ensures ∙ w.in-None.is) c.match-call_of.link c.push_reserved.new.self.items w.link-is grows;
          })
    ]
