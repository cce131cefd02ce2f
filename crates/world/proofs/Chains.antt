-- The chains through the messages of each call, as messages are sent and chained.
use Rattle.std.proofs.Common.{◌≡◌, ℕ, ◌+◌, ◌<◌, ◌≤◌, Bool, true, false, cond, nat_eq, ◌&&◌, List, [], ◌∷◌, ◌++◌, length, length-append, Option, Some, None, unwrap_or, ⊎_elim, refl, sym, ap, ◌∙◌, subst, arith}
use Rattle.std.specs.Prelude.{slice_get}
use Rattle.std.specs.BTreeMap.{BTreeMap, get, is_at, Updates}
use Rattle.std.specs.Ordering.{nat_cmp, ordering_then}
use Rattle.std.proofs.lemmas.Bool.{cases_Bool, cases_lt, eq-eqb}
use Rattle.std.proofs.lemmas.Option.{same_Some, slice_get_within}
use Rattle.messages.specs.declared.packets.Packet.{Packet}
use Rattle.world.specs.Sendings.{CallKey, IsChained, call_cmp, call_of, end_in}
use Rattle.world.proofs.Places.{append_get, grown, is_at_number, then_is_eq}

-- a query for a call is at that call alone
is_at_key : (x y : CallKey) → is_at (call_cmp x) y ≡ (nat_eq y.0 x.0 && nat_eq y.1 x.1) && nat_eq y.2 x.2
is_at_key x y =
    then_is_eq (ordering_then (nat_cmp x.0 y.0) (nat_cmp x.1 y.1)) (nat_cmp x.2 y.2)
    ∙ ap (λ (b : Bool). b && is_at (nat_cmp x.2) y.2) (then_is_eq (nat_cmp x.0 y.0) (nat_cmp x.1 y.1))
    ∙ ap (λ (b : Bool). (b && is_at (nat_cmp x.1) y.1) && is_at (nat_cmp x.2) y.2) (is_at_number x.0 y.0)
    ∙ ap (λ (b : Bool). (nat_eq y.0 x.0 && b) && is_at (nat_cmp x.2) y.2) (is_at_number x.1 y.1)
    ∙ ap (λ (b : Bool). (nat_eq y.0 x.0 && nat_eq y.1 x.1) && b) (is_at_number x.2 y.2)

at_key : (x : CallKey) → is_at (call_cmp x) x ≡ true
at_key x =
    is_at_key x x ∙ all_true _ _ _ (eq-eqb x.0 x.0 refl) (eq-eqb x.1 x.1 refl) (eq-eqb x.2 x.2 refl)
  where
    all_true : (a b c : Bool) → a ≡ true → b ≡ true → c ≡ true → (a && b) && c ≡ true
    all_true a b c first second third = rw (first, second, third) refl

-- messages more change nothing that is chained
pub chained_more : (packets : List Packet) (packet : Packet) (new : List Packet) (links : List ℕ) (ends : BTreeMap CallKey ℕ)
    → new ≡ packets ++ packet ∷ [] → IsChained packets links ends → IsChained new links ends
chained_more packets packet new links ends grows chained = subst (λ (l : List Packet). IsChained l links ends) (sym grows) (record {
  count = omega (arith, chained.count, length-append packets (packet ∷ []));
  within = chained.within;
  behind = λ call k one at of less. chained.behind call k one (before k one (omega (arith, less, chained.count)) at) of less;
  before = chained.before;
  linked = λ k link one call there at of j other at_other of_other less.
      (let within : k < length links = slice_get_within links k link there in
      chained.linked k link one call there (before k one (omega (arith, within, chained.count)) at) of j other
      (before j other (omega (arith, less, within, chained.count)) at_other) of_other less);
})
  where
    before : (k : ℕ) (one : Packet) → k < length packets → slice_get (packets ++ packet ∷ []) k ≡ Some one → slice_get packets k ≡ Some one
    before k one within at = append_get packets (packet ∷ []) k one within at

-- room alone changes nothing, nor does what was refused
pub chained_same : (packets : List Packet) (links more : List ℕ) (old new : BTreeMap CallKey ℕ) → more ≡ links
    → ((call : CallKey) → get call_cmp new call ≡ get call_cmp old call) → IsChained packets links old → IsChained packets more new
chained_same packets links more old new same gets chained = subst (λ (l : List ℕ). IsChained packets l new) (sym same) (record {
  count = chained.count;
  within = λ call. subst (λ (e : ℕ). e ≤ length links) (sym (ends call)) (chained.within call);
  behind = λ call k one at of less. subst (λ (e : ℕ). k < e) (sym (ends call)) (chained.behind call k one at of less);
  before = chained.before;
  linked = chained.linked;
})
  where
    ends : (call : CallKey) → end_in new call ≡ end_in old call
    ends call = ap (λ (found : Option ℕ). unwrap_or found 0) (gets call)

-- one message more is chained
module _ (packets : List Packet) (links : List ℕ) (old new : BTreeMap CallKey ℕ) (packet : Packet) (chained : IsChained packets links old)
    (room : length links < length packets) (at : slice_get packets (length links) ≡ Some packet) where
  -- it is of this call
  module _ (call : CallKey) (of : call_of packet ≡ Some call) (updates : Updates call_cmp old new call (Some (length links + 1))) where
    here : (one : CallKey) → is_at (call_cmp call) one ≡ true → end_in new one ≡ length links + 1
    here one is =
        ap (λ (found : Option ℕ). unwrap_or found 0)
        (updates.0 one ∙ ap (λ (b : Bool). cond b (Some (length links + 1)) (get call_cmp old one)) is)

    there : (one : CallKey) → is_at (call_cmp call) one ≡ false → end_in new one ≡ end_in old one
    there one isnt = ap (λ (found : Option ℕ). unwrap_or found 0) (updates.2 one isnt)

    -- its own call is the one whose end changed
    its : (one : CallKey) → call_of packet ≡ Some one → is_at (call_cmp call) one ≡ true
    its one is = subst (λ (c : CallKey). is_at (call_cmp call) c ≡ true) (same_Some call one (sym of ∙ is)) (at_key call)

    within_new : (one : CallKey) → end_in new one ≤ length links + 1
    within_new one = ⊎_elim
        (λ (is : is_at (call_cmp call) one ≡ true). omega (arith, here one is))
        (λ (isnt : is_at (call_cmp call) one ≡ false). omega (arith, there one isnt, chained.within one)) (cases_Bool (is_at (call_cmp call) one))

    behind_new : (one : CallKey) (k : ℕ) (other : Packet) → slice_get packets k ≡ Some other → call_of other ≡ Some one → k < length links + 1
        → k < end_in new one
    behind_new one k other found is less = ⊎_elim
        (λ (same : is_at (call_cmp call) one ≡ true). omega (arith, here one same, less))
        (λ (apart : is_at (call_cmp call) one ≡ false). ⊎_elim
        (λ (earlier : k < length links). omega (arith, there one apart, chained.behind one k other found is earlier))
        (λ (last : length links ≤ k).
        let place : length links ≡ k = omega (arith, last, less) in
        let this : packet ≡ other = same_Some packet other (sym at ∙ ap (slice_get packets) place ∙ found) in
        let never : true ≡ false = sym (its one (ap call_of this ∙ is)) ∙ apart in absurd cc)
        (cases_lt k (length links))) (cases_Bool (is_at (call_cmp call) one))

    pub chained_call : (link : ℕ) (more : List ℕ) → link ≡ end_in old call → more ≡ links ++ link ∷ [] → IsChained packets more new
    chained_call link more link_is grows = subst (λ (l : List ℕ). IsChained packets l new) (sym grows) (record {
      count = omega (arith, room, length-append links (link ∷ []));
      within = λ one. omega (arith, within_new one, length-append links (link ∷ []));
      behind = λ one k other found is less. behind_new one k other found is (omega (arith, less, length-append links (link ∷ [])));
      before = λ k found there_is. ⊎_elim
          (λ (older : slice_get links k ≡ Some found). chained.before k found older)
          (λ (newer : (k ≡ length links) × (link ≡ found)). omega (arith, newer.0, newer.1, link_is, chained.within call))
          (grown links link k found there_is);
      linked = λ k found one key there_is at_one of_one j other at_other of_other less. ⊎_elim
          (λ (older : slice_get links k ≡ Some found). chained.linked k found one key older at_one of_one j other at_other of_other less)
          (λ (newer : (k ≡ length links) × (link ≡ found)).
          let this : packet ≡ one = same_Some packet one (sym at ∙ ap (slice_get packets) (sym newer.0) ∙ at_one) in
          let key_is : call ≡ key = same_Some call key (sym of ∙ ap call_of this ∙ of_one) in
          let ended : j < end_in old call = chained.behind call j other at_other (of_other ∙ ap (λ (c : CallKey). Some c) (sym key_is))
          (omega (arith, less, newer.0)) in
          omega (arith, ended, link_is, newer.1))
          (grown links link k found there_is);
    })

  -- it is of none
  pub chained_none : call_of packet ≡ None → (link : ℕ) (more : List ℕ) → link ≡ 0 → more ≡ links ++ link ∷ [] → IsChained packets more old
  chained_none none link more link_is grows = subst (λ (l : List ℕ). IsChained packets l old) (sym grows) (record {
    count = omega (arith, room, length-append links (link ∷ []));
    within = λ one. omega (arith, chained.within one, length-append links (link ∷ []));
    behind = λ one k other found is less. ⊎_elim
        (λ (earlier : k < length links). chained.behind one k other found is earlier)
        (λ (last : length links ≤ k).
        let place : length links ≡ k = omega (arith, last, less, length-append links (link ∷ [])) in
        let this : packet ≡ other = same_Some packet other (sym at ∙ ap (slice_get packets) place ∙ found) in
        let never : None ≡ Some one = sym none ∙ ap call_of this ∙ is in absurd cc)
        (cases_lt k (length links));
    before = λ k found there_is. ⊎_elim
        (λ (older : slice_get links k ≡ Some found). chained.before k found older)
        (λ (newer : (k ≡ length links) × (link ≡ found)). omega (arith, newer.1, link_is))
        (grown links link k found there_is);
    linked = λ k found one key there_is at_one of_one j other at_other of_other less. ⊎_elim
        (λ (older : slice_get links k ≡ Some found). chained.linked k found one key older at_one of_one j other at_other of_other less)
        (λ (newer : (k ≡ length links) × (link ≡ found)).
        let this : packet ≡ one = same_Some packet one (sym at ∙ ap (slice_get packets) (sym newer.0) ∙ at_one) in
        let never : None ≡ Some key = sym none ∙ ap call_of this ∙ of_one in absurd cc)
        (grown links link k found there_is);
  })
