-- An operation that counted a message takes it back.
use Rattle.std.proofs.Common.{◌≡◌, ◌-◌, ◌++◌, ◌∷◌, [], ℕ, suc, Bool, true, false, cond, List, length, take, nat_eq, Option, Some, None, is_some, if◌then◌else◌, refl, sym, ◌∙◌, ap, arith, eq-eqb}
use Rattle.std.specs.Option.{option_map}
use Rattle.std.specs.Ordering.{nat_cmp}
use Rattle.std.specs.BTreeMap.{BTreeMap, get, is_at}
use Rattle.std.proofs.lemmas.Bool.Decides.{nat_tests}
use Rattle.std.proofs.lemmas.List.{length-append}
use Rattle.fab_base.specs.declared.identities.BrickId.{BrickId}
use Rattle.messages.specs.declared.packets.Message.{Message}
use Rattle.messages.specs.declared.packets.Message.TheVariants as message
use Rattle.protocol.specs.declared.phases.Counted.{Counted}
use Rattle.protocol.specs.Coordinators.{Coordinator, counts_at}
use Rattle.protocol.specs.Nodes.{put}
use Rattle.coord_phase.specs.Operations.{counts, heard, heard_at, seat_told, without_last}
use Rattle.node.specs.declared.operations.Operation.{Operation}
use Rattle.node.specs.Operations.{shown_of, coordinator_of}
use Rattle.node.proofs.Tables.{is_at_number}

-- a list without the last of one more
without_one : {A : Type 0} (xs : List A) (x : A) → take (length (xs ++ (x ∷ [])) - 1) (xs ++ (x ∷ [])) ≡ xs
without_one [] x = refl
without_one (y ∷ xs) x =
    let longer = length-append xs (x ∷ []) in
    let count : length ((y ∷ xs) ++ (x ∷ [])) - 1 ≡ suc (length (xs ++ (x ∷ [])) - 1) = omega (arith, longer) in
    ap (λ (n : ℕ). take n ((y ∷ xs) ++ (x ∷ []))) count ∙ ap (λ (rest : List _). y ∷ rest) (without_one xs x)

-- a value that is there
there : {A : Type 0} (o : Option A) → is_some o ≡ true → (x : A) × (o ≡ Some x)
there None is = absurd cc
there (Some x) is = (x, refl)

-- an operation that counted a message, and takes the last reply back, is as it was
pub taken_back : (op : Operation) (from : BrickId) (message : Message) → counts (shown_of op) from message ≡ true
    → without_last (heard (shown_of op) from message).state ≡ coordinator_of op
unfolding seat_told
taken_back op from (message.Reply call told) counted =
    let c = coordinator_of op in
    let seat = there (counts_at (shown_of op).block c from.0 call told) counted in
    let reply : Counted = record { seat = seat.0; brick = from; reply = told } in
    ap (λ (at : Option ℕ). without_last (heard_at (shown_of op) from (message.Reply call told) at).state) seat.1
    ∙ ap (λ (xs : List Counted). record c { counted = xs }) (without_one c.counted reply)
taken_back op from (message.Request call request) counted = absurd cc
taken_back op from (message.Learn group view) counted = absurd cc
taken_back op from (message.Synced group view) counted = absurd cc
taken_back op from (message.Client ask) counted = absurd cc
taken_back op from (message.ClientReply id answer) counted = absurd cc

module _ (m mid : BTreeMap ℕ Operation) (seq : ℕ) (was now : Operation) (open_before : get nat_cmp m seq ≡ Some was)
    (others : (q : ℕ) → get nat_cmp mid q ≡ (if is_at (nat_cmp seq) q then Some now else get nat_cmp m q)) where
  -- the operation of the number is the one that counted
  pub there_now : (op : Operation) → get nat_cmp mid seq ≡ Some op → op ≡ now
  there_now op held =
      let test : is_at (nat_cmp seq) seq ≡ true = is_at_number seq seq ∙ eq-eqb seq seq refl in
      let both : Some op ≡ Some now = sym held ∙ others seq ∙ ap (λ (b : Bool). cond b (Some now) (get nat_cmp m seq)) test in
      cc

  -- once it is changed back, all are as they were
  pub twice_put : (last : Coordinator) → last ≡ coordinator_of was → (k : ℕ)
      → put (λ j. option_map coordinator_of (get nat_cmp mid j)) seq (Some last) k ≡ option_map coordinator_of (get nat_cmp m k)
  twice_put last same k = by (nat_eq k seq) refl
    where
      by : (b : Bool) → nat_eq k seq ≡ b
          → cond b (Some last) (option_map coordinator_of (get nat_cmp mid k)) ≡ option_map coordinator_of (get nat_cmp m k)
      by true is =
          let here : k ≡ seq = grind (arith, nat_tests) in
          ap (λ (c : Coordinator). Some c) same ∙ sym (ap (option_map coordinator_of) (ap (get nat_cmp m) here ∙ open_before))
      by false is =
          ap (option_map coordinator_of) (others k ∙ ap (λ (b : Bool). cond b (Some now) (get nat_cmp m k)) (is_at_number seq k ∙ is))
