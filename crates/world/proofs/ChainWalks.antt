-- A walk along the chain of an operation's messages, from the last one down.
use Rattle.std.proofs.Common.{◌≡◌, ℕ, ◌+◌, ◌<◌, ◌≤◌, Bool, true, false, not, nat_eq, ◌&&◌, List, length, map, get_or, Option, Some, None, ⊎_elim, refl, sym, ap, ◌∙◌, arith}
use Rattle.std.specs.Prelude.{slice_get}
use Rattle.std.proofs.lemmas.Bool.{and_parts, cases_Bool, cases_lt, eqb-true}
use Rattle.fab_base.specs.declared.identities.BrickId.{BrickId}
use Rattle.messages.specs.declared.packets.Message.{Message}
use Rattle.messages.specs.declared.packets.Packet.{Packet}
use Rattle.protocol.specs.Calms.{goes_among}
use Rattle.world.specs.Deliveries.{NoneLeft, FindsLeft, is_of, is_left_at}
use Rattle.world.specs.Runs.{brick_of}
use Rattle.world.specs.Sendings.{CallKey, IsBehind, IsBetween, call_of}
use Rattle.world.specs.declared.histories.OperationRecord.{OperationRecord}

-- the call of an operation's message is the operation's
pub of_call : (brick boot seq : ℕ) (packet : Packet) → is_of brick boot seq packet ≡ true → call_of packet ≡ Some (brick, boot, seq)
of_call brick boot seq packet = by_message packet.from packet.to packet.message
  where
    some : ℕ → ℕ → ℕ → Option CallKey
    some b t s = Some (b, t, s)

    parts : (b t s : ℕ) → nat_eq b brick && (nat_eq t boot && nat_eq s seq) ≡ true → some b t s ≡ some brick boot seq
    parts b t s all =
        let first = and_parts (nat_eq b brick) (nat_eq t boot && nat_eq s seq) all in
        let rest = and_parts (nat_eq t boot) (nat_eq s seq) first.1 in
        ap (λ (x : ℕ). some x t s) (eqb-true b brick first.0) ∙ ap (λ (x : ℕ). some brick x s) (eqb-true t boot rest.0)
        ∙ ap (λ (x : ℕ). some brick boot x) (eqb-true s seq rest.1)

    by_message : (from to : BrickId) (message : Message) → is_of brick boot seq (record { from = from; to = to; message = message }) ≡ true
        → call_of (record { from = from; to = to; message = message }) ≡ Some (brick, boot, seq)
    by_message from to (Message.Request call request) all = parts from.0 call.boot call.seq all
    by_message from to (Message.Reply call reply) all = parts to.0 call.boot call.seq all
    by_message from to message all = absurd (let never : false ≡ true = all in cc)

-- the messages of an operation that is to run alone among some bricks
module _ (reached : List Bool) (kept : OperationRecord) (bricks : List ℕ) (packets : List Packet) where
  abbrev call : CallKey
  call = (kept.brick.0, kept.boot, kept.seq)

  -- a message of another is not left
  not_left : (k : ℕ) (packet : Packet) → (is_of kept.brick.0 kept.boot kept.seq packet ≡ true → ⊥)
      → is_left_at reached kept bricks k packet ≡ false
  not_left k packet other = ⊎_elim
      (λ (is : is_of kept.brick.0 kept.boot kept.seq packet ≡ true). absurd (other is))
      (λ (isnt : is_of kept.brick.0 kept.boot kept.seq packet ≡ false).
      ap (λ (b : Bool). b && (not (get_or reached k false) && goes_among (map brick_of bricks) packet)) isnt)
      (cases_Bool (is_of kept.brick.0 kept.boot kept.seq packet))

  -- behind the last one none is
  pub none_behind : (end : ℕ) → IsBehind packets call end → FindsLeft reached kept bricks end packets None
  none_behind end behind k packet least less at =
      not_left k packet (λ of. (let less : k < end = behind k packet at (of_call _ _ _ packet of) in omega (arith, less, least)))

  -- between two that follow each other none is
  pub none_between : (end place : ℕ) → IsBetween packets call end place → NoneLeft reached kept bricks packets end place
  none_between end place between k packet least less at =
      not_left k packet (λ of. (let lower : k < end = between k packet at (of_call _ _ _ packet of) less in omega (arith, lower, least)))

  -- one more was looked at, and is not left
  pub found_below : (end below place : ℕ) (packet : Packet) → end ≡ place + 1 → below ≤ place → slice_get packets place ≡ Some packet
      → is_left_at reached kept bricks place packet ≡ false → IsBetween packets call below place → (found : Option ℕ)
      → FindsLeft reached kept bricks end packets found → FindsLeft reached kept bricks below packets found
  found_below end below place packet next lower at isnt between found finds = by_found found finds
    where
      none_to : (to : ℕ) → NoneLeft reached kept bricks packets end to → NoneLeft reached kept bricks packets below to
      none_to to none k one least less is = ⊎_elim
          (λ (under : k < place). none_between below place between k one least under is)
          (λ (over : place ≤ k). ⊎_elim
          (λ (here : k < end).
          let same : place ≡ k = omega (arith, here, over, next) in
          let this : Some packet ≡ Some one = sym at ∙ ap (slice_get packets) same ∙ is in
          let one_is : packet ≡ one = cc in
          ap (is_left_at reached kept bricks k) (sym one_is) ∙ ap (λ (i : ℕ). is_left_at reached kept bricks i packet) (sym same) ∙ isnt)
          (λ (later : end ≤ k). none k one later less is) (cases_lt k end)) (cases_lt k place)

      by_found : (found : Option ℕ) → FindsLeft reached kept bricks end packets found → FindsLeft reached kept bricks below packets found
      by_found None none = none_to (length packets) none
      by_found (Some first) finds = (omega (arith, finds.0, lower, next), none_to first finds.1, finds.2)

  -- one more was looked at, and is left
  pub found_here : (below place : ℕ) (packet : Packet) → below ≤ place → slice_get packets place ≡ Some packet
      → is_left_at reached kept bricks place packet ≡ true → IsBetween packets call below place
      → FindsLeft reached kept bricks below packets (Some place)
  found_here below place packet lower at is between = (lower, none_between below place between, (packet, at, is))

  -- what was found from a place on is found from a later one on, where it stands no earlier
  pub found_least : (end from : ℕ) → end ≤ from → (found : Option ℕ) → ((k : ℕ) → found ≡ Some k → from ≤ k)
      → FindsLeft reached kept bricks end packets found → FindsLeft reached kept bricks from packets found
  found_least end from past None least none = λ k packet least_k less at. none k packet (omega (arith, past, least_k)) less at
  found_least end from past (Some place) least finds =
      (least place refl, λ k packet least_k less at. finds.1 k packet (omega (arith, past, least_k)) less at, finds.2)
