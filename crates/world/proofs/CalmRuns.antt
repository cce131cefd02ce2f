-- An operation that runs alone: its deliveries so far, and the message that is next.
use Rattle.std.proofs.Common.{◌≡◌, ◌≢◌, ℕ, zero, suc, ◌+◌, ◌<◌, ◌≤◌, Bool, true, false, not, cond, nat_eq, ◌&&◌, ◌⊎◌, inl, inr, List, [], ◌∷◌, ◌++◌, map, Some, None, is_some, refl, sym, ap, ◌∙◌, subst, arith}
use Rattle.std.specs.Prelude.{slice_get}
use Rattle.std.proofs.lemmas.Bool.{eqb-true, eqb-false, eq-eqb, ne_eqb, cases_lt}
use Rattle.std.proofs.lemmas.Option.{same_Some, slice_get_within}
use Rattle.fab_base.specs.declared.identities.BrickId.{BrickId}
use Rattle.fab_disk.specs.declared.mem_disk.MemDisk.{MemDisk}
use Rattle.messages.specs.declared.packets.Message.{Message}
use Rattle.messages.specs.declared.packets.Packet.{Packet}
use Rattle.protocol.specs.Settings.{Setting}
use Rattle.protocol.specs.Worlds.{World, Operation, Event, Delivers, happens, run}
use Rattle.protocol.specs.Calms.{RunsAlone, Ended, Stuck, Next, IsUntouched, open_call, operation_of, goes_among, is_left, first_number, next_delivery}
use Rattle.world.specs.Calms.{BeginsAlone}
use Rattle.world.specs.Calms as begun
use Rattle.world.specs.Disks.{KeepsDisks}
use Rattle.world.specs.Deliveries.{NoneLeft, FindsLeft, IsUntouchedAt, is_of, is_left_at}
use Rattle.world.specs.Runs.{brick_of}
use Rattle.world.specs.Shown.{Tells, TellsOperation}
use Rattle.world.specs.declared.histories.History.{History}
use Rattle.world.specs.declared.histories.OperationRecord.{OperationRecord}
use Rattle.world.proofs.CallNumbers.{NumbersSay, KnowsCalls}

-- one delivery more
pub begins_more : (setting : Setting) (n : ℕ) (bricks : List BrickId) (w v : World) (events : List Event) (number : ℕ)
    → BeginsAlone setting n bricks w events v → is_some (open_call v n) ≡ true → next_delivery v n bricks ≡ Some number
    → BeginsAlone setting n bricks w (events ++ Delivers number ∷ []) (happens setting v (Delivers number))
begins_more setting n bricks _ _ _ number (begun.Here x) goes next =
    begun.Next x (happens setting x (Delivers number)) number [] goes next (begun.Here (happens setting x (Delivers number)))
begins_more setting n bricks _ _ _ number (begun.Next x v first rest goes_on is more) goes next =
    begun.Next x (happens setting v (Delivers number)) first (rest ++ Delivers number ∷ []) goes_on is
    (begins_more setting n bricks (happens setting x (Delivers first)) v rest number more goes next)

-- the world that they leave
pub begins_run : (setting : Setting) (n : ℕ) (bricks : List BrickId) (w v : World) (events : List Event) → BeginsAlone setting n bricks w events v
    → v ≡ run setting events w
begins_run setting n bricks _ _ _ (begun.Here x) = refl
begins_run setting n bricks _ _ _ (begun.Next x v first rest goes_on is more) =
    begins_run setting n bricks (happens setting x (Delivers first)) v rest more

-- it has ended, or none of its messages is left
pub runs_ended : (setting : Setting) (n : ℕ) (bricks : List BrickId) (w v : World) (events : List Event) → BeginsAlone setting n bricks w events v
    → open_call v n ≡ None → RunsAlone setting n bricks w events v
runs_ended setting n bricks _ _ _ (begun.Here x) ended = Ended x ended
runs_ended setting n bricks _ _ _ (begun.Next x v first rest goes_on is more) ended =
    Next x v first rest goes_on is (runs_ended setting n bricks (happens setting x (Delivers first)) v rest more ended)

pub runs_stuck : (setting : Setting) (n : ℕ) (bricks : List BrickId) (w v : World) (events : List Event) → BeginsAlone setting n bricks w events v
    → is_some (open_call v n) ≡ true → next_delivery v n bricks ≡ None → RunsAlone setting n bricks w events v
runs_stuck setting n bricks _ _ _ (begun.Here x) goes none = Stuck x goes none
runs_stuck setting n bricks _ _ _ (begun.Next x v first rest goes_on is more) goes none =
    Next x v first rest goes_on is (runs_stuck setting n bricks (happens setting x (Delivers first)) v rest more goes none)

-- the disks of one event more
pub keeps_more : (setting : Setting) (w : World) (events more : List Event) (old mid new : List MemDisk) → KeepsDisks setting w events old mid
    → KeepsDisks setting (run setting events w) more mid new → KeepsDisks setting w (events ++ more) old new
keeps_more setting w [] more old mid new first second = subst (λ (d : List MemDisk). KeepsDisks setting w more d new) first second
keeps_more setting w (event ∷ events) more old mid new first second =
    (first.0, first.1, keeps_more setting (happens setting w event) events more first.0 mid new first.2 second)

-- the first number that passes a test is that of the first packet that does
first_found : (test : ℕ → Packet → Bool) (start : ℕ) (packets : List Packet) (place : ℕ) (packet : Packet) → slice_get packets place ≡ Some packet
    → test (place + start) packet ≡ true
    → ((k : ℕ) (one : Packet) → k < place → slice_get packets k ≡ Some one → test (k + start) one ≡ false)
    → first_number test start packets ≡ Some (place + start)
first_found test start [] place packet at passes before = absurd (let never : None ≡ Some packet = at in cc)
first_found test start (one ∷ packets) zero packet at passes before =
    let same : one ≡ packet = same_Some one packet at in
    let first : start ≡ 0 + start = omega arith in
    ap (λ (b : Bool). cond b (Some start) (first_number test (suc start) packets))
    (ap (test start) same ∙ ap (λ (k : ℕ). test k packet) first ∙ passes) ∙ ap Some first
first_found test start (one ∷ packets) (suc place) packet at passes before =
    let first : start ≡ 0 + start = omega arith in
    ap (λ (b : Bool). cond b (Some start) (first_number test (suc start) packets))
    (ap (λ (k : ℕ). test k one) first ∙ before 0 one (omega arith) refl)
    ∙ first_found test (suc start) packets place packet at (ap (λ (k : ℕ). test k packet) (moved place) ∙ passes)
    (λ k other less is. ap (λ (i : ℕ). test i other) (moved k) ∙ before (suc k) other (omega arith) is)
    ∙ ap Some (moved place)
  where
    moved : (k : ℕ) → k + suc start ≡ suc k + start
    moved k = omega arith

first_none : (test : ℕ → Packet → Bool) (start : ℕ) (packets : List Packet)
    → ((k : ℕ) (one : Packet) → slice_get packets k ≡ Some one → test (k + start) one ≡ false) → first_number test start packets ≡ None
first_none test start [] none = refl
first_none test start (one ∷ packets) none =
    let first : start ≡ 0 + start = omega arith in
    ap (λ (b : Bool). cond b (Some start) (first_number test (suc start) packets)) (ap (λ (k : ℕ). test k one) first ∙ none 0 one refl)
    ∙ first_none test (suc start) packets
    (λ k other is. ap (λ (i : ℕ). test i other) (let moved : k + suc start ≡ suc k + start = omega arith in moved) ∙ none (suc k) other is)

-- a call's number is that of an operation exactly where it is its call
module _ (w : World) (n : ℕ) (o : Operation) (says : NumbersSay w) (knows : KnowsCalls w) (some : n ≢ 0) (is : w.operations n ≡ Some o) where
  is_its : (i b k : ℕ) → nat_eq (w.numbers i b k) n ≡ nat_eq i o.brick.0 && (nat_eq b o.boot && nat_eq k o.seq)
  is_its i b k = by_number (nat_eq (w.numbers i b k) n) refl
    where
      all_true : (x y z : Bool) → x ≡ true → y ≡ true → z ≡ true → true ≡ x && (y && z)
      all_true x y z first second third = rw (first, second, third) refl

      none_true : (x y z : Bool) → (x ≡ true → y ≡ true → z ≡ true → ⊥) → false ≡ x && (y && z)
      none_true true true true never = absurd (never refl refl refl)
      none_true true true false never = refl
      none_true true false z never = refl
      none_true false y z never = refl

      by_number : (x : Bool) → nat_eq (w.numbers i b k) n ≡ x → x ≡ nat_eq i o.brick.0 && (nat_eq b o.boot && nat_eq k o.seq)
      by_number true same =
          let number : w.numbers i b k ≡ n = eqb-true (w.numbers i b k) n same in
          let found = says i b k (λ none. some (sym number ∙ none)) in
          let one : found.1.0 ≡ o = same_Some found.1.0 o (sym found.1.1 ∙ ap w.operations number ∙ is) in
          all_true _ _ _
          (eq-eqb i o.brick.0 (sym found.1.2.0 ∙ ap (λ (x : Operation). x.brick.0) one))
          (eq-eqb b o.boot (sym found.1.2.1 ∙ ap (λ (x : Operation). x.boot) one))
          (eq-eqb k o.seq (sym found.1.2.2 ∙ ap (λ (x : Operation). x.seq) one))
      by_number false other =
          none_true _ _ _ (λ first second third. eqb-false (w.numbers i b k) n other
          (ap (λ (j : ℕ). w.numbers j b k) (eqb-true i o.brick.0 first) ∙ ap (λ (j : ℕ). w.numbers o.brick.0 j k) (eqb-true b o.boot second)
          ∙ ap (λ (j : ℕ). w.numbers o.brick.0 o.boot j) (eqb-true k o.seq third) ∙ knows.numbered n o is))

  pub of_operation : (packet : Packet) → nat_eq (operation_of w packet) n ≡ is_of o.brick.0 o.boot o.seq packet
  of_operation packet = by_message packet.from packet.to packet.message
    where
      by_message : (from to : BrickId) (message : Message) → nat_eq (operation_of w (record { from = from; to = to; message = message })) n
          ≡ is_of o.brick.0 o.boot o.seq (record { from = from; to = to; message = message })
      by_message from to (Message.Request call request) = is_its from.0 call.boot call.seq
      by_message from to (Message.Reply call reply) = is_its to.0 call.boot call.seq
      by_message from to message = ne_eqb 0 n (λ none. some (sym none))

  -- of what a history tells of it
  module _ (history : History) (kept : OperationRecord) (tells : Tells history w) (same : TellsOperation kept o) where
    abbrev reached : List Bool
    reached = history.delivered.reached.items

    of_kept : (packet : Packet) → nat_eq (operation_of w packet) n ≡ is_of kept.brick.0 kept.boot kept.seq packet
    of_kept packet =
        of_operation packet
        ∙ sym (ap (λ (b : BrickId). is_of b.0 kept.boot kept.seq packet) same.brick
        ∙ ap (λ (b : ℕ). is_of o.brick.0 b kept.seq packet) same.boot ∙ ap (λ (k : ℕ). is_of o.brick.0 o.boot k packet) same.seq)

    -- a message is left
    pub left_as : (numbers : List ℕ) (k : ℕ) (packet : Packet)
        → is_left w n (map brick_of numbers) (k + 1) packet ≡ is_left_at reached kept numbers k packet
    left_as numbers k packet =
        ap (λ (b : Bool). b && (not (w.reached (k + 1)) && goes_among (map brick_of numbers) packet)) (of_kept packet)
        ∙ ap (λ (b : Bool). is_of kept.brick.0 kept.boot kept.seq packet && (not b && goes_among (map brick_of numbers) packet)) (sym (tells.reached k))

    -- the message that was found is the next
    pub next_found : (numbers : List ℕ) (from place : ℕ) → NoneLeft reached kept numbers w.packets 0 from
        → FindsLeft reached kept numbers from w.packets (Some place) → next_delivery w n (map brick_of numbers) ≡ Some (place + 1)
    next_found numbers from place before found =
        first_found (is_left w n (map brick_of numbers)) 1 w.packets place found.2.0 found.2.1 (left_as numbers place found.2.0 ∙ found.2.2)
        (λ k one less at. left_as numbers k one ∙ by_from k one less at (cases_lt k from))
      where
        by_from : (k : ℕ) (one : Packet) → k < place → slice_get w.packets k ≡ Some one → (k < from) ⊎ (from ≤ k)
            → is_left_at reached kept numbers k one ≡ false
        by_from k one less at (inl earlier) = before k one (omega arith) earlier at
        by_from k one less at (inr later) = found.1 k one later less at

    pub next_none : (numbers : List ℕ) (from : ℕ) → NoneLeft reached kept numbers w.packets 0 from
        → FindsLeft reached kept numbers from w.packets None → next_delivery w n (map brick_of numbers) ≡ None
    next_none numbers from before none =
        first_none (is_left w n (map brick_of numbers)) 1 w.packets (λ k one at. left_as numbers k one ∙ by_from k one at (cases_lt k from))
      where
        by_from : (k : ℕ) (one : Packet) → slice_get w.packets k ≡ Some one → (k < from) ⊎ (from ≤ k)
            → is_left_at reached kept numbers k one ≡ false
        by_from k one at (inl earlier) = before k one (omega arith) earlier at
        by_from k one at (inr later) = none k one later (slice_get_within w.packets k one at) at

    -- no message of the operation was delivered where none is noted
    pub untouched_as : (sent : List Packet) → sent ≡ w.packets → IsUntouchedAt reached sent kept true → IsUntouched w n
    untouched_as sent are none zero packet at of = absurd (let never : None ≡ Some packet = at in cc)
    untouched_as sent are none (suc k) packet at of =
        ap w.reached (let one : suc k ≡ k + 1 = omega arith in one) ∙ sym (tells.reached k)
        ∙ none k packet (ap (λ (l : List Packet). slice_get l k) are ∙ at) (sym (of_kept packet) ∙ eq-eqb (operation_of w packet) n of)

    pub touched_as : (sent : List Packet) → sent ≡ w.packets → IsUntouchedAt reached sent kept false → IsUntouched w n → ⊥
    touched_as sent are (k, packet, at, of, marked) untouched =
        let number : suc k ≡ k + 1 = omega arith in
        let none : w.reached (suc k) ≡ false =
        untouched (suc k) packet (ap (λ (l : List Packet). slice_get l k) (sym are) ∙ at) (eqb-true (operation_of w packet) n (of_kept packet ∙ of)) in
        (let never : true ≡ false = sym marked ∙ tells.reached k ∙ ap w.reached (sym number) ∙ none in cc)
