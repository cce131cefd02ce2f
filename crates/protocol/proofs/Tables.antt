-- Tables with one value changed, lists that grow at their end, and packets to members.
use Rattle.std.proofs.Common.{◌≡◌, ◌≢◌, ℕ, zero, suc, ◌+◌, ◌⊎◌, inl, inr, Bool, true, false, cond, List, [], ◌∷◌, ◌++◌, Some, refl, sym, ap, ◌∙◌, subst, arith}
use Rattle.std.specs.Prelude.{slice_get, nat_eq}
use Rattle.std.proofs.lemmas.Bool.{cond_both, eqb-true, eqb-false, eq-eqb}
use Rattle.std.proofs.Math.Path.{fun_ext}
use Rattle.fab_base.specs.declared.identities.BrickId.{BrickId}
use Rattle.messages.specs.declared.calls.Call.{Call}
use Rattle.messages.specs.declared.packets.Message.TheVariants as Message
use Rattle.messages.specs.declared.packets.Packet.{Packet}
use Rattle.messages.specs.declared.requests.Request.{Request}
use Rattle.protocol.specs.Nodes.{put, to_members}

-- what holds of the new value, and of each other value of the old table
pub put_each : {A : Type 0} (P : ℕ → A → Type 0) (f : ℕ → A) (k : ℕ) (v : A) → P k v → ((i : ℕ) → i ≢ k → P i (f i)) → (i : ℕ) → P i (put f k v i)
put_each P f k v new old i =
    cond_both (nat_eq i k) v (f i) (P i) (λ is. subst (λ (j : ℕ). P j v) (sym (eqb-true i k is)) new) (λ isnt. old i (eqb-false i k isnt))

-- the new value
pub put_same : {A : Type 0} (f : ℕ → A) (k : ℕ) (v : A) → put f k v k ≡ v
put_same f k v = ap (λ b. cond b v (f k)) (eq-eqb k k refl)

-- the last of two changes of one value is what it has
pub put_twice : {A : Type 0} (f : ℕ → A) (k : ℕ) (u v : A) → put (put f k u) k v ≡ put f k v
put_twice f k u v = fun_ext (λ i. by (nat_eq i k) (f i))
  where
    by : (b : Bool) (x : _) → cond b v (cond b u x) ≡ cond b v x
    by true x = refl
    by false x = refl

-- an element of a list that grew is an old one, or one of those added
pub get_grown : {A : Type 0} (xs ys : List A) (k : ℕ) (x : A) → slice_get (xs ++ ys) k ≡ Some x
    → (slice_get xs k ≡ Some x) ⊎ ((j : ℕ) × (slice_get ys j ≡ Some x))
get_grown [] ys k x is = inr (k, is)
get_grown (y ∷ xs) ys zero x is = inl is
get_grown (y ∷ xs) ys (suc k) x is = get_grown xs ys k x is

-- an old element stays
pub get_kept : {A : Type 0} (xs ys : List A) (k : ℕ) (x : A) → slice_get xs k ≡ Some x → slice_get (xs ++ ys) k ≡ Some x
get_kept [] ys k x is = cc
get_kept (y ∷ xs) ys zero x is = is
get_kept (y ∷ xs) ys (suc k) x is = get_kept xs ys k x is

-- an added element is there
pub get_added : {A : Type 0} (xs ys : List A) (k : ℕ) (x : A) → slice_get ys k ≡ Some x → (j : ℕ) × (slice_get (xs ++ ys) j ≡ Some x)
get_added [] ys k x is = (k, is)
get_added (y ∷ xs) ys k x is = let rest = get_added xs ys k x is in (suc rest.0, rest.1)

-- the element of a list of one
pub get_one : {A : Type 0} (x y : A) (k : ℕ) → slice_get (x ∷ []) k ≡ Some y → x ≡ y
get_one x y zero is = cc
get_one x y (suc k) is = cc

-- a packet to the members goes to one of them, with the request of its seat
pub sent_to_member : (me : BrickId) (call : Call) (request : ℕ → Request) (seat : ℕ) (members : List BrickId) (k : ℕ) (packet : Packet)
    → slice_get (to_members me call request seat members) k ≡ Some packet
    → (member : BrickId) × (slice_get members k ≡ Some member)
    × (packet ≡ record { from = me; to = member; message = Message.Request call (request (seat + k)) })
sent_to_member me call request seat [] k packet is = cc
sent_to_member me call request seat (member ∷ members) zero packet is =
    let at : seat + 0 ≡ seat = omega arith in (member, refl, cc)
sent_to_member me call request seat (member ∷ members) (suc k) packet is =
    let rest = sent_to_member me call request (seat + 1) members k packet is in
    let at : seat + 1 + k ≡ seat + suc k = omega arith in
    (rest.0, rest.1, rest.2 ∙ ap (λ (j : ℕ). record { from = me; to = rest.0; message = Message.Request call (request j) }) at)
