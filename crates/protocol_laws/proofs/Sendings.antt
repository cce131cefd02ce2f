-- The moment at which a message of a run was sent: the one just before the event that sent it.
use Rattle.std.proofs.Common.{◌≡◌, ℕ, zero, suc, ◌≤◌, ◌⊎◌, inl, inr, ⊎_elim, List, [], ◌∷◌, ◌++◌, length, Some, refl, sym, ap, ◌∙◌, subst, arith, append_assoc}
use Rattle.std.specs.Prelude.{slice_get}
use Rattle.std.proofs.lemmas.List.{append-nil}
use Rattle.std.proofs.lemmas.Option.{slice_get_within}
use Rattle.messages.specs.declared.packets.Packet.{Packet}
use Rattle.protocol.specs.Settings.{Setting}
use Rattle.protocol.specs.Worlds.{World, Event, first_world, happens, run}
use Rattle.protocol.proofs.Events.{run-append}
use Rattle.protocol.proofs.Packets.{OfEach, each_none}
use Rattle.protocol_laws.specs.Laws.{Sending}

-- the packets of a next world: those that were, and more, of each of which this holds
pub record Adds (P : Packet → Type 0) (w next : World) : Type 0 where
  pub more : List Packet
  pub packets : next.packets ≡ w.packets ++ more
  pub each : OfEach P more

pub adds_none : (P : Packet → Type 0) (w next : World) → next.packets ≡ w.packets → Adds P w next
adds_none P w next same = record { more = []; packets = same ∙ sym (append-nil w.packets); each = each_none P }

-- an element of a list that grew is an old one, or one of those added, behind the old ones
get_behind : (xs ys : List Packet) (k : ℕ) (x : Packet) → slice_get (xs ++ ys) k ≡ Some x
    → (slice_get xs k ≡ Some x) ⊎ ((length xs ≤ k) × ((j : ℕ) × (slice_get ys j ≡ Some x)))
get_behind [] ys k x is = inr (omega arith, (k, is))
get_behind (y ∷ xs) ys zero x is = inl is
get_behind (y ∷ xs) ys (suc k) x is = ⊎_elim
    (λ (old : slice_get xs k ≡ Some x). inl old)
    (λ (new : (length xs ≤ k) × ((j : ℕ) × (slice_get ys j ≡ Some x))). inr (omega (arith, new.0), new.1))
    (get_behind xs ys k x is)

-- the sending of a packet among these events, with what holds of the moment, of the world after the event, and of the packet
pub record SentAt (setting : Setting) (P : World → World → Packet → Type 0) (events : List Event) (w : World) (k : ℕ) (packet : Packet) : Type 0 where
  pub sending : Sending setting w k
  pub events_are : events ≡ sending.earlier ++ (sending.event ∷ sending.later)
  pub there : slice_get (happens setting sending.moment sending.event).packets k ≡ Some packet
  pub fact : P sending.moment (happens setting sending.moment sending.event) packet

module _ (setting : Setting) (P : World → World → Packet → Type 0)
    (adds : (earlier : List Event) (event : Event)
    → (let w = run setting earlier (first_world setting.layout) in Adds (P w (happens setting w event)) w (happens setting w event))) where
  -- each packet of a run that goes on from a moment was there, or was sent
  sent_on : (earlier events : List Event) (w : World) → w ≡ run setting earlier (first_world setting.layout) → (k : ℕ) (packet : Packet)
      → slice_get (run setting events w).packets k ≡ Some packet
      → (slice_get w.packets k ≡ Some packet) ⊎ SentAt setting P (earlier ++ events) (run setting events w) k packet
  sent_on earlier [] w is k packet at = inl at
  sent_on earlier (event ∷ events) w is k packet at =
      let next : World = happens setting w event in
      let added : Adds (P w next) w next = subst (λ (x : World). Adds (P x (happens setting x event)) x (happens setting x event)) (sym is) (adds earlier event) in
      ⊎_elim
      (λ (was : slice_get next.packets k ≡ Some packet). ⊎_elim
      (λ (old : slice_get w.packets k ≡ Some packet). inl old)
      (λ (new : (length w.packets ≤ k) × ((j : ℕ) × (slice_get added.more j ≡ Some packet))). inr (record {
        sending = record {
          earlier = earlier;
          event = event;
          later = events;
          moment = w;
          moment_is = is;
          world_is = refl;
          unsent = new.0;
          sent = slice_get_within next.packets k packet was;
        };
        events_are = refl;
        there = was;
        fact = added.each new.1.0 packet new.1.1;
      }))
      (get_behind w.packets added.more k packet (ap (λ (l : List Packet). slice_get l k) (sym added.packets) ∙ was)))
      (λ (sent : SentAt setting P ((earlier ++ (event ∷ [])) ++ events) (run setting events next) k packet).
      inr (subst (λ (l : List Event). SentAt setting P l (run setting events next) k packet) (append_assoc earlier (event ∷ []) events) sent))
      (sent_on (earlier ++ (event ∷ [])) events next
      (ap (λ (x : World). happens setting x event) is ∙ sym (run-append setting (first_world setting.layout) earlier (event ∷ []))) k packet at)

  -- each packet of a run was sent
  pub sent_at : (events : List Event) (k : ℕ) (packet : Packet) → slice_get (run setting events (first_world setting.layout)).packets k ≡ Some packet
      → SentAt setting P events (run setting events (first_world setting.layout)) k packet
  sent_at events k packet at = ⊎_elim
      (λ (none : slice_get [] k ≡ Some packet). absurd (let never : ⊥ = cc in never))
      (λ (sent : SentAt setting P events (run setting events (first_world setting.layout)) k packet). sent)
      (sent_on [] events (first_world setting.layout) refl k packet at)
